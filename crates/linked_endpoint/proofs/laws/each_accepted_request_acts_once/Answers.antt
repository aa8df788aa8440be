use Rattle.std.proofs.Common.{◌≡◌, ℕ, List, ◌++◌, map, sym, subst, ap, ◌∙◌}
use Rattle.link_replay.specs.ReceiverRuns.{AreConsecutive}
use Rattle.port_core.specs.declared.port.Outgoing.TheVariants as sends
use Rattle.port_core.specs.Port.{PortView, outgoing_of, outgoing_bytes}
use Rattle.port_core.specs.Runs.{IsEntered}
use Rattle.endpoint_core.specs.EndpointView.{EndpointView}
use Rattle.endpoint_core.specs.Runs as devices
use Rattle.linked_endpoint.specs.Runs.{run_in, story}
use Rattle.linked_endpoint.proofs.Joined.{joined, are-calls, numbers-of, empty-start}
use Rattle.linked_endpoint.proofs.laws.each_accepted_request_acts_once.Goals as goal

pub returns-clause-numbers : goal.returns-clause-numbers
returns-clause-numbers c = λ setup ours calls are.
    let r = run_in setup ours calls in
    let i = joined setup ours calls in
    subst (λ (xs : List ℕ). AreConsecutive 0 xs)
    (ap (λ (xs : List (ℕ × List ℕ)). map (λ (packet : ℕ × List ℕ). packet.0) xs) (sym i.accepted_are) ∙ numbers-of r.accepted)
    (c.whatever_arrives.ensures.numbers ours r.port_calls (are-calls setup ours calls are))

pub returns-clause-taken : goal.returns-clause-taken
returns-clause-taken c = λ setup ours calls are. (joined setup ours calls).taken_are

pub returns-clause-device : goal.returns-clause-device
returns-clause-device c = λ setup ours calls are. (joined setup ours calls).device_is

pub returns-clause-requests : goal.returns-clause-requests
returns-clause-requests c = λ setup ours calls are.
    let r = run_in setup ours calls in
    subst (λ (e : EndpointView). devices.all_coming r.device_calls ≡ devices.all_leaving r.start r.device_calls ++ devices.blocks_waiting e) (sym (joined setup ours calls).device_is)
    (c.each_request_leaves_once.ensures r.start r.device_calls (empty-start setup ours calls))

pub returns-clause-bytes : goal.returns-clause-bytes
returns-clause-bytes c = λ setup ours calls are.
    let r = run_in setup ours calls in
    ap (λ (e : EndpointView). e.device.bytes) (joined setup ours calls).device_is ∙ c.whatever_comes.ensures.bytes r.start r.device_calls

pub returns-clause-entered : goal.returns-clause-entered
returns-clause-entered c = λ setup ours calls are. (joined setup ours calls).entered_are

pub returns-clause-sent : goal.returns-clause-sent
returns-clause-sent c = λ setup ours calls number are e.
    let r = run_in setup ours calls in
    let i = joined setup ours calls in
    subst (λ (p : PortView). IsEntered (story ours r).entered number (outgoing_bytes p)) (sym i.port_is)
    (c.what_is_sent_was_entered.ensures.sent ours r.port_calls number (are-calls setup ours calls are)
    (subst (λ (p : PortView). outgoing_of p ≡ sends.Packet number) i.port_is e))

pub returns-clause-held : goal.returns-clause-held
returns-clause-held c = λ setup ours calls are. (joined setup ours calls).needs_are

pub returns-clause-waiting : goal.returns-clause-waiting
returns-clause-waiting c = λ setup ours calls are. (joined setup ours calls).counted
