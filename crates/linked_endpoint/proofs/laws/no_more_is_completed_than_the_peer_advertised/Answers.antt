use Rattle.std.proofs.Common.{◌≡◌, true, subst, ap, ◌∙◌}
use Rattle.port_core.specs.Init.{is_up}
use Rattle.port_core.specs.Port.{PortView}
use Rattle.linked_endpoint.specs.Runs.{run_in}
use Rattle.linked_endpoint.proofs.Joined.{joined, are-calls}
use Rattle.linked_endpoint.proofs.Few.{are_few}
use Rattle.linked_endpoint.proofs.laws.no_more_is_completed_than_the_peer_advertised.Goals as goal

pub returns-clause-headers : goal.returns-clause-headers
returns-clause-headers c = λ setup ours calls class are up.
    c.no_more_is_sent_than_the_peer_advertised.ensures.headers ours (run_in setup ours calls).port_calls class (are-calls setup ours calls are) (are_few setup ours calls)
    (subst (λ (p : PortView). is_up p.state ≡ true) (joined setup ours calls).port_is up)

pub returns-clause-units : goal.returns-clause-units
returns-clause-units c = λ setup ours calls class are up.
    c.no_more_is_sent_than_the_peer_advertised.ensures.units ours (run_in setup ours calls).port_calls class (are-calls setup ours calls are) (are_few setup ours calls)
    (subst (λ (p : PortView). is_up p.state ≡ true) (joined setup ours calls).port_is up)

pub returns-clause-up : goal.returns-clause-up
returns-clause-up c = λ setup ours calls are.
    ap (λ (p : PortView). is_up p.state) (joined setup ours calls).port_is
    ∙ c.initialization_comes_first.ensures.up ours (run_in setup ours calls).port_calls (are-calls setup ours calls are) (are_few setup ours calls)
