-- Events over parts, as the answer of the fabric that has them.
use Rattle.std.proofs.Common.{ℕ, suc, ◌≡◌, Bool, true, false, if◌then◌else◌, refl, subst, arith, Some, Result, Ok, Err, IfErr}
use Rattle.std.specs.Prelude.{slice_get, slice_set, ◌&&◌, ◌==◌, not}
use Rattle.std.proofs.lemmas.Bool.Decides.{nat_tests}
use Rattle.tlp_core.specs.TlpView.{TlpView}
use Rattle.tlp_core.specs.Ops.{Op}
use Rattle.seq_memory.specs.History.{MemoryView}
use Rattle.requester_core.specs.RequesterView.{RequesterView}
use Rattle.lane_core.specs.Steps.{LaneEndsView, ReceiverEndView, SenderEndView}
use Rattle.tlp_core.specs.Operation.{is_completion}
use Rattle.flow_control.specs.Queue.{Item, is_takeable}
use Rattle.switch_core.specs.Routing.{route, port_of, is_requester}
use Rattle.switch_core.specs.declared.route_fault.RouteFault.TheVariants.{NoPort}
use Rattle.fabric_steps.specs.Fabric.{Fabric}
use Rattle.fabric_steps.specs.declared.event.LaneName.TheVariants as lanes
use Rattle.fabric_steps.specs.declared.event.SeenOf.TheVariants as seen
use Rattle.fabric_steps.specs.declared.fault.Refusal.{Refusal}
use Rattle.fabric_steps.specs.declared.fault.Refusal.TheVariants as refusals
use Rattle.fabric_steps.specs.declared.event.EventOf.TheVariants as events
use Rattle.fabric_core.specs.Answers.{Refuses, Refused, lane_grows, serving_grows, event_grows, act_on, serve_on, map_ok, and_then, map_err, item_at, submit_on, destination_on, forward_on, forward_at}
use Rattle.fabric_core.specs.Steps.{HasPart}

-- the refusals of what is given by another name
pub refuses_given : {A B : Type 0} (grows : B → Refusal → Type 0) (f : A → B) (a : Result A Refusal) (r : Refusal) → Refuses (λ x. grows (f x)) a r → Refuses grows (map_ok a f) r
refuses_given grows f (Ok x) r h = h
refuses_given grows f (Err x) r h = h

-- ---- Submit

pub submit_refuses : (f : Fabric) (port place : ℕ) (op : Op) (q : RequesterView) (e : LaneEndsView) (r : Result ℕ Refusal) → HasPart f.requesters port place q → HasPart f.up port place e
    → IfErr r (Refuses lane_grows (submit_on q e.sender op)) → IfErr r (Refused f (events.Submit port op))
submit_refuses f port place op q e (Ok n) i j h = tt
submit_refuses f port place op q e (Err x) i j h = rw (i.is_port, i.there, j.there) (refuses_given (event_grows f) _ (submit_on q e.sender op) x h)

-- ---- Forward from an `up` lane

-- a packet that came in from a requester goes to the memory
pub goes_inward : (r : ReceiverEndView) (place from to : ℕ) → destination_on r place (suc from) ≡ Ok to → to ≡ 0
goes_inward r place from to h = by_item (item_at r place) h
  where
    some_port : (suc from == 0) ≡ false
    some_port = grind (arith, nat_tests)

    by_kind : (t : TlpView) (c z : Bool) → z ≡ false → map_err refusals.Route (if c then (if z && is_requester (port_of t) then Ok (port_of t) else Err NoPort) else (if not z then Ok 0 else Err NoPort)) ≡ Ok to → to ≡ 0
    by_kind t c true e k = absurd cc
    by_kind t true false e k = absurd cc
    by_kind t false false e k = cc

    by_item : (a : Result Item Refusal) → and_then a (λ x. map_err refusals.Route (route x.0 (suc from))) ≡ Ok to → to ≡ 0
    by_item (Err x) e = absurd cc
    by_item (Ok x) e = by_kind x.0 (is_completion x.0.kind) (suc from == 0) some_port e

up_goes : (f : Fabric) (place at : ℕ) (e : LaneEndsView) (r' : ReceiverEndView) (s' : SenderEndView) → slice_get f.up at ≡ Some e → destination_on e.receiver place (suc at) ≡ Ok 0 → forward_on e.receiver place f.inward.sender ≡ Ok (r', s')
    → forward_at f (lanes.Up (suc at)) place ≡ Ok (seen.To 0, record f { up = slice_set f.up at (record e { receiver = r' }); inward = record f.inward { sender = s' } })
up_goes f place at e r' s' has d h = rw (has, d, h) refl

pub forward_up_answers : (f : Fabric) (port place to at : ℕ) (e : LaneEndsView) (r' : ReceiverEndView) (s' : SenderEndView) → HasPart f.up port at e → destination_on e.receiver place port ≡ Ok to → forward_on e.receiver place f.inward.sender ≡ Ok (r', s')
    → forward_at f (lanes.Up port) place ≡ Ok (seen.To to, record f { up = slice_set f.up at (record e { receiver = r' }); inward = record f.inward { sender = s' } })
forward_up_answers f port place to at e r' s' i d h =
    let d' : destination_on e.receiver place (suc at) ≡ Ok to = subst (λ (n : ℕ). destination_on e.receiver place n ≡ Ok to) i.is_port d in
    let zero_is : to ≡ 0 = goes_inward e.receiver place at to d' in
    let d'' : destination_on e.receiver place (suc at) ≡ Ok 0 = subst (λ (n : ℕ). destination_on e.receiver place (suc at) ≡ Ok n) zero_is d' in
    rw (i.is_port, zero_is) (up_goes f place at e r' s' i.there d'' h)

up_held : (f : Fabric) (place at : ℕ) (e : LaneEndsView) (r : Refusal) → slice_get f.up at ≡ Some e → destination_on e.receiver place (suc at) ≡ Ok 0 → Refuses lane_grows (forward_on e.receiver place f.inward.sender) r
    → Refused f (events.Forward (lanes.Up (suc at)) place) r
up_held f place at e r has d h = rw (has, d) (refuses_given (event_grows f) _ (forward_on e.receiver place f.inward.sender) r h)

pub forward_up_refuses : (f : Fabric) (port place to at : ℕ) (e : LaneEndsView) (r : Refusal) → HasPart f.up port at e → destination_on e.receiver place port ≡ Ok to → Refuses lane_grows (forward_on e.receiver place f.inward.sender) r
    → Refused f (events.Forward (lanes.Up port) place) r
forward_up_refuses f port place to at e r i d h =
    let d' : destination_on e.receiver place (suc at) ≡ Ok to = subst (λ (n : ℕ). destination_on e.receiver place n ≡ Ok to) i.is_port d in
    let d'' : destination_on e.receiver place (suc at) ≡ Ok 0 = subst (λ (n : ℕ). destination_on e.receiver place (suc at) ≡ Ok n) (goes_inward e.receiver place at to d') d' in
    rw i.is_port (up_held f place at e r i.there d'' h)

-- ---- Forward from `out`

out_goes : (f : Fabric) (place at : ℕ) (e : LaneEndsView) (r' : ReceiverEndView) (s' : SenderEndView) → slice_get f.down at ≡ Some e → destination_on f.outward.receiver place 0 ≡ Ok (suc at) → forward_on f.outward.receiver place e.sender ≡ Ok (r', s')
    → forward_at f lanes.Outward place ≡ Ok (seen.To (suc at), record f { outward = record f.outward { receiver = r' }; down = slice_set f.down at (record e { sender = s' }) })
out_goes f place at e r' s' has d h = rw (d, has, h) refl

pub forward_out_answers : (f : Fabric) (place to at : ℕ) (e : LaneEndsView) (r' : ReceiverEndView) (s' : SenderEndView) → HasPart f.down to at e → destination_on f.outward.receiver place 0 ≡ Ok to → forward_on f.outward.receiver place e.sender ≡ Ok (r', s')
    → forward_at f lanes.Outward place ≡ Ok (seen.To to, record f { outward = record f.outward { receiver = r' }; down = slice_set f.down at (record e { sender = s' }) })
forward_out_answers f place to at e r' s' i d h =
    let d' : destination_on f.outward.receiver place 0 ≡ Ok (suc at) = subst (λ (n : ℕ). destination_on f.outward.receiver place 0 ≡ Ok n) i.is_port d in
    rw i.is_port (out_goes f place at e r' s' i.there d' h)

out_held : (f : Fabric) (place at : ℕ) (e : LaneEndsView) (r : Refusal) → slice_get f.down at ≡ Some e → destination_on f.outward.receiver place 0 ≡ Ok (suc at) → Refuses lane_grows (forward_on f.outward.receiver place e.sender) r
    → Refused f (events.Forward lanes.Outward place) r
out_held f place at e r has d h = rw (d, has) (refuses_given (event_grows f) _ (forward_on f.outward.receiver place e.sender) r h)

pub forward_out_refuses : (f : Fabric) (place to at : ℕ) (e : LaneEndsView) (r : Refusal) → HasPart f.down to at e → destination_on f.outward.receiver place 0 ≡ Ok to → Refuses lane_grows (forward_on f.outward.receiver place e.sender) r
    → Refused f (events.Forward lanes.Outward place) r
forward_out_refuses f place to at e r i d h =
    out_held f place at e r i.there (subst (λ (n : ℕ). destination_on f.outward.receiver place 0 ≡ Ok n) i.is_port d) h

-- ---- Serve

pub act_refuses : (r : ReceiverEndView) (place : ℕ) (m : MemoryView) (s : SenderEndView) (t : TlpView) (mark : ℕ) (x : Refusal) → is_takeable r.queue place ≡ true → slice_get r.queue place ≡ Some (t, mark)
    → Refuses (λ (y : ℕ × MemoryView × SenderEndView). serving_grows s y.2) (act_on m t mark s) x → Refuses (λ (y : ℕ × ReceiverEndView × MemoryView × SenderEndView). serving_grows s y.3) (serve_on r place m s) x
act_refuses r place m s t mark x may there h = rw (may, there) (refuses_given (λ (y : ℕ × ReceiverEndView × MemoryView × SenderEndView). serving_grows s y.3) _ (act_on m t mark s) x h)

pub serve_refuses : (f : Fabric) (place : ℕ) (r : Result ℕ Refusal) → IfErr r (Refuses (λ (y : ℕ × ReceiverEndView × MemoryView × SenderEndView). serving_grows f.outward.sender y.3) (serve_on f.inward.receiver place f.memory f.outward.sender))
    → IfErr r (Refused f (events.Serve place))
serve_refuses f place (Ok n) h = tt
serve_refuses f place (Err x) h = refuses_given (event_grows f) _ (serve_on f.inward.receiver place f.memory f.outward.sender) x h
