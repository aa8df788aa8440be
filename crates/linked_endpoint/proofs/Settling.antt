-- Turns come to an end, and nothing that may act or enter is left then.
use Rattle.std.proofs.Common.{◌≡◌, ℕ, suc, ◌+◌, ◌-◌, ◌<◌, ◌≤◌, Bool, true, false, cond, List, [], ◌∷◌, Option, Some, None, drop, inl, inr, refl, sym, subst, ap, ◌∙◌, arith}
use Rattle.std.specs.Prelude.{◌==◌, ◌⊎◌, ◌&&◌, nat_le, is_none, is_some, sum_by}
use Rattle.std.proofs.lemmas.Bool.Decides.{nat_tests}
use Rattle.std.proofs.lemmas.List.Sums.{sum_by-cons}
use Rattle.tlp_core.specs.Ops.{Op}
use Rattle.tlp_core.specs.declared.operation.OpOf.TheVariants as ops
use Rattle.tlp_core.specs.declared.packet.Kind.{Kind}
use Rattle.tlp_core.specs.declared.packet.Kind.TheVariants as kinds
use Rattle.tlp_core.specs.declared.packet.Body.{Body}
use Rattle.tlp_core.specs.declared.packet.Body.TheVariants as bodies
use Rattle.tlp_core.specs.TlpView.{TlpView}
use Rattle.tlp_core.specs.Operation.{op_at}
use Rattle.op_pieces.specs.Pieces.{dw_to}
use Rattle.flow_control.specs.declared.needs.Need.{Need}
use Rattle.lane_core.specs.Steps.{SenderEndView}
use Rattle.port_core.specs.declared.init.LinkState.{LinkState}
use Rattle.port_core.specs.declared.init.LinkState.TheVariants as states
use Rattle.port_core.specs.declared.fault.EnterRefusal.{EnterRefusal}
use Rattle.port_core.specs.declared.fault.EnterRefusal.TheVariants as refusals
use Rattle.port_core.specs.Outgoing.{Refuses}
use Rattle.port_core.specs.Port.{PortView, refusal_in}
use Rattle.endpoint_core.specs.declared.waiting.Waiting.{Waiting}
use Rattle.endpoint_core.specs.declared.waiting.Waiting.TheVariants as waits
use Rattle.endpoint_core.specs.EndpointView.{DeviceView, EndpointView}
use Rattle.endpoint_core.specs.Steps as device
use Rattle.linked_endpoint.specs.LinkedView.{LinkedView}
use Rattle.linked_endpoint.specs.Linked.{may_go, may_act, is_last, given_back, acted, turns_of, turns_left, refusal_for, refusal_of, may_enter, entered_with, entered}
use Rattle.linked_endpoint.specs.Runs.{entered_unless}

-- ---- a request acts: fewer turns are left

-- nothing, or a part of so many DW
abbrev IsPart : ℕ → ℕ → Type 0
IsPart n dw = (n ≡ 0) ⊎ (n < dw)

cut : (b : Bool) (dw end : ℕ) → nat_le dw end ≡ b → IsPart (cond b 0 end) dw
cut true dw end e = inl refl
cut false dw end e = inr (grind (arith, nat_tests))

read-done : (base : Option ℕ) (a dw f l : ℕ) → IsPart (device.done_at (ops.Read a dw f l) base) dw
read-done None a dw f l = inl refl
read-done (Some base) a dw f l = cut (nat_le dw (dw_to 128 a)) dw (dw_to 128 a) refl

other-done : (op : Op) (base : Option ℕ) (dw : ℕ) → device.dw_in_front op ≡ 0 → IsPart (device.done_at op base) dw
other-done op None dw e = inl refl
other-done op (Some base) dw e = inl e

-- it is no read
abbrev IsOther : Option Op → Type 0
IsOther None = Unit {0}
IsOther (Some op) = device.dw_in_front op ≡ 0

done-for : (d : DeviceView) (o : Option Op) (dw : ℕ) → IsOther o → IsPart (device.memory_done d o) dw
done-for d None dw e = inl refl
done-for d (Some op) dw e = other-done op (device.base_of_op d op) dw e

done-at : (d : DeviceView) (k : Kind) (b : Body) (dw : ℕ) (bytes : List ℕ) → IsPart (device.memory_done d (op_at k b dw bytes)) dw
done-at d kinds.MemoryRead (bodies.Request a f l) dw bytes = read-done (device.base_of_op d (ops.Read a dw f l)) a dw f l
done-at d kinds.MemoryWrite (bodies.Request a f l) dw bytes = done-for d (op_at kinds.MemoryWrite (bodies.Request a f l) dw bytes) dw refl
done-at d kinds.FetchAdd (bodies.Request a f l) dw bytes = done-for d (op_at kinds.FetchAdd (bodies.Request a f l) dw bytes) dw refl
done-at d kinds.Swap (bodies.Request a f l) dw bytes = done-for d (op_at kinds.Swap (bodies.Request a f l) dw bytes) dw refl
done-at d kinds.Cas (bodies.Request a f l) dw bytes = done-for d (op_at kinds.Cas (bodies.Request a f l) dw bytes) dw refl
done-at d kinds.Completion b dw bytes = inl refl
done-at d kinds.CompletionData b dw bytes = inl refl
done-at d kinds.MemoryRead (bodies.Completion c s n lower) dw bytes = inl refl
done-at d kinds.MemoryWrite (bodies.Completion c s n lower) dw bytes = inl refl
done-at d kinds.FetchAdd (bodies.Completion c s n lower) dw bytes = inl refl
done-at d kinds.Swap (bodies.Completion c s n lower) dw bytes = inl refl
done-at d kinds.Cas (bodies.Completion c s n lower) dw bytes = inl refl

abbrev all : List Waiting → ℕ
all ws = sum_by turns_of ws

-- all of the oldest is done
whole : (w : Waiting) (ws : List Waiting) → 1 ≤ turns_of w → all ws < all (w ∷ ws)
whole w ws some =
    let e : all (w ∷ ws) ≡ turns_of w + all ws = sum_by-cons turns_of w ws in
    omega (arith, e, some)

some-turn : (n : ℕ) → 1 ≤ suc n
some-turn n = omega arith

one-turn : 1 ≤ 1
one-turn = omega arith

-- a part of it is done
part : (n : ℕ) (t : TlpView) (ws : List Waiting) → (n == 0) ≡ false → IsPart n t.length → all (waits.Memory (device.behind n t) ∷ ws) < all (waits.Memory t ∷ ws)
part n t ws some (inl none) = absurd (grind (arith, nat_tests))
part n t ws some (inr less) =
    let more : 0 < n = grind (arith, nat_tests) in
    let e : all (waits.Memory t ∷ ws) ≡ suc t.length + all ws = sum_by-cons turns_of (waits.Memory t) ws in
    let f : all (waits.Memory (device.behind n t) ∷ ws) ≡ suc (t.length - n) + all ws = sum_by-cons turns_of (waits.Memory (device.behind n t)) ws in
    omega (arith, e, f, more, less)

memory-less : (b : Bool) (n : ℕ) (t : TlpView) (ws : List Waiting) → (n == 0) ≡ b → IsPart n t.length
    → all (cond b (drop 1 (waits.Memory t ∷ ws)) (device.head_behind n (waits.Memory t ∷ ws))) < all (waits.Memory t ∷ ws)
memory-less true n t ws e h = whole (waits.Memory t) ws (some-turn t.length)
memory-less false n t ws e h = part n t ws e h

less : (d : DeviceView) (w : Waiting) (ws : List Waiting) → all (device.advanced (device.done_by d w) (w ∷ ws)) < all (w ∷ ws)
less d (waits.Memory t) ws =
    let n = device.done_by d (waits.Memory t) in
    memory-less (n == 0) n t ws refl (done-at d t.kind t.body t.length t.payload)
less d (waits.Configuration r) ws = whole (waits.Configuration r) ws one-turn
less d (waits.Poisoned t) ws = whole (waits.Poisoned t) ws one-turn
less d (waits.Refused c n) ws = whole (waits.Refused c n) ws one-turn

oldest-less : (e : EndpointView) (p : PortView) (ws : List Waiting) → may_go p (device.need_by e.device ws) ≡ true → all (device.acted_on e ws).waiting < all ws
oldest-less e p [] go = absurd cc
oldest-less e p (w ∷ ws) go = less e.device w ws

second : (a b : Bool) → (a && b) ≡ true → b ≡ true
second true b e = e
second false b e = absurd cc

back : (b : Bool) (l : LinkedView) → (cond b (given_back l) l).endpoint ≡ l.endpoint
back true l = refl
back false l = refl

pub acted_less : (l : LinkedView) → may_act l ≡ true → turns_left (acted l) < turns_left l
acted_less l may =
    subst (λ (e : EndpointView). all e.waiting < turns_left l)
    (sym (back (is_last l.endpoint) (record l { endpoint = device.acted l.endpoint; held = device.next_completion l.endpoint })))
    (oldest-less l.endpoint l.port l.endpoint.waiting (second (is_none l.held) (may_go l.port (device.next_need l.endpoint)) may))

-- ---- a completion enters: as many are left, and nothing is held

entered-endpoint : (l : LinkedView) (h : Option TlpView) → (entered_with l h).endpoint ≡ l.endpoint
entered-endpoint l None = refl
entered-endpoint l (Some t) = refl

pub entered_as_many : (l : LinkedView) → turns_left (entered l) ≡ turns_left l
entered_as_many l = ap (λ (e : EndpointView). all e.waiting) (entered-endpoint l l.held)

entered-held : (l : LinkedView) (h : Option TlpView) → l.held ≡ h → (entered_with l h).held ≡ None
entered-held l None e = e
entered-held l (Some t) e = refl

none-enters : (l : LinkedView) → l.held ≡ None → may_enter l ≡ false
none-enters l e = ap (λ (h : Option TlpView). is_some h && is_none (refusal_for l.port h)) e

pub entered_enters : (l : LinkedView) → may_enter (entered l) ≡ false
entered_enters l = none-enters (entered l) (entered-held l l.held refl)

last-false : (b : Bool) → (b && false) ≡ false
last-false true = refl
last-false false = refl

refused-enters : (l : LinkedView) (r : EnterRefusal) → refusal_of l ≡ Some r → may_enter l ≡ false
refused-enters l r e = ap (λ (o : Option EnterRefusal). is_some l.held && is_none o) e ∙ last-false (is_some l.held)

-- the completion that is held enters, unless that is refused
pub once_enters : (l : LinkedView) (o : Option EnterRefusal) → refusal_of l ≡ o → may_enter (entered_unless o l) ≡ false
once_enters l None e = entered_enters l
once_enters l (Some r) e = refused-enters l r e

pub unless_as_many : (l : LinkedView) (o : Option EnterRefusal) → turns_left (entered_unless o l) ≡ turns_left l
unless_as_many l None = entered_as_many l
unless_as_many l (Some r) = refl

-- ---- a completion is held: no request may act

holds : (h : Option TlpView) (b : Bool) → is_some h ≡ true → (is_none h && b) ≡ false
holds None b e = absurd cc
holds (Some t) b e = refl

pub held_rests : (l : LinkedView) → is_some l.held ≡ true → may_act l ≡ false
held_rests l e = holds l.held (may_go l.port (device.next_need l.endpoint)) e

on-window : (b : Bool) → ◌≡◌ {A = Option EnterRefusal} (cond b (Some refusals.WindowFull) None) (Some refusals.Memory) → ⊥
on-window true e = cc
on-window false e = cc

on-credits : (a b : Bool) (need : Need) → ◌≡◌ {A = Option EnterRefusal} (cond a (cond b (Some refusals.WindowFull) None) (Some (refusals.NoCredits need.class))) (Some refusals.Memory) → ⊥
on-credits true b need e = on-window b e
on-credits false b need e = cc

no-memory : (s : LinkState) (sender : SenderEndView) (need : Need) → refusal_in s sender need ≡ Some refusals.Memory → ⊥
no-memory states.Active sender need e = on-credits _ _ need e
no-memory states.Inactive sender need e = cc
no-memory states.Init1 sender need e = cc
no-memory states.Init2 sender need e = cc

no-memory-for : (p : PortView) (h : Option TlpView) → refusal_for p h ≡ Some refusals.Memory → ⊥
no-memory-for p None e = cc
no-memory-for p (Some t) e = no-memory p.state p.sender _ e

wants-memory : (l : LinkedView) (o : Option EnterRefusal) → refusal_of l ≡ o → Refuses o refusals.Memory → is_some l.held ≡ true → may_enter l ≡ true
wants-memory l None e h held = ap (λ (o : Option EnterRefusal). is_some l.held && is_none o) e ∙ ap (λ (b : Bool). b && true) held
wants-memory l (Some r) e h held = absurd (no-memory-for l.port l.held (e ∙ ap Some (sym h)))

-- memory ran out for a completion that may enter
pub memory_enters : (l : LinkedView) → Refuses (refusal_of l) refusals.Memory → is_some l.held ≡ true → may_enter l ≡ true
memory_enters l h held = wants-memory l (refusal_of l) refl h held
