-- Rounds come to an end: in each of them fewer turns are left, or nothing is left to do.
use Rattle.std.proofs.Common.{◌≡◌, ◌∙◌, ℕ, zero, suc, ◌+◌, ◌*◌, ◌-◌, ◌<◌, ◌≤◌, Bool, true, false, cond, List, [], ◌∷◌, Option, Some, None, length, drop, inl, inr, refl, sym, subst, ap, arith}
use Rattle.std.specs.Prelude.{◌==◌, ◌⊎◌, ◌&&◌, nat_le, is_none, is_some, sum_by}
use Rattle.std.proofs.lemmas.Bool.{cases_Bool}
use Rattle.std.proofs.lemmas.Bool.Decides.{nat_tests}
use Rattle.std.proofs.lemmas.List.Sums.{sum_by-cons}
use Rattle.tlp_core.specs.Ops.{Op}
use Rattle.tlp_core.specs.declared.operation.OpOf.TheVariants as ops
use Rattle.tlp_core.specs.declared.packet.Kind.{Kind}
use Rattle.tlp_core.specs.declared.packet.Kind.TheVariants as kinds
use Rattle.tlp_core.specs.declared.packet.Body.{Body}
use Rattle.tlp_core.specs.declared.packet.Body.TheVariants as bodies
use Rattle.tlp_core.specs.TlpView.{TlpView}
use Rattle.tlp_core.specs.Operation.{op_at}
use Rattle.op_pieces.specs.Pieces.{dw_to}
use Rattle.flow_control.specs.declared.needs.Need.{Need}
use Rattle.flow_control.specs.Credits.{gate_covers}
use Rattle.flow_control.specs.Needs.{need_of, completion_need}
use Rattle.port_core.specs.declared.init.LinkState.{LinkState}
use Rattle.port_core.specs.declared.init.LinkState.TheVariants as states
use Rattle.port_core.specs.declared.fault.EnterRefusal.{EnterRefusal}
use Rattle.port_core.specs.declared.fault.EnterRefusal.TheVariants as refusals
use Rattle.port_core.specs.Port as port
use Rattle.port_core.specs.Port.{PortView, refusal_in}
use Rattle.endpoint_core.specs.declared.waiting.Waiting.{Waiting}
use Rattle.endpoint_core.specs.declared.waiting.Waiting.TheVariants as waits
use Rattle.endpoint_core.specs.EndpointView.{DeviceView, EndpointView}
use Rattle.endpoint_core.specs.Steps as device
use Rattle.linked_endpoint.specs.LinkedView.{LinkedView}
use Rattle.linked_endpoint.specs.Linked.{with_port, may_go, may_act, is_last, given_back, acted, after_act, turns_of, turns_left, refusal_for, refusal_of, may_enter, entered_with}
use Rattle.linked_endpoint.specs.Runs.{Call, AreTurns, after_calls, entered_unless}
use Rattle.linked_endpoint.specs.Runs as calls
use Rattle.linked_laws.specs.Rounds.{AreOfLink, IsServed, IsRound, Rounds}

-- ---- a request acts: fewer turns are left

-- nothing, or a part of so many DW
abbrev IsPart : ℕ → ℕ → Type 0
IsPart n dw = (n ≡ 0) ⊎ (n < dw)

cut : (b : Bool) (dw end : ℕ) → nat_le dw end ≡ b → IsPart (cond b 0 end) dw
cut true dw end e = inl refl
cut false dw end e = inr (grind (arith, nat_tests))

read-done : (base : Option ℕ) (a dw f l : ℕ) → IsPart (device.done_at (ops.Read a dw f l) base) dw
read-done None a dw f l = inl refl
read-done (Some base) a dw f l = cut (nat_le dw (dw_to 128 a)) dw (dw_to 128 a) refl

other-done : (op : Op) (base : Option ℕ) (dw : ℕ) → device.dw_in_front op ≡ 0 → IsPart (device.done_at op base) dw
other-done op None dw e = inl refl
other-done op (Some base) dw e = inl e

-- it is no read
abbrev IsOther : Option Op → Type 0
IsOther None = Unit {0}
IsOther (Some op) = device.dw_in_front op ≡ 0

done-for : (d : DeviceView) (o : Option Op) (dw : ℕ) → IsOther o → IsPart (device.memory_done d o) dw
done-for d None dw e = inl refl
done-for d (Some op) dw e = other-done op (device.base_of_op d op) dw e

done-at : (d : DeviceView) (k : Kind) (b : Body) (dw : ℕ) (bytes : List ℕ) → IsPart (device.memory_done d (op_at k b dw bytes)) dw
done-at d kinds.MemoryRead (bodies.Request a f l) dw bytes = read-done (device.base_of_op d (ops.Read a dw f l)) a dw f l
done-at d kinds.MemoryWrite (bodies.Request a f l) dw bytes = done-for d (op_at kinds.MemoryWrite (bodies.Request a f l) dw bytes) dw refl
done-at d kinds.FetchAdd (bodies.Request a f l) dw bytes = done-for d (op_at kinds.FetchAdd (bodies.Request a f l) dw bytes) dw refl
done-at d kinds.Swap (bodies.Request a f l) dw bytes = done-for d (op_at kinds.Swap (bodies.Request a f l) dw bytes) dw refl
done-at d kinds.Cas (bodies.Request a f l) dw bytes = done-for d (op_at kinds.Cas (bodies.Request a f l) dw bytes) dw refl
done-at d kinds.Completion b dw bytes = inl refl
done-at d kinds.CompletionData b dw bytes = inl refl
done-at d kinds.MemoryRead (bodies.Completion c s n lower) dw bytes = inl refl
done-at d kinds.MemoryWrite (bodies.Completion c s n lower) dw bytes = inl refl
done-at d kinds.FetchAdd (bodies.Completion c s n lower) dw bytes = inl refl
done-at d kinds.Swap (bodies.Completion c s n lower) dw bytes = inl refl
done-at d kinds.Cas (bodies.Completion c s n lower) dw bytes = inl refl

abbrev all : List Waiting → ℕ
all ws = sum_by turns_of ws

-- all of the oldest is done
whole : (w : Waiting) (ws : List Waiting) → 1 ≤ turns_of w → all ws < all (w ∷ ws)
whole w ws some =
    let e : all (w ∷ ws) ≡ turns_of w + all ws = sum_by-cons turns_of w ws in
    omega (arith, e, some)

some-turn : (n : ℕ) → 1 ≤ suc n
some-turn n = omega arith

one-turn : 1 ≤ 1
one-turn = omega arith

-- a part of it is done
part : (n : ℕ) (t : TlpView) (ws : List Waiting) → (n == 0) ≡ false → IsPart n t.length → all (waits.Memory (device.behind n t) ∷ ws) < all (waits.Memory t ∷ ws)
part n t ws some (inl none) = absurd (grind (arith, nat_tests))
part n t ws some (inr less) =
    let more : 0 < n = grind (arith, nat_tests) in
    let e : all (waits.Memory t ∷ ws) ≡ suc t.length + all ws = sum_by-cons turns_of (waits.Memory t) ws in
    let f : all (waits.Memory (device.behind n t) ∷ ws) ≡ suc (t.length - n) + all ws = sum_by-cons turns_of (waits.Memory (device.behind n t)) ws in
    omega (arith, e, f, more, less)

memory-less : (b : Bool) (n : ℕ) (t : TlpView) (ws : List Waiting) → (n == 0) ≡ b → IsPart n t.length
    → all (cond b (drop 1 (waits.Memory t ∷ ws)) (device.head_behind n (waits.Memory t ∷ ws))) < all (waits.Memory t ∷ ws)
memory-less true n t ws e h = whole (waits.Memory t) ws (some-turn t.length)
memory-less false n t ws e h = part n t ws e h

less : (d : DeviceView) (w : Waiting) (ws : List Waiting) → all (device.advanced (device.done_by d w) (w ∷ ws)) < all (w ∷ ws)
less d (waits.Memory t) ws =
    let n = device.done_by d (waits.Memory t) in
    memory-less (n == 0) n t ws refl (done-at d t.kind t.body t.length t.payload)
less d (waits.Configuration r) ws = whole (waits.Configuration r) ws one-turn
less d (waits.Poisoned t) ws = whole (waits.Poisoned t) ws one-turn
less d (waits.Refused c n) ws = whole (waits.Refused c n) ws one-turn

oldest-less : (e : EndpointView) (p : PortView) (ws : List Waiting) → may_go p (device.need_by e.device ws) ≡ true → all (device.acted_on e ws).waiting < all ws
oldest-less e p [] go = absurd cc
oldest-less e p (w ∷ ws) go = less e.device w ws

second : (a b : Bool) → (a && b) ≡ true → b ≡ true
second true b e = e
second false b e = absurd cc

back : (b : Bool) (l : LinkedView) → (cond b (given_back l) l).endpoint ≡ l.endpoint
back true l = refl
back false l = refl

acted_less : (l : LinkedView) → may_act l ≡ true → turns_left (acted l) < turns_left l
acted_less l may =
    subst (λ (e : EndpointView). all e.waiting < turns_left l)
    (sym (back (is_last l.endpoint) (record l { endpoint = device.acted l.endpoint; held = device.next_completion l.endpoint })))
    (oldest-less l.endpoint l.port l.endpoint.waiting (second (is_none l.held) (may_go l.port (device.next_need l.endpoint)) may))

-- ---- what is left to do

-- one for the completion that is held, and two for each turn: that of the request, and that of its completion
abbrev held_one : Option TlpView → ℕ
held_one None = 0
held_one (Some t) = 1

abbrev left : LinkedView → ℕ
left l = 2 * turns_left l + held_one l.held

one_held : (h : Option TlpView) → held_one h ≤ 1
one_held None = omega arith
one_held (Some t) = omega arith

-- nothing is left
record IsDone (l : LinkedView) : Type 0 where
  waiting : l.endpoint.waiting ≡ []
  held : l.held ≡ None

some_turns : (w : Waiting) → 1 ≤ turns_of w
some_turns (waits.Memory t) = some-turn t.length
some_turns (waits.Configuration r) = one-turn
some_turns (waits.Poisoned t) = one-turn
some_turns (waits.Refused c n) = one-turn

none_waits : (ws : List Waiting) → all ws ≡ 0 → ws ≡ []
none_waits [] e = refl
none_waits (w ∷ ws) e =
    let sum : all (w ∷ ws) ≡ turns_of w + all ws = sum_by-cons turns_of w ws in
    let some = some_turns w in
    absurd (omega (arith, e, sum, some))

none_held : (h : Option TlpView) → held_one h ≡ 0 → h ≡ None
none_held None e = refl
none_held (Some t) e = absurd (omega (arith, e))

done_if : (l : LinkedView) → left l ≡ 0 → IsDone l
done_if l e = record { waiting = none_waits l.endpoint.waiting (omega (arith, e)); held = none_held l.held (omega (arith, e)) }

-- ---- turns

entered_left : (l : LinkedView) (h : Option TlpView) → l.held ≡ h → (entered_with l h ≡ l) ⊎ (left (entered_with l h) < left l)
entered_left l None e = inl refl
entered_left l (Some t) e = let one : held_one l.held ≡ 1 = ap held_one e in inr (omega (arith, one))

unless_left : (l : LinkedView) (o : Option EnterRefusal) → (entered_unless o l ≡ l) ⊎ (left (entered_unless o l) < left l)
unless_left l None = entered_left l l.held refl
unless_left l (Some r) = inl refl

act_left : (l : LinkedView) → (after_act l ≡ l) ⊎ (left (after_act l) < left l)
act_left l = elim (cases_Bool (may_act l)) [
  | inl may ↦
      let same : after_act l ≡ acted l = ap (λ (b : Bool). cond b (acted l) l) may in
      let fewer = acted_less l may in
      let one = one_held (acted l).held in
      let same_left : left (after_act l) ≡ left (acted l) = ap left same in
      inr (omega (arith, fewer, one, same_left))
  | inr may ↦ inl (ap (λ (b : Bool). cond b (acted l) l) may)
]

then : (l m n : LinkedView) → (m ≡ l) ⊎ (left m < left l) → (n ≡ m) ⊎ (left n < left m) → (n ≡ l) ⊎ (left n < left l)
then l m n (inl e) (inl f) = inl (f ∙ e)
then l m n (inl e) (inr f) = let same : left m ≡ left l = ap left e in inr (omega (arith, f, same))
then l m n (inr e) (inl f) = let same : left n ≡ left m = ap left f in inr (omega (arith, e, same))
then l m n (inr e) (inr f) = inr (omega (arith, e, f))

turns_end : (l : LinkedView) (turns : List Call) → AreTurns turns → (after_calls l turns ≡ l) ⊎ (left (after_calls l turns) < left l)
turns_end l [] are = inl refl
turns_end l (calls.Act ∷ turns) are = then l (after_act l) (after_calls (after_act l) turns) (act_left l) (turns_end (after_act l) turns are.1)
turns_end l (calls.Enter ∷ turns) are =
    then l (entered_unless (refusal_of l) l) (after_calls (entered_unless (refusal_of l) l) turns) (unless_left l (refusal_of l)) (turns_end (entered_unless (refusal_of l) l) turns are.1)
turns_end l (calls.Up ∷ turns) are = absurd are.0
turns_end l (calls.Down ∷ turns) are = absurd are.0
turns_end l (calls.Receive packet check ∷ turns) are = absurd are.0
turns_end l (calls.ReceiveDllp bytes check ∷ turns) are = absurd are.0
turns_end l (calls.Next ∷ turns) are = absurd are.0
turns_end l (calls.Refresh ∷ turns) are = absurd are.0
turns_end l (calls.Replay ∷ turns) are = absurd are.0
turns_end l (calls.Retrained ∷ turns) are = absurd are.0

-- ---- calls of the link

of_link : (l : LinkedView) (cs : List Call) → AreOfLink cs → left (after_calls l cs) ≡ left l
of_link l [] are = refl
of_link l (calls.ReceiveDllp bytes check ∷ cs) are = of_link (with_port l (port.after_dllp_received l.port bytes check)) cs are.1
of_link l (calls.Next ∷ cs) are = of_link (with_port l (port.after_next l.port)) cs are.1
of_link l (calls.Refresh ∷ cs) are = of_link (with_port l (port.refreshed l.port)) cs are.1
of_link l (calls.Replay ∷ cs) are = of_link (with_port l (port.after_replay l.port)) cs are.1
of_link l (calls.Retrained ∷ cs) are = of_link (with_port l (port.after_retrained l.port)) cs are.1
of_link l (calls.Up ∷ cs) are = absurd are.0
of_link l (calls.Down ∷ cs) are = absurd are.0
of_link l (calls.Receive packet check ∷ cs) are = absurd are.0
of_link l (calls.Act ∷ cs) are = absurd are.0
of_link l (calls.Enter ∷ cs) are = absurd are.0

-- ---- a device that is served, and rests, has nothing left

abbrev refused_by : Bool → Bool → Need → Option EnterRefusal
refused_by covers full need = cond covers (cond full (Some refusals.WindowFull) None) (Some (refusals.NoCredits need.class))

none_refused : (covers full : Bool) (need : Need) → covers ≡ true → full ≡ false → is_none (refused_by covers full need) ≡ true
none_refused true false need p q = refl
none_refused true true need p q = absurd (cc q)
none_refused false full need p q = absurd (cc p)

not_refused : (p : PortView) (need : Need) → p.state ≡ states.Active → p.sender.sending.kept ≡ [] → gate_covers p.sender.gate need ≡ true → is_none (port.refusal_of p need) ≡ true
not_refused p need active kept covers =
    ap (λ (s : LinkState). is_none (refusal_in s p.sender need)) active
    ∙ none_refused (gate_covers p.sender.gate need) (nat_le 2047 (length p.sender.sending.kept)) need covers (ap (λ xs. nat_le 2047 (length xs)) kept)

no_held : (l : LinkedView) → IsServed l → (h : Option TlpView) → l.held ≡ h → may_enter l ≡ false → h ≡ None
no_held l served None e rests = refl
no_held l served (Some t) e rests =
    let may : may_enter l ≡ true =
    ap (λ (h : Option TlpView). is_some h && is_none (refusal_for l.port h)) e ∙ not_refused l.port (need_of t) served.active served.acknowledged (served.held t e) in
    let clash : true ≡ false = sym may ∙ rests in
    absurd (cc clash)

no_waiting : (l : LinkedView) → IsServed l → l.held ≡ None → (ws : List Waiting) → l.endpoint.waiting ≡ ws → may_act l ≡ false → ws ≡ []
no_waiting l served none [] e rests = refl
no_waiting l served none (w ∷ ws) e rests =
    let need = completion_need (device.data_by l.endpoint.device w) in
    let next : device.next_need l.endpoint ≡ Some need = ap (device.need_by l.endpoint.device) e in
    let may : may_act l ≡ true =
    ap (λ (h : Option TlpView). is_none h && may_go l.port (device.next_need l.endpoint)) none ∙ ap (may_go l.port) next
    ∙ not_refused l.port need served.active served.acknowledged (served.next need next) in
    let clash : true ≡ false = sym may ∙ rests in
    absurd (cc clash)

rests_done : (l : LinkedView) → IsServed l → may_act l ≡ false → may_enter l ≡ false → left l ≡ 0
rests_done l served acts enters =
    let none = no_held l served l.held refl enters in
    let empty = no_waiting l served none l.endpoint.waiting refl acts in
    let no_turns : turns_left l ≡ 0 = ap all empty in
    let no_one : held_one l.held ≡ 0 = ap held_one none in
    omega (arith, no_turns, no_one)

-- ---- rounds

round_left : (l m : LinkedView) → IsRound l m → (left m < left l) ⊎ (left m ≡ 0)
round_left l m r =
    let between = after_calls l r.calls in
    let same = of_link l r.calls r.are in
    elim (turns_end between r.settles.turns r.settles.are) [
      | inl stays ↦
          let is : m ≡ between = sym r.settles.leads ∙ stays in
          let none : left between ≡ 0 = rests_done between r.served (ap may_act (sym is) ∙ r.done) (ap may_enter (sym is) ∙ r.entered) in
          inr (ap left is ∙ none)
      | inr fewer ↦
          let is : left m ≡ left (after_calls between r.settles.turns) = ap left (sym r.settles.leads) in
          inl (omega (arith, fewer, is, same))
    ]

stays_done : (n : ℕ) (l m : LinkedView) → Rounds n l m → left l ≡ 0 → left m ≡ 0
stays_done zero l m r none = ap left (sym r) ∙ none
stays_done (suc n) l m r none = elim (round_left l r.0 r.1) [
  | inl fewer ↦ absurd (omega (arith, fewer, none))
  | inr still ↦ stays_done n r.0 m r.2 still
]

rounds_end : (n : ℕ) (l m : LinkedView) → Rounds n l m → left l ≤ n → left m ≡ 0
rounds_end zero l m r few = ap left (sym r) ∙ omega (arith, few)
rounds_end (suc n) l m r few = elim (round_left l r.0 r.1) [
  | inl fewer ↦ rounds_end n r.0 m r.2 (omega (arith, fewer, few))
  | inr none ↦ stays_done n r.0 m r.2 none
]

done_after : (n : ℕ) (l m : LinkedView) → Rounds n l m → 2 * turns_left l < n → IsDone m
done_after n l m r few = let one = one_held l.held in done_if m (rounds_end n l m r (omega (arith, few, one)))

pub nothing_waits : (n : ℕ) (l m : LinkedView) → Rounds n l m → 2 * turns_left l < n → m.endpoint.waiting ≡ []
nothing_waits n l m r few = (done_after n l m r few).waiting

pub nothing_held : (n : ℕ) (l m : LinkedView) → Rounds n l m → 2 * turns_left l < n → m.held ≡ None
nothing_held n l m r few = (done_after n l m r few).held
