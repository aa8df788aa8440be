-- In a fabric whose lanes are flushed and that isn't quiet, the oldest packet that is furthest on its way can go.
use Rattle.std.proofs.Common.{ℕ, ◌≡◌, ◌⊎◌, ◌<◌, ◌≤◌, ◌*◌, ◌/◌, inl, inr, zero, suc, Bool, true, false, not, List, [], ◌∷◌, ◌++◌, length, drop, refl, sym, ap, ◌∙◌, subst, arith, append-nil, Option, Some, None, Result, Ok, Err, IsOk, if◌then◌else◌}
use Rattle.std.specs.Prelude.{slice_get, is_some, is_ok, nat_lt, ◌&&◌, ◌==◌}
use Rattle.std.proofs.lemmas.Bool.Decides.{nat_tests}
use Rattle.std.proofs.lemmas.Option.{slice_get_within}
use Rattle.tlp_core.specs.declared.packet.Kind.{Kind}
use Rattle.tlp_core.specs.declared.packet.Kind.TheVariants as kinds
use Rattle.tlp_core.specs.declared.packet.Body.{Body}
use Rattle.tlp_core.specs.TlpView.{TlpView, IsPacket}
use Rattle.tlp_core.specs.Layout.{Spells, canonical}
use Rattle.tlp_core.specs.Operation.{op_at, op_of, is_completion}
use Rattle.seq_memory.specs.Limits.{IsBlock}
use Rattle.seq_memory.specs.History.{MemoryView}
use Rattle.completer_core.specs.Serving.{completion_to}
use Rattle.requester_core.specs.Answers.{Answer}
use Rattle.requester_core.specs.RequesterView.{RequesterView, finished}
use Rattle.flow_control.specs.declared.limits.LaneCredits.{LaneCredits}
use Rattle.flow_control.specs.Needs.{need_of}
use Rattle.flow_control.specs.Credits.{gate_covers}
use Rattle.link_replay.specs.CargoView.{CargoView}
use Rattle.flow_control.specs.Queue.{Item, is_takeable}
use Rattle.switch_core.specs.declared.route_fault.RouteFault.{RouteFault}
use Rattle.switch_core.specs.declared.route_fault.RouteFault.TheVariants.{NoPort}
use Rattle.switch_core.specs.Routing.{route, port_of, is_requester}
use Rattle.lane_core.specs.declared.packet.LaneRefusal.TheVariants as no_room
use Rattle.lane_core.specs.Content.{items_of, received_of}
use Rattle.lane_core.specs.Steps.{LaneEndsView, ReceiverEndView, SenderEndView, may_enter, entered, after_take}
use Rattle.lane_core.specs.Calls.{content, on_the_way, IsRightWith, IsRight}
use Rattle.lane_core.specs.Flushed.{IsFlushed}
use Rattle.fabric_steps.specs.Fabric.{Fabric, whole_of}
use Rattle.fabric_steps.specs.ListFacts.{each_at, get_before}
use Rattle.fabric_steps.specs.Routed.{HasPort, FitsStatus, IsRouted}
use Rattle.fabric_steps.specs.Sound.{Sound}
use Rattle.fabric_steps.specs.Event.{Event}
use Rattle.fabric_steps.specs.declared.event.EventOf.TheVariants as events
use Rattle.fabric_steps.specs.declared.event.LaneName.TheVariants as lanes
use Rattle.fabric_steps.specs.declared.fault.Refusal.{Refusal}
use Rattle.fabric_steps.specs.declared.fault.Refusal.TheVariants as refusals
use Rattle.fabric_core.specs.Answers.{answer, some_or, map_err, enter_on, enter_if_any, item_at, destination_on, forward_on}
use Rattle.fabric_core.specs.Kept.{IsSoundFabric, down_credits}
use Rattle.fabric_core.specs.Quiet.{IsQuiet}
use Rattle.fabric_settle.specs.Hops.{AreFlushed, IsOldestHop}
use Rattle.fabric_settle.proofs.Contents.{right}

-- the laws of the layers below
pub record Rooms : Type 0 where
  pub room : (credits : LaneCredits) (e : LaneEndsView) (t : TlpView) → IsRightWith credits e → IsFlushed e → content e ≡ [] → IsPacket t → may_enter e.sender (need_of t) ≡ true
  pub held : (e : LaneEndsView) (place mark : ℕ) (t : TlpView) → IsRight e → slice_get (content e) place ≡ Some (t, mark) → Spells (canonical t) t
  pub completed : (s : MemoryView) (t c : TlpView) → IsBlock s.block → Spells (canonical t) t → completion_to s t ≡ Some c → Spells (canonical c) c
  pub finishes : (f : Fabric) (i mark : ℕ) (q : RequesterView) (lane : LaneEndsView) (t : TlpView) → Sound (whole_of f) → IsRouted f → slice_get f.requesters i ≡ Some q → slice_get f.down i ≡ Some lane
      → slice_get lane.receiver.queue 0 ≡ Some (t, mark) → (a : Answer) × (finished q t ≡ Ok a)
  pub routed : (f : Fabric) (place mark : ℕ) (t : TlpView) → IsRouted f → slice_get (content f.outward) place ≡ Some (t, mark) → HasPort (length f.requesters) t

-- ---- what a flushed lane holds

drop_none : (n : ℕ) → ◌≡◌ {A = List CargoView} (drop n []) []
drop_none zero = refl
drop_none (suc n) = refl

holds_queue : (e : LaneEndsView) → IsFlushed e → content e ≡ e.receiver.queue
holds_queue e h =
    ap (λ (kept : List CargoView). e.receiver.queue ++ items_of (drop (received_of e.sender.sending e.receiver.receiving.next) kept)) h.kept
    ∙ ap (λ (kept : List CargoView). e.receiver.queue ++ items_of kept) (drop_none (received_of e.sender.sending e.receiver.receiving.next))
    ∙ append-nil e.receiver.queue

abbrev First : LaneEndsView → Type 0
First e = (x : Item) × (slice_get e.receiver.queue 0 ≡ Some x)

first_or_none : (xs : List Item) → (xs ≡ []) ⊎ ((x : Item) × (slice_get xs 0 ≡ Some x))
first_or_none [] = inl refl
first_or_none (x ∷ xs) = inr (x, refl)

oldest_of : (e : LaneEndsView) → IsFlushed e → (content e ≡ []) ⊎ First e
oldest_of e h = elim (first_or_none e.receiver.queue) [
  | inl none ↦ inl (holds_queue e h ∙ none)
  | inr some ↦ inr some
]

first_held : (e : LaneEndsView) (x : Item) → slice_get e.receiver.queue 0 ≡ Some x → slice_get (content e) 0 ≡ Some x
first_held e x h = get_before e.receiver.queue (on_the_way e) 0 x h

-- ---- of several lanes

abbrev HoldNothing : List LaneEndsView → Type 0
HoldNothing es = (i : ℕ) (e : LaneEndsView) → slice_get es i ≡ Some e → content e ≡ []

abbrev Found : List LaneEndsView → Type 0
Found es = (i : ℕ) × (e : LaneEndsView) × (x : Item) × (slice_get es i ≡ Some e) × (slice_get e.receiver.queue 0 ≡ Some x)

found : (es : List LaneEndsView) → ((i : ℕ) (e : LaneEndsView) → slice_get es i ≡ Some e → IsFlushed e) → HoldNothing es ⊎ Found es
found [] h = inl (λ i e there. absurd cc)
found (e ∷ es) h = elim (oldest_of e (h zero e refl)) [
  | inr some ↦ inr (zero, e, some.0, refl, some.1)
  | inl none ↦ elim (found es (λ i x there. h (suc i) x there)) [
    | inr later ↦ inr (suc later.0, later.1, later.2, later.3, later.4)
    | inl all ↦ inl (nothing none all)
  ]
]
  where
    nothing : content e ≡ [] → HoldNothing es → HoldNothing (e ∷ es)
    nothing none all zero x there = let is : e ≡ x = cc in subst (λ (y : LaneEndsView). content y ≡ []) is none
    nothing none all (suc i) x there = all i x there

there_is : {X : Type 0} (xs : List X) (i : ℕ) → i < length xs → (x : X) × (slice_get xs i ≡ Some x)
there_is [] i h = absurd (omega arith)
there_is (x ∷ xs) zero h = (x, refl)
there_is (x ∷ xs) (suc i) h = there_is xs i (omega arith)

-- ---- parts of an event

oldest : (r : ReceiverEndView) (x : Item) → slice_get r.queue 0 ≡ Some x → item_at r 0 ≡ Ok x
oldest r x h = by_queue r.queue h
  where
    by_queue : (queue : List Item) → slice_get queue 0 ≡ Some x → (if is_takeable queue 0 then some_or refusals.NotTakeable (slice_get queue 0) else Err refusals.NotTakeable) ≡ Ok x
    by_queue [] e = absurd cc
    by_queue (y ∷ ys) e = let is : y ≡ x = cc in ap Ok is

enters : (s : SenderEndView) (t : TlpView) (mark : ℕ) → may_enter s (need_of t) ≡ true → enter_on s t mark ≡ Ok (entered s t mark)
enters s t mark h = by_tests (gate_covers s.gate (need_of t)) (nat_lt (length s.sending.kept) 2047) (refusals.Lane no_room.WindowFull) (refusals.Lane (no_room.NoCredits (need_of t).class)) h
  where
    by_tests : (a b : Bool) (r q : Refusal) → (a && b) ≡ true → (if a then (if b then Ok (entered s t mark) else Err r) else Err q) ≡ Ok (entered s t mark)
    by_tests true true r q h = refl
    by_tests true false r q h = absurd cc
    by_tests false b r q h = absurd cc

any_enters : (s : SenderEndView) (o : Option TlpView) (mark : ℕ) → ((c : TlpView) → o ≡ Some c → may_enter s (need_of c) ≡ true) → (s' : SenderEndView) × (enter_if_any s o mark ≡ Ok s')
any_enters s None mark h = (s, refl)
any_enters s (Some c) mark h = (entered s c mark, enters s c mark (h c refl))

-- ---- Collect

collects : Rooms → (f : Fabric) → IsSoundFabric f → (i : ℕ) (e : LaneEndsView) (x : Item) → slice_get f.down i ≡ Some e → slice_get e.receiver.queue 0 ≡ Some x → IsOk (answer f (events.Collect (suc i)))
collects l f s i e x there h =
    let inside : i < length f.down = slice_get_within f.down i e there in
    let same : length f.down ≡ length f.requesters = s.lanes.down in
    let q = there_is f.requesters i (omega arith) in
    let a = l.finishes f i x.1 q.0 e x.0 s.sound s.routed q.1 there h in
    rw (q.1, there, h, a.1) refl

-- ---- Forward from `out`

completes : (k : Kind) (b : Body) → FitsStatus k b → is_completion k ≡ true
completes kinds.MemoryRead b h = absurd h
completes kinds.MemoryWrite b h = absurd h
completes kinds.FetchAdd b h = absurd h
completes kinds.Swap b h = absurd h
completes kinds.Cas b h = absurd h
completes kinds.Completion b h = refl
completes kinds.CompletionData b h = refl

is_port : (p : ℕ) → 0 < p → p ≤ 7 → is_requester p ≡ true
is_port zero h k = absurd (omega arith)
is_port (suc zero) h k = refl
is_port (suc (suc zero)) h k = refl
is_port (suc (suc (suc zero))) h k = refl
is_port (suc (suc (suc (suc zero)))) h k = refl
is_port (suc (suc (suc (suc (suc zero))))) h k = refl
is_port (suc (suc (suc (suc (suc (suc zero)))))) h k = refl
is_port (suc (suc (suc (suc (suc (suc (suc zero))))))) h k = refl
is_port (suc (suc (suc (suc (suc (suc (suc (suc p)))))))) h k = absurd (omega arith)

goes_home : (t : TlpView) (place : ℕ) → is_completion t.kind ≡ true → t.requester ≡ suc place * 256 → place < 7 → route t 0 ≡ Ok (suc place)
goes_home t place c id few =
    let port : t.requester / 256 ≡ suc place = omega arith in
    by_tests (is_completion t.kind) (is_requester (port_of t)) (port_of t) c (subst (λ n. is_requester n ≡ true) (sym port) (is_port (suc place) (omega arith) (omega arith))) ∙ ap Ok port
  where
    by_tests : (a b : Bool) (p : ℕ) → a ≡ true → b ≡ true → ◌≡◌ {A = Result ℕ RouteFault} (if a then (if true && b then Ok p else Err NoPort) else (if not true then Ok 0 else Err NoPort)) (Ok p)
    by_tests true true p g h = refl
    by_tests true false p g h = absurd cc
    by_tests false b p g h = absurd cc

out_goes : (f : Fabric) (at : ℕ) (e : LaneEndsView) (r' : ReceiverEndView) (s' : SenderEndView) → slice_get f.down at ≡ Some e → destination_on f.outward.receiver 0 0 ≡ Ok (suc at) → forward_on f.outward.receiver 0 e.sender ≡ Ok (r', s')
    → IsOk (answer f (events.Forward lanes.Outward 0))
out_goes f at e r' s' has d h = rw (d, has, h) refl

to_port : (r : ReceiverEndView) (x : Item) (from to : ℕ) → item_at r 0 ≡ Ok x → route x.0 from ≡ Ok to → destination_on r 0 from ≡ Ok to
to_port r x from to i h = rw (i, h) refl

into : (r : ReceiverEndView) (x : Item) (s : SenderEndView) → item_at r 0 ≡ Ok x → enter_on s x.0 x.1 ≡ Ok (entered s x.0 x.1) → forward_on r 0 s ≡ Ok (after_take r 0, entered s x.0 x.1)
into r x s i h = rw (i, h) refl

packet_is : Rooms → (credits : LaneCredits) (e : LaneEndsView) (x : Item) → IsRightWith credits e → slice_get e.receiver.queue 0 ≡ Some x → Spells (canonical x.0) x.0
packet_is l credits e x r h = l.held e 0 x.1 x.0 (right credits e r) (first_held e x h)

outs : Rooms → (f : Fabric) → IsSoundFabric f → AreFlushed f → HoldNothing f.down → (x : Item) → slice_get f.outward.receiver.queue 0 ≡ Some x → IsOk (answer f (events.Forward lanes.Outward 0))
outs l f s flushed none x h =
    let port = l.routed f 0 x.1 x.0 s.routed (first_held f.outward x h) in
    let few : length f.requesters ≤ 7 = s.lanes.few in
    let same : length f.down ≡ length f.requesters = s.lanes.down in
    let inside : port.place < length f.requesters = port.some_port in
    let lane = there_is f.down port.place (omega arith) in
    let form = each_at (λ (y : Item). HasPort (length f.requesters) y.0 × FitsStatus y.0.kind y.0.body) (content f.outward) 0 x (first_held f.outward x h) s.routed.outward in
    let item = oldest f.outward.receiver x h in
    out_goes f port.place lane.0 (after_take f.outward.receiver 0) (entered lane.0.sender x.0 x.1) lane.1
    (to_port f.outward.receiver x 0 (suc port.place) item (goes_home x.0 port.place (completes x.0.kind x.0.body form.1) port.id (omega arith)))
    (into f.outward.receiver x lane.0.sender item (enters lane.0.sender x.0 x.1
    (l.room (down_credits f.credits) lane.0 x.0 (s.down port.place lane.0 lane.1) (flushed.down port.place lane.0 lane.1) (none port.place lane.0 lane.1) (packet_is l f.credits f.outward x s.outward h).grammar)))

-- ---- Serve

serve_goes : (f : Fabric) (x : Item) (s' : SenderEndView) → item_at f.inward.receiver 0 ≡ Ok x → enter_if_any f.outward.sender (completion_to f.memory x.0) x.1 ≡ Ok s' → IsOk (answer f (events.Serve 0))
serve_goes f x s' i h = rw (i, h) refl

serves : Rooms → (f : Fabric) → IsSoundFabric f → AreFlushed f → content f.outward ≡ [] → (x : Item) → slice_get f.inward.receiver.queue 0 ≡ Some x → IsOk (answer f (events.Serve 0))
serves l f s flushed none x h =
    let any = any_enters f.outward.sender (completion_to f.memory x.0) x.1
    (λ c is. l.room f.credits f.outward c s.outward flushed.outward none (l.completed f.memory x.0 c s.config.block (packet_is l f.credits f.inward x s.inward h) is).grammar) in
    serve_goes f x any.0 (oldest f.inward.receiver x h) any.1

-- ---- Forward from an `up` lane

asks_no_reply : (t : TlpView) → is_some (op_of t) ≡ true → is_completion t.kind ≡ false
asks_no_reply t h = by_kind t.kind h
  where
    by_kind : (k : Kind) → is_some (op_at k t.body t.length t.payload) ≡ true → is_completion k ≡ false
    by_kind kinds.MemoryRead e = refl
    by_kind kinds.MemoryWrite e = refl
    by_kind kinds.FetchAdd e = refl
    by_kind kinds.Swap e = refl
    by_kind kinds.Cas e = refl
    by_kind kinds.Completion e = absurd cc
    by_kind kinds.CompletionData e = absurd cc

goes_inward : (t : TlpView) (at : ℕ) → is_completion t.kind ≡ false → route t (suc at) ≡ Ok 0
goes_inward t at c = by_tests (is_completion t.kind) (suc at == 0) (is_requester (port_of t)) (port_of t) c some_port
  where
    some_port : (suc at == 0) ≡ false
    some_port = grind (arith, nat_tests)

    by_tests : (a z p : Bool) (n : ℕ) → a ≡ false → z ≡ false → ◌≡◌ {A = Result ℕ RouteFault} (if a then (if z && p then Ok n else Err NoPort) else (if not z then Ok 0 else Err NoPort)) (Ok 0)
    by_tests false false p n g h = refl
    by_tests false true p n g h = absurd cc
    by_tests true z p n g h = absurd cc

up_goes : (f : Fabric) (at : ℕ) (e : LaneEndsView) (r' : ReceiverEndView) (s' : SenderEndView) → slice_get f.up at ≡ Some e → destination_on e.receiver 0 (suc at) ≡ Ok 0 → forward_on e.receiver 0 f.inward.sender ≡ Ok (r', s')
    → IsOk (answer f (events.Forward (lanes.Up (suc at)) 0))
up_goes f at e r' s' has d h = rw (has, d, h) refl

ups : Rooms → (f : Fabric) → IsSoundFabric f → AreFlushed f → content f.inward ≡ [] → (i : ℕ) (e : LaneEndsView) (x : Item) → slice_get f.up i ≡ Some e → slice_get e.receiver.queue 0 ≡ Some x → IsOk (answer f (events.Forward (lanes.Up (suc i)) 0))
ups l f s flushed none i e x there h =
    let form = each_at (λ (y : Item). HasPort (length f.requesters) y.0 × (is_some (op_of y.0) ≡ true)) (content e) 0 x (first_held e x h) (s.routed.up i e there) in
    let item = oldest e.receiver x h in
    up_goes f i e (after_take e.receiver 0) (entered f.inward.sender x.0 x.1) there
    (to_port e.receiver x (suc i) 0 item (goes_inward x.0 i (asks_no_reply x.0 form.1)))
    (into e.receiver x f.inward.sender item (enters f.inward.sender x.0 x.1 (l.room f.credits f.inward x.0 s.inward flushed.inward none (packet_is l f.credits e x (s.up i e there) h).grammar)))

-- ---- the packet that is furthest

pub goes : Rooms → (f : Fabric) → IsSoundFabric f → AreFlushed f → ¬ IsQuiet f → (event : Event) × IsOldestHop event × IsOk (answer f event)
goes l f s flushed not_quiet = elim (found f.down flushed.down) [
  | inr k ↦ (events.Collect (suc k.0), tt, collects l f s k.0 k.1 k.2 k.3 k.4)
  | inl down ↦ elim (oldest_of f.outward flushed.outward) [
    | inr k ↦ (events.Forward lanes.Outward 0, refl, outs l f s flushed down k.0 k.1)
    | inl outward ↦ elim (oldest_of f.inward flushed.inward) [
      | inr k ↦ (events.Serve 0, refl, serves l f s flushed outward k.0 k.1)
      | inl inward ↦ elim (found f.up flushed.up) [
        | inr k ↦ (events.Forward (lanes.Up (suc k.0)) 0, refl, ups l f s flushed inward k.0 k.1 k.2 k.3 k.4)
        | inl up ↦ absurd (not_quiet (record { inward = inward; outward = outward; up = up; down = down }))
      ]
    ]
  ]
]
