-- What is accepted before a packet arrives was entered before it was sent.
use Rattle.std.proofs.Common.{◌≡◌, ℕ, ◌+◌, ◌-◌, ◌%◌, ◌<◌, ◌≤◌, max, Bool, true, false, All, List, [], ◌∷◌, ◌++◌, length, drop, Option, Some, None, refl, sym, ◌∙◌, ap, subst, arith}
use Rattle.std.specs.Prelude.{slice_get, if◌then◌else◌}
use Rattle.std.specs.Option.{option_map}
use Rattle.std.specs.List.{cons_option}
use Rattle.std.proofs.lemmas.Option.{slice_get_within}
use Rattle.std.proofs.lemmas.List.{append-nil, append_assoc, length-append, length-drop}
use Rattle.std.proofs.lemmas.List.Elements.{All-drop}
use Rattle.link_replay.specs.CargoView.{CargoView}
use Rattle.link_replay.specs.declared.receiver.Reception.TheVariants.{Accept, Duplicate, NakNow, Quiet}
use Rattle.flow_control.specs.declared.limits.LaneCredits.{LaneCredits}
use Rattle.flow_control.specs.Needs.{need_of}
use Rattle.flow_control.specs.Queue.{Item, is_takeable}
use Rattle.lane_core.specs.declared.packet.WirePacket.{WirePacket}
use Rattle.lane_core.specs.declared.packet.Arrival.{Arrival}
use Rattle.lane_core.specs.declared.packet.Arrival.TheVariants.{Answered, Gone}
use Rattle.lane_core.specs.declared.packet.DllpKind.{DllpKind}
use Rattle.lane_core.specs.declared.packet.DllpKind.TheVariants as kinds
use Rattle.link_replay.specs.SenderView.{number_at, next_item}
use Rattle.lane_core.specs.Content.{item_spelled, items_of, IsSpelled, received_of, unaccepted_of}
use Rattle.lane_core.specs.Steps.{LaneEndsView, SenderEndView, packets_sent, new_lane, may_enter, entered, with_room, all_but_first, arrival_of, taken_on, receiving_on, after_arrival, after_deliver, after_take, transmitted}
use Rattle.lane_core.specs.Calls.{Call, MakeRoom, Release, Enter, Transmit, Deliver, SendDllp, DeliverDllp, Timer, Retrained, Take, AreCalls, after_call, list_of, accepted_from, accepted_by, after_calls, accepted_in, on_the_way}
use Rattle.lane_core.specs.Windows.{next_entered, oldest_unacknowledged, next_accepted, deliveries}
use Rattle.lane_core.proofs.Below.{IsRead}
use Rattle.lane_core.proofs.UnderWay.{ahead_of, IsForward}
use Rattle.lane_core.proofs.Forward as forward
use Rattle.lane_core.proofs.Right.{first_is}
use Rattle.lane_core.proofs.Sound.{IsSound, arrival_accepts, accepted_rest, run_sound, new_sound}
use Rattle.lane_core.proofs.Kept.{spelled_some}
use Rattle.lane_core.proofs.Arithmetic.{ahead_same}

-- a call that delivers nothing puts packets behind those under way
record Passes (e new : LaneEndsView) : Type 0 where
  more : List WirePacket
  wire : new.forward ≡ e.forward ++ more
  next : new.receiver.receiving.next ≡ e.receiver.receiving.next

same_ends : (e : LaneEndsView) → Passes e e
same_ends e = record { more = []; wire = sym (append-nil e.forward); next = refl }

sender_passes : (e : LaneEndsView) (s : SenderEndView) (b : Bool) → Passes e (if b then record e { sender = s } else e)
sender_passes e s true = record { more = []; wire = sym (append-nil e.forward); next = refl }
sender_passes e s false = same_ends e

send_passes : (e : LaneEndsView) (kind : DllpKind) → Passes e (after_call e (SendDllp kind))
send_passes e kinds.Answer = record { more = []; wire = sym (append-nil e.forward); next = refl }
send_passes e (kinds.Update class) = record { more = []; wire = sym (append-nil e.forward); next = refl }

take_passes : (e : LaneEndsView) (place : ℕ) (b : Bool) → Passes e (if b then record e { receiver = after_take e.receiver place } else e)
take_passes e place true = record { more = []; wire = sym (append-nil e.forward); next = refl }
take_passes e place false = same_ends e

-- a call that accepts nothing
through : (e : LaneEndsView) (f g : List WirePacket) (u : List CargoView) (call : Call) (calls : List Call) → Passes e (after_call e call) → accepted_by e call ≡ [] →
    e.forward ≡ f ++ g → e.receiver.receiving.next < 4096 → IsForward e.receiver.receiving.next u 2048 f →
    ((h : List WirePacket) → (after_call e call).forward ≡ f ++ h → (after_call e call).receiver.receiving.next < 4096 → IsForward (after_call e call).receiver.receiving.next u 2048 f →
    length (accepted_in (after_call e call) calls) ≤ length u) → length (accepted_in e (call ∷ calls)) ≤ length u
through e f g u call calls p a w n k rest =
    let later : length (accepted_in (after_call e call) calls) ≤ length u =
    rest (g ++ p.more) (p.wire ∙ ap (λ (ps : List WirePacket). ps ++ p.more) w ∙ append_assoc f g p.more)
    (subst (λ (m : ℕ). m < 4096) (sym p.next) n) (subst (λ (m : ℕ). IsForward m u 2048 f) (sym p.next) k) in
    let count = length-append (accepted_by e call) (accepted_in (after_call e call) calls) in
    let none : length (accepted_by e call) ≡ 0 = ap (λ (xs : List Item). length xs) a in
    omega (arith, later, count, none)

at_most_one : (o : Option Item) → length (list_of o) ≤ 1
at_most_one None = omega arith
at_most_one (Some item) = omega arith

-- a packet that arrives
arrives : (e : LaneEndsView) (p : WirePacket) (f g : List WirePacket) (u : List CargoView) (arrival : Arrival) (calls : List Call) →
    (arrival ≡ Answered Accept → p.number ≡ e.receiver.receiving.next) → e.receiver.receiving.next < 4096 → IsForward e.receiver.receiving.next u 2048 (p ∷ f) →
    ((v : List CargoView) → (receiving_on e.receiver.receiving arrival).next < 4096 → IsForward (receiving_on e.receiver.receiving arrival).next v 2048 f →
    length (accepted_in (record e { forward = f ++ g; receiver = after_arrival e.receiver p.cargo arrival }) calls) ≤ length v) →
    length (list_of (taken_on arrival p.cargo) ++ accepted_in (record e { forward = f ++ g; receiver = after_arrival e.receiver p.cargo arrival }) calls) ≤ length u
arrives e p f g u (Answered Accept) calls is n k rest =
    let next = e.receiver.receiving.next in
    let here : ahead_of p.number next ≡ 2048 = rw (is refl) (ahead_same next n) in
    let there : slice_get u 0 ≡ Some p.cargo = rw here at (k.0.cargo (omega arith)) in
    let first : u ≡ p.cargo ∷ drop 1 u = first_is u p.cargo there in
    let left : IsForward ((next + 1) % 4096) (drop 1 u) 2048 f =
    forward.accepted next p.cargo (drop 1 u) 2048 f n (omega arith)
    (subst (λ (v : List CargoView). IsForward next v 2049 f) first (forward.weaker next u (max 2048 (ahead_of p.number next + 1)) 2049 f (omega arith) k.1)) in
    let later : length (accepted_in (record e { forward = f ++ g; receiver = after_arrival e.receiver p.cargo (Answered Accept) }) calls) ≤ length (drop 1 u) = rest (drop 1 u) (omega arith) left in
    let one : length (list_of (item_spelled p.cargo)) ≤ 1 = at_most_one (item_spelled p.cargo) in
    let whole : length u ≡ length (drop 1 u) + 1 = ap (λ (v : List CargoView). length v) first ∙ (omega arith) in
    let count = length-append (list_of (item_spelled p.cargo)) (accepted_in (record e { forward = f ++ g; receiver = after_arrival e.receiver p.cargo (Answered Accept) }) calls) in
    omega (arith, later, one, whole, count)
arrives e p f g u (Answered Duplicate) calls is n k rest = rest u n (forward.weaker e.receiver.receiving.next u (max 2048 (ahead_of p.number e.receiver.receiving.next + 1)) 2048 f (omega arith) k.1)
arrives e p f g u (Answered NakNow) calls is n k rest = rest u n (forward.weaker e.receiver.receiving.next u (max 2048 (ahead_of p.number e.receiver.receiving.next + 1)) 2048 f (omega arith) k.1)
arrives e p f g u (Answered Quiet) calls is n k rest = rest u n (forward.weaker e.receiver.receiving.next u (max 2048 (ahead_of p.number e.receiver.receiving.next + 1)) 2048 f (omega arith) k.1)
arrives e p f g u Gone calls is n k rest = rest u n (forward.weaker e.receiver.receiving.next u (max 2048 (ahead_of p.number e.receiver.receiving.next + 1)) 2048 f (omega arith) k.1)

-- while packets that were under way are delivered, no more are accepted than were waited for
bounded : (e : LaneEndsView) (f g : List WirePacket) (u : List CargoView) (calls : List Call) → e.forward ≡ f ++ g → deliveries calls ≤ length f → e.receiver.receiving.next < 4096 →
    IsForward e.receiver.receiving.next u 2048 f → length (accepted_in e calls) ≤ length u
bounded e f g u [] w d n k = omega arith
bounded e [] g u (Deliver fate ∷ calls) w d n k = absurd (omega (arith, d))
bounded e (p ∷ f) g u (Deliver fate ∷ calls) w d n k =
    let arrival = arrival_of e.receiver.receiving p.number fate in
    let few : deliveries calls ≤ length f = omega (arith, d) in
    subst (λ (ps : List WirePacket). length (accepted_from ps e.receiver fate ++ accepted_in (record e { forward = all_but_first ps; receiver = after_deliver ps e.receiver fate }) calls) ≤ length u)
    (sym w)
    (arrives e p f g u arrival calls (arrival_accepts e.receiver.receiving p.number fate) n k
    (λ v m h. bounded (record e { forward = f ++ g; receiver = after_arrival e.receiver p.cargo arrival }) f g v calls refl few m h))
bounded e f g u (MakeRoom need ∷ calls) w d n k =
    through e f g u (MakeRoom need) calls (sender_passes e (with_room e.sender) (may_enter e.sender need)) refl w n k
    (λ h x m q. bounded (after_call e (MakeRoom need)) f h u calls x (omega (arith, d)) m q)
bounded e f g u (Release ∷ calls) w d n k =
    through e f g u Release calls (record { more = []; wire = sym (append-nil e.forward); next = refl }) refl w n k
    (λ h x m q. bounded (after_call e Release) f h u calls x (omega (arith, d)) m q)
bounded e f g u (Enter t mark ∷ calls) w d n k =
    through e f g u (Enter t mark) calls (sender_passes e (entered e.sender t mark) (may_enter e.sender (need_of t))) refl w n k
    (λ h x m q. bounded (after_call e (Enter t mark)) f h u calls x (omega (arith, d)) m q)
bounded e f g u (Transmit ∷ calls) w d n k =
    through e f g u Transmit calls (record { more = packets_sent e.sender.sending (next_item e.sender.sending); wire = refl; next = refl }) refl w n k
    (λ h x m q. bounded (after_call e Transmit) f h u calls x (omega (arith, d)) m q)
bounded e f g u (SendDllp kind ∷ calls) w d n k =
    through e f g u (SendDllp kind) calls (send_passes e kind) refl w n k
    (λ h x m q. bounded (after_call e (SendDllp kind)) f h u calls x (omega (arith, d)) m q)
bounded e f g u (DeliverDllp fate ∷ calls) w d n k =
    through e f g u (DeliverDllp fate) calls (record { more = []; wire = sym (append-nil e.forward); next = refl }) refl w n k
    (λ h x m q. bounded (after_call e (DeliverDllp fate)) f h u calls x (omega (arith, d)) m q)
bounded e f g u (Timer ∷ calls) w d n k =
    through e f g u Timer calls (record { more = []; wire = sym (append-nil e.forward); next = refl }) refl w n k
    (λ h x m q. bounded (after_call e Timer) f h u calls x (omega (arith, d)) m q)
bounded e f g u (Retrained ∷ calls) w d n k =
    through e f g u Retrained calls (record { more = []; wire = sym (append-nil e.forward); next = refl }) refl w n k
    (λ h x m q. bounded (after_call e Retrained) f h u calls x (omega (arith, d)) m q)
bounded e f g u (Take place ∷ calls) w d n k =
    through e f g u (Take place) calls (take_passes e place (is_takeable e.receiver.queue place)) refl w n k
    (λ h x m q. bounded (after_call e (Take place)) f h u calls x (omega (arith, d)) m q)

-- each packet on the way is one item

count_one : (o : Option Item) (item : Item) (xs : List Item) → o ≡ Some item → length (cons_option o xs) ≡ length xs + 1
count_one (Some x) item xs e = omega arith
count_one None item xs e = cc

all_items : (cs : List CargoView) → All IsSpelled cs → length (items_of cs) ≡ length cs
all_items [] k = refl
all_items (c ∷ cs) k =
    let first = spelled_some c (k 0 c (omega arith)) in
    let one : length (items_of (c ∷ cs)) ≡ length (items_of cs) + 1 = count_one (item_spelled c) first.0 (items_of cs) first.1 in
    let rest : length (items_of cs) ≡ length cs = all_items cs (All-drop IsSpelled 1 (c ∷ cs) k) in
    omega (arith, one, rest)

-- ---- a packet that is sent

there : (kept : List CargoView) (place : ℕ) (stopped : Bool) (f : CargoView → ℕ) (number : ℕ) → option_map f (if stopped then None else slice_get kept place) ≡ Some number → place < length kept
there kept place true f number h = cc
there kept place false f number h = by_place (slice_get kept place) refl h
  where
    by_place : (o : Option CargoView) → slice_get kept place ≡ o → option_map f o ≡ Some number → place < length kept
    by_place None e h = cc
    by_place (Some cargo) e h = slice_get_within kept place cargo e

pub sent_is_kept : (s : SenderEndView) (number : ℕ) → transmitted s ≡ Some number → s.sending.place < length s.sending.kept
sent_is_kept s number h = there s.sending.kept s.sending.place s.sending.stopped (λ cargo. number_at s.sending s.sending.place) number h

-- ---- a whole list of calls

accepted_more : (e : LaneEndsView) (xs ys : List Call) → accepted_in e (xs ++ ys) ≡ accepted_in e xs ++ accepted_in (after_calls e xs) ys
accepted_more e [] ys = refl
accepted_more e (call ∷ calls) ys =
    ap (λ (items : List Item). accepted_by e call ++ items) (accepted_more (after_call e call) calls ys)
    ∙ sym (append_assoc (accepted_by e call) (accepted_in (after_call e call) calls) (accepted_in (after_calls (after_call e call) calls) ys))

pub within : IsRead → (credits : LaneCredits) (before after : List Call) → AreCalls before → deliveries after ≤ length (after_calls (new_lane credits) before).forward →
    (oldest_unacknowledged credits before ≤ next_accepted credits (before ++ after)) × (next_accepted credits (before ++ after) ≤ next_entered credits before)
within read credits before after i d =
    let e = after_calls (new_lane credits) before in
    let k : IsSound e = (run_sound read (new_lane credits) before i (new_sound credits)).0 in
    let waiting = unaccepted_of e.sender.sending e.receiver.receiving.next in
    let more : length (accepted_in e after) ≤ length waiting =
    bounded e e.forward [] waiting after (sym (append-nil e.forward)) d k.numbered.next_in_range k.numbered.packets in
    let items : length (on_the_way e) ≡ length waiting =
    all_items waiting (All-drop IsSpelled (received_of e.sender.sending e.receiver.receiving.next) e.sender.sending.kept k.spelled) in
    let kept : length waiting ≡ length e.sender.sending.kept - received_of e.sender.sending e.receiver.receiving.next =
    length-drop (received_of e.sender.sending e.receiver.receiving.next) e.sender.sending.kept in
    let rest : length (accepted_in (new_lane credits) before ++ on_the_way e) ≡ next_entered credits before =
    ap (λ (xs : List Item). length xs) (accepted_rest read credits before i) in
    let first : length (accepted_in (new_lane credits) before ++ on_the_way e) ≡ length (accepted_in (new_lane credits) before) + length (on_the_way e) =
    length-append (accepted_in (new_lane credits) before) (on_the_way e) in
    let all : next_accepted credits (before ++ after) ≡ length (accepted_in (new_lane credits) before) + length (accepted_in e after) =
    ap (λ (xs : List Item). length xs) (accepted_more (new_lane credits) before after) ∙ length-append (accepted_in (new_lane credits) before) (accepted_in e after) in
    (omega (arith, more, items, kept, rest, first, all), omega (arith, more, items, kept, rest, first, all))
