-- What was used is what was entered, and what was given is the first value and what was taken.
use Rattle.std.proofs.Common.{◌≡◌, ℕ, ◌+◌, Bool, true, false, List, [], ◌∷◌, ◌++◌, length, map, filter, Option, Some, None, refl, sym, ◌∙◌, ap, subst, arith, zero-add, add-zero}
use Rattle.std.specs.Prelude.{slice_get, nat_lt, if◌then◌else◌}
use Rattle.std.specs.Option.{option_map}
use Rattle.std.proofs.lemmas.List.{map-append}
use Rattle.std.proofs.lemmas.List.Sums.{sum_by-append}
use Rattle.tlp_core.specs.TlpView.{TlpView}
use Rattle.tlp_core.specs.Layout.{Spells, canonical}
use Rattle.dllp_core.specs.declared.packet.Class.{Class}
use Rattle.dllp_core.specs.declared.packet.Dllp.{Dllp}
use Rattle.dllp_core.specs.declared.packet.Dllp.TheVariants.{Ack, Nak, Update}
use Rattle.flow_control.specs.declared.needs.Need.{Need}
use Rattle.flow_control.specs.declared.limits.LaneCredits.{LaneCredits}
use Rattle.flow_control.specs.Needs.{need_of}
use Rattle.flow_control.specs.Credits.{same, amount, first_of, gate_covers}
use Rattle.flow_control.specs.Account.{Account, Accounts, Direction, Event, Consume, Receive, Free, demand, uses, loses, learns, told_to, lost_to, known_to, may_go, used_if, received_by, given_by, first_numbers, after_event, numbers_after, after_events, numbers_in}
use Rattle.flow_control.specs.Queue.{Item, is_takeable}
use Rattle.lane_core.specs.declared.packet.Fate.{Fate}
use Rattle.lane_core.specs.declared.packet.Fate.TheVariants.{Good, Failed, Lost}
use Rattle.lane_core.specs.declared.packet.DllpKind.{DllpKind}
use Rattle.lane_core.specs.declared.packet.DllpKind.TheVariants as kinds
use Rattle.lane_core.specs.declared.packet.WirePacket.{WirePacket}
use Rattle.lane_core.specs.Steps.{LaneEndsView, ReceiverEndView, new_lane, may_enter, arrival_of, taken_on}
use Rattle.lane_core.specs.Calls.{Call, MakeRoom, Release, Enter, Transmit, Deliver, SendDllp, DeliverDllp, Timer, Retrained, Take, IsCall, AreCalls, after_call, list_of, accepted_from, entered_by, taken_by, entered_in, taken_in}
use Rattle.lane_core.specs.Credit.{needs_of, is_update, direction_of, dllp_events, events_of, events_in, numbers_of}
use Rattle.lane_core.proofs.Below.{Below}
use Rattle.lane_core.proofs.Sound.{IsSound, both_true, step_sound, new_sound}
use Rattle.lane_core.proofs.Directions.{goes, need_there, step_direction}

-- what a call adds to the used and to the given
record Adds (before after : Account) (entered taken : ℕ) : Type 0 where
  used : after.used ≡ before.used + entered
  given : after.given ≡ before.given + taken

nothing : (before after : Account) → (after.used ≡ before.used) × (after.given ≡ before.given) → Adds before after 0 0
nothing before after e = record { used = omega (arith, e.0); given = omega (arith, e.1) }

same_used : (n : Account) → Adds n n 0 0
same_used n = nothing n n (refl, refl)

loses_same : (n : Account) (vs : List ℕ) → ((loses n vs).used ≡ n.used) × ((loses n vs).given ≡ n.given)
loses_same n [] = (refl, refl)
loses_same n (v ∷ vs) = (refl, refl)

learns_same : (n : Account) (vs : List ℕ) → ((learns n vs).used ≡ n.used) × ((learns n vs).given ≡ n.given)
learns_same n [] = (refl, refl)
learns_same n (v ∷ vs) = (refl, refl)

lost_same : (b : Bool) (n : Account) → ((lost_to b n).used ≡ n.used) × ((lost_to b n).given ≡ n.given)
lost_same true n = loses_same n n.sent
lost_same false n = (refl, refl)

known_same : (b : Bool) (n : Account) → ((known_to b n).used ≡ n.used) × ((known_to b n).given ≡ n.given)
known_same true n = learns_same n n.sent
known_same false n = (refl, refl)

told_same : (b : Bool) (n : Account) → ((told_to b n).used ≡ n.used) × ((told_to b n).given ≡ n.given)
told_same true n = (refl, refl)
told_same false n = (refl, refl)

dllp_adds : (d : Direction) (numbers : Accounts) (back : List Dllp) (fate : Fate) (c : Class) (p : _) → d.wire ≡ filter is_update back →
    Adds (numbers c p) (numbers_in d numbers (dllp_events back fate) c p) 0 0
dllp_adds d numbers [] fate c p e = same_used (numbers c p)
dllp_adds d numbers (Ack number ∷ ds) fate c p e = same_used (numbers c p)
dllp_adds d numbers (Nak number ∷ ds) fate c p e = same_used (numbers c p)
dllp_adds d numbers (Update class header units ∷ ds) Good c p e = rw e (nothing (numbers c p) _ (known_same (same c class) (numbers c p)))
dllp_adds d numbers (Update class header units ∷ ds) Failed c p e = rw e (nothing (numbers c p) _ (lost_same (same c class) (numbers c p)))
dllp_adds d numbers (Update class header units ∷ ds) Lost c p e = rw e (nothing (numbers c p) _ (lost_same (same c class) (numbers c p)))

send_adds : (d : Direction) (e : LaneEndsView) (numbers : Accounts) (kind : DllpKind) (c : Class) (p : _) →
    Adds (numbers c p) (numbers_in d numbers (events_of e (SendDllp kind)) c p) 0 0
send_adds d e numbers kinds.Answer c p = same_used (numbers c p)
send_adds d e numbers (kinds.Update class) c p = nothing (numbers c p) _ (told_same (same c class) (numbers c p))

received_adds : (needs : List Need) (numbers : Accounts) (c : Class) (p : _) → Adds (numbers c p) (received_by needs numbers c p) 0 0
received_adds [] numbers c p = same_used (numbers c p)
received_adds (need ∷ needs) numbers c p = nothing (numbers c p) _ (refl, refl)

arrival_adds : (d : Direction) (numbers : Accounts) (o : Option Item) (c : Class) (p : _) →
    Adds (numbers c p) (numbers_in d numbers (map (λ (item : Item). Receive) (list_of o)) c p) 0 0
arrival_adds d numbers None c p = same_used (numbers c p)
arrival_adds d numbers (Some item) c p = received_adds d.on_the_way numbers c p

deliver_adds : (d : Direction) (numbers : Accounts) (f : List WirePacket) (r : ReceiverEndView) (fate : Fate) (c : Class) (p : _) →
    Adds (numbers c p) (numbers_in d numbers (map (λ (item : Item). Receive) (accepted_from f r fate)) c p) 0 0
deliver_adds d numbers [] r fate c p = same_used (numbers c p)
deliver_adds d numbers (q ∷ f) r fate c p = arrival_adds d numbers (taken_on (arrival_of r.receiving q.number fate) q.cargo) c p

one_need : (c : Class) (p : _) (need : Need) → demand c p (need ∷ []) ≡ amount c p need
one_need c p need = zero-add (amount c p need)

used_true : (numbers : Accounts) (need : Need) (b : Bool) → b ≡ true → (c : Class) (p : _) → used_if b numbers need c p ≡ uses (numbers c p) (amount c p need)
used_true numbers need true e c p = refl
used_true numbers need false e c p = cc

enter_adds : Below → (e : LaneEndsView) (numbers : Accounts) (t : TlpView) (mark : ℕ) (b : Bool) → may_enter e.sender (need_of t) ≡ b → Spells (canonical t) t → (c : Class) (p : _) →
    Adds (numbers c p) (numbers_in (direction_of e) numbers (if b then Consume (need_of t) ∷ [] else []) c p) (demand c p (needs_of (if b then (t, mark) ∷ [] else []))) 0
enter_adds laws e numbers t mark true h s c p =
    let tests = both_true (gate_covers e.sender.gate (need_of t)) (nat_lt (length e.sender.sending.kept) 2047) h in
    let gone : may_go e.sender.gate (need_of t) ≡ true = goes laws e.sender.gate t s.grammar tests.0 in
    rw (used_true numbers (need_of t) (may_go e.sender.gate (need_of t)) gone c p)
    (record { used = ap (λ (n : ℕ). (numbers c p).used + n) (sym (one_need c p (need_of t))); given = sym (add-zero (numbers c p).given) })
enter_adds laws e numbers t mark false h s c p = same_used (numbers c p)

freed_adds : (numbers : Accounts) (o : Option Item) (c : Class) (p : _) →
    Adds (numbers c p) (given_by (option_map (λ (item : Item). need_of item.0) o) numbers c p) 0 (demand c p (needs_of (list_of o)))
freed_adds numbers None c p = same_used (numbers c p)
freed_adds numbers (Some item) c p =
    record { used = sym (add-zero (numbers c p).used); given = ap (λ (n : ℕ). (numbers c p).given + n) (sym (one_need c p (need_of item.0))) }

take_adds : (e : LaneEndsView) (numbers : Accounts) (place : ℕ) (b : Bool) (c : Class) (p : _) →
    Adds (numbers c p) (numbers_in (direction_of e) numbers (if b then Free place ∷ [] else []) c p) 0
    (demand c p (needs_of (if b then list_of (slice_get e.receiver.queue place) else [])))
take_adds e numbers place true c p = rw (need_there e.receiver.queue place) (freed_adds numbers (slice_get e.receiver.queue place) c p)
take_adds e numbers place false c p = same_used (numbers c p)

call_adds : Below → (e : LaneEndsView) (numbers : Accounts) (call : Call) → IsCall call → (c : Class) (p : _) →
    Adds (numbers c p) (numbers_in (direction_of e) numbers (events_of e call) c p) (demand c p (needs_of (entered_by e call))) (demand c p (needs_of (taken_by e call)))
call_adds laws e numbers (MakeRoom need) i c p = same_used (numbers c p)
call_adds laws e numbers Release i c p = same_used (numbers c p)
call_adds laws e numbers (Enter t mark) i c p = enter_adds laws e numbers t mark (may_enter e.sender (need_of t)) refl i c p
call_adds laws e numbers Transmit i c p = same_used (numbers c p)
call_adds laws e numbers (Deliver fate) i c p = deliver_adds (direction_of e) numbers e.forward e.receiver fate c p
call_adds laws e numbers (SendDllp kind) i c p = send_adds (direction_of e) e numbers kind c p
call_adds laws e numbers (DeliverDllp fate) i c p = dllp_adds (direction_of e) numbers e.back fate c p refl
call_adds laws e numbers Timer i c p = same_used (numbers c p)
call_adds laws e numbers Retrained i c p = same_used (numbers c p)
call_adds laws e numbers (Take place) i c p = take_adds e numbers place (is_takeable e.receiver.queue place) c p

numbers_append : (d : Direction) (numbers : Accounts) (xs ys : List Event) → numbers_in d numbers (xs ++ ys) ≡ numbers_in (after_events d xs) (numbers_in d numbers xs) ys
numbers_append d numbers [] ys = refl
numbers_append d numbers (x ∷ xs) ys = numbers_append (after_event d x) (numbers_after d numbers x) xs ys

pub demand_append : (c : Class) (p : _) (xs ys : List Item) → demand c p (needs_of (xs ++ ys)) ≡ demand c p (needs_of xs) + demand c p (needs_of ys)
demand_append c p xs ys =
    ap (λ (needs : List Need). demand c p needs) (map-append (λ (item : Item). need_of item.0) xs ys) ∙ sum_by-append (amount c p) (needs_of xs) (needs_of ys)

run_adds : Below → (e : LaneEndsView) (numbers : Accounts) (calls : List Call) → AreCalls calls → IsSound e → (c : Class) (p : _) →
    Adds (numbers c p) (numbers_in (direction_of e) numbers (events_in e calls) c p) (demand c p (needs_of (entered_in e calls))) (demand c p (needs_of (taken_in e calls)))
run_adds laws e numbers [] i k c p = same_used (numbers c p)
run_adds laws e numbers (call ∷ calls) i k c p =
    let middle = numbers_in (direction_of e) numbers (events_of e call) in
    let one = call_adds laws e numbers call i.0 c p in
    let rest = run_adds laws (after_call e call) middle calls i.1 (step_sound laws.read e call i.0 k).0 c p in
    let last : numbers_in (direction_of e) numbers (events_in e (call ∷ calls)) ≡ numbers_in (direction_of (after_call e call)) middle (events_in (after_call e call) calls) =
    numbers_append (direction_of e) numbers (events_of e call) (events_in (after_call e call) calls)
    ∙ ap (λ (d : Direction). numbers_in d middle (events_in (after_call e call) calls)) (sym (step_direction laws e call i.0 k)) in
    let entered = demand_append c p (entered_by e call) (entered_in (after_call e call) calls) in
    let taken = demand_append c p (taken_by e call) (taken_in (after_call e call) calls) in
    subst (λ (after : Accounts). Adds (numbers c p) (after c p) (demand c p (needs_of (entered_in e (call ∷ calls)))) (demand c p (needs_of (taken_in e (call ∷ calls)))))
    (sym last) (record { used = omega (arith, one.used, rest.used, entered); given = omega (arith, one.given, rest.given, taken) })

lane_adds : Below → (credits : LaneCredits) (calls : List Call) (c : Class) (p : _) → AreCalls calls →
    Adds (first_numbers credits c p) (numbers_of credits calls c p) (demand c p (needs_of (entered_in (new_lane credits) calls))) (demand c p (needs_of (taken_in (new_lane credits) calls)))
lane_adds laws credits calls c p i = run_adds laws (new_lane credits) (first_numbers credits) calls i (new_sound credits) c p

pub used_is : Below → (credits : LaneCredits) (calls : List Call) (c : Class) (p : _) → AreCalls calls →
    (numbers_of credits calls c p).used ≡ demand c p (needs_of (entered_in (new_lane credits) calls))
used_is laws credits calls c p i = (lane_adds laws credits calls c p i).used ∙ zero-add _

pub given_is : Below → (credits : LaneCredits) (calls : List Call) (c : Class) (p : _) → AreCalls calls →
    (numbers_of credits calls c p).given ≡ first_of c p credits + demand c p (needs_of (taken_in (new_lane credits) calls))
given_is laws credits calls c p i = (lane_adds laws credits calls c p i).given
