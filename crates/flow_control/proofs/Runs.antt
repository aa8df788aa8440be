-- Whatever calls come, the counters of a new direction stand for whole numbers.
use Rattle.std.proofs.Common.{◌≡◌, ◌↔◌, ℕ, zero, suc, ◌+◌, ◌%◌, ◌<◌, ◌≤◌, Bool, true, false, IsTrue, List, [], ◌∷◌, Option, Some, None, refl, ap, ◌∙◌, subst, arith}
use Rattle.std.specs.Prelude.{nat_le, slice_get}
use Rattle.std.proofs.Common.{inl, inr}
use Rattle.std.proofs.lemmas.Bool.Decides.{nat_tests}
use Rattle.dllp_core.specs.declared.packet.Class.{Class}
use Rattle.dllp_core.specs.declared.packet.Class.TheVariants.{Posted, NonPosted, Completion}
use Rattle.dllp_core.specs.declared.packet.Dllp.{Dllp}
use Rattle.dllp_core.specs.declared.packet.Dllp.TheVariants.{Ack, Nak, Update}
use Rattle.flow_control.specs.declared.needs.Need.{Need}
use Rattle.flow_control.specs.declared.limits.LaneCredits.{LaneCredits}
use Rattle.flow_control.specs.declared.counter.Part.{Part}
use Rattle.flow_control.specs.declared.counter.Part.TheVariants.{Header, Data}
use Rattle.flow_control.specs.declared.ledger.CreditLedger.{CreditLedger}
use Rattle.flow_control.specs.Limits.{IsInfiniteOrBetween, IsInLimits}
use Rattle.flow_control.specs.Credits.{CreditGateView, modulus, most, pick, covers, gate_of, gate_covers, first_of, allowance, grant, first_gate, first_ledger, new_allowance, new_grant, allocated}
use Rattle.flow_control.specs.Account.{Accounts, IsCredit, HasCredit, IsRight, demand, updates_in, Direction, Event, Consume, Receive, Free, Tell, Learn, Lose, is_small, may_go, consumed_if, used_if, received_from, received_by, freed_at, given_by, learned_from, known_from, lost_from, unlearned_from, after_event, numbers_after, new_direction, first_numbers, after_events, numbers_in}
use Rattle.flow_control.proofs.Fits.{both, small, covered_parts, parts_covered, infinite_counter}
use Rattle.flow_control.proofs.Counters.{right, all_known}
use Rattle.flow_control.proofs.Six.{consumed_credit, received_credit, freed_credit, told_credit, lost_credit, known_credit}

-- each event

small_parts : (need : Need) → IsTrue (is_small need) → (p : Part) → pick p need.header need.units ≤ most p
small_parts need t p =
    let h : need.header ≤ 127 = grind (arith, nat_tests, both (nat_le need.header 127) (nat_le need.units 2047) t) in
    let u : need.units ≤ 2047 = grind (arith, nat_tests, both (nat_le need.header 127) (nat_le need.units 2047) t) in
    small p need.header need.units h u

consumed_by_test : (credits : LaneCredits) (d : Direction) (numbers : Accounts) (need : Need) (b : Bool) → may_go d.gate need ≡ b →
    HasCredit credits d.gate d.ledger numbers d.queue d.on_the_way d.wire →
    HasCredit credits (consumed_if b d need).gate (consumed_if b d need).ledger (used_if b numbers need) (consumed_if b d need).queue (consumed_if b d need).on_the_way (consumed_if b d need).wire
consumed_by_test credits d numbers need true e k =
    let t = both (is_small need) (gate_covers d.gate need) e in
    consumed_credit credits d.gate d.ledger numbers d.queue d.on_the_way d.wire need (small_parts need t.0) t.1 k
consumed_by_test credits d numbers need false e k = k

received_by_list : (credits : LaneCredits) (d : Direction) (numbers : Accounts) (way : List Need) → d.on_the_way ≡ way →
    HasCredit credits d.gate d.ledger numbers d.queue d.on_the_way d.wire →
    HasCredit credits (received_from way d).gate (received_from way d).ledger (received_by way numbers) (received_from way d).queue (received_from way d).on_the_way (received_from way d).wire
received_by_list credits d numbers [] e k = k
received_by_list credits d numbers (need ∷ needs) e k =
    received_credit credits d.gate d.ledger numbers d.queue needs d.wire need
    (subst (λ (way : List Need). HasCredit credits d.gate d.ledger numbers d.queue way d.wire) e k)

freed_by_option : (credits : LaneCredits) (d : Direction) (numbers : Accounts) (place : ℕ) (found : Option Need) → slice_get d.queue place ≡ found →
    HasCredit credits d.gate d.ledger numbers d.queue d.on_the_way d.wire →
    HasCredit credits (freed_at found d place).gate (freed_at found d place).ledger (given_by found numbers) (freed_at found d place).queue (freed_at found d place).on_the_way (freed_at found d place).wire
freed_by_option credits d numbers place None e k = k
freed_by_option credits d numbers place (Some need) e k =
    freed_credit credits d.gate d.ledger numbers d.queue d.on_the_way d.wire place need e k

learned_by_list : (credits : LaneCredits) (d : Direction) (numbers : Accounts) (wire : List Dllp) → d.wire ≡ wire →
    HasCredit credits d.gate d.ledger numbers d.queue d.on_the_way d.wire →
    HasCredit credits (learned_from wire d).gate (learned_from wire d).ledger (known_from wire numbers) (learned_from wire d).queue (learned_from wire d).on_the_way (learned_from wire d).wire
learned_by_list credits d numbers [] e k = k
learned_by_list credits d numbers (Update class header units ∷ dllps) e k =
    known_credit credits d.gate d.ledger numbers d.queue d.on_the_way dllps class header units
    (subst (λ (wire : List Dllp). HasCredit credits d.gate d.ledger numbers d.queue d.on_the_way wire) e k)
learned_by_list credits d numbers (Ack a ∷ dllps) e k =
    subst (λ (wire : List Dllp). HasCredit credits d.gate d.ledger numbers d.queue d.on_the_way wire) e k
learned_by_list credits d numbers (Nak a ∷ dllps) e k =
    subst (λ (wire : List Dllp). HasCredit credits d.gate d.ledger numbers d.queue d.on_the_way wire) e k

lost_by_list : (credits : LaneCredits) (d : Direction) (numbers : Accounts) (wire : List Dllp) → d.wire ≡ wire →
    HasCredit credits d.gate d.ledger numbers d.queue d.on_the_way d.wire →
    HasCredit credits (lost_from wire d).gate (lost_from wire d).ledger (unlearned_from wire numbers) (lost_from wire d).queue (lost_from wire d).on_the_way (lost_from wire d).wire
lost_by_list credits d numbers [] e k = k
lost_by_list credits d numbers (Update class header units ∷ dllps) e k =
    lost_credit credits d.gate d.ledger numbers d.queue d.on_the_way dllps class header units
    (subst (λ (wire : List Dllp). HasCredit credits d.gate d.ledger numbers d.queue d.on_the_way wire) e k)
lost_by_list credits d numbers (Ack a ∷ dllps) e k =
    subst (λ (wire : List Dllp). HasCredit credits d.gate d.ledger numbers d.queue d.on_the_way wire) e k
lost_by_list credits d numbers (Nak a ∷ dllps) e k =
    subst (λ (wire : List Dllp). HasCredit credits d.gate d.ledger numbers d.queue d.on_the_way wire) e k

pub kept : (credits : LaneCredits) (d : Direction) (numbers : Accounts) (event : Event) →
    HasCredit credits d.gate d.ledger numbers d.queue d.on_the_way d.wire →
    HasCredit credits (after_event d event).gate (after_event d event).ledger (numbers_after d numbers event) (after_event d event).queue (after_event d event).on_the_way (after_event d event).wire
kept credits d numbers (Consume need) k = consumed_by_test credits d numbers need (may_go d.gate need) refl k
kept credits d numbers Receive k = received_by_list credits d numbers d.on_the_way refl k
kept credits d numbers (Free place) k = freed_by_option credits d numbers place (slice_get d.queue place) refl k
kept credits d numbers (Tell class) k = told_credit credits d.gate d.ledger numbers d.queue d.on_the_way d.wire class k
kept credits d numbers Learn k = learned_by_list credits d numbers d.wire refl k
kept credits d numbers Lose k = lost_by_list credits d numbers d.wire refl k

-- a new direction

between_most : (least first : ℕ) (high : ℕ) → IsInfiniteOrBetween least high first → first ≤ high
between_most least first high (inl e) = omega arith
between_most least first high (inr h) = h.1

pub first_small : (credits : LaneCredits) (c : Class) (p : Part) → IsInLimits credits → first_of c p credits ≤ most p
first_small credits Posted Header l = between_most 1 credits.ph 127 l.ph
first_small credits Posted Data l = between_most 8 credits.pd 2047 l.pd
first_small credits NonPosted Header l = between_most 1 credits.nph 127 l.nph
first_small credits NonPosted Data l = between_most 2 credits.npd 2047 l.npd
first_small credits Completion Header l = between_most 1 credits.cplh 127 l.cplh
first_small credits Completion Data l = between_most 8 credits.cpld 2047 l.cpld

new_gate : (credits : LaneCredits) (c : Class) (p : Part) → allowance c p (first_gate credits) ≡ new_allowance p (first_of c p credits)
new_gate credits Posted Header = refl
new_gate credits Posted Data = refl
new_gate credits NonPosted Header = refl
new_gate credits NonPosted Data = refl
new_gate credits Completion Header = refl
new_gate credits Completion Data = refl

new_ledger : (credits : LaneCredits) (c : Class) (p : Part) → grant c p (first_ledger credits) ≡ new_grant (first_of c p credits)
new_ledger credits Posted Header = refl
new_ledger credits Posted Data = refl
new_ledger credits NonPosted Header = refl
new_ledger credits NonPosted Data = refl
new_ledger credits Completion Header = refl
new_ledger credits Completion Data = refl

pub zero_wraps : (p : Part) → 0 ≡ 0 % modulus p
zero_wraps Header = refl
zero_wraps Data = refl

new_counter : (p : Part) (first : ℕ) → first ≤ most p →
    IsCredit p first (new_allowance p first) (new_grant first) (record { given = first; known = first; used = 0; received = 0; sent = [] }) 0 0 []
new_counter p first s =
    record {
      gate_first = refl;
      ledger_first = refl;
      small = s;
      counted = λ q.
          record {
            limit = refl;
            consumed = zero_wraps p;
            allocated = ap (λ (n : ℕ). n % modulus p) (omega arith);
            received = zero_wraps p;
            carried = refl;
            used_known = omega arith;
            rising = omega arith;
            queued = omega arith;
            under_way = refl;
          };
    }

pub new_credit : (credits : LaneCredits) → IsInLimits credits →
    HasCredit credits (new_direction credits).gate (new_direction credits).ledger (first_numbers credits) [] [] []
new_credit credits l = λ c p. rw (new_gate credits c p, new_ledger credits c p) (new_counter p (first_of c p credits) (first_small credits c p l))

-- any list of events

pub run_credit : (credits : LaneCredits) (d : Direction) (numbers : Accounts) (events : List Event) →
    HasCredit credits d.gate d.ledger numbers d.queue d.on_the_way d.wire →
    HasCredit credits (after_events d events).gate (after_events d events).ledger (numbers_in d numbers events) (after_events d events).queue (after_events d events).on_the_way (after_events d events).wire
run_credit credits d numbers [] k = k
run_credit credits d numbers (event ∷ events) k =
    run_credit credits (after_event d event) (numbers_after d numbers event) events (kept credits d numbers event k)

pub account : (credits : LaneCredits) (events : List Event) → IsInLimits credits →
    HasCredit credits (after_events (new_direction credits) events).gate (after_events (new_direction credits) events).ledger
    (numbers_in (new_direction credits) (first_numbers credits) events)
    (after_events (new_direction credits) events).queue (after_events (new_direction credits) events).on_the_way (after_events (new_direction credits) events).wire
account credits events l = run_credit credits (new_direction credits) (first_numbers credits) events (new_credit credits l)

-- one finite counter
pub credit_right : (credits : LaneCredits) (gate : CreditGateView) (ledger : CreditLedger) (numbers : Accounts) (queue way : List Need) (wire : List Dllp) (c : Class) (p : Part) →
    HasCredit credits gate ledger numbers queue way wire → 0 < first_of c p credits →
    IsRight p (first_of c p credits) (allowance c p gate) (grant c p ledger) (numbers c p) (demand c p queue) (demand c p way)
credit_right credits gate ledger numbers queue way wire c p k q =
    let one = k c p in
    right p (first_of c p credits) (allowance c p gate) (grant c p ledger) (numbers c p) (demand c p queue) (demand c p way) (updates_in c p wire) q one.gate_first one.ledger_first one.small (one.counted q)

pub credit_known : (credits : LaneCredits) (gate : CreditGateView) (ledger : CreditLedger) (numbers : Accounts) (queue way : List Need) (wire : List Dllp) (c : Class) (p : Part) →
    HasCredit credits gate ledger numbers queue way wire → 0 < first_of c p credits → (allowance c p gate).limit ≡ allocated p (grant c p ledger) → (numbers c p).known ≡ (numbers c p).given
credit_known credits gate ledger numbers queue way wire c p k q e =
    let one = k c p in
    all_known p (first_of c p credits) (allowance c p gate) (grant c p ledger) (numbers c p) (demand c p queue) (demand c p way) (updates_in c p wire) one.small (one.counted q)
    (credit_right credits gate ledger numbers queue way wire c p k q) e

pub whole : (credits : LaneCredits) (events : List Event) (c : Class) (p : Part) → IsInLimits credits → 0 < first_of c p credits →
    IsRight p (first_of c p credits) (allowance c p (after_events (new_direction credits) events).gate) (grant c p (after_events (new_direction credits) events).ledger)
    (numbers_in (new_direction credits) (first_numbers credits) events c p)
    (demand c p (after_events (new_direction credits) events).queue) (demand c p (after_events (new_direction credits) events).on_the_way)
whole credits events c p l q =
    let d = after_events (new_direction credits) events in
    credit_right credits d.gate d.ledger (numbers_in (new_direction credits) (first_numbers credits) events) d.queue d.on_the_way d.wire c p (account credits events l) q

-- the gate covers exactly the needs that there is room for
pub room : (credits : LaneCredits) (events : List Event) (need : Need) → IsInLimits credits → need.header ≤ 127 → need.units ≤ 2047 →
    IsTrue (gate_covers (after_events (new_direction credits) events).gate need) ↔ ((p : Part) → 0 < first_of need.class p credits →
    (numbers_in (new_direction credits) (first_numbers credits) events need.class p).used + pick p need.header need.units ≤ (numbers_in (new_direction credits) (first_numbers credits) events need.class p).known)
room credits events need l h u = (
  λ t p f. ((whole credits events need.class p l f).room (pick p need.header need.units) (small p need.header need.units h u)).0
      (covered_parts (gate_of need.class (after_events (new_direction credits) events).gate) need.header need.units t p),
  λ r. parts_covered (gate_of need.class (after_events (new_direction credits) events).gate) need.header need.units
      (λ p. by_first p (first_of need.class p credits) refl (r p)),
)
  where
    by_first : (p : Part) (first : ℕ) → first_of need.class p credits ≡ first →
        (0 < first_of need.class p credits → (numbers_in (new_direction credits) (first_numbers credits) events need.class p).used + pick p need.header need.units ≤ (numbers_in (new_direction credits) (first_numbers credits) events need.class p).known) →
        IsTrue (covers p (allowance need.class p (after_events (new_direction credits) events).gate) (pick p need.header need.units))
    by_first p zero e r =
        infinite_counter p (allowance need.class p (after_events (new_direction credits) events).gate) (pick p need.header need.units)
        ((account credits events l need.class p).gate_first ∙ e)
    by_first p (suc first) e r =
        let finite : 0 < first_of need.class p credits = omega (arith, e) in
        ((whole credits events need.class p l finite).room (pick p need.header need.units) (small p need.header need.units h u)).1 (r finite)
