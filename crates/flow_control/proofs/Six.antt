-- What a call does to the six counters of a direction.
use Rattle.std.proofs.Common.{◌≡◌, ℕ, ◌+◌, ◌<◌, ◌≤◌, Bool, true, false, IsTrue, List, [], ◌∷◌, ◌++◌, sum_by, Some, None, refl, sym, ◌∙◌, ap, subst, zero, suc, arith, add-zero, zero-add}
use Rattle.std.specs.Prelude.{if◌then◌else◌, ◌==◌, slice_get, remove}
use Rattle.std.specs.List.{cons_option}
use Rattle.std.proofs.lemmas.List.{append-nil}
use Rattle.std.proofs.lemmas.List.Elements.{filter_map-append}
use Rattle.std.proofs.lemmas.List.Sums.{sum_by-append}
use Rattle.std.proofs.lemmas.Bool.Decides.{nat_tests}
use Rattle.dllp_core.specs.declared.packet.Class.{Class}
use Rattle.dllp_core.specs.declared.packet.Class.TheVariants.{Posted, NonPosted, Completion}
use Rattle.dllp_core.specs.declared.packet.Dllp.{Dllp}
use Rattle.dllp_core.specs.declared.packet.Dllp.TheVariants.{Update}
use Rattle.flow_control.specs.declared.needs.Need.{Need}
use Rattle.flow_control.specs.declared.limits.LaneCredits.{LaneCredits}
use Rattle.flow_control.specs.declared.counter.Part.{Part}
use Rattle.flow_control.specs.declared.counter.Part.TheVariants.{Header, Data}
use Rattle.flow_control.specs.declared.counter.Allowance.{Allowance}
use Rattle.flow_control.specs.declared.counter.Grant.{Grant}
use Rattle.flow_control.specs.declared.gate.ClassGate.{ClassGate}
use Rattle.flow_control.specs.declared.ledger.ClassLedger.{ClassLedger}
use Rattle.flow_control.specs.declared.ledger.CreditLedger.{CreditLedger}
use Rattle.flow_control.specs.Credits.{CreditGateView, most, same, pick, amount, covers, class_covers, gate_covers, spent, limited, taken_in, given_back, allocated, told, gate_of, ledger_of, allowance_in, grant_in, allowance, grant, with_gate, with_ledger, class_spent, class_limited, class_taken_in, class_given_back, after_consume, after_limit, after_received, after_freed, update_of, first_of}
use Rattle.flow_control.specs.Account.{Account, Accounts, IsCredit, HasCredit, demand, update_in, updates_in, uses, receives, gives, tells, loses, learns, told_to, lost_to, known_to}
use Rattle.flow_control.proofs.Fits.{covered_room, covered_parts}
use Rattle.flow_control.proofs.Counters.{stands, used_more, received_more, freed_more, told_more, lost_one, known_more}

-- a change of one class

pub gate_change : (F : ClassGate → ClassGate) (g : CreditGateView) (class c : Class) →
    gate_of c (with_gate g class (F (gate_of class g))) ≡ (if same c class then F (gate_of c g) else gate_of c g)
gate_change F g Posted Posted = refl
gate_change F g Posted NonPosted = refl
gate_change F g Posted Completion = refl
gate_change F g NonPosted Posted = refl
gate_change F g NonPosted NonPosted = refl
gate_change F g NonPosted Completion = refl
gate_change F g Completion Posted = refl
gate_change F g Completion NonPosted = refl
gate_change F g Completion Completion = refl

pub ledger_change : (F : ClassLedger → ClassLedger) (l : CreditLedger) (class c : Class) →
    ledger_of c (with_ledger l class (F (ledger_of class l))) ≡ (if same c class then F (ledger_of c l) else ledger_of c l)
ledger_change F l Posted Posted = refl
ledger_change F l Posted NonPosted = refl
ledger_change F l Posted Completion = refl
ledger_change F l NonPosted Posted = refl
ledger_change F l NonPosted NonPosted = refl
ledger_change F l NonPosted Completion = refl
ledger_change F l Completion Posted = refl
ledger_change F l Completion NonPosted = refl
ledger_change F l Completion Completion = refl

pub same_class : (c class : Class) → same c class ≡ true → c ≡ class
same_class Posted Posted e = refl
same_class NonPosted NonPosted e = refl
same_class Completion Completion e = refl
same_class Posted NonPosted e = cc
same_class Posted Completion e = cc
same_class NonPosted Posted e = cc
same_class NonPosted Completion e = cc
same_class Completion Posted e = cc
same_class Completion NonPosted e = cc

spent_part : (p : Part) (g : ClassGate) (header units : ℕ) → allowance_in p (class_spent g header units) ≡ spent p (allowance_in p g) (pick p header units)
spent_part Header g header units = refl
spent_part Data g header units = refl

limited_part : (p : Part) (g : ClassGate) (header units : ℕ) → allowance_in p (class_limited g header units) ≡ limited (allowance_in p g) (pick p header units)
limited_part Header g header units = refl
limited_part Data g header units = refl

taken_part : (p : Part) (l : ClassLedger) (header units : ℕ) → grant_in p (class_taken_in l header units) ≡ taken_in p (grant_in p l) (pick p header units)
taken_part Header l header units = refl
taken_part Data l header units = refl

given_part : (p : Part) (l : ClassLedger) (header units : ℕ) → grant_in p (class_given_back l header units) ≡ given_back p (grant_in p l) (pick p header units)
given_part Header l header units = refl
given_part Data l header units = refl

told_part : (p : Part) (l : ClassLedger) → pick p (told Header l.header) (told Data l.units) ≡ told p (grant_in p l)
told_part Header l = refl
told_part Data l = refl

-- one counter, of the class of the call

consumed_one : (p : Part) (first : ℕ) (a : Allowance) (g : Grant) (n : Account) (queue way units : ℕ) (ups : List ℕ) → units ≤ most p → IsTrue (covers p a units) → IsCredit p first a g n queue way ups →
    IsCredit p first (spent p a units) g (uses n units) queue (way + units) ups
consumed_one p first a g n queue way units ups m t k =
    record {
      gate_first = k.gate_first;
      ledger_first = k.ledger_first;
      small = k.small;
      counted = λ q.
          let counted = k.counted q in
          used_more p a g n queue way units ups
          (covered_room p a n.known n.used units (λ x. stands p a g n queue way ups (rw k.ledger_first k.small) counted) m t (rw k.gate_first q))
          counted;
    }

received_one : (p : Part) (first : ℕ) (a : Allowance) (g : Grant) (n : Account) (queue way units : ℕ) (ups : List ℕ) → IsCredit p first a g n queue (units + way) ups →
    IsCredit p first a (taken_in p g units) (receives n units) (queue + units) way ups
received_one p first a g n queue way units ups k =
    record {
      gate_first = k.gate_first;
      ledger_first = k.ledger_first;
      small = k.small;
      counted = λ q. received_more p a g n queue way units ups (k.counted q);
    }

freed_one : (p : Part) (first : ℕ) (a : Allowance) (g : Grant) (n : Account) (queue left way units : ℕ) (ups : List ℕ) → left + units ≡ queue → IsCredit p first a g n queue way ups →
    IsCredit p first a (given_back p g units) (gives n units) left way ups
freed_one p first a g n queue left way units ups h k =
    record {
      gate_first = k.gate_first;
      ledger_first = k.ledger_first;
      small = k.small;
      counted = λ q. freed_more p a g n queue left way units ups h (k.counted q);
    }

told_is : (p : Part) (g : Grant) → 0 < g.first → told p g ≡ allocated p g
told_is p g q = grind (arith, nat_tests)

told_one : (p : Part) (first : ℕ) (a : Allowance) (g : Grant) (n : Account) (queue way : ℕ) (ups : List ℕ) → IsCredit p first a g n queue way ups →
    IsCredit p first a g (tells n) queue way (ups ++ told p g ∷ [])
told_one p first a g n queue way ups k =
    record {
      gate_first = k.gate_first;
      ledger_first = k.ledger_first;
      small = k.small;
      counted = λ q. rw (told_is p g (rw k.ledger_first q)) (told_more p a g n queue way ups (k.counted q));
    }

lost_update : (p : Part) (first : ℕ) (a : Allowance) (g : Grant) (n : Account) (queue way u : ℕ) (ups : List ℕ) → IsCredit p first a g n queue way (u ∷ ups) →
    IsCredit p first a g (loses n n.sent) queue way ups
lost_update p first a g n queue way u ups k =
    record {
      gate_first = k.gate_first;
      ledger_first = k.ledger_first;
      small = k.small;
      counted = λ q. lost_one p a g n n.sent queue way u ups refl (k.counted q);
    }

abbrev limit_if : Allowance → ℕ → Bool → Allowance
limit_if a u t = record { first = a.first; limit = if t then a.limit else u; consumed = a.consumed }

not_infinite : (first : ℕ) → 0 < first → (first == 0) ≡ false
not_infinite first q = grind (arith, nat_tests)

limit_is : (a : Allowance) (u : ℕ) → 0 < a.first → limited a u ≡ record { first = a.first; limit = u; consumed = a.consumed }
limit_is a u q = ap (limit_if a u) (not_infinite a.first q)

known_update : (p : Part) (first : ℕ) (a : Allowance) (g : Grant) (n : Account) (queue way u : ℕ) (ups : List ℕ) → IsCredit p first a g n queue way (u ∷ ups) →
    IsCredit p first (limited a u) g (learns n n.sent) queue way ups
known_update p first a g n queue way u ups k =
    record {
      gate_first = k.gate_first;
      ledger_first = k.ledger_first;
      small = k.small;
      counted = λ q. rw (limit_is a u (rw k.gate_first q)) (known_more p a g n n.sent queue way u ups refl (k.counted q));
    }

-- a packet goes

consumed_if : (b : Bool) (p : Part) (first : ℕ) (g : ClassGate) (l : Grant) (n : Account) (queue way header units : ℕ) (ups : List ℕ) → pick p header units ≤ most p →
    (b ≡ true → IsTrue (class_covers g header units)) → IsCredit p first (allowance_in p g) l n queue way ups →
    IsCredit p first (allowance_in p (if b then class_spent g header units else g)) l (uses n (if b then pick p header units else 0)) queue (way + (if b then pick p header units else 0)) ups
consumed_if true p first g l n queue way header units ups m t k =
    rw (spent_part p g header units)
    (consumed_one p first (allowance_in p g) l n queue way (pick p header units) ups m (covered_parts g header units (t refl) p) k)
consumed_if false p first g l n queue way header units ups m t k = rw (add-zero way, add-zero n.used) k

pub demand_push : (c : Class) (p : Part) (needs : List Need) (need : Need) → demand c p (needs ++ need ∷ []) ≡ demand c p needs + amount c p need
demand_push c p needs need = sum_by-append (amount c p) needs (need ∷ []) ∙ ap (λ (n : ℕ). demand c p needs + n) (zero-add (amount c p need))

demand_first : (f : Need → ℕ) (need : Need) (needs : List Need) → sum_by f (need ∷ needs) ≡ f need + sum_by f needs
demand_first f need needs = let e = sum_by-append f (need ∷ []) needs in omega (arith, e)

pub consumed_credit : (credits : LaneCredits) (gate : CreditGateView) (ledger : CreditLedger) (numbers : Accounts) (queue way : List Need) (wire : List Dllp) (need : Need) →
    ((p : Part) → pick p need.header need.units ≤ most p) → IsTrue (gate_covers gate need) → HasCredit credits gate ledger numbers queue way wire →
    HasCredit credits (after_consume gate need) ledger (λ c p. uses (numbers c p) (amount c p need)) queue (way ++ need ∷ []) wire
consumed_credit credits gate ledger numbers queue way wire need m t k =
    λ c p. rw (gate_change (λ g. class_spent g need.header need.units) gate need.class c, demand_push c p way need)
    (consumed_if (same c need.class) p (first_of c p credits) (gate_of c gate) (grant c p ledger) (numbers c p) (demand c p queue) (demand c p way) need.header need.units (updates_in c p wire) (m p)
    (λ e. subst (λ (d : Class). IsTrue (class_covers (gate_of d gate) need.header need.units)) (sym (same_class c need.class e)) t) (k c p))

-- a packet is received

received_if : (b : Bool) (p : Part) (first : ℕ) (a : Allowance) (l : ClassLedger) (n : Account) (queue way header units : ℕ) (ups : List ℕ) →
    IsCredit p first a (grant_in p l) n queue ((if b then pick p header units else 0) + way) ups →
    IsCredit p first a (grant_in p (if b then class_taken_in l header units else l)) (receives n (if b then pick p header units else 0)) (queue + (if b then pick p header units else 0)) way ups
received_if true p first a l n queue way header units ups k =
    rw (taken_part p l header units) (received_one p first a (grant_in p l) n queue way (pick p header units) ups k)
received_if false p first a l n queue way header units ups k = rw (add-zero queue, add-zero n.received) (rw (zero-add way) at k)

pub received_credit : (credits : LaneCredits) (gate : CreditGateView) (ledger : CreditLedger) (numbers : Accounts) (queue way : List Need) (wire : List Dllp) (need : Need) →
    HasCredit credits gate ledger numbers queue (need ∷ way) wire →
    HasCredit credits gate (after_received ledger need) (λ c p. receives (numbers c p) (amount c p need)) (queue ++ need ∷ []) way wire
received_credit credits gate ledger numbers queue way wire need k =
    λ c p. rw (ledger_change (λ l. class_taken_in l need.header need.units) ledger need.class c, demand_push c p queue need)
    (received_if (same c need.class) p (first_of c p credits) (allowance c p gate) (ledger_of c ledger) (numbers c p) (demand c p queue) (demand c p way) need.header need.units (updates_in c p wire)
    (subst (λ (n : ℕ). IsCredit p (first_of c p credits) (allowance c p gate) (grant c p ledger) (numbers c p) (demand c p queue) n (updates_in c p wire)) (demand_first (amount c p) need way) (k c p)))

-- a packet leaves the queue

freed_if : (b : Bool) (p : Part) (first : ℕ) (a : Allowance) (l : ClassLedger) (n : Account) (queue left way header units : ℕ) (ups : List ℕ) → left + (if b then pick p header units else 0) ≡ queue →
    IsCredit p first a (grant_in p l) n queue way ups →
    IsCredit p first a (grant_in p (if b then class_given_back l header units else l)) (gives n (if b then pick p header units else 0)) left way ups
freed_if true p first a l n queue left way header units ups e k =
    rw (given_part p l header units) (freed_one p first a (grant_in p l) n queue left way (pick p header units) ups e k)
freed_if false p first a l n queue left way header units ups e k = let same_left : queue ≡ left = omega (arith, e) in rw (add-zero n.given) (rw same_left at k)

pub demand_removed : (f : Need → ℕ) (needs : List Need) (place : ℕ) (need : Need) → slice_get needs place ≡ Some need →
    sum_by f (remove needs place) + f need ≡ sum_by f needs
demand_removed f [] place need e = cc
demand_removed f (x ∷ xs) zero need e =
    let first : x ≡ need = cc in
    let all = demand_first f x xs in
    omega (arith, all, ap f first)
demand_removed f (x ∷ xs) (suc i) need e =
    let rest = demand_removed f xs i need e in
    let all = demand_first f x xs in
    let left = demand_first f x (remove xs i) in
    omega (arith, rest, all, left)

-- the queue without a packet of this need, however it left
pub left_credit : (credits : LaneCredits) (gate : CreditGateView) (ledger : CreditLedger) (numbers : Accounts) (queue left way : List Need) (wire : List Dllp) (need : Need) →
    ((c : Class) (p : Part) → demand c p left + amount c p need ≡ demand c p queue) → HasCredit credits gate ledger numbers queue way wire →
    HasCredit credits gate (after_freed ledger need) (λ c p. gives (numbers c p) (amount c p need)) left way wire
left_credit credits gate ledger numbers queue left way wire need e k =
    λ c p. rw (ledger_change (λ l. class_given_back l need.header need.units) ledger need.class c)
    (freed_if (same c need.class) p (first_of c p credits) (allowance c p gate) (ledger_of c ledger) (numbers c p) (demand c p queue) (demand c p left) (demand c p way) need.header need.units (updates_in c p wire) (e c p) (k c p))

pub freed_credit : (credits : LaneCredits) (gate : CreditGateView) (ledger : CreditLedger) (numbers : Accounts) (queue way : List Need) (wire : List Dllp) (place : ℕ) (need : Need) →
    slice_get queue place ≡ Some need → HasCredit credits gate ledger numbers queue way wire →
    HasCredit credits gate (after_freed ledger need) (λ c p. gives (numbers c p) (amount c p need)) (remove queue place) way wire
freed_credit credits gate ledger numbers queue way wire place need e k =
    left_credit credits gate ledger numbers queue (remove queue place) way wire need (λ c p. demand_removed (amount c p) queue place need e) k

-- an update is sent

updates_push : (c : Class) (p : Part) (wire : List Dllp) (d : Dllp) → updates_in c p (wire ++ d ∷ []) ≡ updates_in c p wire ++ updates_in c p (d ∷ [])
updates_push c p wire d = filter_map-append (update_in c p) wire (d ∷ [])

-- a DLLP that is no update says nothing
pub other_credit : (credits : LaneCredits) (gate : CreditGateView) (ledger : CreditLedger) (numbers : Accounts) (queue way : List Need) (wire : List Dllp) (d : Dllp) →
    ((c : Class) (p : Part) → update_in c p d ≡ None) → HasCredit credits gate ledger numbers queue way wire →
    HasCredit credits gate ledger numbers queue way (wire ++ d ∷ [])
other_credit credits gate ledger numbers queue way wire d e k =
    λ c p. rw (updates_push c p wire d, e c p, append-nil (updates_in c p wire)) (k c p)

pub told_credit : (credits : LaneCredits) (gate : CreditGateView) (ledger : CreditLedger) (numbers : Accounts) (queue way : List Need) (wire : List Dllp) (class : Class) →
    HasCredit credits gate ledger numbers queue way wire →
    HasCredit credits gate ledger (λ c p. told_to (same c class) (numbers c p)) queue way (wire ++ update_of ledger class ∷ [])
told_credit credits gate ledger numbers queue way wire class k =
    λ c p. rw (updates_push c p wire (update_of ledger class)) (by_class (same c class) c p refl)
  where
    by_class : (b : Bool) (c : Class) (p : Part) → same c class ≡ b →
        IsCredit p (first_of c p credits) (allowance c p gate) (grant c p ledger) (told_to b (numbers c p)) (demand c p queue) (demand c p way)
        (updates_in c p wire ++ cons_option (if b then Some (pick p (told Header (ledger_of class ledger).header) (told Data (ledger_of class ledger).units)) else None) [])
    by_class true c p e =
        rw (← same_class c class e, told_part p (ledger_of c ledger))
        (told_one p (first_of c p credits) (allowance c p gate) (grant c p ledger) (numbers c p) (demand c p queue) (demand c p way) (updates_in c p wire) (k c p))
    by_class false c p e = rw (append-nil (updates_in c p wire)) (k c p)

-- the oldest DLLP is lost, or reaches the gate

pub lost_credit : (credits : LaneCredits) (gate : CreditGateView) (ledger : CreditLedger) (numbers : Accounts) (queue way : List Need) (wire : List Dllp) (class : Class) (header units : ℕ) →
    HasCredit credits gate ledger numbers queue way (Update class header units ∷ wire) →
    HasCredit credits gate ledger (λ c p. lost_to (same c class) (numbers c p)) queue way wire
lost_credit credits gate ledger numbers queue way wire class header units k = λ c p. by_class (same c class) c p (k c p)
  where
    by_class : (b : Bool) (c : Class) (p : Part) →
        IsCredit p (first_of c p credits) (allowance c p gate) (grant c p ledger) (numbers c p) (demand c p queue) (demand c p way) (cons_option (if b then Some (pick p header units) else None) (updates_in c p wire)) →
        IsCredit p (first_of c p credits) (allowance c p gate) (grant c p ledger) (lost_to b (numbers c p)) (demand c p queue) (demand c p way) (updates_in c p wire)
    by_class true c p h =
        lost_update p (first_of c p credits) (allowance c p gate) (grant c p ledger) (numbers c p) (demand c p queue) (demand c p way) (pick p header units) (updates_in c p wire) h
    by_class false c p h = h

known_if : (b : Bool) (p : Part) (first : ℕ) (x : ClassGate) (g : Grant) (n : Account) (queue way header units : ℕ) (ups : List ℕ) →
    IsCredit p first (allowance_in p x) g n queue way (cons_option (if b then Some (pick p header units) else None) ups) →
    IsCredit p first (allowance_in p (if b then class_limited x header units else x)) g (known_to b n) queue way ups
known_if true p first x g n queue way header units ups k =
    rw (limited_part p x header units) (known_update p first (allowance_in p x) g n queue way (pick p header units) ups k)
known_if false p first x g n queue way header units ups k = k

pub known_credit : (credits : LaneCredits) (gate : CreditGateView) (ledger : CreditLedger) (numbers : Accounts) (queue way : List Need) (wire : List Dllp) (class : Class) (header units : ℕ) →
    HasCredit credits gate ledger numbers queue way (Update class header units ∷ wire) →
    HasCredit credits (after_limit gate class header units) ledger (λ c p. known_to (same c class) (numbers c p)) queue way wire
known_credit credits gate ledger numbers queue way wire class header units k =
    λ c p. rw (gate_change (λ g. class_limited g header units) gate class c)
    (known_if (same c class) p (first_of c p credits) (gate_of c gate) (grant c p ledger) (numbers c p) (demand c p queue) (demand c p way) header units (updates_in c p wire) (k c p))
