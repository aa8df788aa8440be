-- The gate's test of wrapped counters is that of the room in whole numbers.
use Rattle.std.proofs.Common.{◌≡◌, ℕ, ◌+◌, ◌-◌, ◌/◌, ◌%◌, ◌<◌, ◌≤◌, ◌↔◌, Bool, true, false, IsTrue, refl, sym, arith}
use Rattle.std.specs.Prelude.{nat_le, ◌==◌, ◌||◌, ◌&&◌}
use Rattle.std.proofs.lemmas.Bool.Decides.{nat_tests}
use Rattle.std.proofs.Math.Nat.{mod-eq_of_lt}
use Rattle.flow_control.specs.declared.counter.Part.{Part}
use Rattle.flow_control.specs.declared.counter.Part.TheVariants.{Header, Data}
use Rattle.flow_control.specs.declared.counter.Allowance.{Allowance}
use Rattle.flow_control.specs.declared.gate.ClassGate.{ClassGate}
use Rattle.flow_control.specs.Credits.{modulus, most, covers, pick, allowance_in, class_covers, IsWrapped, StandsFor, HasRoom, room_of}

within : (p : Part) (known used units : ℕ) → used ≤ known → known ≤ used + most p → units ≤ most p →
    (known % modulus p + modulus p - (used % modulus p + units) % modulus p) % modulus p ≤ modulus p / 2 → used + units ≤ known
within Header known used units h r u t = omega arith
within Data known used units h r u t = omega arith

enough : (p : Part) (known used units : ℕ) → used ≤ known → known ≤ used + most p → units ≤ most p → used + units ≤ known →
    (known % modulus p + modulus p - (used % modulus p + units) % modulus p) % modulus p ≤ modulus p / 2
enough Header known used units h r u t = omega arith
enough Data known used units h r u t = omega arith

tested : (first x y : ℕ) → IsTrue ((first == 0) || nat_le x y) → 0 < first → x ≤ y
tested first x y t p = grind (arith, nat_tests)

test_of : (first x y : ℕ) → (0 < first → x ≤ y) → IsTrue ((first == 0) || nat_le x y)
test_of first x y h = grind (arith, nat_tests)

-- what the test of whole numbers is in the counters
standing : (p : Part) (a : Allowance) (known used units : ℕ) → StandsFor p a known used →
    (known % modulus p + modulus p - (used % modulus p + units) % modulus p) % modulus p ≡ (a.limit + modulus p - (a.consumed + units) % modulus p) % modulus p
standing p a known used units s = rw (s.limit, s.consumed) refl

pub covered_room : (p : Part) (a : Allowance) (known used units : ℕ) → (0 < a.first → StandsFor p a known used) → units ≤ most p → IsTrue (covers p a units) → HasRoom a known used units
covered_room p a known used units s u t q =
    within p known used units (s q).used_known (s q).unused u (rw (standing p a known used units (s q)) (tested a.first _ _ t q))

pub room_covered : (p : Part) (a : Allowance) (known used units : ℕ) → (0 < a.first → StandsFor p a known used) → units ≤ most p → HasRoom a known used units → IsTrue (covers p a units)
room_covered p a known used units s u h =
    test_of a.first _ _ (λ q. rw (← standing p a known used units (s q)) (enough p known used units (s q).used_known (s q).unused u (h q)))

pub both : (a b : Bool) → IsTrue (a && b) → IsTrue a × IsTrue b
both true b t = (refl, t)
both false b t = cc

pub join : (a b : Bool) → IsTrue a → IsTrue b → IsTrue (a && b)
join true b s t = t
join false b s t = cc

-- the two tests of a class, by part
pub covered_parts : (g : ClassGate) (header units : ℕ) → IsTrue (class_covers g header units) → (p : Part) → IsTrue (covers p (allowance_in p g) (pick p header units))
covered_parts g header units t Header = (both (covers Header g.header header) (covers Data g.units units) t).0
covered_parts g header units t Data = (both (covers Header g.header header) (covers Data g.units units) t).1

pub parts_covered : (g : ClassGate) (header units : ℕ) → ((p : Part) → IsTrue (covers p (allowance_in p g) (pick p header units))) → IsTrue (class_covers g header units)
parts_covered g header units t = join (covers Header g.header header) (covers Data g.units units) (t Header) (t Data)

pub small : (p : Part) (header units : ℕ) → header ≤ 127 → units ≤ 2047 → pick p header units ≤ most p
small Header header units h u = h
small Data header units h u = u

pub class_right : (g : ClassGate) (header units : ℕ) (known used : Part → ℕ) → ((p : Part) → 0 < (allowance_in p g).first → StandsFor p (allowance_in p g) (known p) (used p)) →
    header ≤ 127 → units ≤ 2047 →
    IsTrue (class_covers g header units) ↔ ((p : Part) → HasRoom (allowance_in p g) (known p) (used p) (pick p header units))
class_right g header units known used s h u = (
  λ t p. covered_room p (allowance_in p g) (known p) (used p) (pick p header units) (s p) (small p header units h u) (covered_parts g header units t p),
  λ r. parts_covered g header units
      (λ p. room_covered p (allowance_in p g) (known p) (used p) (pick p header units) (s p) (small p header units h u) (r p)),
)

pub infinite_counter : (p : Part) (a : Allowance) (units : ℕ) → a.first ≡ 0 → IsTrue (covers p a units)
infinite_counter p a units e = test_of a.first _ _ (λ q. absurd (omega arith))

pub infinite_class : (g : ClassGate) (header units : ℕ) → ((p : Part) → (allowance_in p g).first ≡ 0) → IsTrue (class_covers g header units)
infinite_class g header units e = parts_covered g header units (λ p. infinite_counter p (allowance_in p g) (pick p header units) (e p))

-- room by the counters alone

own_limit : (p : Part) (limit consumed : ℕ) → limit < modulus p → consumed < modulus p → limit ≡ (consumed + (limit + modulus p - consumed) % modulus p) % modulus p
own_limit Header limit consumed l c = omega arith
own_limit Data limit consumed l c = omega arith

no_less : (used room : ℕ) → used ≤ used + room
no_less used room = omega arith

more_by : (used less more : ℕ) → less ≤ more → used + less ≤ used + more
more_by used less more h = omega arith

less_by : (used less more : ℕ) → used + less ≤ used + more → less ≤ more
less_by used less more h = omega arith

-- below their modulus, they stand for themselves and the room between them
own : (p : Part) (a : Allowance) → IsWrapped p a → room_of p a ≤ most p → StandsFor p a (a.consumed + room_of p a) a.consumed
own p a w r =
    record {
      limit = own_limit p a.limit a.consumed w.limit w.consumed;
      consumed = sym (mod-eq_of_lt w.consumed);
      used_known = no_less a.consumed (room_of p a);
      unused = more_by a.consumed (room_of p a) (most p) r;
    }

pub class_room : (g : ClassGate) (header units : ℕ) → ((p : Part) → IsWrapped p (allowance_in p g)) → header ≤ 127 → units ≤ 2047 →
    ((p : Part) → 0 < (allowance_in p g).first → room_of p (allowance_in p g) ≤ most p) →
    IsTrue (class_covers g header units) ↔ ((p : Part) → 0 < (allowance_in p g).first → pick p header units ≤ room_of p (allowance_in p g))
class_room g header units w h u m =
    let right = class_right g header units (λ p. (allowance_in p g).consumed + room_of p (allowance_in p g)) (λ p. (allowance_in p g).consumed)
    (λ p q. own p (allowance_in p g) (w p) (m p q)) h u in (
      λ t p q. less_by (allowance_in p g).consumed (pick p header units) (room_of p (allowance_in p g)) (right.0 t p q),
      λ r. right.1 (λ p q. more_by (allowance_in p g).consumed (pick p header units) (room_of p (allowance_in p g)) (r p q)),
    )
