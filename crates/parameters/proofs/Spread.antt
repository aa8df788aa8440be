-- Of 65,536 counts in a row each has its own value.
use Rattle.std.proofs.Common.{inl, inr, ◌≡◌, ◌≢◌, ℕ, zero, suc, ◌+◌, ◌-◌, ◌*◌, ◌/◌, ◌%◌, ◌<◌, ◌≤◌, Bool, true, false, refl, ◌∙◌, arith}
use Rattle.std.specs.Prelude.{◌⊎◌, nat_lt, nat_le, ◌==◌, ◌&&◌, min, if◌then◌else◌}
use Rattle.std.proofs.lemmas.Bool.Decides.{nat_tests}
use Rattle.std.proofs.Math.Nat.{div-le_self}
use Rattle.lane_core.specs.declared.packet.Fate.TheVariants.{Good, Failed, Lost}
use Rattle.parameters.specs.Fates.{spread, fate_of, is_lost, is_failed, one_if, how_many}

-- 40,503 has an inverse modulo 65,536, so each value is that of one count
value_of : (k y : ℕ) → spread k ≡ y → k % 65536 ≡ y * 30599 % 65536
value_of k y e = omega (arith, e)

spread_back : (k y : ℕ) → y < 65536 → k % 65536 ≡ y * 30599 % 65536 → spread k ≡ y
spread_back k y h e = omega (arith, e)

-- the count of a value, among 65,536 in a row
abbrev its_count : ℕ → ℕ → ℕ
its_count start y = start + (y * 30599 % 65536 + 65536 - start % 65536) % 65536

is_its_count : (start y i : ℕ) → y < 65536 → i < 65536 → spread (start + i) ≡ y → start + i ≡ its_count start y
is_its_count start y i h l e =
    let v = value_of (start + i) y e in
    omega (arith, v)

has_value : (start y i : ℕ) → y < 65536 → start + i ≡ its_count start y → spread (start + i) ≡ y
has_value start y i h e = spread_back (start + i) y h (omega (arith, e))

same_test : (a b c d : ℕ) → (a ≡ b → c ≡ d) → (c ≡ d → a ≡ b) → (a == b) ≡ (c == d)
same_test a b c d f g = grind (arith, nat_tests)

-- how many of the counts are one
none_yet : (start k n : ℕ) → start + n ≤ k → how_many (λ j. j == k) start n ≡ 0
unfolding how_many
none_yet start k zero h = refl
none_yet start k (suc n) h =
    let before = none_yet start k n (omega arith) in
    let no : ((start + n) == k) ≡ false = grind (arith, nat_tests) in
    rw (before, no) refl

one_among : (start k n : ℕ) → start ≤ k → k < start + n → how_many (λ j. j == k) start n ≡ 1
unfolding how_many
one_among start k zero g h = absurd (omega arith)
one_among start k (suc n) g h = by_case (λ l. one_among start k n g l) (start + n == k) refl
  where
    by_case : (k < start + n → how_many (λ j. j == k) start n ≡ 1) → (b : Bool) → (start + n == k) ≡ b → how_many (λ j. j == k) start (suc n) ≡ 1
    by_case rest true e =
        let same : start + n ≡ k = grind (arith, nat_tests) in
        rw (none_yet start k n (omega arith), e) refl
    by_case rest false e =
        let other : start + n ≢ k = grind (arith, nat_tests) in
        rw (rest (omega arith), e) refl

-- a test and another that is the same at each of the counts
same_tests : (s t : ℕ → Bool) (start n : ℕ) → ((i : ℕ) → i < n → s (start + i) ≡ t (start + i)) → how_many s start n ≡ how_many t start n
unfolding how_many
same_tests s t start zero h = refl
same_tests s t start (suc n) h =
    rw (same_tests s t start n (λ i l. h i (omega arith)), h n (omega arith)) refl

each_once : (start y : ℕ) → y < 65536 → how_many (λ i. spread i == y) start 65536 ≡ 1
each_once start y h =
    same_tests (λ i. spread i == y) (λ i. i == its_count start y) start 65536
    (λ i l. same_test (spread (start + i)) y (start + i) (its_count start y) (is_its_count start y i h l) (has_value start y i h)) ∙
    one_among start (its_count start y) 65536 (omega arith) (omega arith)

nothing : (start n : ℕ) → how_many (λ i. nat_lt (spread i) 0) start n ≡ 0
unfolding how_many
nothing start zero = refl
nothing start (suc n) =
    let no : nat_lt (spread (start + n)) 0 ≡ false = grind (arith, nat_tests) in
    rw (nothing start n, no) refl

one_value_more : (a y : ℕ) → one_if (nat_lt a (suc y)) ≡ one_if (nat_lt a y) + one_if (a == y)
one_value_more a y = by_case (nat_lt a (suc y)) (nat_lt a y) (a == y) refl refl refl
  where
    by_case : (b c d : Bool) → nat_lt a (suc y) ≡ b → nat_lt a y ≡ c → (a == y) ≡ d → one_if b ≡ one_if c + one_if d
    by_case true true false e f g = refl
    by_case true false true e f g = refl
    by_case false false false e f g = refl
    by_case true true true e f g = absurd (grind (arith, nat_tests))
    by_case true false false e f g = absurd (grind (arith, nat_tests))
    by_case false true d e f g = absurd (grind (arith, nat_tests))
    by_case false false true e f g = absurd (grind (arith, nat_tests))

one_more_below : (start y n : ℕ) → how_many (λ i. nat_lt (spread i) (suc y)) start n ≡ how_many (λ i. nat_lt (spread i) y) start n + how_many (λ i. spread i == y) start n
unfolding how_many
one_more_below start y zero = refl
one_more_below start y (suc n) =
    let rest = one_more_below start y n in
    let one = one_value_more (spread (start + n)) y in
    omega (arith, rest, one)

below : (start y : ℕ) → y ≤ 65536 → how_many (λ i. nat_lt (spread i) y) start 65536 ≡ y
below start zero h = nothing start 65536
below start (suc y) h =
    let more = one_more_below start y 65536 in
    let rest = below start y (omega arith) in
    let one = each_once start y (omega arith) in
    omega (arith, more, rest, one)

-- what is lost

lost_below : (lose corrupt count : ℕ) → 0 < lose → is_lost (fate_of lose corrupt count) ≡ nat_lt (spread count) (65536 / lose)
lost_below lose corrupt count h =
    let some : nat_lt 0 lose ≡ true = grind (arith, nat_tests) in
    rw some (by_case (nat_lt (spread count) (65536 / lose)) (nat_lt 0 corrupt && nat_le (65536 - 65536 / corrupt) (spread count)))
  where
    by_case : (b c : Bool) → is_lost (if b then Lost else (if c then Failed else Good)) ≡ b
    by_case true c = refl
    by_case false true = refl
    by_case false false = refl

part_le : (lose : ℕ) → 0 < lose → 65536 / lose ≤ 65536
part_le lose h = div-le_self 65536 lose

pub lost_in_a_row : (lose corrupt start : ℕ) → 0 < lose → how_many (λ count. is_lost (fate_of lose corrupt count)) start 65536 ≡ 65536 / lose
lost_in_a_row lose corrupt start h =
    same_tests (λ count. is_lost (fate_of lose corrupt count)) (λ count. nat_lt (spread count) (65536 / lose)) start 65536 (λ i l. lost_below lose corrupt (start + i) h) ∙
    below start (65536 / lose) (part_le lose h)

-- what fails

all_but : (s t : ℕ → Bool) (start n : ℕ) → ((i : ℕ) → one_if (s i) + one_if (t i) ≡ 1) → how_many s start n + how_many t start n ≡ n
unfolding how_many
all_but s t start zero h = refl
all_but s t start (suc n) h =
    let rest = all_but s t start n h in
    let one = h (start + n) in
    omega (arith, rest, one)

-- with least the lowest value that fails or none
failed_or_below : (lose corrupt least count : ℕ) → 0 < lose → 0 < corrupt → 65536 / lose ≤ least → 65536 - 65536 / corrupt ≤ least →
    (least ≡ 65536 / lose) ⊎ (least ≡ 65536 - 65536 / corrupt) →
    one_if (is_failed (fate_of lose corrupt count)) + one_if (nat_lt (spread count) least) ≡ 1
failed_or_below lose corrupt least count g h k l m =
    let some : nat_lt 0 lose ≡ true = grind (arith, nat_tests) in
    let fails : nat_lt 0 corrupt ≡ true = grind (arith, nat_tests) in
    rw (some, fails) (by_case (nat_lt (spread count) (65536 / lose)) (nat_le (65536 - 65536 / corrupt) (spread count)) (nat_lt (spread count) least) refl refl refl)
  where
    by_case : (b c d : Bool) → nat_lt (spread count) (65536 / lose) ≡ b → nat_le (65536 - 65536 / corrupt) (spread count) ≡ c → nat_lt (spread count) least ≡ d →
        one_if (is_failed (if b then Lost else (if c then Failed else Good))) + one_if d ≡ 1
    by_case true c true e f i = refl
    by_case false true false e f i = refl
    by_case false false true e f i = refl
    by_case true c false e f i = absurd (grind (arith, nat_tests))
    by_case false true true e f i = absurd (grind (arith, nat_tests))
    by_case false false false e f i = absurd (grind (arith, nat_tests))

failed_from : (lose corrupt start least : ℕ) → 0 < lose → 0 < corrupt → 65536 / lose ≤ least → 65536 - 65536 / corrupt ≤ least →
    (least ≡ 65536 / lose) ⊎ (least ≡ 65536 - 65536 / corrupt) →
    how_many (λ count. is_failed (fate_of lose corrupt count)) start 65536 ≡ 65536 - least
failed_from lose corrupt start least g h k l m =
    let all = all_but (λ count. is_failed (fate_of lose corrupt count)) (λ count. nat_lt (spread count) least) start 65536
    (λ i. failed_or_below lose corrupt least i g h k l m) in
    let lost = part_le lose g in
    let small : least ≤ 65536 = grind (arith, m, lost) in
    let under = below start least small in
    omega (arith, all, under)

pub failed_in_a_row : (lose corrupt start : ℕ) → 0 < lose → 0 < corrupt →
    how_many (λ count. is_failed (fate_of lose corrupt count)) start 65536 ≡ min (65536 / corrupt) (65536 - 65536 / lose)
failed_in_a_row lose corrupt start g h = by_case (grind arith)
  where
    by_case : (65536 / lose ≤ 65536 - 65536 / corrupt) ⊎ (65536 - 65536 / corrupt < 65536 / lose) →
        how_many (λ count. is_failed (fate_of lose corrupt count)) start 65536 ≡ min (65536 / corrupt) (65536 - 65536 / lose)
    by_case (inl l) =
        let some = failed_from lose corrupt start (65536 - 65536 / corrupt) g h l (omega arith) (inr refl) in
        let part = part_le lose g in
        let other = part_le corrupt h in
        omega (arith, some, part, other)
    by_case (inr l) =
        let some = failed_from lose corrupt start (65536 / lose) g h (omega arith) (omega arith) (inl refl) in
        let part = part_le lose g in
        let other = part_le corrupt h in
        omega (arith, some, part, other)

-- a plan that loses nothing

failed_or_least : (corrupt count : ℕ) → 0 < corrupt →
    one_if (is_failed (fate_of 0 corrupt count)) + one_if (nat_lt (spread count) (65536 - 65536 / corrupt)) ≡ 1
failed_or_least corrupt count h =
    let fails : nat_lt 0 corrupt ≡ true = grind (arith, nat_tests) in
    rw fails (by_case (nat_le (65536 - 65536 / corrupt) (spread count)) (nat_lt (spread count) (65536 - 65536 / corrupt)) refl refl)
  where
    by_case : (c d : Bool) → nat_le (65536 - 65536 / corrupt) (spread count) ≡ c → nat_lt (spread count) (65536 - 65536 / corrupt) ≡ d →
        one_if (is_failed (if c then Failed else Good)) + one_if d ≡ 1
    by_case true false f i = refl
    by_case false true f i = refl
    by_case true true f i = absurd (grind (arith, nat_tests))
    by_case false false f i = absurd (grind (arith, nat_tests))

pub failed_alone_in_a_row : (corrupt start : ℕ) → 0 < corrupt → how_many (λ count. is_failed (fate_of 0 corrupt count)) start 65536 ≡ 65536 / corrupt
failed_alone_in_a_row corrupt start h =
    let all = all_but (λ count. is_failed (fate_of 0 corrupt count)) (λ count. nat_lt (spread count) (65536 - 65536 / corrupt)) start 65536
    (λ i. failed_or_least corrupt i h) in
    let part = part_le corrupt h in
    let under = below start (65536 - 65536 / corrupt) (omega arith) in
    omega (arith, all, under, part)

not_lost : (corrupt count : ℕ) → is_lost (fate_of 0 corrupt count) ≡ false
not_lost corrupt count = by_case (nat_lt 0 corrupt && nat_le (65536 - 65536 / corrupt) (spread count))
  where
    by_case : (c : Bool) → is_lost (if c then Failed else Good) ≡ false
    by_case true = refl
    by_case false = refl

pub none_lost_in_a_row : (corrupt start n : ℕ) → how_many (λ count. is_lost (fate_of 0 corrupt count)) start n ≡ 0
unfolding how_many
none_lost_in_a_row corrupt start zero = refl
none_lost_in_a_row corrupt start (suc n) = rw (none_lost_in_a_row corrupt start n, not_lost corrupt (start + n)) refl
