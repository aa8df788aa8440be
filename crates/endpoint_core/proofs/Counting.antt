-- What the completions of a read say: where each ends, and how many bytes are left.
use Rattle.std.proofs.Common.{◌≡◌, ◌≢◌, ◌∙◌, ℕ, zero, suc, ◌+◌, ◌-◌, ◌*◌, ◌/◌, ◌%◌, ◌<◌, ◌≤◌, ◌⊎◌, Bool, true, false, List, [], ◌∷◌, ◌++◌, length, length-append, Some, None, cond, inl, inr, refl, sym, ap, subst, arith}
use Rattle.std.specs.Prelude.{◌==◌, ◌||◌, ◌&&◌, not, nat_le, nat_lt, reverse, replicate, if◌then◌else◌}
use Rattle.std.specs.List.{list_all}
use Rattle.std.proofs.lemmas.Bool.Decides.{nat_tests}
use Rattle.std.proofs.lemmas.List.{reverse-append, length-replicate}
use Rattle.tlp_core.specs.declared.fault.TlpFault.TheVariants as faults
use Rattle.tlp_core.specs.Ops.{Op}
use Rattle.tlp_core.specs.declared.operation.OpOf.TheVariants as ops
use Rattle.tlp_core.specs.declared.packet.Kind.{Kind}
use Rattle.tlp_core.specs.declared.packet.Kind.TheVariants as kinds
use Rattle.tlp_core.specs.declared.packet.Body.{Body}
use Rattle.tlp_core.specs.declared.packet.Body.TheVariants as bodies
use Rattle.tlp_core.specs.TlpView.{TlpView}
use Rattle.tlp_core.specs.Enables.{dw_enables, enables, are_enables, is_one_run, ends_in_gap}
use Rattle.tlp_core.specs.Operation.{address_of, count_of, op_at, op_of, op_fault, wrong_length, wrong_enables, wrong_address}
use Rattle.completer_core.specs.Span.{lead, is_empty, span, low_address}
use Rattle.completer_core.specs.Completion.{byte_count, lower_address}
use Rattle.op_pieces.specs.Pieces.{dw_to, front, enables_of, rest_first, rest_last}
use Rattle.endpoint_core.specs.Steps.{dw_before_end, dw_in_front, first_block, body_behind, behind}

-- ---- a read without a fault

all_wrong : (a b c d : Bool) → cond a (Some faults.LengthMismatch) (cond b (Some faults.ByteEnables) (cond c (Some faults.OperandSize) (cond d (Some faults.Unaligned) None))) ≡ None → (a ≡ false) × (b ≡ false) × (d ≡ false)
all_wrong false false false false h = (refl, refl, refl)
all_wrong true b c d h = absurd cc
all_wrong false true c d h = absurd cc
all_wrong false false true d h = absurd cc
all_wrong false false false true h = absurd cc

three : (a b c : Bool) → (a || b || not c) ≡ false → (a ≡ false) × (b ≡ false) × (c ≡ true)
three false false true h = (refl, refl, refl)
three true b c h = absurd cc
three false true c h = absurd cc
three false false false h = absurd cc

record Sound (a dw f l : ℕ) : Type 0 where
  pub first : f < 16
  pub last : l < 16
  pub rule : are_enables dw a f l ≡ true
  pub whole : a % 4 ≡ 0

is_few : (x : ℕ) → nat_lt 15 x ≡ false → x < 16
is_few x h = grind (arith, nat_tests)

is_whole : (a : ℕ) → not (a % 4 == 0) ≡ false → a % 4 ≡ 0
is_whole a h = grind (arith, nat_tests)

sound : (a dw f l : ℕ) → op_fault (ops.Read a dw f l) ≡ None → Sound a dw f l
sound a dw f l h =
    let w = all_wrong (wrong_length (ops.Read a dw f l)) (wrong_enables (ops.Read a dw f l)) false (wrong_address (ops.Read a dw f l)) h in
    let t = three (nat_lt 15 f) (nat_lt 15 l) (are_enables dw a f l) w.1 in
    record { first = is_few f t.0; last = is_few l t.1; rule = t.2; whole = is_whole a w.2 }

-- ---- of several DW that end across a block the last begins with an enabled byte

gap_passes : (k : ℕ) (ys : List Bool) → ends_in_gap (replicate k true ++ ys) ≡ ends_in_gap ys
unfolding ends_in_gap
gap_passes zero ys = refl
gap_passes (suc k) ys = gap_passes k ys

none_behind : (k : ℕ) (ys : List Bool) → list_all not (replicate k true ++ ys) ≡ true → list_all not ys ≡ true
none_behind zero ys h = h
none_behind (suc k) ys h = absurd cc

run_front : (a b c d : Bool) (zs : List Bool) → is_one_run (a ∷ b ∷ c ∷ d ∷ zs) ≡ true → (a || b || c || d) ≡ true → (ends_in_gap zs ≡ true) ⊎ (list_all not zs ≡ true)
unfolding is_one_run ends_in_gap
run_front true true true true zs h s = inl h
run_front true true true false zs h s = inr h
run_front true true false true zs h s = absurd cc
run_front true true false false zs h s = inr h
run_front true false true d zs h s = absurd cc
run_front true false false true zs h s = absurd cc
run_front true false false false zs h s = inr h
run_front false true true true zs h s = inl h
run_front false true true false zs h s = inr h
run_front false true false true zs h s = absurd cc
run_front false true false false zs h s = inr h
run_front false false true true zs h s = inl h
run_front false false true false zs h s = inr h
run_front false false false true zs h s = inl h
run_front false false false false zs h s = absurd cc

first_on : (a b c d : Bool) → (ends_in_gap (a ∷ b ∷ c ∷ d ∷ []) ≡ true) ⊎ (list_all not (a ∷ b ∷ c ∷ d ∷ []) ≡ true) → (a || b || c || d) ≡ true → a ≡ true
unfolding ends_in_gap
first_on true b c d h s = refl
first_on false true c d (inl h) s = absurd cc
first_on false true c d (inr h) s = absurd cc
first_on false false true d (inl h) s = absurd cc
first_on false false true d (inr h) s = absurd cc
first_on false false false true (inl h) s = absurd cc
first_on false false false true (inr h) s = absurd cc
first_on false false false false h s = absurd cc

some_on : (x : ℕ) → x < 16 → x ≢ 0 → ((x % 2 == 1) || (x / 2 % 2 == 1) || (x / 4 % 2 == 1) || (x / 8 % 2 == 1)) ≡ true
some_on x h n = grind (arith, nat_tests)

more_dws : (dw f l : ℕ) → 2 ≤ dw → enables dw f l ≡ dw_enables f ++ replicate (4 * (dw - 2)) true ++ dw_enables l
unfolding enables
more_dws dw f l h = grind (arith, nat_tests)

passed : (k : ℕ) (ys : List Bool) → (ends_in_gap (replicate k true ++ ys) ≡ true) ⊎ (list_all not (replicate k true ++ ys) ≡ true) → (ends_in_gap ys ≡ true) ⊎ (list_all not ys ≡ true)
passed k ys (inl h) = inl (sym (gap_passes k ys) ∙ h)
passed k ys (inr h) = inr (none_behind k ys h)

last_begins : (dw f l : ℕ) → 2 ≤ dw → f < 16 → f ≢ 0 → l < 16 → l ≢ 0 → is_one_run (enables dw f l) ≡ true → (l % 2 == 1) ≡ true
last_begins dw f l two hf nf hl nl run =
    let whole : is_one_run (dw_enables f ++ replicate (4 * (dw - 2)) true ++ dw_enables l) ≡ true = ap is_one_run (sym (more_dws dw f l two)) ∙ run in
    first_on (l % 2 == 1) (l / 2 % 2 == 1) (l / 4 % 2 == 1) (l / 8 % 2 == 1)
    (passed (4 * (dw - 2)) (dw_enables l) (run_front (f % 2 == 1) (f / 2 % 2 == 1) (f / 4 % 2 == 1) (f / 8 % 2 == 1) (replicate (4 * (dw - 2)) true ++ dw_enables l) whole (some_on f hf nf)))
    (some_on l hl nl)

-- the rule of byte enables where it can't be met by gaps
not_one : (dw a f l : ℕ) → dw ≢ 1 → are_enables dw a f l ≡ true → (f ≢ 0) × (l ≢ 0)
not_one dw a f l n h = grind (arith, nat_tests)

rule_of : (one f0 l0 run gaps x : Bool) → one ≡ false → gaps ≡ false → (if one then x else (not f0 && not l0 && (run || gaps))) ≡ true → run ≡ true
rule_of false false false true gaps x p q h = refl
rule_of false false false false false x p q h = absurd cc
rule_of false false false false true x p q h = absurd cc
rule_of false true l0 run gaps x p q h = absurd cc
rule_of false false true run gaps x p q h = absurd cc
rule_of true f0 l0 run gaps x p q h = absurd cc

one_run : (dw a f l : ℕ) → dw ≢ 1 → ((dw == 2) && (a % 8 == 0)) ≡ false → are_enables dw a f l ≡ true → is_one_run (enables dw f l) ≡ true
one_run dw a f l n gap ok =
    let several : (dw == 1) ≡ false = grind (arith, nat_tests) in
    rule_of (dw == 1) (f == 0) (l == 0) (is_one_run (enables dw f l)) ((dw == 2) && (a % 8 == 0)) (l == 0) several gap ok

-- ---- Byte Count and Lower Address

lead_on : (a b c d : Bool) (zs : List Bool) → a ≡ true → lead (a ∷ b ∷ c ∷ d ∷ zs) ≡ 0
lead_on true b c d zs h = refl
lead_on false b c d zs h = absurd cc

lead_front : (a b c d : Bool) (zs : List Bool) → (a || b || c || d) ≡ true → lead (a ∷ b ∷ c ∷ d ∷ zs) ≡ lead (a ∷ b ∷ c ∷ d ∷ [])
lead_front true b c d zs h = refl
lead_front false true c d zs h = refl
lead_front false false true d zs h = refl
lead_front false false false true zs h = refl
lead_front false false false false zs h = absurd cc

lead_few : (a b c d : Bool) → (a || b || c || d) ≡ true → lead (a ∷ b ∷ c ∷ d ∷ []) < 4
lead_few true b c d h = omega arith
lead_few false true c d h = omega arith
lead_few false false true d h = omega arith
lead_few false false false true h = omega arith
lead_few false false false false h = absurd cc

turned_on : (a b c d : Bool) → (a || b || c || d) ≡ true → (d || c || b || a) ≡ true
turned_on true true true true h = refl
turned_on true true true false h = refl
turned_on true true false true h = refl
turned_on true true false false h = refl
turned_on true false true true h = refl
turned_on true false true false h = refl
turned_on true false false true h = refl
turned_on true false false false h = refl
turned_on false true true true h = refl
turned_on false true true false h = refl
turned_on false true false true h = refl
turned_on false true false false h = refl
turned_on false false true true h = refl
turned_on false false true false h = refl
turned_on false false false true h = refl
turned_on false false false false h = absurd cc

lead_of : (x : ℕ) → x < 16 → x ≢ 0 → lead (dw_enables x) < 4
lead_of x h n = lead_few (x % 2 == 1) (x / 2 % 2 == 1) (x / 4 % 2 == 1) (x / 8 % 2 == 1) (some_on x h n)

abbrev backward : ℕ → List Bool
backward x = (x / 8 % 2 == 1) ∷ (x / 4 % 2 == 1) ∷ (x / 2 % 2 == 1) ∷ (x % 2 == 1) ∷ []

lead_back : (x : ℕ) → x < 16 → x ≢ 0 → lead (backward x) < 4
lead_back x h n =
    lead_few (x / 8 % 2 == 1) (x / 4 % 2 == 1) (x / 2 % 2 == 1) (x % 2 == 1)
    (turned_on (x % 2 == 1) (x / 2 % 2 == 1) (x / 4 % 2 == 1) (x / 8 % 2 == 1) (some_on x h n))

span_is : (es : List Bool) (n m k : ℕ) → lead es ≡ m → lead (reverse es) ≡ k → length es ≡ 4 * n → m < 4 → 1 ≤ n → span es ≡ 4 * n - m - k
span_is es n m k e1 e2 e3 few some =
    let not_empty : is_empty es ≡ false = grind (arith, nat_tests, e1, e3, few, some) in
    rw (not_empty, e1, e2, e3) refl

-- of one DW, and of several
span_one : (f l : ℕ) → f < 16 → f ≢ 0 → span (enables 1 f l) ≡ 4 - lead (dw_enables f) - lead (backward f)
unfolding enables
span_one f l h n = span_is (dw_enables f) 1 (lead (dw_enables f)) (lead (backward f)) refl refl refl (lead_of f h n) (omega arith)

span_more : (dw f l : ℕ) → 2 ≤ dw → f < 16 → f ≢ 0 → l < 16 → l ≢ 0 → (span (enables dw f l) ≡ 4 * dw - lead (dw_enables f) - lead (backward l)) × (lead (enables dw f l) ≡ lead (dw_enables f))
span_more dw f l two hf nf hl nl =
    let k = 4 * (dw - 2) in
    let all = more_dws dw f l two in
    let front : lead (enables dw f l) ≡ lead (dw_enables f) = ap lead all ∙ lead_front (f % 2 == 1) (f / 2 % 2 == 1) (f / 4 % 2 == 1) (f / 8 % 2 == 1) (replicate k true ++ dw_enables l) (some_on f hf nf) in
    let turned : reverse (enables dw f l) ≡ backward l ++ reverse (dw_enables f ++ replicate k true) = ap reverse all ∙ reverse-append (dw_enables f ++ replicate k true) (dw_enables l) in
    let behind : lead (reverse (enables dw f l)) ≡ lead (backward l) =
    ap lead turned
    ∙ lead_front (l / 8 % 2 == 1) (l / 4 % 2 == 1) (l / 2 % 2 == 1) (l % 2 == 1) (reverse (dw_enables f ++ replicate k true))
    (turned_on (l % 2 == 1) (l / 2 % 2 == 1) (l / 4 % 2 == 1) (l / 8 % 2 == 1) (some_on l hl nl)) in
    let rest : length (replicate k true ++ dw_enables l) ≡ k + 4 = length-append (replicate k true) (dw_enables l) ∙ ap (λ (n : ℕ). n + 4) (length-replicate k true) in
    let long : length (enables dw f l) ≡ 4 * dw = ap (λ (es : List Bool). length es) all ∙ omega (arith, rest, two) in
    (span_is (enables dw f l) dw (lead (dw_enables f)) (lead (backward l)) front behind long (lead_of f hf nf) (omega (arith, two)), front)

-- ---- what is left of a read

-- how many bytes of the last DW are behind its last enabled one
abbrev Left : ℕ → ℕ → List Bool → Type 0
Left m l es = (span es ≡ 4 * m - lead (backward l)) × (lead es ≡ 0)

all_left : (m x : ℕ) → 4 * m - 0 - x ≡ 4 * m - x
all_left m x = omega arith

one_lead : (l : ℕ) → lead (enables 1 l 0) ≡ lead (dw_enables l)
unfolding enables
one_lead l = refl

left_by : (m l : ℕ) (one : Bool) → (m == 1) ≡ one → 1 ≤ m → l < 16 → l ≢ 0 → (l % 2 == 1) ≡ true → Left m l (enables m (cond one l 15) (cond one 0 l))
left_by m l true is some h n odd =
    let same : m ≡ 1 = grind (arith, nat_tests, is) in
    let begins : lead (dw_enables l) ≡ 0 = lead_on (l % 2 == 1) (l / 2 % 2 == 1) (l / 4 % 2 == 1) (l / 8 % 2 == 1) [] odd in
    subst (λ (k : ℕ). Left k l (enables k l 0)) (sym same) (span_one l 0 h n ∙ ap (λ (x : ℕ). 4 - x - lead (backward l)) begins, one_lead l ∙ begins)
left_by m l false is some h n odd =
    let two : 2 ≤ m = grind (arith, nat_tests, is, some) in
    let s = span_more m 15 l two (omega arith) (λ e. absurd cc) h n in
    (s.0 ∙ all_left m (lead (backward l)), s.1)

-- the address behind the block
abbrev pub Boundary : Op → Op → Type 0
Boundary op rest = (address_of rest ≡ address_of (first_block op) + count_of (first_block op)) × (address_of rest % 128 ≡ 0)

abbrev pub Counts : Op → Kind → Body → ℕ → Kind → Body → ℕ → Type 0
Counts op k b dw k' b' dw' = (byte_count k b dw ≡ count_of (first_block op) - lead (enables_of op) + byte_count k' b' dw') × (lower_address k' b' dw' ≡ 0)

by_test : (b : Bool) (n dw : ℕ) → nat_le dw n ≡ b → cond b 0 n ≢ 0 → (cond b 0 n ≡ n) × (n < dw)
by_test true n dw e some = absurd (some refl)
by_test false n dw e some = (refl, grind (arith, nat_tests, e))

in_front : (a dw : ℕ) → dw_before_end a dw ≢ 0 → (dw_before_end a dw ≡ dw_to 128 a) × (dw_to 128 a < dw)
in_front a dw some = by_test (nat_le dw (dw_to 128 a)) (dw_to 128 a) dw refl some

front_count : (z : Bool) (n a dw f l : ℕ) → z ≡ false → count_of (cond z (ops.Read a dw f l) (front n (ops.Read a dw f l))) ≡ 4 * n
front_count true n a dw f l e = absurd cc
front_count false n a dw f l e = refl

front_address : (z : Bool) (n a dw f l : ℕ) → address_of (cond z (ops.Read a dw f l) (front n (ops.Read a dw f l))) ≡ a
front_address true n a dw f l = refl
front_address false n a dw f l = refl

is_some : (n : ℕ) → n ≢ 0 → (n == 0) ≡ false
is_some n h = grind (arith, nat_tests)

first_count : (a dw f l : ℕ) → dw_before_end a dw ≢ 0 → count_of (first_block (ops.Read a dw f l)) ≡ 4 * dw_before_end a dw
first_count a dw f l some = front_count (dw_before_end a dw == 0) (dw_before_end a dw) a dw f l (is_some (dw_before_end a dw) some)

first_address : (a dw f l : ℕ) → address_of (first_block (ops.Read a dw f l)) ≡ a
first_address a dw f l = front_address (dw_before_end a dw == 0) (dw_before_end a dw) a dw f l

both_false : (x y : Bool) → (x ≡ true → y ≡ false) → (x && y) ≡ false
both_false true y h = h refl
both_false false y h = refl

is_above : (x : ℕ) → 1 ≤ x → (x == 0) ≡ false
is_above x h = grind (arith, nat_tests)

is_two : (x : ℕ) → (x == 2) ≡ true → x ≡ 2
is_two x h = grind (arith, nat_tests)

several_dw : (a dw : ℕ) → a % 4 ≡ 0 → dw_to 128 a < dw → 2 ≤ dw
several_dw a dw whole less = omega (arith, whole, less)

unaligned : (a dw : ℕ) → a % 4 ≡ 0 → dw_to 128 a < dw → dw ≡ 2 → 1 ≤ a % 8
unaligned a dw whole less two = omega (arith, whole, less, two)

no_gaps : (a dw : ℕ) → a % 4 ≡ 0 → dw_to 128 a < dw → ((dw == 2) && (a % 8 == 0)) ≡ false
no_gaps a dw whole less = both_false (dw == 2) (a % 8 == 0) (λ e. is_above (a % 8) (unaligned a dw whole less (is_two dw e)))

sum_up : (whole part left dw n x y count : ℕ) → whole ≡ 4 * dw - x - y → left ≡ 4 * (dw - n) - y → count ≡ 4 * n → part ≡ x → x < 4 → y < 4 → 1 ≤ n → n < dw → whole ≡ count - part + left
sum_up whole part left dw n x y count a b c d e f g h = omega (arith, a, b, c, d, e, f, g, h)

some_front : (a : ℕ) → a % 4 ≡ 0 → 1 ≤ dw_to 128 a
some_front a whole = omega (arith, whole)

at_block : (a n : ℕ) → a % 4 ≡ 0 → n ≡ dw_to 128 a → (a + 4 * n) % 128 ≡ 0
at_block a n whole is = omega (arith, whole, is)

low_by : (b : Bool) (a x : ℕ) → a % 128 ≡ 0 → x ≡ 0 → (if b then a % 128 else (a + x) % 128) ≡ 0
low_by true a x z e = z
low_by false a x z e = omega (arith, z, e)

low_is : (a : ℕ) (es : List Bool) → lead es ≡ 0 → a % 128 ≡ 0 → low_address a es ≡ 0
low_is a es e z = low_by (is_empty es) a (lead es) z e

read_boundary : (a dw f l : ℕ) → op_fault (ops.Read a dw f l) ≡ None → dw_before_end a dw ≢ 0 → let n = dw_before_end a dw in Boundary (ops.Read a dw f l) (ops.Read (a + 4 * n) (dw - n) (rest_first (dw - n) l) (rest_last (dw - n) l))
read_boundary a dw f l fault some =
    let n = in_front a dw some in
    let s = sound a dw f l fault in (
      ap (λ (x : ℕ). x + 4 * dw_before_end a dw) (sym (first_address a dw f l)) ∙ ap (λ (x : ℕ). address_of (first_block (ops.Read a dw f l)) + x) (sym (first_count a dw f l some)),
      at_block a (dw_before_end a dw) s.whole n.0,
    )

read_counts : (a dw f l : ℕ) → op_fault (ops.Read a dw f l) ≡ None → dw_before_end a dw ≢ 0 → let n = dw_before_end a dw in
    Counts (ops.Read a dw f l) kinds.MemoryRead (bodies.Request a f l) dw kinds.MemoryRead (bodies.Request (a + 4 * n) (rest_first (dw - n) l) (rest_last (dw - n) l)) (dw - n)
read_counts a dw f l fault some =
    let n = dw_before_end a dw in
    let is = in_front a dw some in
    let s = sound a dw f l fault in
    let less : n < dw = omega (arith, is.0, is.1) in
    let two = several_dw a dw s.whole is.1 in
    let more : dw ≢ 1 = λ e. omega (arith, e, two) in
    let both = not_one dw a f l more s.rule in
    let run = one_run dw a f l more (no_gaps a dw s.whole is.1) s.rule in
    let odd = last_begins dw f l two s.first both.0 s.last both.1 run in
    let m = dw - n in
    let rest = enables m (rest_first m l) (rest_last m l) in
    let left : Left m l rest = left_by m l (m == 1) refl (omega (arith, less)) s.last both.1 odd in
    let whole = span_more dw f l two s.first both.0 s.last both.1 in
    let first : 1 ≤ n = omega (arith, is.0, some_front a s.whole) in (
      sum_up (span (enables dw f l)) (lead (enables dw f l)) (span rest) dw n (lead (dw_enables f)) (lead (backward l)) (count_of (first_block (ops.Read a dw f l)))
          whole.0 left.0 (first_count a dw f l some) whole.1 (lead_of f s.first both.0) (lead_back l s.last both.1) first less,
      low_is (a + 4 * n) rest left.1 (at_block a n s.whole is.0),
    )

-- ---- any request

whole_op : (x op : Op) → Some x ≡ Some op → op ≡ x
whole_op x op e = cc

boundary_at : (k : Kind) (b : Body) (dw : ℕ) (bytes : List ℕ) (op rest : Op) → op_at k b dw bytes ≡ Some op → op_fault op ≡ None → dw_in_front op ≢ 0 → op_at k (body_behind (dw_in_front op) dw b) (dw - dw_in_front op) bytes ≡ Some rest → Boundary op rest
boundary_at kinds.MemoryRead (bodies.Request a f l) dw bytes op rest is fault some left =
    let same : ops.Read a dw f l ≡ op = cc in
    let none : op_fault (ops.Read a dw f l) ≡ None = ap op_fault same ∙ fault in
    let more : dw_before_end a dw ≢ 0 = λ e. some (ap dw_in_front (sym same) ∙ e) in
    let n = dw_before_end a dw in
    let there : Some (ops.Read (a + 4 * n) (dw - n) (rest_first (dw - n) l) (rest_last (dw - n) l)) ≡ Some rest =
    subst (λ (x : Op). op_at kinds.MemoryRead (body_behind (dw_in_front x) dw (bodies.Request a f l)) (dw - dw_in_front x) bytes ≡ Some rest) (sym same) left in
    let end : ops.Read (a + 4 * n) (dw - n) (rest_first (dw - n) l) (rest_last (dw - n) l) ≡ rest = cc in
    subst (λ (x : Op). Boundary x rest) same (subst (λ (x : Op). Boundary (ops.Read a dw f l) x) end (read_boundary a dw f l none more))
boundary_at kinds.MemoryRead (bodies.Completion c s n lower) dw bytes op rest is fault some left = absurd cc
boundary_at kinds.MemoryWrite (bodies.Request a f l) dw bytes op rest is fault some left = absurd (some (ap dw_in_front (whole_op _ op is)))
boundary_at kinds.MemoryWrite (bodies.Completion c s n lower) dw bytes op rest is fault some left = absurd cc
boundary_at kinds.FetchAdd (bodies.Request a f l) dw bytes op rest is fault some left = absurd (some (ap dw_in_front (whole_op _ op is)))
boundary_at kinds.FetchAdd (bodies.Completion c s n lower) dw bytes op rest is fault some left = absurd cc
boundary_at kinds.Swap (bodies.Request a f l) dw bytes op rest is fault some left = absurd (some (ap dw_in_front (whole_op _ op is)))
boundary_at kinds.Swap (bodies.Completion c s n lower) dw bytes op rest is fault some left = absurd cc
boundary_at kinds.Cas (bodies.Request a f l) dw bytes op rest is fault some left = absurd (some (ap dw_in_front (whole_op _ op is)))
boundary_at kinds.Cas (bodies.Completion c s n lower) dw bytes op rest is fault some left = absurd cc
boundary_at kinds.Completion b dw bytes op rest is fault some left = absurd cc
boundary_at kinds.CompletionData b dw bytes op rest is fault some left = absurd cc

pub ends_at_the_boundary : (t : TlpView) (op rest : Op) → op_of t ≡ Some op → op_fault op ≡ None → dw_in_front op ≢ 0 → op_of (behind (dw_in_front op) t) ≡ Some rest → Boundary op rest
ends_at_the_boundary t op rest is fault some left = boundary_at t.kind t.body t.length t.payload op rest is fault some left

counts_at : (k : Kind) (b : Body) (dw : ℕ) (bytes : List ℕ) (op : Op) → op_at k b dw bytes ≡ Some op → op_fault op ≡ None → dw_in_front op ≢ 0 → Counts op k b dw k (body_behind (dw_in_front op) dw b) (dw - dw_in_front op)
counts_at kinds.MemoryRead (bodies.Request a f l) dw bytes op is fault some =
    let same : ops.Read a dw f l ≡ op = cc in
    let none : op_fault (ops.Read a dw f l) ≡ None = ap op_fault same ∙ fault in
    let more : dw_before_end a dw ≢ 0 = λ e. some (ap dw_in_front (sym same) ∙ e) in
    subst (λ (x : Op). Counts x kinds.MemoryRead (bodies.Request a f l) dw kinds.MemoryRead (body_behind (dw_in_front x) dw (bodies.Request a f l)) (dw - dw_in_front x)) same (read_counts a dw f l none more)
counts_at kinds.MemoryRead (bodies.Completion c s n lower) dw bytes op is fault some = absurd cc
counts_at kinds.MemoryWrite (bodies.Request a f l) dw bytes op is fault some = absurd (some (ap dw_in_front (whole_op _ op is)))
counts_at kinds.MemoryWrite (bodies.Completion c s n lower) dw bytes op is fault some = absurd cc
counts_at kinds.FetchAdd (bodies.Request a f l) dw bytes op is fault some = absurd (some (ap dw_in_front (whole_op _ op is)))
counts_at kinds.FetchAdd (bodies.Completion c s n lower) dw bytes op is fault some = absurd cc
counts_at kinds.Swap (bodies.Request a f l) dw bytes op is fault some = absurd (some (ap dw_in_front (whole_op _ op is)))
counts_at kinds.Swap (bodies.Completion c s n lower) dw bytes op is fault some = absurd cc
counts_at kinds.Cas (bodies.Request a f l) dw bytes op is fault some = absurd (some (ap dw_in_front (whole_op _ op is)))
counts_at kinds.Cas (bodies.Completion c s n lower) dw bytes op is fault some = absurd cc
counts_at kinds.Completion b dw bytes op is fault some = absurd cc
counts_at kinds.CompletionData b dw bytes op is fault some = absurd cc

pub counts_fall : (t : TlpView) (op : Op) → op_of t ≡ Some op → op_fault op ≡ None → dw_in_front op ≢ 0 → let r = behind (dw_in_front op) t in Counts op t.kind t.body t.length r.kind r.body r.length
counts_fall t op is fault some = counts_at t.kind t.body t.length t.payload op is fault some
