-- A history that counts at one place beside other requests.
use Rattle.std.proofs.Common.{◌≡◌, ℕ, suc, ◌+◌, ◌-◌, ◌*◌, ◌%◌, ◌^◌, ◌<◌, ◌≤◌, ◌⊎◌, inl, inr, Bool, true, false, List, [], ◌∷◌, length, Some, None, refl, sym, ap, ◌∙◌, arith}
use Rattle.std.specs.Prelude.{◌==◌, ◌&&◌, fold, replicate, drop, get_or}
use Rattle.std.proofs.lemmas.Bool.{eqb-true, and_parts}
use Rattle.std.proofs.lemmas.Grind.{same_number_lists}
use Rattle.std.proofs.lemmas.List.{length-take, length-drop, get_or-take, get_or-drop, length-replicate}
use Rattle.std.proofs.Math.Nat.{mod-mod}
use Rattle.byteorder.specs.Endian.{little_number, little_bytes}
use Rattle.tlp_core.specs.Ops.{Op}
use Rattle.tlp_core.specs.declared.operation.OpOf.TheVariants as ops
use Rattle.tlp_core.specs.declared.operation.Width.{Width}
use Rattle.tlp_core.specs.declared.operation.Width.TheVariants as widths
use Rattle.tlp_core.specs.Operation.{size_of, address_of, count_of}
use Rattle.seq_memory.specs.Entries.{Entry}
use Rattle.seq_memory.specs.declared.Refusal.{Refusal}
use Rattle.seq_memory.specs.Step.{refusal, after, bytes_at}
use Rattle.seq_memory.specs.Limits.{Extent}
use Rattle.seq_memory.specs.History.{contents, is_addition, additions, Leaves, AddsOrLeaves, AreAddsOrLeave}
use Rattle.seq_memory.proofs.Steps.{size_kept, others_kept, refused_kept, reads_keep, served, placed}
use Rattle.seq_memory.proofs.Counts.{number_told, zero_bytes, zeros_there, counted}

-- ---- which requests are additions

same_width : (v w : Width) → size_of v ≡ size_of w → v ≡ w
same_width widths.Four widths.Four h = refl
same_width widths.Eight widths.Eight h = refl
same_width widths.Sixteen widths.Sixteen h = refl
same_width widths.Four widths.Eight h = absurd (omega (arith, h))
same_width widths.Four widths.Sixteen h = absurd (omega (arith, h))
same_width widths.Eight widths.Four h = absurd (omega (arith, h))
same_width widths.Eight widths.Sixteen h = absurd (omega (arith, h))
same_width widths.Sixteen widths.Four h = absurd (omega (arith, h))
same_width widths.Sixteen widths.Eight h = absurd (omega (arith, h))

addition_is : (a : ℕ) (w : Width) (op : Op) → is_addition a w op ≡ true → op ≡ ops.FetchAdd a w 1
addition_is a w (ops.FetchAdd b v x) h =
    let parts = and_parts (b == a && size_of v == size_of w) (x == 1) h in
    let first = and_parts (b == a) (size_of v == size_of w) parts.0 in
    let place : b ≡ a = eqb-true b a first.0 in
    let width : v ≡ w = same_width v w (eqb-true (size_of v) (size_of w) first.1) in
    let one : x ≡ 1 = eqb-true x 1 parts.1 in
    λ i. ops.FetchAdd (place i) (width i) (one i)
addition_is a w (ops.Read b dw f l) h = absurd (cc)
addition_is a w (ops.Write b f l bytes) h = absurd (cc)
addition_is a w (ops.Swap b v x) h = absurd (cc)
addition_is a w (ops.Cas b v x y) h = absurd (cc)

-- ---- which others leave a place as it is

pub refused_leaves : (x : Extent) (a count : ℕ) (op : Op) (r : Refusal) → refusal x.base x.size x.block op ≡ Some r → Leaves x a count op
refused_leaves x a count op r e m long =
    ap (λ xs. bytes_at xs (a - x.base) count) (refused_kept x.base x.block m op r (ap (λ k. refusal x.base k x.block op) long ∙ e))

pub read_leaves : (x : Extent) (a count b dw f l : ℕ) → Leaves x a count (ops.Read b dw f l)
read_leaves x a count b dw f l m long = ap (λ xs. bytes_at xs (a - x.base) count) (reads_keep x.base x.block b dw f l m)

length_of_bytes : (xs ys : List ℕ) (i n : ℕ) → length xs ≡ length ys → length (bytes_at xs i n) ≡ length (bytes_at ys i n)
length_of_bytes xs ys i n e = grind (arith, length-take, length-drop)

byte_of : (xs : List ℕ) (i n k : ℕ) → k < n → get_or (bytes_at xs i n) k 0 ≡ get_or xs (i + k) 0
byte_of xs i n k h = get_or-take n (drop i xs) k 0 h ∙ get_or-drop i xs k 0

most_bytes : (xs : List ℕ) (i n k : ℕ) → k < length (bytes_at xs i n) → k < n
most_bytes xs i n k h = grind (arith, length-take, length-drop)

apart_at : (base a k address count n : ℕ) → base ≤ a → k < n → (a + n ≤ address) ⊎ (address + count ≤ a)
    → (base + (a - base + k) < address) ⊎ (address + count ≤ base + (a - base + k))
apart_at base a k address count n b h (inl g) = inl (omega (arith, b, h, g))
apart_at base a k address count n b h (inr g) = inr (omega (arith, b, h, g))

pub apart_leaves : (x : Extent) (a count : ℕ) (op : Op) → x.base ≤ a → (a + count ≤ address_of op) ⊎ (address_of op + count_of op ≤ a) → Leaves x a count op
apart_leaves x a count op b apart m long =
    let i = a - x.base in
    let m' = after x.base x.block m op in
    same_number_lists (bytes_at m' i count) (bytes_at m i count) (length_of_bytes m' m i count (size_kept x.base x.block m op))
    (λ k h.
    let few = most_bytes m' i count k h in
    byte_of m' i count k few
    ∙ others_kept x.base x.block (i + k) m op (apart_at x.base a k (address_of op) (count_of op) count b few apart)
    ∙ sym (byte_of m i count k few))

-- ---- the history

one_is_first : (x : Extent) (a : ℕ) (w : Width) (e : Entry) (es : List Entry) → is_addition a w e.op ≡ true → additions a w (e ∷ es) ≡ 1 + additions a w es
one_is_first x a w e es h = grind arith

none_is_first : (x : Extent) (a : ℕ) (w : Width) (e : Entry) (es : List Entry) → is_addition a w e.op ≡ false → additions a w (e ∷ es) ≡ additions a w es
none_is_first x a w e es h = grind arith

-- the bytes of the counter are that number's
abbrev IsNumber : Extent → ℕ → Width → List ℕ → ℕ → Type 0
IsNumber x a w m n = bytes_at m (a - x.base) (size_of w) ≡ little_bytes (size_of w) (n % 2 ^ (8 * size_of w))

abbrev all_after : Extent → List ℕ → List Entry → List ℕ
all_after x m es = fold (λ m e. after x.base x.block m e.op) m es

sum_of : (n k : ℕ) → n + 1 + k ≡ n + (1 + k)
sum_of n k = omega arith

leaves_of : (x : Extent) (a : ℕ) (w : Width) (op : Op) → is_addition a w op ≡ false → AddsOrLeaves x a w op → Leaves x a (size_of w) op
leaves_of x a w op h (inl is) = absurd (cc)
leaves_of x a w op h (inr leaves) = leaves

-- what the first entry does, where the others behind it are known to count from any number on
with_first : (x : Extent) (a : ℕ) (w : Width) (f : Entry) (es : List Entry) (m : List ℕ) (n : ℕ) → AddsOrLeaves x a w f.op → length m ≡ x.size
    → refusal x.base x.size x.block (ops.FetchAdd a w 1) ≡ None → IsNumber x a w m n → (b : Bool) → is_addition a w f.op ≡ b
    → ((k : ℕ) → IsNumber x a w (after x.base x.block m f.op) k → IsNumber x a w (all_after x (after x.base x.block m f.op) es) (k + additions a w es))
    → IsNumber x a w (all_after x (after x.base x.block m f.op) es) (n + additions a w (f ∷ es))
with_first x a w f es m n c long e h true is again =
    let op = ops.FetchAdd a w 1 in
    let served : refusal x.base (length m) x.block op ≡ None = ap (λ j. refusal x.base j x.block op) long ∙ e in
    let there = ap (λ o. bytes_at (after x.base x.block m o) (a - x.base) (size_of w)) (addition_is a w f.op is) ∙ counted x.base x.block a w m n served h in
    let sum : n + 1 + additions a w es ≡ n + additions a w (f ∷ es) = sum_of n (additions a w es) ∙ ap (λ j. n + j) (sym (one_is_first x a w f es is)) in
    again (n + 1) there ∙ ap (λ y. little_bytes (size_of w) (y % 2 ^ (8 * size_of w))) sum
with_first x a w f es m n c long e h false is again =
    again n (leaves_of x a w f.op is c m long ∙ h)
    ∙ ap (λ y. little_bytes (size_of w) ((n + y) % 2 ^ (8 * size_of w))) (sym (none_is_first x a w f es is))

counted_beside : (x : Extent) (a : ℕ) (w : Width) (es : List Entry) (m : List ℕ) (n : ℕ) → AreAddsOrLeave x a w es → length m ≡ x.size
    → refusal x.base x.size x.block (ops.FetchAdd a w 1) ≡ None → IsNumber x a w m n → IsNumber x a w (all_after x m es) (n + additions a w es)
counted_beside x a w [] m n c long e h = h ∙ ap (λ y. little_bytes (size_of w) (y % 2 ^ (8 * size_of w))) (omega arith)
counted_beside x a w (f ∷ es) m n c long e h =
    with_first x a w f es m n (c 0 f refl) long e h (is_addition a w f.op) refl
    (λ k there. counted_beside x a w es (after x.base x.block m f.op) k (λ p g at. c (suc p) g at) (size_kept x.base x.block m f.op ∙ long) e there)

pub beside_bytes : (x : Extent) (a : ℕ) (w : Width) (es : List Entry) → refusal x.base x.size x.block (ops.FetchAdd a w 1) ≡ None → AreAddsOrLeave x a w es
    → bytes_at (contents x es) (a - x.base) (size_of w) ≡ little_bytes (size_of w) (additions a w es % 2 ^ (8 * size_of w))
unfolding contents
beside_bytes x a w es e c =
    let long : length {A = ℕ} (replicate x.size 0) ≡ x.size = length-replicate {A = ℕ} x.size 0 in
    let place = placed x.base x.block x.size (ops.FetchAdd a w 1) (served x.base x.block x.size (ops.FetchAdd a w 1) e) in
    counted_beside x a w es (replicate x.size 0) 0 c long e
    (zeros_there x.base x.size (a - x.base) (size_of w) place.fits ∙ zero_bytes w)
    ∙ ap (λ y. little_bytes (size_of w) (y % 2 ^ (8 * size_of w))) (omega arith)

pub beside_number : (x : Extent) (a : ℕ) (w : Width) (es : List Entry) → refusal x.base x.size x.block (ops.FetchAdd a w 1) ≡ None → AreAddsOrLeave x a w es
    → little_number (size_of w) (bytes_at (contents x es) (a - x.base) (size_of w)) ≡ additions a w es % 2 ^ (8 * size_of w)
beside_number x a w es e c =
    ap (little_number (size_of w)) (beside_bytes x a w es e c)
    ∙ number_told w (additions a w es % 2 ^ (8 * size_of w)) ∙ mod-mod (additions a w es) (2 ^ (8 * size_of w))
