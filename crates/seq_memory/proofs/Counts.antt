-- A history that counts at one place.
use Rattle.std.proofs.Common.{◌≡◌, ℕ, suc, ◌+◌, ◌-◌, ◌*◌, ◌%◌, ◌^◌, ◌≤◌, List, [], ◌∷◌, length, None, refl, sym, ap, ◌∙◌, arith}
use Rattle.std.specs.Prelude.{fold, replicate}
use Rattle.std.proofs.Math.Nat.{mod-add-mod, mod-mod, div-one}
use Rattle.std.proofs.lemmas.List.{append-nil, take-replicate, drop-replicate, length-replicate}
use Rattle.byteorder.specs.Endian.{little_number, little_bytes}
use Rattle.byteorder.specs.Numbers.{little_from-bytes}
use Rattle.tlp_core.specs.declared.operation.OpOf.TheVariants as ops
use Rattle.tlp_core.specs.declared.operation.Width.{Width}
use Rattle.tlp_core.specs.declared.operation.Width.TheVariants as widths
use Rattle.tlp_core.specs.Operation.{size_of}
use Rattle.seq_memory.specs.Entries.{Entry}
use Rattle.seq_memory.specs.Step.{refusal, after, bytes_at}
use Rattle.seq_memory.specs.Limits.{Extent}
use Rattle.seq_memory.specs.History.{contents, AreCounts}
use Rattle.seq_memory.proofs.Steps.{size_kept, place_is, served, placed}

-- the two ways to tell how many numbers a width has
same_modulus : (w : Width) → 2 ^ (8 * size_of w) ≡ 256 ^ size_of w
same_modulus widths.Four = refl
same_modulus widths.Eight = refl
same_modulus widths.Sixteen = refl

pub zero_bytes : (w : Width) → replicate (size_of w) 0 ≡ little_bytes (size_of w) (0 % 2 ^ (8 * size_of w))
zero_bytes widths.Four = refl
zero_bytes widths.Eight = refl
zero_bytes widths.Sixteen = refl

-- the number that its bytes tell
pub number_told : (w : Width) (x : ℕ) → little_number (size_of w) (little_bytes (size_of w) x) ≡ x % 2 ^ (8 * size_of w)
number_told w x =
    ap (little_number (size_of w)) (sym (append-nil (little_bytes (size_of w) x)))
    ∙ little_from-bytes (size_of w) 0 x []
    ∙ ap (λ y. y % 256 ^ size_of w) (div-one x)
    ∙ ap (λ m. x % m) (sym (same_modulus w))

one_more : (x m : ℕ) → (x % m % m + 1) % m ≡ (x + 1) % m
one_more x m =
    ap (λ y. (y + 1) % m) (mod-mod x m) ∙ mod-add-mod x m 1

-- one FetchAdd of 1
pub counted : (base block a : ℕ) (w : Width) (m : List ℕ) (x : ℕ) → refusal base (length m) block (ops.FetchAdd a w 1) ≡ None
    → bytes_at m (a - base) (size_of w) ≡ little_bytes (size_of w) (x % 2 ^ (8 * size_of w))
    → bytes_at (after base block m (ops.FetchAdd a w 1)) (a - base) (size_of w) ≡ little_bytes (size_of w) ((x + 1) % 2 ^ (8 * size_of w))
counted base block a w m x e h =
    let n = size_of w in
    let all = 2 ^ (8 * n) in
    place_is base block m (ops.FetchAdd a w 1) e
    ∙ ap (λ old. little_bytes n ((little_number n old + 1) % all)) h
    ∙ ap (λ y. little_bytes n ((y + 1) % all)) (number_told w (x % all))
    ∙ ap (little_bytes n) (one_more x all)

counted_all : (base block a : ℕ) (w : Width) (es : List Entry) (m : List ℕ) (x : ℕ) → AreCounts a w es → refusal base (length m) block (ops.FetchAdd a w 1) ≡ None
    → bytes_at m (a - base) (size_of w) ≡ little_bytes (size_of w) (x % 2 ^ (8 * size_of w))
    → bytes_at (fold (λ m e. after base block m e.op) m es) (a - base) (size_of w) ≡ little_bytes (size_of w) ((x + length es) % 2 ^ (8 * size_of w))
counted_all base block a w [] m x c e h = h ∙ ap (λ y. little_bytes (size_of w) (y % 2 ^ (8 * size_of w))) (omega arith)
counted_all base block a w (f ∷ es) m x c e h =
    let op = ops.FetchAdd a w 1 in
    let is : f.op ≡ op = c 0 f refl in
    let next = after base block m f.op in
    let served : refusal base (length next) block op ≡ None = ap (λ k. refusal base k block op) (size_kept base block m f.op) ∙ e in
    let there = ap (λ o. bytes_at (after base block m o) (a - base) (size_of w)) is ∙ counted base block a w m x e h in
    counted_all base block a w es next (x + 1) (λ p f' at. c (suc p) f' at) served there
    ∙ ap (λ y. little_bytes (size_of w) (y % 2 ^ (8 * size_of w))) (omega arith)

-- zeros at a place that is served
pub zeros_there : (base size i n : ℕ) → i + n ≤ size → bytes_at (replicate size 0) i n ≡ replicate n 0
zeros_there base size i n h = grind (arith, take-replicate, drop-replicate)

pub count_bytes : (x : Extent) (a : ℕ) (w : Width) (es : List Entry) → refusal x.base x.size x.block (ops.FetchAdd a w 1) ≡ None → AreCounts a w es
    → bytes_at (contents x es) (a - x.base) (size_of w) ≡ little_bytes (size_of w) (length es % 2 ^ (8 * size_of w))
unfolding contents
count_bytes x a w es e c =
    let op = ops.FetchAdd a w 1 in
    let long : length {A = ℕ} (replicate x.size 0) ≡ x.size = length-replicate {A = ℕ} x.size 0 in
    let place = placed x.base x.block x.size op (served x.base x.block x.size op e) in
    counted_all x.base x.block a w es (replicate x.size 0) 0 c (ap (λ k. refusal x.base k x.block op) long ∙ e)
    (zeros_there x.base x.size (a - x.base) (size_of w) place.fits ∙ zero_bytes w)
    ∙ ap (λ y. little_bytes (size_of w) (y % 2 ^ (8 * size_of w))) (omega arith)

pub count_number : (x : Extent) (a : ℕ) (w : Width) (es : List Entry) → refusal x.base x.size x.block (ops.FetchAdd a w 1) ≡ None → AreCounts a w es
    → little_number (size_of w) (bytes_at (contents x es) (a - x.base) (size_of w)) ≡ length es % 2 ^ (8 * size_of w)
count_number x a w es e c =
    ap (little_number (size_of w)) (count_bytes x a w es e c)
    ∙ number_told w (length es % 2 ^ (8 * size_of w)) ∙ mod-mod (length es) (2 ^ (8 * size_of w))
