-- The replies to operations that words spell are spelled, too.
use Rattle.std.proofs.Common.{◌≡◌, ℕ, zero, suc, ◌+◌, ◌-◌, ◌*◌, ◌/◌, ◌%◌, ◌<◌, ◌≤◌, ◌∙◌, ◌++◌, inl, inr, Bool, true, false, if◌then◌else◌, List, [], ◌∷◌, length, take, drop, replicate, Option, Some, None, All, refl, sym, ap, subst, arith}
use Rattle.std.specs.Prelude.{◌==◌, ◌&&◌, ◌||◌, not, nat_lt, nat_le, is_some, codes, fold, option_map, slice_get, slice_index}
use Rattle.std.specs.Int.{byte_at, bytes_low_first}
use Rattle.std.proofs.lemmas.Bool.{ne_eqb}
use Rattle.std.proofs.lemmas.Bool.Decides.{nat_tests}
use Rattle.std.proofs.lemmas.List.Elements.{All-nil, All-cons, All-head, All-tail, All-append, All-take, All-drop}
use Rattle.std.proofs.lemmas.Option.{same_Some}
use Rattle.std.proofs.Common.{length-drop}
use Rattle.std.proofs.Math.Seq.{length-take-le}
use Rattle.hex.specs.Hex.{encode_upper, upper_digits, IsBytes}
use Rattle.hex.proofs.HexLemmas.{length-encode_with, decode_of-encode_upper}
use Rattle.byteorder.specs.Endian.{little_bytes}
use Rattle.byteorder.specs.Numbers.{length-bytes_low_first}
use Rattle.tlp_core.specs.declared.fault.TlpFault.{TlpFault}
use Rattle.tlp_core.specs.declared.fault.TlpFault.TheVariants as faults
use Rattle.tlp_core.specs.Ops.{Op}
use Rattle.tlp_core.specs.declared.operation.OpOf.TheVariants as ops
use Rattle.tlp_core.specs.declared.operation.Width.{Width}
use Rattle.tlp_core.specs.declared.operation.Width.TheVariants as widths
use Rattle.tlp_core.specs.Enables.{dw_enables, enables}
use Rattle.tlp_core.specs.Operation.{size_of, is_posted, address_of, count_of, op_fault, wrong_length}
use Rattle.seq_memory.specs.Limits.{Extent, IsBlock}
use Rattle.seq_memory.specs.Entries.{Entry}
use Rattle.seq_memory.specs.declared.Refusal.{Refusal}
use Rattle.seq_memory.specs.declared.Refusal.TheVariants as refusals
use Rattle.seq_memory.specs.Entries.{Reply}
use Rattle.seq_memory.specs.declared.reply.ReplyOf.TheVariants as replies
use Rattle.seq_memory.specs.Step.{is_in_block, is_inside, refusal, merged, place_after, read_back, bytes_at, patched, after_by, answer_by, after, answer, data_of}
use Rattle.seq_memory.specs.History.{contents, contents_at, reply_at}
use Rattle.operation_text.specs.Numbers.{byte_string}
use Rattle.operation_text.specs.Operations.{reply_spelled, IsSpelledOp, IsSpelledReply}
use Rattle.log_text.proofs.Spelled.{Range, IsShortOp, HasShortData, short-op}

-- ---- lists of bytes

abbrev IsByte : ℕ → Type 0
IsByte b = b < 256

abbrev AreBytes : List ℕ → Type 0
AreBytes xs = All IsByte xs

all-are : (xs : List ℕ) → AreBytes xs → IsBytes xs
all-are [] a i = omega arith
all-are (x ∷ xs) a zero = All-head IsByte x xs a
all-are (x ∷ xs) a (suc i) = all-are xs (All-tail IsByte x xs a) i

are-all : (xs : List ℕ) → IsBytes xs → AreBytes xs
are-all [] h = All-nil IsByte
are-all (x ∷ xs) h = All-cons IsByte x xs (h zero) (are-all xs (λ i. h (suc i)))

zeros : (n : ℕ) → AreBytes (replicate n 0)
zeros zero = All-nil IsByte
zeros (suc n) = All-cons IsByte 0 (replicate n 0) (omega arith) (zeros n)

byte_at-fits : (i x : ℕ) → byte_at i x < 256
byte_at-fits zero x = omega arith
byte_at-fits (suc i) x = omega arith

low-bytes : (i n x : ℕ) → AreBytes (bytes_low_first i n x)
low-bytes i zero x = All-nil IsByte
low-bytes i (suc n) x = All-cons IsByte (byte_at i x) (bytes_low_first (suc i) n x) (byte_at-fits i x) (low-bytes (suc i) n x)

one-of : (b : Bool) (x y : ℕ) → IsByte x → IsByte y → IsByte (if b then x else y)
one-of true x y h k = h
one-of false x y h k = k

merged-bytes : (es : List Bool) (xs ys : List ℕ) → AreBytes xs → AreBytes ys → AreBytes (merged es xs ys)
merged-bytes [] xs ys h k = All-nil IsByte
merged-bytes (e ∷ es) [] ys h k = All-nil IsByte
merged-bytes (e ∷ es) (x ∷ xs) [] h k = All-nil IsByte
merged-bytes (e ∷ es) (x ∷ xs) (y ∷ ys) h k =
    All-cons IsByte (if e then x else y) (merged es xs ys) (one-of e x y (All-head IsByte x xs h) (All-head IsByte y ys k))
    (merged-bytes es xs ys (All-tail IsByte x xs h) (All-tail IsByte y ys k))

merged-few : (es : List Bool) (xs ys : List ℕ) → length (merged es xs ys) ≤ length xs
merged-few [] xs ys = omega arith
merged-few (e ∷ es) [] ys = omega arith
merged-few (e ∷ es) (x ∷ xs) [] = omega arith
merged-few (e ∷ es) (x ∷ xs) (y ∷ ys) = let rest = merged-few es xs ys in omega (arith, rest)

merged-some : (es : List Bool) (xs ys : List ℕ) → 1 ≤ length es → 1 ≤ length xs → 1 ≤ length ys → 1 ≤ length (merged es xs ys)
merged-some [] xs ys e h k = absurd (omega (arith, e))
merged-some (e ∷ es) [] ys p h k = absurd (omega (arith, h))
merged-some (e ∷ es) (x ∷ xs) [] p h k = absurd (omega (arith, k))
merged-some (e ∷ es) (x ∷ xs) (y ∷ ys) p h k = omega arith

-- ---- what the memory holds

place-bytes : (op : Op) (old : List ℕ) → HasShortData op → AreBytes old → AreBytes (place_after op old)
place-bytes (ops.Read a dw f l) old s h = h
place-bytes (ops.Write a f l bytes) old s h = merged-bytes (enables (length bytes.items / 4) f l) bytes.items old (are-all bytes.items s.are_bytes) h
place-bytes (ops.FetchAdd a w x) old s h = low-bytes 0 (size_of w) _
place-bytes (ops.Swap a w x) old s h = low-bytes 0 (size_of w) _
place-bytes (ops.Cas a w x y) old s h = low-bytes 0 (size_of w) _

at-bytes : (m : List ℕ) (i n : ℕ) → AreBytes m → AreBytes (bytes_at m i n)
at-bytes m i n h = All-take IsByte n (drop i m) (All-drop IsByte i m h)

after-bytes : (x : Extent) (m : List ℕ) (op : Op) → HasShortData op → AreBytes m → AreBytes (after x.base x.block m op)
after-bytes x m op s h = by (refusal x.base (length m) x.block op) (address_of op - x.base) (count_of op)
  where
    by : (r : Option Refusal) (i n : ℕ) → AreBytes (after_by r m (patched m i n (place_after op (bytes_at m i n))))
    by None i n =
        All-append IsByte (take i m ++ place_after op (bytes_at m i n)) (drop (i + n) m)
        (All-append IsByte (take i m) (place_after op (bytes_at m i n)) (All-take IsByte i m h) (place-bytes op (bytes_at m i n) s (at-bytes m i n h)))
        (All-drop IsByte (i + n) m h)
    by (Some r) i n = h

abbrev AreShort : List Entry → Type 0
AreShort es = All (λ (e : Entry). HasShortData e.op) es

folded-bytes : (x : Extent) (es : List Entry) (m : List ℕ) → AreShort es → AreBytes m → AreBytes (fold (λ m e. after x.base x.block m e.op) m es)
folded-bytes x [] m s h = h
folded-bytes x (e ∷ es) m s h =
    folded-bytes x es (after x.base x.block m e.op) (All-tail (λ (e : Entry). HasShortData e.op) e es s)
    (after-bytes x m e.op (All-head (λ (e : Entry). HasShortData e.op) e es s) h)

contents-bytes : (x : Extent) (es : List Entry) → AreShort es → AreBytes (contents x es)
unfolding contents
contents-bytes x es s = folded-bytes x es (replicate x.size 0) s (zeros x.size)

-- ---- what is served

no_fault : (f : Option TlpFault) (b c : Bool) → (if is_some f || not b then Some refusals.Aborted else (if c then None else Some refusals.Unsupported)) ≡ None
    → (f ≡ None) × (b ≡ true) × (c ≡ true)
no_fault (Some f) b c e = absurd cc
no_fault None true true e = (refl, refl, refl)
no_fault None true false e = absurd cc
no_fault None false c e = absurd cc

first_test : (b : Bool) (rest : Option TlpFault) → (if b then Some faults.LengthMismatch else rest) ≡ None → b ≡ false
first_test true rest e = absurd cc
first_test false rest e = refl

some-length : (op : Op) → is_posted op ≡ false → op_fault op ≡ None → 1 ≤ count_of op
some-length (ops.Read a dw f l) p e =
    let t : ((dw == 0) || nat_lt 1024 dw) ≡ false = first_test (wrong_length (ops.Read a dw f l)) _ e in
    let some : 1 ≤ dw = grind (arith, nat_tests) in
    omega (arith, some)
some-length (ops.Write a f l bytes) p e = absurd cc
some-length (ops.FetchAdd a widths.Four x) p e = omega arith
some-length (ops.FetchAdd a widths.Eight x) p e = omega arith
some-length (ops.FetchAdd a widths.Sixteen x) p e = omega arith
some-length (ops.Swap a widths.Four x) p e = omega arith
some-length (ops.Swap a widths.Eight x) p e = omega arith
some-length (ops.Swap a widths.Sixteen x) p e = omega arith
some-length (ops.Cas a widths.Four x y) p e = omega arith
some-length (ops.Cas a widths.Eight x y) p e = omega arith
some-length (ops.Cas a widths.Sixteen x y) p e = omega arith

in-64 : (a n : ℕ) → 1 ≤ n → (a / 64 == (a + n - 1) / 64) ≡ true → n ≤ 128
in-64 a n h e =
    let same : a / 64 ≡ (a + n - 1) / 64 = grind (arith, nat_tests) in
    omega (arith, same, h)

in-128 : (a n : ℕ) → 1 ≤ n → (a / 128 == (a + n - 1) / 128) ≡ true → n ≤ 128
in-128 a n h e =
    let same : a / 128 ≡ (a + n - 1) / 128 = grind (arith, nat_tests) in
    omega (arith, same, h)

in-block : (block a n : ℕ) → IsBlock block → 1 ≤ n → is_in_block block a n ≡ true → n ≤ 128
in-block block a n (inl b) h e = in-64 a n h (subst (λ (k : ℕ). is_in_block k a n ≡ true) b e)
in-block block a n (inr b) h e = in-128 a n h (subst (λ (k : ℕ). is_in_block k a n ≡ true) b e)

inside-is : (base size a n : ℕ) → is_inside base size a n ≡ true → (a - base) + n ≤ size
inside-is base size a n e = grind (arith, nat_tests)

-- ---- replies

data-told : (bytes : List ℕ) → 1 ≤ length bytes → length bytes ≤ 128 → IsBytes bytes → IsSpelledReply (data_of bytes)
data-told bytes some few are =
    let len = length-encode_with upper_digits bytes in
    let not_none : (length (encode_upper bytes) == 0) ≡ false = ne_eqb _ 0 (λ e. omega (arith, len, e, some)) in
    let not_long : nat_lt 256 (length (encode_upper bytes)) ≡ false = grind (arith, nat_tests) in
    let back : byte_string (encode_upper bytes) ≡ Some bytes = rw (not_none, not_long, decode_of-encode_upper bytes are) refl in
    (codes "data" ∷ encode_upper bytes ∷ [], rw back refl)

enables-some : (dw f l : ℕ) → 1 ≤ length (enables dw f l)
unfolding enables
enables-some dw f l = by (dw == 1)
  where
    by : (b : Bool) → 1 ≤ length (if b then dw_enables f else dw_enables f ++ replicate (4 * (dw - 2)) true ++ dw_enables l)
    by true = omega arith
    by false = omega arith

zeros-some : (n : ℕ) → 1 ≤ n → 1 ≤ length {A = ℕ} (replicate n 0)
zeros-some zero h = absurd (omega (arith, h))
zeros-some (suc n) h = omega arith

-- the place of an operation that is no write
back-told : (op : Op) (old : List ℕ) → is_posted op ≡ false → 1 ≤ count_of op → count_of op ≤ 128 → length old ≡ count_of op → AreBytes old → IsSpelledReply (read_back op old)
back-told (ops.Read a dw f l) old p some few len are =
    let xs = merged (enables dw f l) old (replicate (4 * dw) 0) in
    let least : 1 ≤ length xs = merged-some (enables dw f l) old (replicate (4 * dw) 0) (enables-some dw f l) (omega (arith, some, len)) (zeros-some (4 * dw) some) in
    let most = merged-few (enables dw f l) old (replicate (4 * dw) 0) in
    data-told xs least (omega (arith, most, len, few)) (all-are xs (merged-bytes (enables dw f l) old (replicate (4 * dw) 0) are (zeros (4 * dw))))
back-told (ops.Write a f l bytes) old p some few len are = absurd cc
back-told (ops.FetchAdd a w x) old p some few len are = data-told old (omega (arith, some, len)) (omega (arith, few, len)) (all-are old are)
back-told (ops.Swap a w x) old p some few len are = data-told old (omega (arith, some, len)) (omega (arith, few, len)) (all-are old are)
back-told (ops.Cas a w x y) old p some few len are = data-told old (omega (arith, some, len)) (omega (arith, few, len)) (all-are old are)

answer-told : (x : Extent) (m : List ℕ) (op : Op) → IsBlock x.block → is_posted op ≡ false → AreBytes m → IsSpelledReply (answer x.base x.block m op)
answer-told x m op block p are = by (refusal x.base (length m) x.block op) refl
  where
    by : (r : Option Refusal) → refusal x.base (length m) x.block op ≡ r → IsSpelledReply (answer_by r (read_back op (bytes_at m (address_of op - x.base) (count_of op))))
    by (Some refusals.Aborted) e = (codes "ca" ∷ [], refl)
    by (Some refusals.Unsupported) e = (codes "ur" ∷ [], refl)
    by None e =
        let parts = no_fault (op_fault op) (is_in_block x.block (address_of op) (count_of op)) (is_inside x.base (length m) (address_of op) (count_of op)) e in
        let some = some-length op p parts.0 in
        let inside = inside-is x.base (length m) (address_of op) (count_of op) parts.2 in
        let behind = length-drop (address_of op - x.base) m in
        let old = bytes_at m (address_of op - x.base) (count_of op) in
        let len : length old ≡ count_of op = length-take-le (count_of op) (drop (address_of op - x.base) m) (omega (arith, inside, behind)) in
        back-told op old p some (in-block x.block (address_of op) (count_of op) block some parts.1) len (at-bytes m (address_of op - x.base) (count_of op) are)

short-entries : Range → (es : List Entry) → All (λ (e : Entry). IsSpelledOp e.op) es → AreShort es
short-entries range [] h = All-nil (λ (e : Entry). HasShortData e.op)
short-entries range (e ∷ es) h =
    All-cons (λ (e : Entry). HasShortData e.op) e es (short-op range e.op (All-head (λ (e : Entry). IsSpelledOp e.op) e es h)).short
    (short-entries range es (All-tail (λ (e : Entry). IsSpelledOp e.op) e es h))

-- the reply to an entry of a history whose operations are spelled
pub reply-told : Range → (x : Extent) (es : List Entry) (point : ℕ) (e : Entry) (reply : Reply) → IsBlock x.block → All (λ (e : Entry). IsSpelledOp e.op) es
    → slice_get es point ≡ Some e → is_posted e.op ≡ false → reply_at x es point ≡ Some reply → IsSpelledReply reply
reply-told range x es point e reply block all at p r =
    let there : Some (answer x.base x.block (contents_at x es point) e.op) ≡ Some reply =
    sym (ap (λ (o : Option Entry). option_map (λ (e : Entry). answer x.base x.block (contents_at x es point) e.op) o) at) ∙ r in
    subst IsSpelledReply (same_Some (answer x.base x.block (contents_at x es point) e.op) reply there)
    (answer-told x (contents_at x es point) e.op block p (contents-bytes x (take point es) (short-entries range (take point es) (All-take (λ (e : Entry). IsSpelledOp e.op) point es all))))
