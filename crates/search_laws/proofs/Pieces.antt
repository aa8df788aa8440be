-- Words spell the pieces of an operation that words spell.
use Rattle.std.proofs.Common.{◌≡◌, ◌∙◌, ℕ, zero, suc, ◌+◌, ◌-◌, ◌*◌, ◌/◌, ◌%◌, ◌^◌, ◌<◌, ◌≤◌, inl, inr, Bool, true, false, cond, List, [], ◌∷◌, length, take, drop, Option, Some, None, Result, refl, sym, ap, subst, arith, length-drop}
use Rattle.std.specs.Prelude.{slice_get, ◌⊎◌, ◌==◌, ◌&&◌, ◌||◌, not, nat_lt, nat_le, is_some, if◌then◌else◌}
use Rattle.std.specs.List.{list_all}
use Rattle.std.specs.Fmt.{decimal}
use Rattle.std.proofs.lemmas.Bool.{cases_Bool}
use Rattle.std.proofs.lemmas.Bool.Decides.{nat_tests}
use Rattle.std.proofs.lemmas.Option.{same_Some}
use Rattle.arrayvec.specs.ArrayVec.{ArrayVec}
use Rattle.hex.specs.Hex.{IsBytes, encode_upper, upper_digits, decode_of}
use Rattle.hex.specs.declared.error.FromHexError.{FromHexError}
use Rattle.hex.proofs.HexLemmas.{length-encode_with, decode_of-encode_upper}
use Rattle.tlp_core.specs.Ops.{Op}
use Rattle.tlp_core.specs.declared.operation.OpOf.TheVariants as ops
use Rattle.tlp_core.specs.declared.fault.TlpFault.TheVariants as faults
use Rattle.tlp_core.specs.Enables.{are_enables}
use Rattle.tlp_core.specs.Operation.{address_of, count_of, op_fault, wrong_length, wrong_enables, wrong_operand, wrong_address}
use Rattle.seq_memory.specs.Limits.{Extent, IsWithinLimits}
use Rattle.seq_memory.specs.Step.{is_in_block, is_inside}
use Rattle.op_pieces.specs.Pieces.{inner, rest_first, rest_last, front, back, dw_of, dw_to, cut, is_served}
use Rattle.log_pieces.specs.Pieces.{pieces}
use Rattle.operation_text.specs.Words.{then_with, field, ended}
use Rattle.operation_text.specs.Numbers.{numeral, decoded, byte_string}
use Rattle.operation_text.specs.Operations.{address, count, enables, IsSpelledOp}
use Rattle.operation_text.specs.Texts.{hexadecimal, op_words}
use Rattle.search_laws.proofs.Spelled.{Range, IsShortData, short-op}

-- the laws of digits
pub record Digits : Type 0 where
  pub range : Range
  pub decimal_back : (most n : ℕ) → n ≤ most → n < 2 ^ 64 → numeral 10 most (decimal n) ≡ Some n
  pub hexadecimal_back : (most n : ℕ) → n ≤ most → n < 2 ^ 64 → numeral 16 most (hexadecimal n) ≡ Some n

-- ---- fields

field_is : {X Y : Type 0} (spelled : List ℕ → Option X) (f : X → List (List ℕ) → Option Y) (word : List ℕ) (ws : List (List ℕ)) (x : X) → spelled word ≡ Some x → field spelled f (word ∷ ws) ≡ f x ws
field_is {X = X} {Y = Y} spelled f word ws x e = ap (λ (o : Option X). then_with {X = X × List (List ℕ)} {Y = Y} (then_with {X = X} {Y = X × List (List ℕ)} o (λ (y : X). Some (y, ws))) (λ (s : X × List (List ℕ)). f s.0 s.1)) e

address_is : Digits → (a : ℕ) → a < 2 ^ 64 → address (hexadecimal a) ≡ Some a
address_is d a h = d.hexadecimal_back 18446744073709551615 a (omega (arith, h)) h

count_is : Digits → (n : ℕ) → n ≤ 1024 → count (decimal n) ≡ Some n
count_is d n h = d.decimal_back 65535 n (omega (arith, h)) (omega (arith, h))

enables_is : Digits → (n : ℕ) → n ≤ 15 → enables (hexadecimal n) ≡ Some n
enables_is d n h = d.hexadecimal_back 15 n h (omega (arith, h))

within : (n m : ℕ) → n ≡ 2 * m → 1 ≤ m → m ≤ 128 → ((n == 0) || nat_lt 256 n) ≡ false
within n m e some few = grind (arith, nat_tests)

bytes_is : (xs : List ℕ) → 1 ≤ length xs → length xs ≤ 128 → IsBytes xs → byte_string (encode_upper xs) ≡ Some xs
bytes_is xs some few bytes =
    let long : length (encode_upper xs) ≡ 2 * length xs = length-encode_with upper_digits xs in
    let ok : ((length (encode_upper xs) == 0) || nat_lt 256 (length (encode_upper xs))) ≡ false = within (length (encode_upper xs)) (length xs) long some few in
    ap (λ (b : Bool). cond b None (decoded (decode_of (encode_upper xs)))) ok ∙ ap (λ (r : Result (List ℕ) FromHexError). decoded r) (decode_of-encode_upper xs bytes)

-- ---- operations without a fault

none_by : (x y z w : Bool) → cond x (Some faults.LengthMismatch) (cond y (Some faults.ByteEnables) (cond z (Some faults.OperandSize) (cond w (Some faults.Unaligned) None))) ≡ None → (x ≡ false) × (y ≡ false)
none_by true y z w h = absurd (cc)
none_by false true z w h = absurd (cc)
none_by false false true w h = absurd (cc)
none_by false false false w h = (refl, refl)

has_none : (op : Op) → op_fault op ≡ None → (wrong_length op ≡ false) × (wrong_enables op ≡ false)
has_none op h = none_by (wrong_length op) (wrong_enables op) (wrong_operand op) (wrong_address op) h

some_dw : (dw : ℕ) → ((dw == 0) || nat_lt 1024 dw) ≡ false → (1 ≤ dw) × (dw ≤ 1024)
some_dw dw h = grind (arith, nat_tests)

small : (f l : ℕ) (b : Bool) → (nat_lt 15 f || nat_lt 15 l || b) ≡ false → (f ≤ 15) × (l ≤ 15)
small f l true h = absurd (grind (arith, nat_tests))
small f l false h = (grind (arith, nat_tests), grind (arith, nat_tests))

some_of : (n : ℕ) → ((n == 0) || not (n % 4 == 0)) ≡ false → 1 ≤ n
some_of n h = grind (arith, nat_tests)

spelled_read : Digits → (a dw f l : ℕ) → op_fault (ops.Read a dw f l) ≡ None → a < 2 ^ 64 → IsSpelledOp (ops.Read a dw f l)
spelled_read d a dw f l none low =
    let h = has_none (ops.Read a dw f l) none in
    let s = small f l (not (are_enables dw a f l)) h.1 in (
      op_words (ops.Read a dw f l),
      field_is address (λ a. field count (λ dw. field enables (λ f. field enables (λ l. ended (ops.Read a dw f l))))) (hexadecimal a) (decimal dw ∷ hexadecimal f ∷ hexadecimal l ∷ []) a (address_is d a low)
          ∙ (field_is count (λ dw. field enables (λ f. field enables (λ l. ended (ops.Read a dw f l)))) (decimal dw) (hexadecimal f ∷ hexadecimal l ∷ []) dw (count_is d dw (some_dw dw h.0).1)
          ∙ (field_is enables (λ f. field enables (λ l. ended (ops.Read a dw f l))) (hexadecimal f) (hexadecimal l ∷ []) f (enables_is d f s.0)
          ∙ field_is enables (λ l. ended (ops.Read a dw f l)) (hexadecimal l) [] l (enables_is d l s.1))),
    )

spelled_write : Digits → (a f l : ℕ) (b : ArrayVec ℕ) → op_fault (ops.Write a f l b) ≡ None → a < 2 ^ 64 → IsShortData b.items → IsSpelledOp (ops.Write a f l b)
spelled_write d a f l b none low short =
    let h = has_none (ops.Write a f l b) none in
    let s = small f l (not (are_enables (length b.items / 4) a f l)) h.1 in (
      op_words (ops.Write a f l b),
      field_is address (λ a. field enables (λ f. field enables (λ l. field byte_string (λ bytes. ended (ops.Write a f l (record { items = bytes })))))) (hexadecimal a) (hexadecimal f ∷ hexadecimal l ∷ encode_upper b.items ∷ []) a (address_is d a low)
          ∙ (field_is enables (λ f. field enables (λ l. field byte_string (λ bytes. ended (ops.Write a f l (record { items = bytes }))))) (hexadecimal f) (hexadecimal l ∷ encode_upper b.items ∷ []) f (enables_is d f s.0)
          ∙ (field_is enables (λ l. field byte_string (λ bytes. ended (ops.Write a f l (record { items = bytes })))) (hexadecimal l) (encode_upper b.items ∷ []) l (enables_is d l s.1)
          ∙ field_is byte_string (λ bytes. ended (ops.Write a f l (record { items = bytes }))) (encode_upper b.items) [] b.items (bytes_is b.items (some_of (length b.items) h.0) short.few short.are_bytes))),
    )

-- ---- parts of bytes

take_bytes : (n : ℕ) (xs : List ℕ) → IsBytes xs → IsBytes (take n xs)
take_bytes zero xs are i = omega arith
take_bytes (suc n) [] are i = omega arith
take_bytes (suc n) (x ∷ xs) are zero = are 0
take_bytes (suc n) (x ∷ xs) are (suc i) = take_bytes n xs (λ j. are (suc j)) i

drop_bytes : (n : ℕ) (xs : List ℕ) → IsBytes xs → IsBytes (drop n xs)
drop_bytes zero xs are i = are i
drop_bytes (suc n) [] are i = omega arith
drop_bytes (suc n) (x ∷ xs) are i = drop_bytes n xs (λ j. are (suc j)) i

take_few : (n : ℕ) (xs : List ℕ) → length (take n xs) ≤ length xs
take_few zero xs = omega arith
take_few (suc n) [] = omega arith
take_few (suc n) (x ∷ xs) = let r = take_few n xs in omega (arith, r)

short_take : (n : ℕ) (xs : List ℕ) → IsShortData xs → IsShortData (take n xs)
short_take n xs s = let few = s.few in let r = take_few n xs in record { few = omega (arith, few, r); are_bytes = take_bytes n xs s.are_bytes }

short_drop : (n : ℕ) (xs : List ℕ) → IsShortData xs → IsShortData (drop n xs)
short_drop n xs s = let few = s.few in record { few = omega (arith, few, length-drop n xs); are_bytes = drop_bytes n xs s.are_bytes }

-- ---- pieces

cut_last : (b : ℕ) (op : Op) → cut b 0 op ≡ op ∷ []
unfolding cut
cut_last b op = refl

cut_by : {P : Type 0} → (b n : ℕ) (op : Op) → (cut b (suc n) op ≡ op ∷ [] → P) → ((d : ℕ) → cut b (suc n) op ≡ front d op ∷ cut b n (back d op) → P) → P
unfolding cut
cut_by b n op one more = elim (cases_Bool (nat_le (dw_of op) (dw_to b (address_of op)))) [
  | inl fits ↦ one (rw fits refl)
  | inr past ↦ more (dw_to b (address_of op)) (rw past refl)
]

record IsRead (op : Op) : Type 0 where
  a : ℕ
  dw : ℕ
  f : ℕ
  l : ℕ
  is : op ≡ ops.Read a dw f l

-- a write of few bytes
record IsWrite (op : Op) : Type 0 where
  a : ℕ
  f : ℕ
  l : ℕ
  bytes : ArrayVec ℕ
  is : op ≡ ops.Write a f l bytes
  short : IsShortData bytes.items

abbrev IsOf : Op → Type 0
IsOf op = IsRead op ⊎ IsWrite op

reads : (a dw f l : ℕ) → IsOf (ops.Read a dw f l)
reads a dw f l = inl (record { a = a; dw = dw; f = f; l = l; is = refl })

writes : (a f l : ℕ) (bytes : ArrayVec ℕ) → IsShortData bytes.items → IsOf (ops.Write a f l bytes)
writes a f l bytes s = inr (record { a = a; f = f; l = l; bytes = bytes; is = refl; short = s })

first_or : (first piece : Op) (xs : List Op) (j : ℕ) → IsOf first → ((k : ℕ) → slice_get xs k ≡ Some piece → IsOf piece) → slice_get (first ∷ xs) j ≡ Some piece → IsOf piece
first_or first piece xs zero here later at = subst IsOf (same_Some first piece at) here
first_or first piece xs (suc k) here later at = later k at

alone_of : (op piece : Op) (j : ℕ) → IsOf op → slice_get (op ∷ []) j ≡ Some piece → IsOf piece
alone_of op piece j here at = first_or op piece [] j here (λ k there. absurd (cc there)) at

read_pieces : (b n a dw f l j : ℕ) (piece : Op) → slice_get (cut b n (ops.Read a dw f l)) j ≡ Some piece → IsOf piece
read_pieces b zero a dw f l j piece at = alone_of (ops.Read a dw f l) piece j (reads a dw f l) (ap (λ (xs : List Op). slice_get xs j) (sym (cut_last b (ops.Read a dw f l))) ∙ at)
read_pieces b (suc n) a dw f l j piece at = cut_by {P = IsOf piece} b n (ops.Read a dw f l)
    (λ one. alone_of (ops.Read a dw f l) piece j (reads a dw f l) (ap (λ (xs : List Op). slice_get xs j) (sym one) ∙ at))
    (λ d more.
    let rest = ops.Read (a + 4 * d) (dw - d) (rest_first (dw - d) l) (rest_last (dw - d) l) in
    first_or (ops.Read a d f (inner d)) piece (cut b n rest) j (reads a d f (inner d))
    (λ k there. read_pieces b n (a + 4 * d) (dw - d) (rest_first (dw - d) l) (rest_last (dw - d) l) k piece there)
    (ap (λ (xs : List Op). slice_get xs j) (sym more) ∙ at))

write_pieces : (b n a f l : ℕ) (bytes : ArrayVec ℕ) (j : ℕ) (piece : Op) → IsShortData bytes.items → slice_get (cut b n (ops.Write a f l bytes)) j ≡ Some piece → IsOf piece
write_pieces b zero a f l bytes j piece s at = alone_of (ops.Write a f l bytes) piece j (writes a f l bytes s) (ap (λ (xs : List Op). slice_get xs j) (sym (cut_last b (ops.Write a f l bytes))) ∙ at)
write_pieces b (suc n) a f l bytes j piece s at = cut_by {P = IsOf piece} b n (ops.Write a f l bytes)
    (λ one. alone_of (ops.Write a f l bytes) piece j (writes a f l bytes s) (ap (λ (xs : List Op). slice_get xs j) (sym one) ∙ at))
    (λ d more.
    let dw = length bytes.items / 4 - d in
    let front_bytes : ArrayVec ℕ = record { items = take (4 * d) bytes.items } in
    let back_bytes : ArrayVec ℕ = record { items = drop (4 * d) bytes.items } in
    first_or (ops.Write a f (inner d) front_bytes) piece (cut b n (ops.Write (a + 4 * d) (rest_first dw l) (rest_last dw l) back_bytes)) j
    (writes a f (inner d) front_bytes (short_take (4 * d) bytes.items s))
    (λ k there. write_pieces b n (a + 4 * d) (rest_first dw l) (rest_last dw l) back_bytes k piece (short_drop (4 * d) bytes.items s) there)
    (ap (λ (xs : List Op). slice_get xs j) (sym more) ∙ at))

-- ---- a piece that is served

both_true : (a b : Bool) → (a && b) ≡ true → (a ≡ true) × (b ≡ true)
both_true true b h = (refl, h)
both_true false b h = absurd (cc)

all_get : (t : Op → Bool) (xs : List Op) (j : ℕ) (op : Op) → list_all t xs ≡ true → slice_get xs j ≡ Some op → t op ≡ true
all_get t [] j op h at = absurd (cc at)
all_get t (o ∷ xs) zero op h at = ap t (sym (same_Some o op at)) ∙ (both_true (t o) (list_all t xs) h).0
all_get t (o ∷ xs) (suc j) op h at = all_get t xs j op (both_true (t o) (list_all t xs) h).1 at

no_some : {X : Type 0} → (o : Option X) → is_some o ≡ false → o ≡ None
no_some None h = refl
no_some (Some x) h = absurd (cc)

record IsSound (x : Extent) (op : Op) : Type 0 where
  none : op_fault op ≡ None
  high : address_of op + count_of op ≤ x.base + x.size

top_of : (base size a n : ℕ) → is_inside base size a n ≡ true → a + n ≤ base + size
top_of base size a n h = grind (arith, nat_tests)

sound : (x : Extent) (op : Op) → is_served x op ≡ true → IsSound x op
sound x op h = by (is_some (op_fault op)) (is_in_block x.block (address_of op) (count_of op)) (is_inside x.base x.size (address_of op) (count_of op)) refl refl refl h
  where
    by : (a b c : Bool) → is_some (op_fault op) ≡ a → is_in_block x.block (address_of op) (count_of op) ≡ b → is_inside x.base x.size (address_of op) (count_of op) ≡ c → is_served x op ≡ true → IsSound x op
    by false true true p q r h = record { none = no_some (op_fault op) p; high = top_of x.base x.size (address_of op) (count_of op) r }
    by true b c p q r h = let no : is_served x op ≡ false = rw p refl in absurd (cc)
    by false false c p q r h = let no : is_served x op ≡ false = rw (p, q) refl in absurd (cc)
    by false true false p q r h = let no : is_served x op ≡ false = rw (p, q, r) refl in absurd (cc)

read_served : Digits → (x : Extent) → IsWithinLimits x → (a dw f l : ℕ) → is_served x (ops.Read a dw f l) ≡ true → IsSpelledOp (ops.Read a dw f l)
read_served d x lim a dw f l h =
    let s = sound x (ops.Read a dw f l) h in
    let some = (some_dw dw (has_none (ops.Read a dw f l) s.none).0).0 in
    let high = s.high in
    let top = lim.in_base.1 in
    spelled_read d a dw f l s.none (omega (arith, some, high, top))

write_served : Digits → (x : Extent) → IsWithinLimits x → (a f l : ℕ) (bytes : ArrayVec ℕ) → IsShortData bytes.items → is_served x (ops.Write a f l bytes) ≡ true → IsSpelledOp (ops.Write a f l bytes)
write_served d x lim a f l bytes short h =
    let s = sound x (ops.Write a f l bytes) h in
    let some = some_of (length bytes.items) (has_none (ops.Write a f l bytes) s.none).0 in
    let high = s.high in
    let top = lim.in_base.1 in
    spelled_write d a f l bytes s.none (omega (arith, some, high, top)) short

served_spelled : Digits → (x : Extent) → IsWithinLimits x → (op : Op) → IsOf op → is_served x op ≡ true → IsSpelledOp op
served_spelled d x lim op (inl r) h = subst IsSpelledOp (sym r.is) (read_served d x lim r.a r.dw r.f r.l (ap (is_served x) (sym r.is) ∙ h))
served_spelled d x lim op (inr w) h = subst IsSpelledOp (sym w.is) (write_served d x lim w.a w.f w.l w.bytes w.short (ap (is_served x) (sym w.is) ∙ h))

-- a request is cut, or whole
pieces_by : {P : Type 0} → (b : ℕ) (x : Extent) (op : Op) → (pieces b x op ≡ op ∷ [] → P)
    → (list_all (is_served x) (cut b (dw_of op) op) ≡ true → pieces b x op ≡ cut b (dw_of op) op → P) → P
pieces_by b x op one many = elim (cases_Bool (is_served x op && list_all (is_served x) (cut b (dw_of op) op))) [
  | inl sure ↦ many (both_true (is_served x op) (list_all (is_served x) (cut b (dw_of op) op)) sure).1 (ap (λ (v : Bool). if v then cut b (dw_of op) op else op ∷ []) sure)
  | inr refuted ↦ one (ap (λ (v : Bool). if v then cut b (dw_of op) op else op ∷ []) refuted)
]

alone_spelled : (op piece : Op) (j : ℕ) (xs : List Op) → xs ≡ op ∷ [] → IsSpelledOp op → slice_get xs j ≡ Some piece → IsSpelledOp piece
alone_spelled op piece zero xs is s at = subst IsSpelledOp (same_Some op piece (ap (λ (ys : List Op). slice_get ys 0) (sym is) ∙ at)) s
alone_spelled op piece (suc j) xs is s at = absurd (let e : slice_get (op ∷ []) (suc j) ≡ Some piece = ap (λ (ys : List Op). slice_get ys (suc j)) (sym is) ∙ at in cc e)

cut_spelled : Digits → (x : Extent) → IsWithinLimits x → (b : ℕ) (op piece : Op) (j : ℕ) → IsSpelledOp op → list_all (is_served x) (cut b (dw_of op) op) ≡ true
    → slice_get (cut b (dw_of op) op) j ≡ Some piece → IsSpelledOp piece
cut_spelled d x lim b (ops.Read a dw f l) piece j s all at =
    served_spelled d x lim piece (read_pieces b dw a dw f l j piece at) (all_get (is_served x) (cut b dw (ops.Read a dw f l)) j piece all at)
cut_spelled d x lim b (ops.Write a f l bytes) piece j s all at =
    served_spelled d x lim piece (write_pieces b (length bytes.items / 4) a f l bytes j piece (short-op d.range (ops.Write a f l bytes) s).short at)
    (all_get (is_served x) (cut b (length bytes.items / 4) (ops.Write a f l bytes)) j piece all at)
cut_spelled d x lim b (ops.FetchAdd a w v) piece j s all at = alone_spelled (ops.FetchAdd a w v) piece j (cut b 0 (ops.FetchAdd a w v)) (cut_last b (ops.FetchAdd a w v)) s at
cut_spelled d x lim b (ops.Swap a w v) piece j s all at = alone_spelled (ops.Swap a w v) piece j (cut b 0 (ops.Swap a w v)) (cut_last b (ops.Swap a w v)) s at
cut_spelled d x lim b (ops.Cas a w v y) piece j s all at = alone_spelled (ops.Cas a w v y) piece j (cut b 0 (ops.Cas a w v y)) (cut_last b (ops.Cas a w v y)) s at

pub piece_spelled : Digits → (x : Extent) → IsWithinLimits x → (b : ℕ) (op piece : Op) (j : ℕ) → IsSpelledOp op → slice_get (pieces b x op) j ≡ Some piece → IsSpelledOp piece
piece_spelled d x lim b op piece j s at = pieces_by {P = IsSpelledOp piece} b x op
    (λ one. alone_spelled op piece j (pieces b x op) one s at)
    (λ all is. cut_spelled d x lim b op piece j s all (ap (λ (ys : List Op). slice_get ys j) (sym is) ∙ at))
