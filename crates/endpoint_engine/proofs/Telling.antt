-- Lines can tell what is recorded of a device.
use Rattle.std.proofs.Common.{◌≡◌, ◌∙◌, ℕ, zero, suc, ◌+◌, ◌-◌, ◌*◌, ◌/◌, ◌%◌, ◌^◌, ◌<◌, ◌≤◌, ◌⊎◌, inl, inr, Bool, true, false, cond, List, [], ◌∷◌, length, Option, Some, None, Result, Ok, refl, sym, ap, subst, arith, eq-eqb}
use Rattle.std.specs.Prelude.{◌==◌, ◌||◌, not, nat_lt, slice_get, All, if◌then◌else◌}
use Rattle.std.specs.Fmt.{decimal}
use Rattle.std.specs.Int.{byte_at, bytes_low_first}
use Rattle.std.proofs.lemmas.Bool.Decides.{nat_tests}
use Rattle.std.proofs.lemmas.List.Elements.{All-nil, All-cons}
use Rattle.arrayvec.specs.ArrayVec.{ArrayVec}
use Rattle.byteorder.specs.Endian.{little_bytes, little_number}
use Rattle.byteorder.specs.Numbers.{length-bytes_low_first, little_number-reads_back}
use Rattle.hex.specs.Hex.{encode_upper, upper_digits, decode_of}
use Rattle.hex.specs.declared.error.FromHexError.{FromHexError}
use Rattle.hex.proofs.HexLemmas.{length-encode_with, decode_of-encode_upper}
use Rattle.tlp_core.specs.declared.fault.TlpFault.{TlpFault}
use Rattle.tlp_core.specs.declared.fault.TlpFault.TheVariants as faults
use Rattle.tlp_core.specs.Ops.{Op}
use Rattle.tlp_core.specs.declared.operation.OpOf.TheVariants as ops
use Rattle.tlp_core.specs.declared.operation.Width.{Width}
use Rattle.tlp_core.specs.declared.operation.Width.TheVariants as widths
use Rattle.tlp_core.specs.Bits.{IsBytes}
use Rattle.tlp_core.specs.Enables.{are_enables}
use Rattle.tlp_core.specs.Operation.{size_of, address_of, count_of, op_fault, wrong_length, wrong_enables, wrong_operand, wrong_address}
use Rattle.seq_memory.specs.Entries.{Entry}
use Rattle.seq_memory.specs.Entries.{Reply}
use Rattle.seq_memory.specs.declared.reply.ReplyOf.TheVariants as replies
use Rattle.seq_memory.specs.Limits.{Extent, IsSize, IsWithinLimits}
use Rattle.seq_memory.specs.Step.{is_in_block}
use Rattle.seq_memory.specs.History.{extent_of}
use Rattle.op_pieces.specs.Pieces.{bytes_of}
use Rattle.history_words.specs.Records.{Record}
use Rattle.history_words.specs.declared.record.RecordOf.TheVariants.{Sub, Ans}
use Rattle.history_words.specs.Clocks.{IsClocked}
use Rattle.config_core.specs.SetupView.{SetupView, is_size}
use Rattle.endpoint_core.specs.Runs.{Call}
use Rattle.endpoint_laws.specs.Requests.{IsBlockRequest, IsDataReply}
use Rattle.endpoint_laws.specs.Runs.{AreBytes, claim_after, submitted_after}
use Rattle.operation_text.specs.Words.{then_with, field, ended}
use Rattle.operation_text.specs.Numbers.{numeral, decoded, byte_string, operand_of}
use Rattle.operation_text.specs.Operations.{address, count, enables, operand, read_of, write_of, add_of, swap_of, cas_of, cas_by, data_of, op_spelled, reply_spelled, IsSpelledOp, IsSpelledReply}
use Rattle.operation_text.specs.Texts.{hexadecimal, op_words, reply_words}
use Rattle.trace_text.specs.Tellable.{IsRequest, IsTellable, IsTellableRecord, IsTellableEntry}

-- the laws of digits
pub record Digits : Type 0 where
  pub decimal_back : (most n : ℕ) → n ≤ most → n < 2 ^ 64 → numeral 10 most (decimal n) ≡ Some n
  pub hexadecimal_back : (most n : ℕ) → n ≤ most → n < 2 ^ 64 → numeral 16 most (hexadecimal n) ≡ Some n

-- ---- fields

field_is : {X Y : Type 0} (spelled : List ℕ → Option X) (f : X → List (List ℕ) → Option Y) (word : List ℕ) (ws : List (List ℕ)) (x : X) → spelled word ≡ Some x → field spelled f (word ∷ ws) ≡ f x ws
field_is {X = X} {Y = Y} spelled f word ws x e = ap (λ (o : Option X). then_with {X = X × List (List ℕ)} {Y = Y} (then_with {X = X} {Y = X × List (List ℕ)} o (λ (y : X). Some (y, ws))) (λ (s : X × List (List ℕ)). f s.0 s.1)) e

address_is : Digits → (a : ℕ) → a < 2 ^ 64 → address (hexadecimal a) ≡ Some a
address_is d a h = d.hexadecimal_back 18446744073709551615 a (omega (arith, h)) h

count_is : Digits → (n : ℕ) → n ≤ 1024 → count (decimal n) ≡ Some n
count_is d n h = d.decimal_back 65535 n (omega (arith, h)) (omega (arith, h))

enables_is : Digits → (n : ℕ) → n ≤ 15 → enables (hexadecimal n) ≡ Some n
enables_is d n h = d.hexadecimal_back 15 n h (omega (arith, h))

within : (n m : ℕ) → n ≡ 2 * m → 1 ≤ m → m ≤ 128 → ((n == 0) || nat_lt 256 n) ≡ false
within n m e some few = grind (arith, nat_tests)

bytes_is : (xs : List ℕ) → 1 ≤ length xs → length xs ≤ 128 → IsBytes xs → byte_string (encode_upper xs) ≡ Some xs
bytes_is xs some few bytes =
    let long : length (encode_upper xs) ≡ 2 * length xs = length-encode_with upper_digits xs in
    let ok : ((length (encode_upper xs) == 0) || nat_lt 256 (length (encode_upper xs))) ≡ false = within (length (encode_upper xs)) (length xs) long some few in
    ap (λ (b : Bool). cond b None (decoded (decode_of (encode_upper xs)))) ok ∙ ap (λ (r : Result (List ℕ) FromHexError). decoded r) (decode_of-encode_upper xs bytes)

-- ---- operations

record HasNone (op : Op) : Type 0 where
  lengths : wrong_length op ≡ false
  enabled : wrong_enables op ≡ false
  operands : wrong_operand op ≡ false

none_by : (x y z w : Bool) → cond x (Some faults.LengthMismatch) (cond y (Some faults.ByteEnables) (cond z (Some faults.OperandSize) (cond w (Some faults.Unaligned) None))) ≡ None → (x ≡ false) × (y ≡ false) × (z ≡ false)
none_by true y z w h = absurd (cc)
none_by false true z w h = absurd (cc)
none_by false false true w h = absurd (cc)
none_by false false false w h = (refl, refl, refl)

has_none : (op : Op) → op_fault op ≡ None → HasNone op
has_none op h = let n = none_by (wrong_length op) (wrong_enables op) (wrong_operand op) (wrong_address op) h in record { lengths = n.0; enabled = n.1; operands = n.2 }

few_dw : (dw : ℕ) → ((dw == 0) || nat_lt 1024 dw) ≡ false → dw ≤ 1024
few_dw dw h = grind (arith, nat_tests)

small : (f l : ℕ) (b : Bool) → (nat_lt 15 f || nat_lt 15 l || b) ≡ false → (f ≤ 15) × (l ≤ 15)
small f l true h = absurd (grind (arith, nat_tests))
small f l false h = (grind (arith, nat_tests), grind (arith, nat_tests))

same_number : (i j : ℕ) → (i == j) ≡ true → i ≡ j
same_number i j h = grind (arith, nat_tests)

few_in_block : (a c : ℕ) → is_in_block 128 a c ≡ true → c ≤ 128
few_in_block a c h =
    let e : a / 128 ≡ (a + c - 1) / 128 = same_number (a / 128) ((a + c - 1) / 128) h in
    omega (arith, e)

some_of : (n : ℕ) → ((n == 0) || not (n % 4 == 0)) ≡ false → 1 ≤ n
some_of n h = grind (arith, nat_tests)

below : (x n : ℕ) (b : Bool) → (b || not (nat_lt x n)) ≡ false → x < n
below x n true h = absurd (cc)
below x n false h = grind (arith, nat_tests)

small_rest : (y : ℕ) → y % 256 < 256
small_rest y = omega arith

byte_small : (j x : ℕ) → byte_at j x < 256
byte_small zero x = small_rest x
byte_small (suc j) x = small_rest (x / 256 ^ suc j)

bytes_from : (j n x : ℕ) → IsBytes (bytes_low_first j n x)
bytes_from j zero x i = omega arith
bytes_from j (suc n) x zero = byte_small j x
bytes_from j (suc n) x (suc i) = bytes_from (suc j) n x i

number_bytes : (n x : ℕ) → IsBytes (little_bytes n x)
number_bytes n x = bytes_from 0 n x

operand_is : (w : Width) (x : ℕ) → x < 2 ^ (8 * size_of w) → operand (encode_upper (little_bytes (size_of w) x)) ≡ Some (w, x)
operand_is widths.Four x h = ap (λ o. then_with o operand_of) (bytes_is (little_bytes 4 x) (omega arith) (omega arith) (number_bytes 4 x)) ∙ ap (λ (y : ℕ). Some (widths.Four, y)) (little_number-reads_back 4 x [] h)
operand_is widths.Eight x h = ap (λ o. then_with o operand_of) (bytes_is (little_bytes 8 x) (omega arith) (omega arith) (number_bytes 8 x)) ∙ ap (λ (y : ℕ). Some (widths.Eight, y)) (little_number-reads_back 8 x [] h)
operand_is widths.Sixteen x h = ap (λ o. then_with o operand_of) (bytes_is (little_bytes 16 x) (omega arith) (omega arith) (number_bytes 16 x)) ∙ ap (λ (y : ℕ). Some (widths.Sixteen, y)) (little_number-reads_back 16 x [] h)

spelled : Digits → (op : Op) → op_fault op ≡ None → address_of op < 2 ^ 64 → count_of op ≤ 128 → IsBytes (bytes_of op) → op_spelled (op_words op) ≡ Some op
spelled d (ops.Read a dw f l) none low few bytes =
    let h = has_none (ops.Read a dw f l) none in
    let s = small f l (not (are_enables dw a f l)) h.enabled in
    field_is address (λ a. field count (λ dw. field enables (λ f. field enables (λ l. ended (ops.Read a dw f l))))) (hexadecimal a) (decimal dw ∷ hexadecimal f ∷ hexadecimal l ∷ []) a (address_is d a low)
    ∙ (field_is count (λ dw. field enables (λ f. field enables (λ l. ended (ops.Read a dw f l)))) (decimal dw) (hexadecimal f ∷ hexadecimal l ∷ []) dw (count_is d dw (few_dw dw h.lengths))
    ∙ (field_is enables (λ f. field enables (λ l. ended (ops.Read a dw f l))) (hexadecimal f) (hexadecimal l ∷ []) f (enables_is d f s.0)
    ∙ field_is enables (λ l. ended (ops.Read a dw f l)) (hexadecimal l) [] l (enables_is d l s.1)))
spelled d (ops.Write a f l b) none low few bytes =
    let h = has_none (ops.Write a f l b) none in
    let s = small f l (not (are_enables (length b.items / 4) a f l)) h.enabled in
    field_is address (λ a. field enables (λ f. field enables (λ l. field byte_string (λ bytes. ended (ops.Write a f l (record { items = bytes })))))) (hexadecimal a) (hexadecimal f ∷ hexadecimal l ∷ encode_upper b.items ∷ []) a (address_is d a low)
    ∙ (field_is enables (λ f. field enables (λ l. field byte_string (λ bytes. ended (ops.Write a f l (record { items = bytes }))))) (hexadecimal f) (hexadecimal l ∷ encode_upper b.items ∷ []) f (enables_is d f s.0)
    ∙ (field_is enables (λ l. field byte_string (λ bytes. ended (ops.Write a f l (record { items = bytes })))) (hexadecimal l) (encode_upper b.items ∷ []) l (enables_is d l s.1)
    ∙ field_is byte_string (λ bytes. ended (ops.Write a f l (record { items = bytes }))) (encode_upper b.items) [] b.items (bytes_is b.items (some_of (length b.items) h.lengths) few bytes)))
spelled d (ops.FetchAdd a w x) none low few bytes =
    let h = has_none (ops.FetchAdd a w x) none in
    field_is address (λ a. field operand (λ x. ended (ops.FetchAdd a x.0 x.1))) (hexadecimal a) (encode_upper (little_bytes (size_of w) x) ∷ []) a (address_is d a low)
    ∙ field_is operand (λ x. ended (ops.FetchAdd a x.0 x.1)) (encode_upper (little_bytes (size_of w) x)) [] (w, x) (operand_is w x (below x (2 ^ (8 * size_of w)) (size_of w == 16) h.operands))
spelled d (ops.Swap a w x) none low few bytes =
    let h = has_none (ops.Swap a w x) none in
    field_is address (λ a. field operand (λ x. ended (ops.Swap a x.0 x.1))) (hexadecimal a) (encode_upper (little_bytes (size_of w) x) ∷ []) a (address_is d a low)
    ∙ field_is operand (λ x. ended (ops.Swap a x.0 x.1)) (encode_upper (little_bytes (size_of w) x)) [] (w, x) (operand_is w x (below x (2 ^ (8 * size_of w)) (size_of w == 16) h.operands))
spelled d (ops.Cas a w x y) none low few bytes =
    let h = has_none (ops.Cas a w x y) none in
    let s = both_below w x y h.operands in
    field_is address (λ a. field operand (λ x. field operand (λ y. cas_by a x y))) (hexadecimal a) (encode_upper (little_bytes (size_of w) x) ∷ encode_upper (little_bytes (size_of w) y) ∷ []) a (address_is d a low)
    ∙ (field_is operand (λ x. field operand (λ y. cas_by a x y)) (encode_upper (little_bytes (size_of w) x)) (encode_upper (little_bytes (size_of w) y) ∷ []) (w, x) (operand_is w x s.0)
    ∙ (field_is operand (λ y. cas_by a (w, x) y) (encode_upper (little_bytes (size_of w) y)) [] (w, y) (operand_is w y s.1)
    ∙ ap (λ (b : Bool). cond b (Some (ops.Cas a w x y)) None) (eq-eqb (size_of w) (size_of w) refl)))
  where
    both_below : (w : Width) (x y : ℕ) → wrong_operand (ops.Cas 0 w x y) ≡ false → (x < 2 ^ (8 * size_of w)) × (y < 2 ^ (8 * size_of w))
    both_below w x y h = (first_below (nat_lt x (2 ^ (8 * size_of w))) (nat_lt y (2 ^ (8 * size_of w))) x (2 ^ (8 * size_of w)) refl h, below y (2 ^ (8 * size_of w)) (not (nat_lt x (2 ^ (8 * size_of w)))) h)
      where
        first_below : (b c : Bool) (x n : ℕ) → nat_lt x n ≡ b → (not b || not c) ≡ false → x < n
        first_below true c x n e h = grind (arith, nat_tests)
        first_below false c x n e h = absurd (cc)

told_op : Digits → (size : ℕ) (op : Op) → size ≤ 1048576 → IsBlockRequest size op → IsSpelledOp op
told_op d size op few r =
    let inside : address_of op + count_of op ≤ size = r.inside in
    (op_words op, spelled d op r.sound (omega arith) (few_in_block (address_of op) (count_of op) r.one) r.bytes)

told_reply : (reply : Reply) → IsDataReply reply → IsSpelledReply reply
told_reply (replies.Data bytes) r = (reply_words (replies.Data bytes), field_is byte_string (λ bytes. ended (replies.Data (record { items = bytes }))) (encode_upper bytes.items) [] bytes.items (bytes_is bytes.items r.0 r.1 r.2))
told_reply replies.Done r = absurd r
told_reply replies.Unsupported r = absurd r
told_reply replies.Aborted r = absurd r

-- ---- sizes

one_of : (n : ℕ) → is_size n ≡ true → (n ≡ 4096) ⊎ ((n ≡ 8192) ⊎ ((n ≡ 16384) ⊎ ((n ≡ 32768) ⊎ ((n ≡ 65536) ⊎ ((n ≡ 131072) ⊎ ((n ≡ 262144) ⊎ ((n ≡ 524288) ⊎ (n ≡ 1048576))))))))
one_of n h = grind (arith, nat_tests)

sized_by : (n : ℕ) → (n ≡ 4096) ⊎ ((n ≡ 8192) ⊎ ((n ≡ 16384) ⊎ ((n ≡ 32768) ⊎ ((n ≡ 65536) ⊎ ((n ≡ 131072) ⊎ ((n ≡ 262144) ⊎ ((n ≡ 524288) ⊎ (n ≡ 1048576)))))))) → IsSize n
sized_by n (inl e) = (omega (arith, e), omega (arith, e), omega (arith, e))
sized_by n (inr (inl e)) = (omega (arith, e), omega (arith, e), omega (arith, e))
sized_by n (inr (inr (inl e))) = (omega (arith, e), omega (arith, e), omega (arith, e))
sized_by n (inr (inr (inr (inl e)))) = (omega (arith, e), omega (arith, e), omega (arith, e))
sized_by n (inr (inr (inr (inr (inl e))))) = (omega (arith, e), omega (arith, e), omega (arith, e))
sized_by n (inr (inr (inr (inr (inr (inl e)))))) = (omega (arith, e), omega (arith, e), omega (arith, e))
sized_by n (inr (inr (inr (inr (inr (inr (inl e))))))) = (omega (arith, e), omega (arith, e), omega (arith, e))
sized_by n (inr (inr (inr (inr (inr (inr (inr (inl e)))))))) = (omega (arith, e), omega (arith, e), omega (arith, e))
sized_by n (inr (inr (inr (inr (inr (inr (inr (inr e)))))))) = (omega (arith, e), omega (arith, e), omega (arith, e))

limits : (n : ℕ) → IsSize n → IsWithinLimits (record { base = 0; size = n; block = 128 })
limits n s = let most : n ≤ 1048576 = s.1 in record { in_size = s; in_base = (refl, omega arith); in_block = inr refl }

-- ---- a trace

all_from : {X : Type 0} (P : X → Type 0) (xs : List X) → ((a : ℕ) (x : X) → slice_get xs a ≡ Some x → P x) → All P xs
all_from P [] f = All-nil P
all_from P (x ∷ xs) f = All-cons P x xs (f 0 x refl) (all_from P xs (λ a y e. f (suc a) y e))

-- the laws of what is recorded
pub record Facts : Type 0 where
  pub extent : (s : SetupView) (cs : List Call) → is_size s.size ≡ true → AreBytes cs → extent_of (claim_after s cs).memory ≡ record { base = 0; size = s.size; block = 128 }
  pub submitted : (s : SetupView) (cs : List Call) (a i k n : ℕ) (op : Op) → is_size s.size ≡ true → AreBytes cs → slice_get (claim_after s cs).records a ≡ Some (Sub i k op n) → (i ≡ 1) × (k < submitted_after s cs) × IsBlockRequest s.size op
  pub answered : (s : SetupView) (cs : List Call) (a i k n : ℕ) (reply : Reply) → is_size s.size ≡ true → AreBytes cs → slice_get (claim_after s cs).records a ≡ Some (Ans i k reply n) → (i ≡ 1) × (k < submitted_after s cs) × IsDataReply reply
  pub acted : (s : SetupView) (cs : List Call) (p : ℕ) (e : Entry) → is_size s.size ≡ true → AreBytes cs → slice_get (claim_after s cs).memory.entries p ≡ Some e → (e.requester ≡ 1) × (e.number < submitted_after s cs) × IsBlockRequest s.size e.op
  pub clocked : (s : SetupView) (cs : List Call) → is_size s.size ≡ true → AreBytes cs → IsClocked (claim_after s cs)

request : (i k m : ℕ) → i ≡ 1 → k < m → m < 2 ^ 32 → IsRequest i k
request i k m own less few = (omega (arith, own), omega (arith, own), omega (arith, less, few))

module _ (d : Digits) (f : Facts) (s : SetupView) (cs : List Call) (h : is_size s.size ≡ true) (bytes : AreBytes cs) (few : submitted_after s cs < 2 ^ 32) (short : length (claim_after s cs).memory.entries < 2 ^ 64) where
  is_sized : IsSize s.size
  is_sized = sized_by s.size (one_of s.size h)

  record_told : (a : ℕ) (r : Record) → slice_get (claim_after s cs).records a ≡ Some r → IsTellableRecord r
  record_told a (Sub i k op n) e =
      let x = f.submitted s cs a i k n op h bytes e in
      let most : n ≤ length (claim_after s cs).memory.entries = (f.clocked s cs h bytes).bounded a (Sub i k op n) e in
      (request i k (submitted_after s cs) x.0 x.1 few, omega (arith, most, short), told_op d s.size op is_sized.1 x.2)
  record_told a (Ans i k reply n) e =
      let x = f.answered s cs a i k n reply h bytes e in
      let most : n ≤ length (claim_after s cs).memory.entries = (f.clocked s cs h bytes).bounded a (Ans i k reply n) e in
      (request i k (submitted_after s cs) x.0 x.1 few, omega (arith, most, short), told_reply reply x.2)

  entry_told : (p : ℕ) (e : Entry) → slice_get (claim_after s cs).memory.entries p ≡ Some e → IsTellableEntry e
  entry_told p e at = let x = f.acted s cs p e h bytes at in (request e.requester e.number (submitted_after s cs) x.0 x.1 few, told_op d s.size e.op is_sized.1 x.2)

  pub tellable : IsTellable (claim_after s cs)
  tellable = record {
    limits = subst IsWithinLimits (sym (f.extent s cs h bytes)) (limits s.size is_sized);
    records_are = all_from IsTellableRecord (claim_after s cs).records record_told;
    entries_are = all_from IsTellableEntry (claim_after s cs).memory.entries entry_told;
  }
