-- The operation of a request: it has no fault, its own words spell it, and it is asked for by that request alone.
use Rattle.std.proofs.Common.{◌≡◌, ℕ, ◌*◌, ◌/◌, ◌%◌, ◌^◌, ◌<◌, ◌≤◌, Bool, true, false, List, [], ◌∷◌, ◌++◌, length, take, drop, refl, sym, ap, subst, ◌∙◌, inl, inr, arith, Some, None}
use Rattle.std.specs.Prelude.{not, ◌||◌, ◌==◌, nat_lt, IsTrue, ◌⊎◌}
use Rattle.std.specs.Fmt.{decimal}
use Rattle.std.proofs.lemmas.Bool.{ne_eqb}
use Rattle.std.proofs.lemmas.Bool.Decides.{nat_tests}
use Rattle.std.proofs.lemmas.List.{take_all, take-append-drop, length-drop, length-take-le}
use Rattle.hex.specs.Hex.{encode_upper, upper_digits}
use Rattle.hex.proofs.HexLemmas.{decode_of-encode_upper, length-encode_with}
use Rattle.byteorder.specs.Endian.{little_number, little_bytes}
use Rattle.byteorder.specs.Numbers.{little_from-lt, little_from-take}
use Rattle.tlp_core.specs.declared.packet.Kind.{Kind}
use Rattle.tlp_core.specs.declared.packet.Kind.TheVariants as kinds
use Rattle.tlp_core.specs.declared.packet.Body.{Body}
use Rattle.tlp_core.specs.declared.packet.Body.TheVariants as bodies
use Rattle.tlp_core.specs.Ops.{Op}
use Rattle.tlp_core.specs.declared.operation.OpOf.TheVariants as ops
use Rattle.tlp_core.specs.declared.operation.Width.{Width}
use Rattle.tlp_core.specs.declared.operation.Width.TheVariants as widths
use Rattle.tlp_core.specs.Bits.{IsBytes}
use Rattle.tlp_core.specs.Enables.{are_enables}
use Rattle.tlp_core.specs.TlpView.{FitsKind, IsBodyInRange}
use Rattle.tlp_core.specs.Operation.{op_at, op_fault, size_of, address_of, is_completion}
use Rattle.requester_core.specs.Request.{kind_for, length_for, first_for, last_for, payload_for}
use Rattle.operation_text.specs.Words.{words}
use Rattle.operation_text.specs.Numbers.{numeral, byte_string, operand_of}
use Rattle.operation_text.specs.Operations as operations
use Rattle.operation_text.specs.Operations.{op_spelled}
use Rattle.operation_text.specs.Texts.{hexadecimal, operand_word, op_words, op_text}
use Rattle.packet_text.specs.Forms.{text_reading, tlp_read, request_of}
use Rattle.packet_text.proofs.NumberLemmas.{number-bytes, bytes-take, bytes-drop}

-- what is known of the texts of numbers and operations
pub record Laws : Type 0 where
  pub decimal_back : (most n : ℕ) → n ≤ most → n < 2 ^ 64 → numeral 10 most (decimal n) ≡ Some n
  pub hexadecimal_back : (most n : ℕ) → n ≤ most → n < 2 ^ 64 → numeral 16 most (hexadecimal n) ≡ Some n
  pub decimal_word : (n : ℕ) (line : List ℕ) → words (decimal n ++ 32 ∷ line) ≡ decimal n ∷ words line
  pub decimal_last : (n : ℕ) → words (decimal n) ≡ decimal n ∷ []
  pub op_back : (ws : List (List ℕ)) (op : Op) → op_spelled ws ≡ Some op → op_spelled (words (op_text op)) ≡ Some op

pub record Asked (k : Kind) (body : Body) (dw : ℕ) (payload : List ℕ) : Type 0 where
  pub op : Op
  pub is : op_at k body dw payload ≡ Some op
  pub reads : op_spelled (op_words op) ≡ Some op
  pub sound : op_fault op ≡ None
  pub kind : kind_for op ≡ k
  pub dws : length_for op ≡ dw
  pub same : bodies.Request (address_of op) (first_for op) (last_for op) ≡ body
  pub bytes : payload_for op ≡ payload
  pub begins : (rest : List ℕ) → text_reading (op_text op ++ rest) ≡ tlp_read (request_of (op_text op ++ rest))

-- ---- bytes

pub bytes-read : (bytes : List ℕ) → 0 < length bytes → length bytes ≤ 128 → IsBytes bytes → byte_string (encode_upper bytes) ≡ Some bytes
bytes-read bytes some few are =
    let len = length-encode_with upper_digits bytes in
    let not_none : (length (encode_upper bytes) == 0) ≡ false = ne_eqb _ 0 (λ e. omega (arith, len, e)) in
    let not_long : nat_lt 256 (length (encode_upper bytes)) ≡ false = grind (arith, nat_tests) in
    rw (not_none, not_long, decode_of-encode_upper bytes are) refl

operand-reads : (w : Width) (bytes : List ℕ) → length bytes ≡ size_of w → IsBytes bytes → operations.operand (operand_word w (little_number (size_of w) bytes)) ≡ Some (w, little_number (size_of w) bytes)
operand-reads w bytes len are =
    let some = size-range w in
    let back : little_bytes (size_of w) (little_number (size_of w) bytes) ≡ bytes = number-bytes (size_of w) bytes (omega arith) are ∙ take_all (size_of w) bytes (omega arith) in
    rw (back, bytes-read bytes (omega arith) (omega arith) are) (by w len)
  where
    size-range : (w : Width) → (0 < size_of w) × (size_of w ≤ 16)
    size-range widths.Four = (omega arith, omega arith)
    size-range widths.Eight = (omega arith, omega arith)
    size-range widths.Sixteen = (omega arith, omega arith)

    by : (w : Width) → length bytes ≡ size_of w → operand_of bytes ≡ Some (w, little_number (size_of w) bytes)
    by widths.Four e = rw e refl
    by widths.Eight e = rw e refl
    by widths.Sixteen e = rw e refl

-- ---- reads and writes

multiple : (a n : ℕ) → a % n ≡ 0 → not (a % n == 0) ≡ false
multiple a n e = rw e refl

enables-right : (f l : ℕ) (ok : Bool) → f < 16 → l < 16 → IsTrue ok → (nat_lt 15 f || nat_lt 15 l || not ok) ≡ false
enables-right f l true hf hl h = grind (arith, nat_tests)
enables-right f l false hf hl h = absurd (cc h)

read-length : (dw : ℕ) → 1 ≤ dw → dw ≤ 1024 → ((dw == 0) || nat_lt 1024 dw) ≡ false
read-length dw low high = grind (arith, nat_tests)

write-length : (n : ℕ) → 0 < n → n % 4 ≡ 0 → ((n == 0) || not (n % 4 == 0)) ≡ false
write-length n some whole = grind (arith, nat_tests)

asked-read : (L : Laws) (a f l dw : ℕ) → FitsKind kinds.MemoryRead (bodies.Request a f l) dw 0 → a < 2 ^ 64 → Asked kinds.MemoryRead (bodies.Request a f l) dw []
asked-read L a f l dw h fits = record {
  op = ops.Read a dw f l;
  is = refl;
  reads = rw (L.hexadecimal_back 18446744073709551615 a (omega arith) fits, L.decimal_back 65535 dw (omega (arith, h.1)) (omega (arith, h.1)), L.hexadecimal_back 15 f (omega (arith, h.0.2)) (omega (arith, h.0.2)), L.hexadecimal_back 15 l (omega (arith, h.0.3)) (omega (arith, h.0.3))) refl;
  sound = rw (read-length dw h.0.0 h.1, enables-right f l (are_enables dw a f l) h.0.2 h.0.3 h.0.4, multiple a 4 h.0.1) refl;
  kind = refl;
  dws = refl;
  same = refl;
  bytes = refl;
  begins = λ rest. refl;
}

asked-write : (L : Laws) (a f l dw : ℕ) (bytes : List ℕ) → FitsKind kinds.MemoryWrite (bodies.Request a f l) dw (length bytes) → a < 2 ^ 64 → IsBytes bytes → Asked kinds.MemoryWrite (bodies.Request a f l) dw bytes
asked-write L a f l dw bytes h fits are =
    let quarter : length bytes / 4 ≡ dw = omega (arith, h.2) in
    let low : 1 ≤ dw = h.0.0 in
    let some : 0 < length bytes = omega (arith, h.2, low) in
    let few : length bytes ≤ 128 = omega (arith, h.2, h.1) in
    let whole : length bytes % 4 ≡ 0 = omega (arith, h.2) in
    let enables = subst (λ (n : ℕ). IsTrue (are_enables n a f l)) (sym quarter) h.0.4 in
    record {
      op = ops.Write a f l (record { items = bytes });
      is = refl;
      reads = rw (L.hexadecimal_back 18446744073709551615 a (omega arith) fits, L.hexadecimal_back 15 f (omega (arith, h.0.2)) (omega (arith, h.0.2)), L.hexadecimal_back 15 l (omega (arith, h.0.3)) (omega (arith, h.0.3)), bytes-read bytes some few are) refl;
      sound = rw (write-length (length bytes) some whole, enables-right f l (are_enables (length bytes / 4) a f l) h.0.2 h.0.3 enables, multiple a 4 h.0.1) refl;
      kind = refl;
      dws = quarter;
      same = refl;
      bytes = refl;
      begins = λ rest. refl;
    }

-- ---- AtomicOps

below : (a b : ℕ) → a < b → not (nat_lt a b) ≡ false
below a b lt = grind (arith, nat_tests)

-- one operand of that width
add-of : (L : Laws) (w : Width) (a dw : ℕ) (bytes : List ℕ) → length bytes ≡ size_of w → a % size_of w ≡ 0 → a < 2 ^ 64 → IsBytes bytes
    → op_at kinds.FetchAdd (bodies.Request a 0 0) dw bytes ≡ Some (ops.FetchAdd a w (little_number (size_of w) bytes))
    → op_fault (ops.FetchAdd a w (little_number (size_of w) bytes)) ≡ None → size_of w / 4 ≡ dw
    → Asked kinds.FetchAdd (bodies.Request a 0 0) dw bytes
add-of L w a dw bytes len aligned fits are is sound dws = record {
  op = ops.FetchAdd a w (little_number (size_of w) bytes);
  is = is;
  reads = rw (L.hexadecimal_back 18446744073709551615 a (omega arith) fits, operand-reads w bytes len are) refl;
  sound = sound;
  kind = refl;
  dws = dws;
  same = refl;
  bytes = number-bytes (size_of w) bytes (omega arith) are ∙ take_all (size_of w) bytes (omega arith);
  begins = λ rest. refl;
}

swap-of : (L : Laws) (w : Width) (a dw : ℕ) (bytes : List ℕ) → length bytes ≡ size_of w → a % size_of w ≡ 0 → a < 2 ^ 64 → IsBytes bytes
    → op_at kinds.Swap (bodies.Request a 0 0) dw bytes ≡ Some (ops.Swap a w (little_number (size_of w) bytes))
    → op_fault (ops.Swap a w (little_number (size_of w) bytes)) ≡ None → size_of w / 4 ≡ dw
    → Asked kinds.Swap (bodies.Request a 0 0) dw bytes
swap-of L w a dw bytes len aligned fits are is sound dws = record {
  op = ops.Swap a w (little_number (size_of w) bytes);
  is = is;
  reads = rw (L.hexadecimal_back 18446744073709551615 a (omega arith) fits, operand-reads w bytes len are) refl;
  sound = sound;
  kind = refl;
  dws = dws;
  same = refl;
  bytes = number-bytes (size_of w) bytes (omega arith) are ∙ take_all (size_of w) bytes (omega arith);
  begins = λ rest. refl;
}

asked-add : (L : Laws) (a dw : ℕ) (bytes : List ℕ) → (dw ≡ 1) ⊎ (dw ≡ 2) → a % (4 * dw) ≡ 0 → length bytes ≡ 4 * dw → a < 2 ^ 64 → IsBytes bytes → Asked kinds.FetchAdd (bodies.Request a 0 0) dw bytes
asked-add L a dw bytes (inl e) aligned len fits are =
    let e4 : 4 * dw ≡ 4 = omega (arith, e) in
    let al : a % 4 ≡ 0 = sym (ap (λ (n : ℕ). a % n) e4) ∙ aligned in
    let x : little_number 4 bytes < 256 ^ 4 = little_from-lt 0 4 bytes are in
    rw e (add-of L widths.Four a 1 bytes (len ∙ e4) al fits are refl (rw (below (little_number 4 bytes) (2 ^ 32) x, multiple a 4 al) refl) refl)
asked-add L a dw bytes (inr e) aligned len fits are =
    let e8 : 4 * dw ≡ 8 = omega (arith, e) in
    let al : a % 8 ≡ 0 = sym (ap (λ (n : ℕ). a % n) e8) ∙ aligned in
    let x : little_number 8 bytes < 256 ^ 8 = little_from-lt 0 8 bytes are in
    rw e (add-of L widths.Eight a 2 bytes (len ∙ e8) al fits are refl (rw (below (little_number 8 bytes) (2 ^ 64) x, multiple a 8 al) refl) refl)

asked-swap : (L : Laws) (a dw : ℕ) (bytes : List ℕ) → (dw ≡ 1) ⊎ (dw ≡ 2) → a % (4 * dw) ≡ 0 → length bytes ≡ 4 * dw → a < 2 ^ 64 → IsBytes bytes → Asked kinds.Swap (bodies.Request a 0 0) dw bytes
asked-swap L a dw bytes (inl e) aligned len fits are =
    let e4 : 4 * dw ≡ 4 = omega (arith, e) in
    let al : a % 4 ≡ 0 = sym (ap (λ (n : ℕ). a % n) e4) ∙ aligned in
    let x : little_number 4 bytes < 256 ^ 4 = little_from-lt 0 4 bytes are in
    rw e (swap-of L widths.Four a 1 bytes (len ∙ e4) al fits are refl (rw (below (little_number 4 bytes) (2 ^ 32) x, multiple a 4 al) refl) refl)
asked-swap L a dw bytes (inr e) aligned len fits are =
    let e8 : 4 * dw ≡ 8 = omega (arith, e) in
    let al : a % 8 ≡ 0 = sym (ap (λ (n : ℕ). a % n) e8) ∙ aligned in
    let x : little_number 8 bytes < 256 ^ 8 = little_from-lt 0 8 bytes are in
    rw e (swap-of L widths.Eight a 2 bytes (len ∙ e8) al fits are refl (rw (below (little_number 8 bytes) (2 ^ 64) x, multiple a 8 al) refl) refl)

-- two operands of n bytes
cas-of : (L : Laws) (w : Width) (a dw : ℕ) (bytes : List ℕ) → length bytes ≡ 2 * size_of w → a < 2 ^ 64 → IsBytes bytes
    → op_at kinds.Cas (bodies.Request a 0 0) dw bytes ≡ Some (ops.Cas a w (little_number (size_of w) bytes) (little_number (size_of w) (drop (size_of w) bytes)))
    → op_fault (ops.Cas a w (little_number (size_of w) bytes) (little_number (size_of w) (drop (size_of w) bytes))) ≡ None → size_of w / 2 ≡ dw
    → Asked kinds.Cas (bodies.Request a 0 0) dw bytes
cas-of L w a dw bytes len fits are is sound dws =
    let n = size_of w in
    let first = take n bytes in
    let second = drop n bytes in
    let first_len : length first ≡ n = length-take-le n bytes (omega arith) in
    let second_len : length second ≡ n = let l = length-drop n bytes in omega arith in
    let first_is : little_number n first ≡ little_number n bytes = little_from-take 0 n n bytes (omega arith) in
    let first_reads = operand-reads w first first_len (bytes-take n bytes are) in
    let one : operations.operand (operand_word w (little_number n bytes)) ≡ Some (w, little_number n bytes) = subst (λ (x : ℕ). operations.operand (operand_word w x) ≡ Some (w, x)) first_is first_reads in
    let two = operand-reads w second second_len (bytes-drop n bytes are) in
    let same_width : (size_of w == size_of w) ≡ true = grind (arith, nat_tests) in
    record {
      op = ops.Cas a w (little_number n bytes) (little_number n second);
      is = is;
      reads = rw (L.hexadecimal_back 18446744073709551615 a (omega arith) fits, one, two, same_width) refl;
      sound = sound;
      kind = refl;
      dws = dws;
      same = refl;
      bytes = rw (number-bytes n bytes (omega arith) are, number-bytes n second (omega arith) (bytes-drop n bytes are), take_all n second (omega arith)) (take-append-drop n bytes);
      begins = λ rest. refl;
    }

asked-cas : (L : Laws) (a dw : ℕ) (bytes : List ℕ) → (dw ≡ 2) ⊎ (dw ≡ 4) ⊎ (dw ≡ 8) → a % (2 * dw) ≡ 0 → length bytes ≡ 4 * dw → a < 2 ^ 64 → IsBytes bytes → Asked kinds.Cas (bodies.Request a 0 0) dw bytes
asked-cas L a dw bytes (inl e) aligned len fits are =
    let half : 2 * dw ≡ 4 = omega (arith, e) in
    let al : a % 4 ≡ 0 = sym (ap (λ (n : ℕ). a % n) half) ∙ aligned in
    let x : little_number 4 bytes < 256 ^ 4 = little_from-lt 0 4 bytes are in
    let y : little_number 4 (drop 4 bytes) < 256 ^ 4 = little_from-lt 0 4 (drop 4 bytes) (bytes-drop 4 bytes are) in
    rw e (cas-of L widths.Four a 2 bytes (omega (arith, len, e)) fits are refl (rw (below (little_number 4 bytes) (2 ^ 32) x, below (little_number 4 (drop 4 bytes)) (2 ^ 32) y, multiple a 4 al) refl) refl)
asked-cas L a dw bytes (inr (inl e)) aligned len fits are =
    let half : 2 * dw ≡ 8 = omega (arith, e) in
    let al : a % 8 ≡ 0 = sym (ap (λ (n : ℕ). a % n) half) ∙ aligned in
    let x : little_number 8 bytes < 256 ^ 8 = little_from-lt 0 8 bytes are in
    let y : little_number 8 (drop 8 bytes) < 256 ^ 8 = little_from-lt 0 8 (drop 8 bytes) (bytes-drop 8 bytes are) in
    rw e (cas-of L widths.Eight a 4 bytes (omega (arith, len, e)) fits are refl (rw (below (little_number 8 bytes) (2 ^ 64) x, below (little_number 8 (drop 8 bytes)) (2 ^ 64) y, multiple a 8 al) refl) refl)
asked-cas L a dw bytes (inr (inr e)) aligned len fits are =
    let half : 2 * dw ≡ 16 = omega (arith, e) in
    let al : a % 16 ≡ 0 = sym (ap (λ (n : ℕ). a % n) half) ∙ aligned in
    let x : little_number 16 bytes < 256 ^ 16 = little_from-lt 0 16 bytes are in
    let y : little_number 16 (drop 16 bytes) < 256 ^ 16 = little_from-lt 0 16 (drop 16 bytes) (bytes-drop 16 bytes are) in
    rw e (cas-of L widths.Sixteen a 8 bytes (omega (arith, len, e)) fits are refl (rw (below (little_number 16 bytes) (2 ^ 128) x, below (little_number 16 (drop 16 bytes)) (2 ^ 128) y, multiple a 16 al) refl) refl)

-- ---- requests

no-bytes : (xs : List ℕ) → length xs ≡ 0 → xs ≡ []
no-bytes [] e = refl
no-bytes (x ∷ xs) e = absurd (omega (arith, e))

-- each request asks for an operation
pub asked : (L : Laws) (k : Kind) (body : Body) (dw : ℕ) (bytes : List ℕ) → FitsKind k body dw (length bytes) → IsBodyInRange body → IsBytes bytes → is_completion k ≡ false → Asked k body dw bytes
asked L kinds.MemoryRead (bodies.Request a f l) dw bytes h fits are c =
    let none : bytes ≡ [] = no-bytes bytes h.2 in
    rw none (asked-read L a f l dw (h.0, h.1, refl) fits)
asked L kinds.MemoryRead (bodies.Completion x s n l) dw bytes h fits are c = absurd h
asked L kinds.MemoryWrite (bodies.Request a f l) dw bytes h fits are c = asked-write L a f l dw bytes h fits are
asked L kinds.MemoryWrite (bodies.Completion x s n l) dw bytes h fits are c = absurd h
asked L kinds.FetchAdd (bodies.Request a f l) dw bytes h fits are c = rw (h.0.2, h.0.3) (asked-add L a dw bytes h.0.0 h.0.1 h.1 fits are)
asked L kinds.FetchAdd (bodies.Completion x s n l) dw bytes h fits are c = absurd h
asked L kinds.Swap (bodies.Request a f l) dw bytes h fits are c = rw (h.0.2, h.0.3) (asked-swap L a dw bytes h.0.0 h.0.1 h.1 fits are)
asked L kinds.Swap (bodies.Completion x s n l) dw bytes h fits are c = absurd h
asked L kinds.Cas (bodies.Request a f l) dw bytes h fits are c = rw (h.0.2, h.0.3) (asked-cas L a dw bytes h.0.0 h.0.1 h.1 fits are)
asked L kinds.Cas (bodies.Completion x s n l) dw bytes h fits are c = absurd h
asked L kinds.Completion body dw bytes h fits are c = absurd cc
asked L kinds.CompletionData body dw bytes h fits are c = absurd cc
