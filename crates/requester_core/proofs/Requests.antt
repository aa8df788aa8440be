-- The request for an operation without a fault is a packet of the grammar, and asks for that operation.
use Rattle.std.proofs.Common.{◌≡◌, ℕ, ◌*◌, ◌/◌, ◌%◌, ◌^◌, ◌<◌, ◌≤◌, Bool, true, false, cond, List, [], ◌++◌, length, drop, Option, Some, None, refl, ap, inl, inr, arith}
use Rattle.std.specs.Prelude.{not, ◌||◌, ◌==◌, nat_lt, IsTrue}
use Rattle.std.proofs.lemmas.Bool.Decides.{nat_tests}
use Rattle.byteorder.specs.Endian.{little_number, little_bytes}
use Rattle.byteorder.specs.Numbers.{little_number-reads_back}
use Rattle.tlp_core.specs.declared.packet.Kind.TheVariants as kinds
use Rattle.tlp_core.specs.declared.packet.Body.TheVariants as bodies
use Rattle.tlp_core.specs.Ops.{Op}
use Rattle.tlp_core.specs.declared.operation.OpOf.TheVariants as ops
use Rattle.tlp_core.specs.declared.operation.Width.{Width}
use Rattle.tlp_core.specs.declared.operation.Width.TheVariants as widths
use Rattle.tlp_core.specs.declared.fault.TlpFault.{TlpFault}
use Rattle.tlp_core.specs.declared.fault.TlpFault.TheVariants as faults
use Rattle.tlp_core.specs.Enables.{are_enables}
use Rattle.tlp_core.specs.TlpView.{IsPacket, FitsKind}
use Rattle.tlp_core.specs.Operation.{op_of, op_at, op_fault, size_of, address_of, wrong_length, wrong_enables, wrong_operand, wrong_address}
use Rattle.requester_core.specs.Request.{kind_for, length_for, first_for, last_for, payload_for, request}
use Rattle.requester_core.specs.declared.request.Origin.{Origin}

-- the four tests of an operation
record PassesTests (op : Op) : Type 0 where
  pub length_right : wrong_length op ≡ false
  pub enables_right : wrong_enables op ≡ false
  pub operand_right : wrong_operand op ≡ false
  pub address_right : wrong_address op ≡ false

cond_none : (b : Bool) (x : TlpFault) (rest : Option TlpFault) → cond b (Some x) rest ≡ None → (b ≡ false) × (rest ≡ None)
cond_none true x rest e = absurd cc
cond_none false x rest e = (refl, e)

passes : (op : Op) → op_fault op ≡ None → PassesTests op
passes op e =
    let s1 = cond_none (wrong_length op) faults.LengthMismatch _ e in
    let s2 = cond_none (wrong_enables op) faults.ByteEnables _ s1.1 in
    let s3 = cond_none (wrong_operand op) faults.OperandSize _ s2.1 in
    let s4 = cond_none (wrong_address op) faults.Unaligned _ s3.1 in
    record { length_right = s1.0; enables_right = s2.0; operand_right = s3.0; address_right = s4.0 }

is_multiple : (a n : ℕ) → not (a % n == 0) ≡ false → a % n ≡ 0
is_multiple a n e = grind (arith, nat_tests)

read_length : (dw : ℕ) → ((dw == 0) || nat_lt 1024 dw) ≡ false → (1 ≤ dw) × (dw ≤ 1024)
read_length dw e = grind (arith, nat_tests)

write_length : (n : ℕ) → ((n == 0) || not (n % 4 == 0)) ≡ false → n ≤ 128 → (1 ≤ n / 4) × (n / 4 ≤ 32) × (n ≡ 4 * (n / 4))
write_length n e h = grind (arith, nat_tests)

enables_kept : (f l : ℕ) (ok : Bool) → (nat_lt 15 f || nat_lt 15 l || not ok) ≡ false → (f < 16) × (l < 16) × IsTrue ok
enables_kept f l true e = grind (arith, nat_tests)
enables_kept f l false e = grind (arith, nat_tests)

below : (a b : ℕ) → not (nat_lt a b) ≡ false → a < b
below a b e = grind (arith, nat_tests)

or_false : (x y : Bool) → (x || y) ≡ false → (x ≡ false) × (y ≡ false)
or_false false y e = (refl, e)
or_false true y e = absurd cc

fits_read : (a dw f l : ℕ) → PassesTests (ops.Read a dw f l) → FitsKind kinds.MemoryRead (bodies.Request a f l) dw 0
fits_read a dw f l p =
    let r = read_length dw p.length_right in
    let e = enables_kept f l (are_enables dw a f l) p.enables_right in
    ((r.0, is_multiple a 4 p.address_right, e.0, e.1, e.2), r.1, refl)

fits_write : (a f l : ℕ) (bytes : List ℕ) → length bytes ≤ 128 → PassesTests (ops.Write a f l (record { items = bytes })) → FitsKind kinds.MemoryWrite (bodies.Request a f l) (length bytes / 4) (length bytes)
fits_write a f l bytes few p =
    let r = write_length (length bytes) p.length_right few in
    let e = enables_kept f l (are_enables (length bytes / 4) a f l) p.enables_right in
    ((r.0, is_multiple a 4 p.address_right, e.0, e.1, e.2), r.1, r.2)

fits_add : (a x : ℕ) (w : Width) → PassesTests (ops.FetchAdd a w x) → FitsKind kinds.FetchAdd (bodies.Request a 0 0) (size_of w / 4) (length (little_bytes (size_of w) x))
fits_add a x widths.Four p = ((inl refl, is_multiple a 4 p.address_right, refl, refl), refl)
fits_add a x widths.Eight p = ((inr refl, is_multiple a 8 p.address_right, refl, refl), refl)
fits_add a x widths.Sixteen p = absurd (let e = p.operand_right in cc)

fits_cas : (a x y : ℕ) (w : Width) → PassesTests (ops.Cas a w x y) → FitsKind kinds.Cas (bodies.Request a 0 0) (size_of w / 2) (length (little_bytes (size_of w) x ++ little_bytes (size_of w) y))
fits_cas a x y widths.Four p = ((inl refl, is_multiple a 4 p.address_right, refl, refl), refl)
fits_cas a x y widths.Eight p = ((inr (inl refl), is_multiple a 8 p.address_right, refl, refl), refl)
fits_cas a x y widths.Sixteen p = ((inr (inr refl), is_multiple a 16 p.address_right, refl, refl), refl)

fits_op : (op : Op) → PassesTests op → length (payload_for op) ≤ 128 → FitsKind (kind_for op) (bodies.Request (address_of op) (first_for op) (last_for op)) (length_for op) (length (payload_for op))
fits_op (ops.Read a dw f l) p few = fits_read a dw f l p
fits_op (ops.Write a f l bytes) p few = fits_write a f l bytes.items few p
fits_op (ops.FetchAdd a w x) p few = fits_add a x w p
fits_op (ops.Swap a w x) p few = fits_add a x w (record { length_right = refl; enables_right = refl; operand_right = p.operand_right; address_right = p.address_right })
fits_op (ops.Cas a w x y) p few = fits_cas a x y w p

pub is_packet : (op : Op) (o : Origin) → op_fault op ≡ None → o.tc < 8 → o.attr < 8 → length (payload_for op) ≤ 128 → IsPacket (request op o)
is_packet op o e tc attr few = record { tc = tc; attr = attr; fits = fits_op op (passes op e) few }

-- ---- what it asks for

reads_back : (n x : ℕ) (rest : List ℕ) → x < 256 ^ n → little_number n (little_bytes n x ++ rest) ≡ x
reads_back n x rest h = little_number-reads_back n x rest h

asks_add : (a x : ℕ) (w : Width) → PassesTests (ops.FetchAdd a w x) → op_at kinds.FetchAdd (bodies.Request a 0 0) (size_of w / 4) (little_bytes (size_of w) x) ≡ Some (ops.FetchAdd a w x)
asks_add a x widths.Four p = ap (λ n. Some (ops.FetchAdd a widths.Four n)) (reads_back 4 x [] (below x (2 ^ 32) (or_false false _ p.operand_right).1))
asks_add a x widths.Eight p = ap (λ n. Some (ops.FetchAdd a widths.Eight n)) (reads_back 8 x [] (below x (2 ^ 64) (or_false false _ p.operand_right).1))
asks_add a x widths.Sixteen p = absurd (let e = p.operand_right in cc)

asks_swap : (a x : ℕ) (w : Width) → PassesTests (ops.Swap a w x) → op_at kinds.Swap (bodies.Request a 0 0) (size_of w / 4) (little_bytes (size_of w) x) ≡ Some (ops.Swap a w x)
asks_swap a x widths.Four p = ap (λ n. Some (ops.Swap a widths.Four n)) (reads_back 4 x [] (below x (2 ^ 32) (or_false false _ p.operand_right).1))
asks_swap a x widths.Eight p = ap (λ n. Some (ops.Swap a widths.Eight n)) (reads_back 8 x [] (below x (2 ^ 64) (or_false false _ p.operand_right).1))
asks_swap a x widths.Sixteen p = absurd (let e = p.operand_right in cc)

-- both operands are read back
two_back : (a n x y : ℕ) (w : Width) → x < 256 ^ n → y < 256 ^ n → drop n (little_bytes n x ++ little_bytes n y) ≡ little_bytes n y ++ [] → ◌≡◌ {A = Option Op} (Some (ops.Cas a w (little_number n (little_bytes n x ++ little_bytes n y)) (little_number n (drop n (little_bytes n x ++ little_bytes n y))))) (Some (ops.Cas a w x y))
two_back a n x y w hx hy e = rw (e, reads_back n x (little_bytes n y) hx, reads_back n y [] hy) refl

asks_cas : (a x y : ℕ) (w : Width) → PassesTests (ops.Cas a w x y) → op_at kinds.Cas (bodies.Request a 0 0) (size_of w / 2) (little_bytes (size_of w) x ++ little_bytes (size_of w) y) ≡ Some (ops.Cas a w x y)
asks_cas a x y widths.Four p = let s = or_false _ _ p.operand_right in two_back a 4 x y widths.Four (below x (2 ^ 32) s.0) (below y (2 ^ 32) s.1) refl
asks_cas a x y widths.Eight p = let s = or_false _ _ p.operand_right in two_back a 8 x y widths.Eight (below x (2 ^ 64) s.0) (below y (2 ^ 64) s.1) refl
asks_cas a x y widths.Sixteen p = let s = or_false _ _ p.operand_right in two_back a 16 x y widths.Sixteen (below x (2 ^ 128) s.0) (below y (2 ^ 128) s.1) refl

pub asks_for : (op : Op) (o : Origin) → op_fault op ≡ None → op_of (request op o) ≡ Some op
asks_for (ops.Read a dw f l) o e = refl
asks_for (ops.Write a f l bytes) o e = refl
asks_for (ops.FetchAdd a w x) o e = asks_add a x w (passes (ops.FetchAdd a w x) e)
asks_for (ops.Swap a w x) o e = asks_swap a x w (passes (ops.Swap a w x) e)
asks_for (ops.Cas a w x y) o e = asks_cas a x y w (passes (ops.Cas a w x y) e)
