-- The request for an operation that words spell, as a packet: it asks for that operation, and its canonical bytes spell it.
use Rattle.std.proofs.Common.{◌≡◌, ℕ, ◌*◌, ◌/◌, ◌%◌, ◌^◌, ◌<◌, ◌≤◌, Bool, true, false, if◌then◌else◌, [], ◌++◌, length, drop, Option, Some, None, refl, sym, ap, subst, inl, inr, arith}
use Rattle.std.specs.Prelude.{not, ◌||◌, ◌==◌, nat_lt, IsTrue, Result, Ok}
use Rattle.std.proofs.lemmas.Bool.Decides.{nat_tests}
use Rattle.byteorder.specs.Endian.{little_number, little_bytes}
use Rattle.byteorder.specs.Numbers.{little_number-reads_back}
use Rattle.tlp_core.specs.declared.packet.Kind.TheVariants as kinds
use Rattle.tlp_core.specs.declared.packet.Body.TheVariants as bodies
use Rattle.tlp_core.specs.Ops.{Op}
use Rattle.tlp_core.specs.declared.operation.OpOf.TheVariants as ops
use Rattle.tlp_core.specs.declared.operation.Width.{Width}
use Rattle.tlp_core.specs.declared.operation.Width.TheVariants as widths
use Rattle.tlp_core.specs.declared.fault.TlpFault.{TlpFault}
use Rattle.tlp_core.specs.declared.fault.TlpFault.TheVariants as faults
use Rattle.tlp_core.specs.Enables.{are_enables}
use Rattle.tlp_core.specs.Layout.{Spells, canonical}
use Rattle.tlp_core.specs.TlpView.{TlpView, IsPacket, IsBodyInRange, FitsKind}
use Rattle.tlp_core.specs.Operation.{op_of, op_at, op_fault, size_of, address_of, wrong_length, wrong_enables, wrong_operand, wrong_address}
use Rattle.requester_core.specs.Request.{kind_for, length_for, first_for, last_for, payload_for, request_for}
use Rattle.requester_core.specs.RequesterView.{RequesterView, IsSound, prepared, prepared_by, tag_for, lacks_tag}
use Rattle.requester_core.specs.declared.fault.SubmitRefusal.{SubmitRefusal}
use Rattle.fabric_core.specs.Answers.{SubmitFits}
use Rattle.step_laws.proofs.Spelled.{IsShortOp, HasShortData}

-- ---- an operation without a fault

record Passes (op : Op) : Type 0 where
  pub length_right : wrong_length op ≡ false
  pub enables_right : wrong_enables op ≡ false
  pub operand_right : wrong_operand op ≡ false
  pub address_right : wrong_address op ≡ false

no_test : (b : Bool) (x : TlpFault) (rest : Option TlpFault) → (if b then Some x else rest) ≡ None → (b ≡ false) × (rest ≡ None)
no_test true x rest e = absurd cc
no_test false x rest e = (refl, e)

passes : (op : Op) → op_fault op ≡ None → Passes op
passes op e =
    let s1 = no_test (wrong_length op) faults.LengthMismatch _ e in
    let s2 = no_test (wrong_enables op) faults.ByteEnables _ s1.1 in
    let s3 = no_test (wrong_operand op) faults.OperandSize _ s2.1 in
    let s4 = no_test (wrong_address op) faults.Unaligned _ s3.1 in
    record { length_right = s1.0; enables_right = s2.0; operand_right = s3.0; address_right = s4.0 }

-- ---- it is a packet of the grammar

is_multiple : (a n : ℕ) → not (a % n == 0) ≡ false → a % n ≡ 0
is_multiple a n e = grind (arith, nat_tests)

read_length : (dw : ℕ) → ((dw == 0) || nat_lt 1024 dw) ≡ false → (1 ≤ dw) × (dw ≤ 1024)
read_length dw e = grind (arith, nat_tests)

write_length : (n : ℕ) → ((n == 0) || not (n % 4 == 0)) ≡ false → n ≤ 128 → (1 ≤ n / 4) × (n / 4 ≤ 32) × (n ≡ 4 * (n / 4))
write_length n e h = grind (arith, nat_tests)

enables_kept : (f l : ℕ) (ok : Bool) → (nat_lt 15 f || nat_lt 15 l || not ok) ≡ false → (f < 16) × (l < 16) × IsTrue ok
enables_kept f l true e = grind (arith, nat_tests)
enables_kept f l false e = grind (arith, nat_tests)

below : (a b : ℕ) → not (nat_lt a b) ≡ false → a < b
below a b e = grind (arith, nat_tests)

neither : (x y : Bool) → (x || y) ≡ false → (x ≡ false) × (y ≡ false)
neither false y e = (refl, e)
neither true y e = absurd cc

fits_add : (a x : ℕ) (w : Width) → Passes (ops.FetchAdd a w x) → FitsKind kinds.FetchAdd (bodies.Request a 0 0) (size_of w / 4) (length (little_bytes (size_of w) x))
fits_add a x widths.Four p = ((inl refl, is_multiple a 4 p.address_right, refl, refl), refl)
fits_add a x widths.Eight p = ((inr refl, is_multiple a 8 p.address_right, refl, refl), refl)
fits_add a x widths.Sixteen p = absurd (let e = p.operand_right in cc)

fits_cas : (a x y : ℕ) (w : Width) → Passes (ops.Cas a w x y) → FitsKind kinds.Cas (bodies.Request a 0 0) (size_of w / 2) (length (little_bytes (size_of w) x ++ little_bytes (size_of w) y))
fits_cas a x y widths.Four p = ((inl refl, is_multiple a 4 p.address_right, refl, refl), refl)
fits_cas a x y widths.Eight p = ((inr (inl refl), is_multiple a 8 p.address_right, refl, refl), refl)
fits_cas a x y widths.Sixteen p = ((inr (inr refl), is_multiple a 16 p.address_right, refl, refl), refl)

fits_op : (op : Op) → Passes op → HasShortData op → FitsKind (kind_for op) (bodies.Request (address_of op) (first_for op) (last_for op)) (length_for op) (length (payload_for op))
fits_op (ops.Read a dw f l) p short =
    let r = read_length dw p.length_right in
    let e = enables_kept f l (are_enables dw a f l) p.enables_right in
    ((r.0, is_multiple a 4 p.address_right, e.0, e.1, e.2), r.1, refl)
fits_op (ops.Write a f l bytes) p short =
    let r = write_length (length bytes.items) p.length_right short.few in
    let e = enables_kept f l (are_enables (length bytes.items / 4) a f l) p.enables_right in
    ((r.0, is_multiple a 4 p.address_right, e.0, e.1, e.2), r.1, r.2)
fits_op (ops.FetchAdd a w x) p short = fits_add a x w p
fits_op (ops.Swap a w x) p short = fits_add a x w (record { length_right = refl; enables_right = refl; operand_right = p.operand_right; address_right = p.address_right })
fits_op (ops.Cas a w x y) p short = fits_cas a x y w p

-- ---- it asks for the operation

asks_add : (a x : ℕ) (w : Width) → Passes (ops.FetchAdd a w x) → op_at kinds.FetchAdd (bodies.Request a 0 0) (size_of w / 4) (little_bytes (size_of w) x) ≡ Some (ops.FetchAdd a w x)
asks_add a x widths.Four p = ap (λ n. Some (ops.FetchAdd a widths.Four n)) (little_number-reads_back 4 x [] (below x (2 ^ 32) (neither false _ p.operand_right).1))
asks_add a x widths.Eight p = ap (λ n. Some (ops.FetchAdd a widths.Eight n)) (little_number-reads_back 8 x [] (below x (2 ^ 64) (neither false _ p.operand_right).1))
asks_add a x widths.Sixteen p = absurd (let e = p.operand_right in cc)

asks_swap : (a x : ℕ) (w : Width) → Passes (ops.Swap a w x) → op_at kinds.Swap (bodies.Request a 0 0) (size_of w / 4) (little_bytes (size_of w) x) ≡ Some (ops.Swap a w x)
asks_swap a x widths.Four p = ap (λ n. Some (ops.Swap a widths.Four n)) (little_number-reads_back 4 x [] (below x (2 ^ 32) (neither false _ p.operand_right).1))
asks_swap a x widths.Eight p = ap (λ n. Some (ops.Swap a widths.Eight n)) (little_number-reads_back 8 x [] (below x (2 ^ 64) (neither false _ p.operand_right).1))
asks_swap a x widths.Sixteen p = absurd (let e = p.operand_right in cc)

-- both operands are read back
two_back : (a n x y : ℕ) (w : Width) → x < 256 ^ n → y < 256 ^ n → drop n (little_bytes n x ++ little_bytes n y) ≡ little_bytes n y ++ []
    → ◌≡◌ {A = Option Op} (Some (ops.Cas a w (little_number n (little_bytes n x ++ little_bytes n y)) (little_number n (drop n (little_bytes n x ++ little_bytes n y))))) (Some (ops.Cas a w x y))
two_back a n x y w hx hy e = rw (e, little_number-reads_back n x (little_bytes n y) hx, little_number-reads_back n y [] hy) refl

asks_cas : (a x y : ℕ) (w : Width) → Passes (ops.Cas a w x y) → op_at kinds.Cas (bodies.Request a 0 0) (size_of w / 2) (little_bytes (size_of w) x ++ little_bytes (size_of w) y) ≡ Some (ops.Cas a w x y)
asks_cas a x y widths.Four p = let s = neither _ _ p.operand_right in two_back a 4 x y widths.Four (below x (2 ^ 32) s.0) (below y (2 ^ 32) s.1) refl
asks_cas a x y widths.Eight p = let s = neither _ _ p.operand_right in two_back a 8 x y widths.Eight (below x (2 ^ 64) s.0) (below y (2 ^ 64) s.1) refl
asks_cas a x y widths.Sixteen p = let s = neither _ _ p.operand_right in two_back a 16 x y widths.Sixteen (below x (2 ^ 128) s.0) (below y (2 ^ 128) s.1) refl

asks_for : (port tag : ℕ) (op : Op) → Passes op → op_of (request_for port tag op) ≡ Some op
asks_for port tag (ops.Read a dw f l) p = refl
asks_for port tag (ops.Write a f l bytes) p = refl
asks_for port tag (ops.FetchAdd a w x) p = asks_add a x w p
asks_for port tag (ops.Swap a w x) p = asks_swap a x w p
asks_for port tag (ops.Cas a w x y) p = asks_cas a x y w p

-- ---- as a requester prepares it

abbrev pub IsSpellable : Type 0
IsSpellable = (t : TlpView) → t.requester < 2 ^ 16 → IsBodyInRange t.body → IsPacket t → Spells (canonical t) t

-- the request that is prepared next
pub record IsNext (q : RequesterView) (op : Op) (n : ℕ) (t : TlpView) : Type 0 where
  pub faultless : op_fault op ≡ None
  pub number : n ≡ q.next
  pub left : (q.next == 4294967295) ≡ false
  pub request : t ≡ request_for q.port (tag_for q op) op

same_ok : (x y : ℕ × TlpView) → ◌≡◌ {A = Result (ℕ × TlpView) SubmitRefusal} (Ok x) (Ok y) → x ≡ y
same_ok x y e = cc

pub next-is : (q : RequesterView) (op : Op) (n : ℕ) (t : TlpView) → prepared q op ≡ Ok (n, t) → IsNext q op n t
next-is q op n t e = by (op_fault op) (lacks_tag q op) (q.next == 4294967295) refl refl e
  where
    by : (f : Option TlpFault) (tags spent : Bool) → op_fault op ≡ f → (q.next == 4294967295) ≡ spent → prepared_by f tags spent q.next (request_for q.port (tag_for q op) op) ≡ Ok (n, t) → IsNext q op n t
    by (Some f) tags spent e1 e2 e = absurd cc
    by None true spent e1 e2 e = absurd cc
    by None false true e1 e2 e = absurd cc
    by None false false e1 e2 e =
        let same = same_ok (q.next, request_for q.port (tag_for q op) op) (n, t) e in
        record { faultless = e1; number = sym (ap (λ (p : ℕ × TlpView). p.0) same); left = e2; request = sym (ap (λ (p : ℕ × TlpView). p.1) same) }

pub submit-fits : IsSpellable → (q : RequesterView) (op : Op) → IsSound q → IsShortOp op → SubmitFits q op
submit-fits spellable q op sound short = record {
  sound = sound;
  request = λ n t e.
      let next = next-is q op n t e in
      let r = request_for q.port (tag_for q op) op in
      let p = passes op next.faultless in
      let requester : r.requester < 2 ^ 16 = let few = sound.few_ports in omega (arith, few) in
      let packet : IsPacket r = record { tc = omega arith; attr = omega arith; fits = fits_op op p short.short } in
      subst (λ (t : TlpView). (op_of t ≡ Some op) × Spells (canonical t) t) (sym next.request) (asks_for q.port (tag_for q op) op p, spellable r requester short.place packet);
}
