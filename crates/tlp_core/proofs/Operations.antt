-- The operation of a packet has no fault.
use Rattle.std.proofs.Common.{◌≡◌, ℕ, ◌-◌, ◌*◌, ◌/◌, ◌%◌, ◌^◌, ◌<◌, Bool, false, None, List, length, take, drop, length-take, length-drop, refl, sym, subst, ap, ◌∙◌, inl, inr, arith, ◌⊎◌}
use Rattle.byteorder.specs.Numbers.{little_from-lt}
use Rattle.tlp_core.specs.Bits.{IsBytes}
use Rattle.tlp_core.specs.Operands.{number_of}
use Rattle.std.specs.Prelude.{not, ◌||◌, ◌==◌, nat_lt}
use Rattle.std.proofs.lemmas.Bool.Decides.{nat_tests}
use Rattle.tlp_core.specs.declared.packet.Kind.{Kind}
use Rattle.tlp_core.specs.declared.packet.Kind.TheVariants as kinds
use Rattle.tlp_core.specs.declared.packet.Body.{Body}
use Rattle.tlp_core.specs.declared.packet.Body.TheVariants as bodies
use Rattle.tlp_core.specs.Ops.{Op}
use Rattle.tlp_core.specs.declared.operation.OpOf.TheVariants as ops
use Rattle.tlp_core.specs.declared.operation.Width.{Width}
use Rattle.tlp_core.specs.TlpView.{FitsKind}
use Rattle.tlp_core.specs.Operation.{op_fault, width_of, fits, wrong_length, wrong_enables, wrong_operand, wrong_address}

-- the four tests of an operation
record HasNone (op : Op) : Type 0 where
  pub length_right : wrong_length op ≡ false
  pub enables_right : wrong_enables op ≡ false
  pub operand_right : wrong_operand op ≡ false
  pub address_right : wrong_address op ≡ false

none_found : (op : Op) → HasNone op → op_fault op ≡ None
none_found op h = rw (h.length_right, h.enables_right, h.operand_right, h.address_right) refl

aligned : (a n : ℕ) → a % n ≡ 0 → not (a % n == 0) ≡ false
aligned a n e = rw e refl

test_below : (a b : ℕ) → a < b → not (nat_lt a b) ≡ false
test_below a b h = grind (arith, nat_tests)

two_tests : (x y : Bool) → x ≡ false → y ≡ false → (x || y) ≡ false
two_tests x y e1 e2 = rw (e1, e2) refl

has_none : (a dw x y : ℕ) → ((dw ≡ 2) ⊎ (dw ≡ 4) ⊎ (dw ≡ 8)) → a % (2 * dw) ≡ 0 → x < 256 ^ (2 * dw) → y < 256 ^ (2 * dw) → HasNone (ops.Cas a (width_of (2 * dw)) x y)
has_none a dw x y (inl e) h hx hy =
    let at : a % 4 ≡ 0 = subst (λ dw. a % (2 * dw) ≡ 0) e h in
    let fx : x < 2 ^ 32 = subst (λ dw. x < 256 ^ (2 * dw)) e hx in
    let fy : y < 2 ^ 32 = subst (λ dw. y < 256 ^ (2 * dw)) e hy in
    subst (λ dw. HasNone (ops.Cas a (width_of (2 * dw)) x y)) (sym e) (record { length_right = refl; enables_right = refl; operand_right = two_tests _ _ (test_below x (2 ^ 32) fx) (test_below y (2 ^ 32) fy); address_right = aligned a 4 at })
has_none a dw x y (inr (inl e)) h hx hy =
    let at : a % 8 ≡ 0 = subst (λ dw. a % (2 * dw) ≡ 0) e h in
    let fx : x < 2 ^ 64 = subst (λ dw. x < 256 ^ (2 * dw)) e hx in
    let fy : y < 2 ^ 64 = subst (λ dw. y < 256 ^ (2 * dw)) e hy in
    subst (λ dw. HasNone (ops.Cas a (width_of (2 * dw)) x y)) (sym e) (record { length_right = refl; enables_right = refl; operand_right = two_tests _ _ (test_below x (2 ^ 64) fx) (test_below y (2 ^ 64) fy); address_right = aligned a 8 at })
has_none a dw x y (inr (inr e)) h hx hy =
    let at : a % 16 ≡ 0 = subst (λ dw. a % (2 * dw) ≡ 0) e h in
    let fx : x < 2 ^ 128 = subst (λ dw. x < 256 ^ (2 * dw)) e hx in
    let fy : y < 2 ^ 128 = subst (λ dw. y < 256 ^ (2 * dw)) e hy in
    subst (λ dw. HasNone (ops.Cas a (width_of (2 * dw)) x y)) (sym e) (record { length_right = refl; enables_right = refl; operand_right = two_tests _ _ (test_below x (2 ^ 128) fx) (test_below y (2 ^ 128) fy); address_right = aligned a 16 at })

-- what a CAS packet asks for, as the code reads it, has no fault
pub cas_sound : (k : Kind) (body : Body) (a f l dw given half : ℕ) (w : Width) (x y : ℕ) → FitsKind k body dw given → k ≡ kinds.Cas → body ≡ bodies.Request a f l → half ≡ 2 * dw → w ≡ width_of (2 * dw) → x < 256 ^ half → y < 256 ^ half → op_fault (ops.Cas a w x y) ≡ None
cas_sound k body a f l dw given half w x y fits is_cas is_request e1 e2 hx hy =
    let h : FitsKind kinds.Cas (bodies.Request a f l) dw given = subst (λ body. FitsKind kinds.Cas body dw given) is_request (subst (λ k. FitsKind k body dw given) is_cas fits) in
    rw e2 (none_found (ops.Cas a (width_of (2 * dw)) x y) (has_none a dw x y h.0.0 h.0.1 (subst (λ n. x < 256 ^ n) e1 hx) (subst (λ n. y < 256 ^ n) e1 hy)))

-- ---- operands that are lent

has_one : (a n x : ℕ) → ((n ≡ 4) ⊎ (n ≡ 8)) → a % n ≡ 0 → x < 256 ^ n → HasNone (ops.FetchAdd a (width_of n) x) × HasNone (ops.Swap a (width_of n) x)
has_one a n x (inl e) h hx =
    let at : a % 4 ≡ 0 = subst (λ n. a % n ≡ 0) e h in
    let fx : x < 2 ^ 32 = subst (λ n. x < 256 ^ n) e hx in
    subst (λ n. HasNone (ops.FetchAdd a (width_of n) x) × HasNone (ops.Swap a (width_of n) x)) (sym e) (record { length_right = refl; enables_right = refl; operand_right = test_below x (2 ^ 32) fx; address_right = aligned a 4 at }, record { length_right = refl; enables_right = refl; operand_right = test_below x (2 ^ 32) fx; address_right = aligned a 4 at })
has_one a n x (inr e) h hx =
    let at : a % 8 ≡ 0 = subst (λ n. a % n ≡ 0) e h in
    let fx : x < 2 ^ 64 = subst (λ n. x < 256 ^ n) e hx in
    subst (λ n. HasNone (ops.FetchAdd a (width_of n) x) × HasNone (ops.Swap a (width_of n) x)) (sym e) (record { length_right = refl; enables_right = refl; operand_right = test_below x (2 ^ 64) fx; address_right = aligned a 8 at }, record { length_right = refl; enables_right = refl; operand_right = test_below x (2 ^ 64) fx; address_right = aligned a 8 at })

one_of : (a dw given : ℕ) → ((dw ≡ 1) ⊎ (dw ≡ 2)) → a % (4 * dw) ≡ 0 → given ≡ 4 * dw → ((given ≡ 4) ⊎ (given ≡ 8)) × (a % given ≡ 0)
one_of a dw given (inl e) h g = (inl (g ∙ ap (λ d. 4 * d) e), subst (λ n. a % n ≡ 0) (sym g) h)
one_of a dw given (inr e) h g = (inr (g ∙ ap (λ d. 4 * d) e), subst (λ n. a % n ≡ 0) (sym g) h)

-- bytes spell a number that fits them
number_fits : (b : List ℕ) → IsBytes b → number_of b < 256 ^ length b
number_fits b bytes = little_from-lt 0 (length b) b bytes

-- what an AtomicOp's packet of one operand asks for has no fault
pub add_sound : (k : Kind) (body : Body) (a f l dw : ℕ) (b : List ℕ) → FitsKind k body dw (length b) → k ≡ kinds.FetchAdd → body ≡ bodies.Request a f l → IsBytes b → op_fault (ops.FetchAdd a (width_of (length b)) (number_of b)) ≡ None
add_sound k body a f l dw b fits is_add is_request bytes =
    let h : FitsKind kinds.FetchAdd (bodies.Request a f l) dw (length b) = subst (λ body. FitsKind kinds.FetchAdd body dw (length b)) is_request (subst (λ k. FitsKind k body dw (length b)) is_add fits) in
    let o = one_of a dw (length b) h.0.0 h.0.1 h.1 in
    none_found _ (has_one a (length b) (number_of b) o.0 o.1 (number_fits b bytes)).0

pub swap_sound : (k : Kind) (body : Body) (a f l dw : ℕ) (b : List ℕ) → FitsKind k body dw (length b) → k ≡ kinds.Swap → body ≡ bodies.Request a f l → IsBytes b → op_fault (ops.Swap a (width_of (length b)) (number_of b)) ≡ None
swap_sound k body a f l dw b fits is_swap is_request bytes =
    let h : FitsKind kinds.Swap (bodies.Request a f l) dw (length b) = subst (λ body. FitsKind kinds.Swap body dw (length b)) is_request (subst (λ k. FitsKind k body dw (length b)) is_swap fits) in
    let o = one_of a dw (length b) h.0.0 h.0.1 h.1 in
    none_found _ (has_one a (length b) (number_of b) o.0 o.1 (number_fits b bytes)).1

cas_length : (k : Kind) (body : Body) (a f l dw given : ℕ) → FitsKind k body dw given → k ≡ kinds.Cas → body ≡ bodies.Request a f l → given ≡ 4 * dw
cas_length k body a f l dw given fits is_cas is_request =
    let h : FitsKind kinds.Cas (bodies.Request a f l) dw given = subst (λ body. FitsKind kinds.Cas body dw given) is_request (subst (λ k. FitsKind k body dw given) is_cas fits) in h.1

front_half : (b : List ℕ) (dw : ℕ) → length b ≡ 4 * dw → length (take (length b / 2) b) ≡ 2 * dw
front_half b dw e = omega (arith, e, length-take (length b / 2) b)

back_half : (b : List ℕ) (dw : ℕ) → length b ≡ 4 * dw → length (take (length b - length b / 2) (drop (length b / 2) b)) ≡ 2 * dw
back_half b dw e = omega (arith, e, length-take (length b - length b / 2) (drop (length b / 2) b), length-drop (length b / 2) b)

pub halves_sound : (k : Kind) (body : Body) (a f l dw : ℕ) (b : List ℕ) → FitsKind k body dw (length b) → k ≡ kinds.Cas → body ≡ bodies.Request a f l → IsBytes (take (length b / 2) b) → IsBytes (take (length b - length b / 2) (drop (length b / 2) b)) → op_fault (ops.Cas a (width_of (length (take (length b / 2) b))) (number_of (take (length b / 2) b)) (number_of (take (length b - length b / 2) (drop (length b / 2) b)))) ≡ None
halves_sound k body a f l dw b fits is_cas is_request xs ys =
    let e = cas_length k body a f l dw (length b) fits is_cas is_request in
    let e1 = front_half b dw e in
    let e2 = back_half b dw e in
    cas_sound k body a f l dw (length b) (2 * dw) _ _ _ fits is_cas is_request refl (ap width_of e1) (subst (λ n. number_of (take (length b / 2) b) < 256 ^ n) e1 (number_fits _ xs)) (subst (λ n. number_of (take (length b - length b / 2) (drop (length b / 2) b)) < 256 ^ n) e2 (number_fits _ ys))
