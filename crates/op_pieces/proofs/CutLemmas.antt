-- Pieces one after another.
use Rattle.std.proofs.Common.{◌≡◌, ◌∙◌, ℕ, zero, suc, ◌<◌, ◌≤◌, ◌++◌, ◌∷◌, [], List, true, false, refl, ap, arith}
use Rattle.std.specs.Prelude.{nat_le}
use Rattle.std.proofs.lemmas.Bool.Decides.{nat_tests}
use Rattle.tlp_core.specs.Ops.{Op}
use Rattle.tlp_core.specs.Operation.{address_of}
use Rattle.op_pieces.specs.Pieces.{cut, dw_of, dw_to, front, back}

pub cut_fits : (b n : ℕ) (op : Op) → dw_of op ≤ dw_to b (address_of op) → cut b n op ≡ op ∷ []
unfolding cut
cut_fits b zero op l = refl
cut_fits b (suc n) op l =
    let fits : nat_le (dw_of op) (dw_to b (address_of op)) ≡ true = grind (arith, nat_tests) in
    rw fits refl

pub cut_more : (b n : ℕ) (op : Op) → dw_to b (address_of op) < dw_of op → cut b (suc n) op ≡ front (dw_to b (address_of op)) op ∷ cut b n (back (dw_to b (address_of op)) op)
unfolding cut
cut_more b n op l =
    let more : nat_le (dw_of op) (dw_to b (address_of op)) ≡ false = grind (arith, nat_tests) in
    rw more refl

pub cut_last : (b : ℕ) (op : Op) → cut b 0 op ≡ op ∷ []
unfolding cut
cut_last b op = refl

pub one_more : {X : Type 0} → (xs : List X) (x : X) (ys : List X) → (xs ++ x ∷ []) ++ ys ≡ xs ++ x ∷ ys
one_more [] x ys = refl
one_more (z ∷ xs) x ys = ap (λ zs. z ∷ zs) (one_more xs x ys)

pub cut_atomic : (b : ℕ) (op : Op) → dw_of op ≡ 0 → cut b (dw_of op) op ≡ op ∷ []
cut_atomic b op e = ap (λ n. cut b n op) e ∙ cut_last b op
