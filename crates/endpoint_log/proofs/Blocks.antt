-- A request's block requests, one after the other.
use Rattle.std.proofs.Common.{◌≡◌, ◌≢◌, ℕ, zero, suc, ◌-◌, ◌<◌, ◌≤◌, ◌∷◌, [], List, Bool, true, false, cond, refl, ap, arith}
use Rattle.std.specs.Prelude.{nat_le, fold}
use Rattle.std.proofs.lemmas.Bool.Decides.{nat_tests}
use Rattle.tlp_core.specs.Ops.{Op}
use Rattle.tlp_core.specs.declared.operation.OpOf.TheVariants as ops
use Rattle.tlp_core.specs.Operation.{address_of}
use Rattle.op_pieces.specs.Pieces.{cut, dw_of, dw_to, front, back}
use Rattle.endpoint_core.specs.Steps.{dw_in_front}

pub cut_fits : (n : ℕ) (op : Op) → dw_of op ≤ dw_to 128 (address_of op) → cut 128 n op ≡ op ∷ []
unfolding cut
cut_fits zero op l = refl
cut_fits (suc n) op l =
    let fits : nat_le (dw_of op) (dw_to 128 (address_of op)) ≡ true = grind (arith, nat_tests) in
    rw fits refl

pub cut_more : (n : ℕ) (op : Op) → 1 ≤ n → dw_to 128 (address_of op) < dw_of op → cut 128 n op ≡ front (dw_to 128 (address_of op)) op ∷ cut 128 (n - 1) (back (dw_to 128 (address_of op)) op)
unfolding cut
cut_more zero op one l = absurd (omega (arith, one))
cut_more (suc n) op one l =
    let more : nat_le (dw_of op) (dw_to 128 (address_of op)) ≡ false = grind (arith, nat_tests) in
    let fewer : suc n - 1 ≡ n = omega arith in
    rw (more, fewer) refl

pub cut_last : (op : Op) → cut 128 0 op ≡ op ∷ []
unfolding cut
cut_last op = refl

-- by any step
pub last_block : {S : Type 0} (f : S → Op → S) (s : S) (op : Op) → fold f s (cut 128 0 op) ≡ f s op
last_block f s op = ap (λ (ops : List Op). fold f s ops) (cut_last op)

pub only_block : {S : Type 0} (f : S → Op → S) (s : S) (n : ℕ) (op : Op) → dw_of op ≤ dw_to 128 (address_of op) → fold f s (cut 128 n op) ≡ f s op
only_block f s n op l = ap (λ (ops : List Op). fold f s ops) (cut_fits n op l)

pub more_blocks : {S : Type 0} (f : S → Op → S) (s : S) (n : ℕ) (op : Op) → 1 ≤ n → dw_to 128 (address_of op) < dw_of op
    → fold f s (cut 128 n op) ≡ fold f (f s (front (dw_to 128 (address_of op)) op)) (cut 128 (n - 1) (back (dw_to 128 (address_of op)) op))
more_blocks f s n op one l = ap (λ (ops : List Op). fold f s ops) (cut_more n op one l)

-- ---- addresses

pub front_address : (n : ℕ) (op : Op) → address_of (front n op) ≡ address_of op
front_address n (ops.Read a dw f l) = refl
front_address n (ops.Write a f l bytes) = refl
front_address n (ops.FetchAdd a w x) = refl
front_address n (ops.Swap a w x) = refl
front_address n (ops.Cas a w x y) = refl

pub back_address : (n : ℕ) (op : Op) → address_of op ≤ address_of (back n op)
back_address n (ops.Read a dw f l) = omega arith
back_address n (ops.Write a f l bytes) = omega arith
back_address n (ops.FetchAdd a w x) = omega arith
back_address n (ops.Swap a w x) = omega arith
back_address n (ops.Cas a w x y) = omega arith

-- a read that goes on in the next block has more DW than its first block
before_fewer : (b : Bool) (dw m : ℕ) → nat_le dw m ≡ b → cond b 0 m ≢ 0 → cond b 0 m < dw
before_fewer true dw m e some = absurd (some refl)
before_fewer false dw m e some = grind (arith, nat_tests)

pub in_front_fewer : (op : Op) → dw_in_front op ≢ 0 → dw_in_front op < dw_of op
in_front_fewer (ops.Read a dw f l) some = before_fewer (nat_le dw (dw_to 128 a)) dw (dw_to 128 a) refl some
in_front_fewer (ops.Write a f l bytes) some = absurd (some refl)
in_front_fewer (ops.FetchAdd a w x) some = absurd (some refl)
in_front_fewer (ops.Swap a w x) some = absurd (some refl)
in_front_fewer (ops.Cas a w x y) some = absurd (some refl)
