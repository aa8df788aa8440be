-- A TLP that is neither too long nor too short is read without its digest.
use Rattle.std.proofs.Common.{◌≡◌, ℕ, ◌≤◌, false, nat_lt, List, length, refl, arith}
use Rattle.std.proofs.lemmas.Bool.Decides.{nat_tests}
use Rattle.endpoint_core.specs.Classes.{becomes, of_plain, is_poisoned, plain}

pub in_range : (b : List ℕ) → length b ≤ 148 → 12 ≤ length b → becomes b ≡ of_plain (is_poisoned b) (plain b)
in_range b few some =
    let not_longer : nat_lt 148 (length b) ≡ false = grind (arith, nat_tests) in
    let not_shorter : nat_lt (length b) 12 ≡ false = grind (arith, nat_tests) in
    rw (not_longer, not_shorter) refl
