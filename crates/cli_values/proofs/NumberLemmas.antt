-- Numbers of two bytes.
use Rattle.std.proofs.Common.{◌≡◌, ℕ, ◌+◌, ◌*◌, List, [], ◌∷◌, length, slice_index, Some, None, Result, Ok, Err, refl, ap, ◌∙◌, arith}
use Rattle.std.specs.Prelude.{IsErr}
use Rattle.hex.specs.declared.error.FromHexError.{FromHexError}
use Rattle.cli_values.specs.Endpoints.{number}

pub number_read : (r : Result (List ℕ) FromHexError) (xs : List ℕ) → r ≡ Ok xs → length xs ≡ 2 → number r ≡ Some (slice_index xs 0 * 256 + slice_index xs 1)
number_read r xs e two = ap number e ∙ of_two xs two
  where
    of_two : (xs : List ℕ) → length xs ≡ 2 → number (Ok xs) ≡ Some (slice_index xs 0 * 256 + slice_index xs 1)
    of_two [] two = absurd (omega (arith, two))
    of_two (a ∷ []) two = absurd (omega (arith, two))
    of_two (a ∷ b ∷ []) two = refl
    of_two (a ∷ b ∷ c ∷ xs) two = absurd (omega (arith, two))

pub number_not_read : (r : Result (List ℕ) FromHexError) → IsErr r → number r ≡ None
number_not_read (Err e) h = refl
number_not_read (Ok xs) h = cc
