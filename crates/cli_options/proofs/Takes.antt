-- The first ones of a list.
use Rattle.std.proofs.Common.{◌≡◌, ℕ, List, take, length, min}
use Rattle.std.proofs.lemmas.List.{take_min}

pub first_ones : (xs : List ℕ) → take (min 40 (length xs)) xs ≡ take 40 xs
first_ones xs = take_min 40 xs
