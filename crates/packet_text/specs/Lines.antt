-- What kind of line the text of a packet is.
use Rattle.std.specs.Prelude.{ℕ, ◌≤◌, List, [], ◌∷◌}

-- its first character is a small letter
abbrev pub BeginsWithLetter : List ℕ → Type 0
BeginsWithLetter [] = ⊥
BeginsWithLetter (c ∷ cs) = (97 ≤ c) × (c ≤ 122)
