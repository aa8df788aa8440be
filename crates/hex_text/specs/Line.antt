-- The digits of a line, and bytes in groups of four.
use Rattle.std.specs.Prelude.{ℕ, List, ◌∷◌, ◌++◌, [], ◌==◌, not, filter}

-- digits in groups of eight, with a space between each two
unfoldable pub spaced : List ℕ → List ℕ
spaced (a ∷ b ∷ c ∷ d ∷ e ∷ f ∷ g ∷ h ∷ i ∷ rest) = (a ∷ b ∷ c ∷ d ∷ e ∷ f ∷ g ∷ h ∷ []) ++ 32 ∷ spaced (i ∷ rest)
spaced digits = digits

-- spaces are ignored
abbrev pub digits_of : List ℕ → List ℕ
digits_of line = filter (λ b. not (b == 32)) line
