-- The words of a line, and its fields.
use Rattle.std.specs.Prelude.{ℕ, ◌==◌, Bool, true, false, if◌then◌else◌, List, [], ◌∷◌, Option, Some, None, option_and_then}
use Rattle.std.specs.Borrow.{Bor}
use Rattle.std.specs.List.{slice_split}

abbrev pub is_space : ℕ → Bool
is_space c = c == 32

-- what stands between the spaces of a line: between two that follow one another stands an empty word
abbrev pub words : List ℕ → List (List ℕ)
words line = slice_split is_space line

-- the words behind the space that ends a word, none where the line ends with the word
abbrev pub words_behind : Option (Bor (List ℕ)) → List (List ℕ)
words_behind None = []
words_behind (Some rest) = words rest.now

-- in the order in which a line is read
abbrev pub then_with : {X Y : Type 0} → Option X → (X → Option Y) → Option Y
then_with o f = option_and_then f o

-- what the first word spells, with the words behind it
abbrev pub first_field : {X : Type 0} → (List ℕ → Option X) → List (List ℕ) → Option (X × List (List ℕ))
first_field spelled [] = None
first_field spelled (w ∷ ws) = then_with (spelled w) (λ x. Some (x, ws))

-- a field, and what follows by its value
abbrev pub field : {X Y : Type 0} → (List ℕ → Option X) → (X → List (List ℕ) → Option Y) → List (List ℕ) → Option Y
field spelled f ws = then_with (first_field spelled ws) (λ s. f s.0 s.1)

abbrev pub has_ended : List (List ℕ) → Bool
has_ended [] = true
has_ended (w ∷ ws) = false

-- no more fields
abbrev pub ended : {X : Type 0} → X → List (List ℕ) → Option X
ended x ws = if has_ended ws then Some x else None
