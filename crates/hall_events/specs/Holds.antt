-- The view of a seat that holds parts.
use Rattle.std.specs.Prelude.{ℕ, List, [], ◌∷◌, Option, None}
use Rattle.hall_laws.specs.declared.part.PartValue.{PartValue}
use Rattle.hall_laws.specs.declared.token.Knowledge.{Knowledge}
use Rattle.hall_laws.specs.Standing.{Sat, Values}

-- the slots of these parts, which are empty
abbrev pub emptied : Values → List (ℕ × Option PartValue)
emptied [] = []
emptied (kv ∷ h) = (kv.0, None) ∷ emptied h

-- the view of a seat with one token, which knows this and holds these parts
abbrev pub having : Knowledge → Values → Sat
having w h = (record { knows = w; held = h } ∷ [], emptied h)
