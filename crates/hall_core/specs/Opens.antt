-- What a hall is opened of, and what a closed one is.
use Rattle.std.specs.Prelude.{◌≡◌, ℕ, suc, ◌<◌, ◌≤◌, List, [], map, Option, Some}
use Rattle.history_words.specs.Records.{Record}
use Rattle.fabric_steps.specs.Lists.{Each}
use Rattle.fabric_steps.specs.Fabric.{Fabric, whole_of}
use Rattle.fabric_steps.specs.Whole.{view}
use Rattle.fabric_steps.specs.Trace.{IsMade}
use Rattle.fabric_core.specs.Config.{IsConfig}
use Rattle.fabric_core.specs.Kept.{IsSoundFabric}
use Rattle.fabric_core.specs.Quiet.{IsQuiet}
use Rattle.hall_laws.specs.declared.part.PartValue.{PartValue}
use Rattle.hall_laws.specs.declared.token.Token.{Token}
use Rattle.hall_laws.specs.declared.token.Knowledge.{Knowledge}
use Rattle.hall_laws.specs.Parts.{parts_of}
use Rattle.hall_laws.specs.Standing.{token_of, named}
use Rattle.hall_laws.specs.Story.{Act, IsStoryOf, Ran}
use Rattle.hall_laws.specs.Rule.{Begins, HasConfig}

-- every lane's content is empty, and nothing has acted
abbrev pub IsUnused : Fabric → Type 0
IsUnused f = IsQuiet f × (f.memory.entries ≡ [])

-- what a seat knows of a fabric
pub record Leaves (w : Knowledge) (f : Fabric) : Type 0 where
  pub sound : IsSoundFabric f
  pub config : HasConfig f w.config
  -- a fabric of this configuration can be made
  pub right_config : IsConfig w.config
  -- its history begins with all that the seat has seen
  pub begins : Begins w.seen f.memory.entries
  -- what the seat submitted is what the requester has
  pub made : IsMade (suc w.number) (view (whole_of f) (suc w.number)) w.made
  -- one list of acts leads to it from the fabric that the hall was made of, and the seat's are what it did
  pub ran : Ran w f

-- what the seats of these tokens know of a fabric, no two of which have one number: one list of acts leads to it, and has
-- what each of them did
pub record AllRan (ts : List Token) (f : Fabric) : Type 0 where
  pub leaves : Each (λ (t : Token). Leaves t.knows f) ts
  pub below : Each (λ (t : Token). t.knows.number < t.knows.seats) ts
  pub apart : (n : ℕ) → named n ts ≤ 1
  pub acts : List Act
  pub told : List Record
  pub ran : Each (λ (t : Token). IsStoryOf acts told f t.knows) ts

-- the slots have the parts of a fabric that the seat leaves
abbrev pub Left : List Token → List (Option PartValue) → Type 0
Left ts xs = (f : Fabric) × Leaves (token_of ts).knows f × AllRan ts f × (xs ≡ map Some (parts_of f))
