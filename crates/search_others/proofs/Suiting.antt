-- What suits a request.
use Rattle.std.proofs.Common.{◌≡◌, ◌∙◌, Bool, false, ℕ, true, List, Some, None, Option, refl, sym}
use Rattle.seq_memory.specs.Entries.{Reply}
use Rattle.log_runs.specs.EventView.{EventView}
use Rattle.log_runs.specs.EventView as events
use Rattle.log_runs.specs.LogView.{LogView}
use Rattle.log_runs.specs.Runs.{reply_of}
use Rattle.search_rules.specs.Rules.{Suits}
use Rattle.search_places.specs.Ready.{is_told, suits}

pub clash : {b : Bool} → b ≡ true → b ≡ false → ⊥
clash t f = let e : true ≡ false = sym t ∙ f in cc

-- what the memory suits is found so
pub suits_is : ((told : Option Reply) (made : Reply) → ((r : Reply) → told ≡ Some r → made ≡ r) → is_told told made ≡ true)
    → (log : LogView) (m : List ℕ) (o : Option EventView) → Suits log.extent m o → suits log m o ≡ true
suits_is is log m (Some (events.Sub i op told)) h = is told (reply_of log.extent m op) h
suits_is is log m (Some (events.Due c)) h = refl
suits_is is log m (Some events.Free) h = refl
suits_is is log m None h = refl
