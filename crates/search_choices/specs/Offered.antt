-- Steps that were found.
use Rattle.std.specs.Prelude.{ℕ, ◌≡◌, ◌⊎◌, List, true}
use Rattle.std.specs.List.{All, Contains}
use Rattle.log_runs.specs.LogView.{LogView}
use Rattle.log_runs.specs.Runs.{State, Allowed, MayAct}
use Rattle.log_runs.specs.declared.Step.{Step}
use Rattle.log_runs.specs.declared.Step.TheVariants as steps
use Rattle.search_places.specs.Pending.{has}
use Rattle.search_rules.specs.Idle.{IsIdle}
use Rattle.search_choices.specs.Turns.{Precedes}

-- another request precedes b
abbrev pub IsPreceded : LogView → State → List ℕ → ℕ → Type 0
IsPreceded log s due b = (p : ℕ) × Precedes log s due p b

-- another request precedes b, or no answer to b comes and nobody who is pending needs what it leaves
abbrev pub NeedNotAct : LogView → State → List ℕ → ℕ → Type 0
NeedNotAct log s due b = IsPreceded log s due b ⊎ IsIdle log s b

-- the steps may be taken, and are all that may be taken by the requests of the list, but for those that need not act
pub record Offers (log : LogView) (s : State) (due : List ℕ) (xs : List Step) (looked : List ℕ) : Type 0 where
  pub allowed : All (Allowed log s) xs
  pub pass : Allowed log s steps.Pass → Contains xs steps.Pass
  pub each : (b : ℕ) → has looked b ≡ true → MayAct log s b → Contains xs (steps.Act b) ⊎ NeedNotAct log s due b

-- request q may act, and no other of the list, but for those that need not act
pub record IsOnly (log : LogView) (s : State) (due : List ℕ) (looked : List ℕ) (q : ℕ) : Type 0 where
  pub may : MayAct log s q
  pub none : (b : ℕ) → has looked b ≡ true → MayAct log s b → (q ≡ b) ⊎ NeedNotAct log s due b
