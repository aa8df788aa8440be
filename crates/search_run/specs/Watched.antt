-- What a watch saw of a search. `sees` says what one choice more does to it, at a state of a log.
use Rattle.std.specs.Prelude.{ℕ, zero, suc, ◌≡◌, ◌+◌, List, length}
use Rattle.log_runs.specs.LogView.{LogView}
use Rattle.log_runs.specs.Runs.{State, Leads, start}
use Rattle.log_runs.specs.declared.Step.{Step}

-- steps lead from the start to the state, which isn't at the end
pub record IsReached (log : LogView) (s : State) : Type 0 where
  pub steps : List Step
  pub leads : Leads log (start log) steps s
  pub more : s.event ≡ length log.events → ⊥

-- so they do to some state
abbrev pub Stands : LogView → Type 0
Stands log = (s : State) × IsReached log s

-- it is that log
abbrev pub Is : LogView → LogView → Type 0
Is log other = other ≡ log

-- it was x, and is y since it saw one choice more, of one of these logs, at a state that is reached there
pub record SeesOne {A : Type 0} (sees : LogView → State → A → A → Type 0) (Of : LogView → Type 0) (x y : A) : Type 0 where
  pub log : LogView
  pub of : Of log
  pub place : State
  pub reached : IsReached log place
  pub saw : sees log place x y

-- it was x, and is y since it saw so many choices more, one after the other
abbrev pub Saw : {A : Type 0} → (LogView → State → A → A → Type 0) → (LogView → Type 0) → ℕ → A → A → Type 0
Saw sees Of zero x y = x ≡ y
Saw {A = A} sees Of (suc n) x y = (z : A) × Saw sees Of n x z × SeesOne sees Of z y

-- so many choices were allowed, and so many are left, since it saw the others
pub record Spends {A : Type 0} (sees : LogView → State → A → A → Type 0) (Of : LogView → Type 0) (allowed left : ℕ) (x y : A) : Type 0 where
  pub count : ℕ
  pub sum : left + count ≡ allowed
  pub saw : Saw sees Of count x y
