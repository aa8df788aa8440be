-- Requests that ask for the same and were answered the same.
use Rattle.std.specs.Prelude.{ℕ, ◌≡◌, ◌<◌, ◌≤◌, slice_get, Option, Some, false}
use Rattle.tlp_core.specs.Ops.{Op}
use Rattle.tlp_core.specs.Operation.{is_posted}
use Rattle.seq_memory.specs.Entries.{Reply}
use Rattle.log_runs.specs.EventView as events
use Rattle.log_runs.specs.LogView.{LogView}
use Rattle.log_runs.specs.Runs.{State, MayAct}

-- neither of the two is a posted write
pub record AreAlike (log : LogView) (b c : ℕ) : Type 0 where
  pub requester : ℕ
  pub other : ℕ
  pub op : Op
  pub told : Option Reply
  pub first : slice_get log.events b ≡ Some (events.Sub requester op told)
  pub second : slice_get log.events c ≡ Some (events.Sub other op told)
  pub unposted : is_posted op ≡ false

-- where c is due, b is due before, and not before place n
abbrev pub IsDueBefore : LogView → ℕ → ℕ → ℕ → Type 0
IsDueBefore log n b c =
    (a : ℕ) → n ≤ a → slice_get log.events a ≡ Some (events.Due c) → (d : ℕ) × (n ≤ d) × (d < a) × (slice_get log.events d ≡ Some (events.Due b))

-- request b may act, is like c, and is due before it if c is due
pub record GoesFirst (log : LogView) (s : State) (b c : ℕ) : Type 0 where
  pub alike : AreAlike log b c
  pub may : MayAct log s b
  pub due : IsDueBefore log s.event b c
