-- What is known of a log's requests is so.
use Rattle.std.specs.Prelude.{ℕ, ◌≡◌, ◌≤◌, List, slice_get, slice_index, Some}
use Rattle.log_runs.specs.EventView as events
use Rattle.log_runs.specs.LogView.{LogView}
use Rattle.search_words.specs.Words.{IsWords}
use Rattle.search_others.specs.OthersView.{OthersView}

-- no answer to a request stands before the request's entry
abbrev pub AreEarliest : LogView → List ℕ → Type 0
AreEarliest log due = (a b : ℕ) → slice_get log.events a ≡ Some (events.Due b) → slice_index due b ≤ a

-- each entry is no more than the one of before
abbrev pub AreLower : List ℕ → List ℕ → Type 0
AreLower xs ys = (b : ℕ) → slice_index ys b ≤ slice_index xs b

pub record AreOthers (log : LogView) (o : OthersView) : Type 0 where
  pub words : IsWords log o.words
  pub due : AreEarliest log o.due
