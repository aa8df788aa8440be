-- Requests that were answered.
use Rattle.std.specs.Prelude.{ℕ, ◌≡◌, Some, slice_get}
use Rattle.log_runs.specs.EventView as events
use Rattle.log_runs.specs.LogView.{LogView}
use Rattle.search_rules.specs.declared.pairs.Answered.{Answered}

-- the log has that request, with that operation and that reply
abbrev pub IsAnswered : LogView → Answered → Type 0
IsAnswered log x = (i : ℕ) × (slice_get log.events x.request ≡ Some (events.Sub i x.op.now (Some x.reply.now)))
