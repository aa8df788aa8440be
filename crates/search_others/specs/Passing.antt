-- What a request leaves that was never answered is nothing to another.
use Rattle.std.specs.Prelude.{ℕ, ◌≡◌, ◌⊎◌, slice_get, Some, Option, false}
use Rattle.tlp_core.specs.Ops.{Op}
use Rattle.seq_memory.specs.Entries.{Reply}
use Rattle.log_runs.specs.EventView as events
use Rattle.log_runs.specs.LogView.{LogView}
use Rattle.log_runs.specs.Runs.{State}
use Rattle.search_rules.specs.Idle.{IsUndue, IsJunkBehind, RestsBehind}
use Rattle.search_others.specs.declared.idle.Idler.{Idler}

-- what the operation leaves, where it is answered so, is nothing to request q; or no answer to that comes, and it changes
-- nothing then
abbrev pub PassesBehind : LogView → ℕ → Op → Reply → ℕ → Type 0
PassesBehind log from third made q = IsJunkBehind log third made q ⊎ (IsUndue log from q × RestsBehind log.extent third made (slice_get log.events q))

-- it is so, if q is another request that hasn't acted in s
abbrev pub Passes : LogView → State → Idler → ℕ → Type 0
Passes log s x q = (x.b ≡ q → ⊥) → slice_get s.acted q ≡ Some false → PassesBehind log s.event x.made.op.now x.made.reply.now q

-- the request has that operation
abbrev pub IsIdler : LogView → Idler → Type 0
IsIdler log x = (i : ℕ) × (told : Option Reply) × (slice_get log.events x.b ≡ Some (events.Sub i x.made.op.now told))
