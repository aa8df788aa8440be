-- Replies with which records have a history.
use Rattle.std.specs.Prelude.{ℕ, ◌≡◌, List, [], ◌∷◌, ◌++◌, take, slice_get, Some}
use Rattle.seq_memory.specs.Entries.{Reply}
use Rattle.history_words.specs.Records.{Record}
use Rattle.history_words.specs.TraceView.{TraceView}
use Rattle.log_runs.specs.Explainable.{IsExplainable}
use Rattle.trace_store.specs.Changes.{with_reply}

-- that record is at the place
abbrev pub IsAt : TraceView → ℕ → Record → Type 0
IsAt t place item = slice_get t.records place ≡ Some item

-- the records before the place, and that one with that reply
abbrev pub replied : TraceView → ℕ → Record → Reply → TraceView
replied t place item reply = record { base = t.base; size = t.size; block = t.block; records = take place t.records ++ with_reply item reply ∷ [] }

-- with that reply in place of the one at the place, a history explains the records up to there
abbrev pub IsExpected : TraceView → ℕ → Reply → Type 0
IsExpected t place reply = (item : Record) → IsAt t place item → IsExplainable (replied t place item reply)
