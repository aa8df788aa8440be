-- Whether the form of the records is right.
use Rattle.std.specs.Prelude.{ℕ, ◌≡◌, ◌<◌, ◌==◌, ◌&&◌, Bool, false, List, take, slice_get, Some}
use Rattle.std.specs.List.{list_any}
use Rattle.tlp_core.specs.Ops.{Op}
use Rattle.tlp_core.specs.Operation.{is_posted}
use Rattle.history_words.specs.Records.{Record}
use Rattle.history_words.specs.declared.record.RecordOf.TheVariants as records
use Rattle.history_words.specs.Trace.{answers_to}
use Rattle.log_runs.specs.Tasks.{IsMisformed}

-- the form of the record at that place is wrong
abbrev pub MisformedAt : List Record → ℕ → Type 0
MisformedAt rs a = (r : Record) × (slice_get rs a ≡ Some r) × IsMisformed (take a rs) r

-- the form of each of the first n records is right
abbrev pub AreFormed : List Record → ℕ → Type 0
AreFormed rs n = (a : ℕ) → a < n → MisformedAt rs a → ⊥

-- the record submits request k of requester i
abbrev pub submits : ℕ → ℕ → Record → Bool
submits i k (records.Sub j m op n) = (i == j) && (k == m)
submits i k (records.Ans j m reply n) = false

-- request k of requester i is submitted at place b, isn't posted, and wasn't answered
pub record IsOpen (before : List Record) (i k b : ℕ) : Type 0 where
  pub op : Op
  pub since : ℕ
  pub asked : slice_get before b ≡ Some (records.Sub i k op since)
  pub not_posted : is_posted op ≡ false
  pub unanswered : list_any (answers_to i k) before ≡ false
