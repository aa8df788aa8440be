-- What a log's records say of a request.
use Rattle.std.specs.Prelude.{ℕ, ◌≡◌, List, slice_get, Some}
use Rattle.tlp_core.specs.Ops.{Op}
use Rattle.seq_memory.specs.Entries.{Reply}
use Rattle.history_words.specs.Records.{Record}
use Rattle.history_words.specs.declared.record.RecordOf.TheVariants as records

-- the record at the place submits the operation
pub record IsSubmitted (rs : List Record) (place : ℕ) (op : Op) : Type 0 where
  pub requester : ℕ
  pub number : ℕ
  pub since : ℕ
  pub at : slice_get rs place ≡ Some (records.Sub requester number op since)

-- the record at the place is of a submission of the requester
pub record IsOf (rs : List Record) (place requester : ℕ) : Type 0 where
  pub number : ℕ
  pub op : Op
  pub since : ℕ
  pub at : slice_get rs place ≡ Some (records.Sub requester number op since)

-- the record at the place answers that
pub record IsAnswered (rs : List Record) (place : ℕ) (reply : Reply) : Type 0 where
  pub requester : ℕ
  pub number : ℕ
  pub until : ℕ
  pub at : slice_get rs place ≡ Some (records.Ans requester number reply until)
