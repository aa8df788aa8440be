-- The events of a log, and what is wrong with the form of one.
use Rattle.std.specs.Prelude.{ℕ, ◌≡◌, ◌⊎◌, List, length, slice_get, take, Option, Some, None, true}
use Rattle.std.specs.List.{list_any}
use Rattle.tlp_core.specs.Ops.{Op}
use Rattle.tlp_core.specs.Operation.{is_posted}
use Rattle.seq_memory.specs.Entries.{Reply}
use Rattle.seq_memory.specs.declared.reply.ReplyOf.TheVariants as replies
use Rattle.history_words.specs.Records.{Record}
use Rattle.history_words.specs.declared.record.RecordOf.TheVariants as records
use Rattle.history_words.specs.Trace.{submissions, answers_to}
use Rattle.log_runs.specs.EventView.{EventView}
use Rattle.log_runs.specs.EventView as events

-- what an answer says of the reply: that the request was done says nothing of it
abbrev pub known : Reply → Option Reply
known replies.Done = None
known (replies.Data bytes) = Some (replies.Data bytes)
known replies.Unsupported = Some replies.Unsupported
known replies.Aborted = Some replies.Aborted

-- the event at a place says no more than the record there: a submission with a reply that the log has for it, or what an
-- answer answers, or nothing of an answer
abbrev pub Says : List Record → Record → EventView → Type 0
Says rs (records.Sub i k op n) (events.Sub j w told) =
    (i ≡ j) × (op ≡ w) × ((r : Reply) → told ≡ Some r → (a : ℕ) × (m : ℕ) × (slice_get rs a ≡ Some (records.Ans i k r m)) × (known r ≡ Some r))
Says rs (records.Ans i k r n) (events.Due b) = (op : Op) × (m : ℕ) × (slice_get rs b ≡ Some (records.Sub i k op m))
Says rs (records.Sub i k op n) (events.Due b) = ⊥
Says rs (records.Ans i k r n) (events.Sub j w told) = ⊥
Says rs (records.Sub i k op n) events.Free = ⊥
Says rs (records.Ans i k r n) events.Free = Unit {0}

pub record AreEvents (rs : List Record) (es : List EventView) : Type 0 where
  pub len : length es ≡ length rs
  pub at : (a : ℕ) (r : Record) (e : EventView) → slice_get rs a ≡ Some r → slice_get es a ≡ Some e → Says rs r e

-- the events say all: the submission of an answered request has the reply, if it is known, and each answer is due to a request
pub record AreAllEvents (rs : List Record) (es : List EventView) : Type 0 where
  pub right : AreEvents rs es
  pub replied : (a b i k n m : ℕ) (op : Op) (r : Reply) → slice_get rs b ≡ Some (records.Sub i k op n) → slice_get rs a ≡ Some (records.Ans i k r m) → slice_get es b ≡ Some (events.Sub i op (known r))
  pub due : (a i k n : ℕ) (r : Reply) → slice_get rs a ≡ Some (records.Ans i k r n) → (b : ℕ) × (slice_get es a ≡ Some (events.Due b))

-- what is wrong with the form of the record after those
abbrev pub IsMisformed : List Record → Record → Type 0
-- its number isn't the next of its requester
IsMisformed before (records.Sub i k op n) = k ≡ length (submissions before i) → ⊥
-- it answers what wasn't submitted, or a posted write, or it is the second answer
IsMisformed before (records.Ans i k r n) =
    ((b : ℕ) (op : Op) (m : ℕ) → slice_get before b ≡ Some (records.Sub i k op m) → is_posted op ≡ true)
    ⊎ (list_any (answers_to i k) before ≡ true)

-- no record's form is wrong
abbrev pub IsWellFormed : List Record → Type 0
IsWellFormed rs = (a : ℕ) (r : Record) → slice_get rs a ≡ Some r → IsMisformed (take a rs) r → ⊥
