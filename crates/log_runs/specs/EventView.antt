-- What a log has at one place. A request is named by the place of its submission, from 0.
use Rattle.std.specs.Prelude.{ℕ, List, Option, Some, None, slice_get}
use Rattle.tlp_core.specs.Ops.{Op}
use Rattle.seq_memory.specs.Entries.{Reply}
use Rattle.history_words.specs.Records.{Record}
use Rattle.history_words.specs.declared.record.RecordOf.TheVariants as records
use Rattle.log_runs.specs.declared.log.Event.{Event}
use Rattle.log_runs.specs.declared.log.Event.TheVariants as lent
use Rattle.log_runs.specs.declared.log.EventAt.{EventAt}
use Rattle.log_runs.specs.declared.log.EventAt.TheVariants as places
use Rattle.log_runs.specs.declared.log.PartEvent.{PartEvent}
use Rattle.log_runs.specs.declared.log.PartEvent.TheVariants as parts

pub data EventView : Type 0 where
  -- a submission by the requester, and the reply that the log has for it, if it has one
  Sub : ℕ → Op → Option Reply → EventView
  -- the answer to the request at that place
  Due : ℕ → EventView
  -- an answer of which a search makes nothing
  Free : EventView

-- the event that is lent
abbrev pub event_of : Event → EventView
event_of (lent.Sub i op told) = Sub i op told
event_of (lent.Due b) = Due b
event_of lent.Free = Free

-- the reply of an answer
abbrev pub reply_there : Option Record → Option Reply
reply_there (Some (records.Ans i k reply n)) = Some reply
reply_there (Some (records.Sub i k op n)) = None
reply_there None = None

-- the event of a submission that has that reply
abbrev pub submission_there : Option Record → Option Reply → EventView
submission_there (Some (records.Sub i k op n)) told = Sub i op told
submission_there (Some (records.Ans i k reply n)) told = Free
submission_there None told = Free

-- the event whose records stand at these places
abbrev pub event_in : List Record → EventAt → EventView
event_in rs (places.Answered b a) = submission_there (slice_get rs b) (reply_there (slice_get rs a))
event_in rs (places.Unanswered b) = submission_there (slice_get rs b) None
event_in rs (places.Due b) = Due b
event_in rs places.Free = Free

-- the event, or none of use
abbrev pub event_or_free : Option EventView → EventView
event_or_free (Some e) = e
event_or_free None = Free

-- the event; if it is a submission, without its reply
abbrev pub unanswered : EventView → EventView
unanswered (Sub i op told) = Sub i op None
unanswered (Due b) = Due b
unanswered Free = Free

-- the event of a part of a log that has these events
abbrev pub part_event : List EventView → PartEvent → EventView
part_event es (parts.Whole a) = event_or_free (slice_get es a)
part_event es (parts.Unanswered a) = unanswered (event_or_free (slice_get es a))
part_event es (parts.Due b) = Due b
part_event es parts.Free = Free
