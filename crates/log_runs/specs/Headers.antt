-- Events without their operations and replies.
use Rattle.std.specs.Prelude.{Bool, Option, Some, None, is_some}
use Rattle.tlp_core.specs.Operation.{address_of, count_of, is_posted}
use Rattle.history_words.specs.Records.{Record}
use Rattle.history_words.specs.declared.record.RecordOf.TheVariants as records
use Rattle.log_runs.specs.EventView.{EventView}
use Rattle.log_runs.specs.EventView as events
use Rattle.log_runs.specs.declared.log.EventHeader.{EventHeader}
use Rattle.log_runs.specs.declared.log.EventHeader.TheVariants as headers

-- the event without its operation and its reply
abbrev pub header_of : EventView → EventHeader
header_of (events.Sub i op told) = headers.Sub i (is_posted op) (is_some told) (address_of op) (count_of op)
header_of (events.Due b) = headers.Due b
header_of events.Free = headers.Free

-- the header of a submission that has a reply or none
abbrev pub header_there : Option Record → Bool → EventHeader
header_there (Some (records.Sub i k op n)) answered = headers.Sub i (is_posted op) answered (address_of op) (count_of op)
header_there (Some (records.Ans i k reply n)) answered = headers.Free
header_there None answered = headers.Free
