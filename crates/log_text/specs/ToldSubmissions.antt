-- Submissions that lines can tell.
use Rattle.std.specs.Prelude.{ℕ}
use Rattle.history_words.specs.Records.{Record}
use Rattle.history_words.specs.declared.record.RecordOf.TheVariants as records
use Rattle.operation_text.specs.Operations.{IsSpelledOp}
use Rattle.trace_text.specs.Tellable.{IsRequest}

-- lines can tell the request of a submission, and its operation
abbrev pub IsToldSub : Record → Type 0
IsToldSub (records.Sub i k op n) = IsRequest i k × IsSpelledOp op
IsToldSub (records.Ans i k reply n) = Unit {0}
