-- Which neighbouring lines of a log may be swapped.
use Rattle.std.specs.Prelude.{◌≡◌, List}
use Rattle.history_words.specs.Records.{Record}
use Rattle.history_words.specs.declared.record.RecordOf.TheVariants as records
use Rattle.history_words.specs.TraceView.{TraceView}

-- two lines, the second behind the first: an answer may come later, and a submission earlier, but not before another
-- one of its own requester; a submission may not come later than an answer
abbrev pub MaySwap : Record → Record → Type 0
MaySwap (records.Ans i k reply n) s = Unit {0}
MaySwap (records.Sub i k op n) (records.Sub j l other m) = i ≡ j → ⊥
MaySwap (records.Sub i k op n) (records.Ans j l reply m) = ⊥

-- the log with these records
abbrev pub with_records : TraceView → List Record → TraceView
with_records t rs = record { base = t.base; size = t.size; block = t.block; records = rs }
