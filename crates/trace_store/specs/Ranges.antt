-- The bytes that requests name.
use Rattle.std.specs.Prelude.{ℕ, Option, Some, None}
use Rattle.tlp_core.specs.Operation.{address_of, count_of}
use Rattle.history_words.specs.Records.{Record}
use Rattle.history_words.specs.declared.record.RecordOf.TheVariants as records

-- the first address and the number of the bytes that the operation names, if it is a submission
abbrev pub range_of : Record → Option (ℕ × ℕ)
range_of (records.Sub i k op n) = Some (address_of op, count_of op)
range_of (records.Ans i k reply n) = None
