-- The lines that a monitor writes: those of a trace, or of a log, which has no n.
use Rattle.std.specs.Prelude.{ℕ, Bool, true, false, List, [], ◌∷◌, ◌++◌, codes}
use Rattle.std.specs.Fmt.{decimal}
use Rattle.seq_memory.specs.History.{MemoryView}
use Rattle.history_words.specs.Records.{Record}
use Rattle.history_words.specs.declared.record.RecordOf.TheVariants as records
use Rattle.operation_text.specs.Texts.{op_text, reply_text}
use Rattle.trace_text.specs.Texts as traces
use Rattle.trace_text.specs.Texts.{spaced, memory_line}

-- a record in a log
abbrev pub log_line : Record → List ℕ
log_line (records.Sub i k op n) = spaced (codes "sub" ∷ decimal i ∷ decimal k ∷ op_text op ∷ [])
log_line (records.Ans i k reply n) = spaced (codes "ans" ∷ decimal i ∷ decimal k ∷ reply_text reply ∷ [])

-- a record in a trace or in a log
abbrev pub record_line : Bool → Record → List ℕ
record_line true r = traces.record_line r
record_line false r = log_line r

-- n in a trace
abbrev pub moment_text : Bool → ℕ → List ℕ
moment_text true n = decimal n ++ 32 ∷ []
moment_text false n = []

-- the first line
abbrev pub first_line : Bool → List ℕ
first_line true = codes "pciex-trace 2"
first_line false = codes "pciex-log 1"

-- the first two lines, with a line feed between them
abbrev pub head_lines : Bool → MemoryView → List ℕ
head_lines is_trace m = first_line is_trace ++ 10 ∷ memory_line m
