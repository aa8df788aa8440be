-- The forms of lines.
use Rattle.std.specs.Prelude.{ℕ, ◌==◌, Bool, true, false, if◌then◌else◌, List, [], ◌∷◌, Option, Some, None, Result, drop, option_map, codes, bytes_eq}
use Rattle.std.specs.Result.{result_ok}
use Rattle.history_words.specs.declared.record.RecordOf.TheVariants as records
use Rattle.operation_text.specs.Words.{then_with, field, ended}
use Rattle.operation_text.specs.Numbers.{numeral}
use Rattle.operation_text.specs.Operations.{op_spelled, reply_spelled}
use Rattle.record_text.specs.Forms.{requester, number, count, memory_of}
use Rattle.record_text.specs.declared.form.Section.{Section}
use Rattle.record_text.specs.declared.form.Section.TheVariants as sections
use Rattle.trace_text.specs.declared.line.Version.{Version}
use Rattle.trace_text.specs.declared.line.Version.TheVariants as versions
use Rattle.operation_text.specs.declared.misfit.Misfit.{Misfit}
use Rattle.trace_text.specs.declared.line.ReadLine.{ReadLine}
use Rattle.trace_text.specs.declared.line.Line.{Line}
use Rattle.trace_text.specs.declared.line.Line.TheVariants as lines

abbrev pub version_by : ℕ → Option Version
version_by n = if n == 1 then Some versions.One else (if n == 2 then Some versions.Two else None)

abbrev pub version : List ℕ → Option Version
version w = then_with (numeral 10 2 w) version_by

-- the second version tells the block
abbrev pub has_block : Version → Bool
has_block versions.One = false
has_block versions.Two = true

abbrev pub first_line_of : List (List ℕ) → Option Line
first_line_of ws = field version (λ v. ended (lines.FirstLine v)) ws

abbrev pub memory_line_of : Version → List (List ℕ) → Option Line
memory_line_of v ws = then_with (memory_of (has_block v) ws) (λ x. Some (lines.Memory x))

abbrev pub sub_of : List (List ℕ) → Option Line
sub_of ws = field requester (λ i. field number (λ k. field count (λ n rest. then_with (op_spelled rest) (λ op. Some (lines.Record (records.Sub i k op n)))))) ws

abbrev pub ans_of : List (List ℕ) → Option Line
ans_of ws = field requester (λ i. field number (λ k. field count (λ n rest. then_with (reply_spelled rest) (λ reply. Some (lines.Record (records.Ans i k reply n)))))) ws

abbrev pub ent_of : List (List ℕ) → Option Line
ent_of ws = field requester (λ i. field number (λ k rest. then_with (op_spelled rest) (λ op. Some (lines.Entry (record { requester = i; number = k; op = op }))))) ws

-- a line, by its first word
abbrev pub line_by : Version → List ℕ → List (List ℕ) → Option Line
line_by v kind ws =
    if bytes_eq kind (codes "sub") then sub_of ws
    else (if bytes_eq kind (codes "ans") then ans_of ws
    else (if bytes_eq kind (codes "ent") then ent_of ws
    else (if bytes_eq kind (codes "memory") then memory_line_of v ws
    else (if bytes_eq kind (codes "history") then ended lines.History ws
    else (if bytes_eq kind (codes "end") then ended lines.End ws
    else (if bytes_eq kind (codes "pciex-trace") then first_line_of ws else None))))))

-- the line that the words spell in a text of that version
abbrev pub line_of : Version → List (List ℕ) → Option Line
line_of v [] = None
line_of v (kind ∷ ws) = line_by v kind ws

-- the section after a line, if the line is due in the section
abbrev pub section_after : Section → Line → Option Section
section_after sections.FirstLine (lines.FirstLine v) = Some sections.Memory
section_after sections.Memory (lines.Memory x) = Some sections.Records
section_after sections.Records (lines.Record r) = Some sections.Records
section_after sections.Records lines.History = Some sections.History
section_after sections.History (lines.Entry e) = Some sections.History
section_after sections.History lines.End = Some sections.End
section_after _ _ = None

-- the line that was read, if the text spells one
abbrev pub line_in : Result ReadLine Misfit → Option Line
line_in read = option_map (λ s. s.line) (result_ok read)

-- the words behind the numbers of a record or an entry: those of its operation or its reply; none of other lines
abbrev pub behind_numbers : Line → List (List ℕ) → List (List ℕ)
behind_numbers (lines.Record r) ws = drop 4 ws
behind_numbers (lines.Entry e) ws = drop 3 ws
behind_numbers _ ws = []
