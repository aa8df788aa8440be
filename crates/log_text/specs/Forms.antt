-- The forms of a log's lines: those of a trace of version 2, whose records have no n, and in version 2 of a log `done`.
use Rattle.std.specs.Prelude.{ℕ, true, if◌then◌else◌, List, [], ◌∷◌, Option, Some, None, codes, bytes_eq}
use Rattle.seq_memory.specs.Entries.{Reply}
use Rattle.seq_memory.specs.declared.reply.ReplyOf.TheVariants as replies
use Rattle.history_words.specs.declared.record.RecordOf.TheVariants as records
use Rattle.operation_text.specs.Words.{words, then_with, field, ended}
use Rattle.operation_text.specs.Operations.{op_spelled, reply_spelled}
use Rattle.record_text.specs.Forms.{requester, number, memory_of}
use Rattle.record_text.specs.declared.form.Section.{Section}
use Rattle.record_text.specs.declared.form.Section.TheVariants as sections
use Rattle.log_text.specs.declared.line.LogLine.{LogLine}
use Rattle.log_text.specs.declared.line.LogLine.TheVariants as lines
use Rattle.log_text.specs.declared.line.Version.{Version}
use Rattle.log_text.specs.declared.line.Version.TheVariants as versions

abbrev pub memory_line_of : List (List ℕ) → Option LogLine
memory_line_of ws = then_with (memory_of true ws) (λ x. Some (lines.Memory x))

-- a record's n is 0: it says nothing
abbrev pub sub_of : List (List ℕ) → Option LogLine
sub_of ws = field requester (λ i. field number (λ k rest. then_with (op_spelled rest) (λ op. Some (lines.Record (records.Sub i k op 0))))) ws

-- an answer may have only that its request was done
abbrev pub done_or_reply : List (List ℕ) → Option Reply
done_or_reply [] = reply_spelled []
done_or_reply (kind ∷ ws) = if bytes_eq kind (codes "done") then ended replies.Done ws else reply_spelled (kind ∷ ws)

-- in version 2
abbrev pub reply_of : Version → List (List ℕ) → Option Reply
reply_of versions.One ws = reply_spelled ws
reply_of versions.Two ws = done_or_reply ws

abbrev pub ans_of : Version → List (List ℕ) → Option LogLine
ans_of v ws = field requester (λ i. field number (λ k rest. then_with (reply_of v rest) (λ reply. Some (lines.Record (records.Ans i k reply 0))))) ws

-- a line, by its first word
abbrev pub line_by : Version → List ℕ → List (List ℕ) → Option LogLine
line_by v kind ws =
    if bytes_eq kind (codes "sub") then sub_of ws
    else (if bytes_eq kind (codes "ans") then ans_of v ws
    else (if bytes_eq kind (codes "memory") then memory_line_of ws
    else (if bytes_eq kind (codes "end") then ended lines.End ws else None)))

abbrev pub line_in_words : Version → List (List ℕ) → Option LogLine
line_in_words v [] = None
line_in_words v (kind ∷ ws) = line_by v kind ws

-- the line that the text spells in a log of that version
abbrev pub line_of : Version → List ℕ → Option LogLine
line_of v line =
    if bytes_eq line (codes "pciex-log 1") then Some (lines.FirstLine versions.One)
    else (if bytes_eq line (codes "pciex-log 2") then Some (lines.FirstLine versions.Two) else line_in_words v (words line))

-- the section after a line, if the line is due in the section
abbrev pub section_after : Section → LogLine → Option Section
section_after sections.FirstLine (lines.FirstLine v) = Some sections.Memory
section_after sections.Memory (lines.Memory x) = Some sections.Records
section_after sections.Records (lines.Record r) = Some sections.Records
section_after sections.Records lines.End = Some sections.End
section_after _ _ = None
