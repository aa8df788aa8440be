-- The text that is written of a trace and a history.
use Rattle.std.specs.Prelude.{ℕ, List, [], ◌∷◌, ◌++◌, codes, map}
use Rattle.std.specs.List.{join_with_byte}
use Rattle.std.specs.Fmt.{decimal}
use Rattle.seq_memory.specs.Entries.{Entry}
use Rattle.seq_memory.specs.History.{MemoryView}
use Rattle.history_words.specs.Records.{Record}
use Rattle.history_words.specs.declared.record.RecordOf.TheVariants as records
use Rattle.history_words.specs.Claim.{Claim}
use Rattle.operation_text.specs.Texts.{hexadecimal, op_text, reply_text}

-- fields with a space between each two
abbrev pub spaced : List (List ℕ) → List ℕ
spaced fields = join_with_byte 32 fields

abbrev pub memory_line : MemoryView → List ℕ
memory_line m = spaced (codes "memory" ∷ hexadecimal m.base ∷ decimal m.size ∷ decimal m.block ∷ [])

abbrev pub record_line : Record → List ℕ
record_line (records.Sub i k op n) = spaced (codes "sub" ∷ decimal i ∷ decimal k ∷ decimal n ∷ op_text op ∷ [])
record_line (records.Ans i k reply n) = spaced (codes "ans" ∷ decimal i ∷ decimal k ∷ decimal n ∷ reply_text reply ∷ [])

abbrev pub entry_line : Entry → List ℕ
entry_line e = spaced (codes "ent" ∷ decimal e.requester ∷ decimal e.number ∷ op_text e.op ∷ [])

-- each line with a line feed
unfoldable pub lines_text : List (List ℕ) → List ℕ
lines_text [] = []
lines_text (line ∷ lines) = line ++ 10 ∷ lines_text lines

-- the second version
abbrev pub trace_lines : Claim → List (List ℕ)
trace_lines c =
    codes "pciex-trace 2" ∷ memory_line c.memory
    ∷ (map record_line c.records ++ codes "history" ∷ (map entry_line c.memory.entries ++ codes "end" ∷ []))

-- up to the entries
abbrev pub records_text : Claim → List ℕ
records_text c =
    ((codes "pciex-trace 2\n" ++ (memory_line c.memory ++ 10 ∷ [])) ++ lines_text (map record_line c.records)) ++ codes "history\n"

abbrev pub trace_text : Claim → List ℕ
trace_text c = lines_text (trace_lines c)
