-- Of which line of a trace's text a reason is told.
use Rattle.std.specs.Prelude.{ℕ, ◌≡◌, List, length, Option, Some, None}
use Rattle.std.specs.Io.KnownBytes.{Keeps}
use Rattle.diagnostics.specs.Told.{IsPartTold, IsPartBegun}
use Rattle.history_words.specs.declared.flaws.FlawKind.{FlawKind}
use Rattle.history_words.specs.Claim.{Claim}
use Rattle.history_words.specs.Flaws.{first_flaw_clocked}
use Rattle.record_text.specs.declared.fault.ReadFault.{ReadFault}
use Rattle.record_text.specs.RecordReaderView.{RecordReaderView}
use Rattle.trace_diagnostics.specs.Told.{TraceReasonsView, TraceLinesView, line_of_flaw, part_of_flaw}

abbrev pub line_of_fault : Option ReadFault → Option ℕ
line_of_fault None = None
line_of_fault (Some f) = Some f.line

-- the number of the first line that can't be read, if one was found so far
abbrev pub faulty_line : {F : Type 0} → RecordReaderView F → Option ℕ
faulty_line s = line_of_fault s.fault

-- a reason was told exactly where there is a fault, and its line is the fault's
abbrev pub Agrees : {F : Type 0} → RecordReaderView F → TraceReasonsView → Type 0
Agrees s t = t.told ≡ faulty_line s

-- a reason was told exactly where there is a flaw, of the record or the entry on which it lies and of its line
abbrev pub IsToldOf : TraceLinesView → ℕ → Option (FlawKind × ℕ) → Option (List ℕ) → Option (List ℕ) → Type 0
IsToldOf lines records None old new = Keeps old new
IsToldOf lines records (Some f) old new = IsPartTold (part_of_flaw f.0 f.1) (line_of_flaw lines records f.0 f.1) old new

-- where a stream failed: a prefix of such a reason was written
abbrev pub IsBegunOf : TraceLinesView → ℕ → Option (FlawKind × ℕ) → Option (List ℕ) → Option (List ℕ) → Type 0
IsBegunOf lines records None old new = Keeps old new
IsBegunOf lines records (Some f) old new = IsPartBegun (part_of_flaw f.0 f.1) (line_of_flaw lines records f.0 f.1) old new

-- of the trace's first flaw, or where there is none of the first n that is none of a history that grew, if it has one
abbrev pub IsFlawTold : TraceLinesView → Claim → Option (List ℕ) → Option (List ℕ) → Type 0
IsFlawTold lines c old new = IsToldOf lines (length c.records) (first_flaw_clocked c) old new

abbrev pub IsFlawBegun : TraceLinesView → Claim → Option (List ℕ) → Option (List ℕ) → Type 0
IsFlawBegun lines c old new = IsBegunOf lines (length c.records) (first_flaw_clocked c) old new
