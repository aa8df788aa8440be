-- What a text of records is read as, line by line.
use Rattle.std.specs.Prelude.{ℕ, ◌≡◌, ◌+◌, ◌-◌, ◌^◌, ◌⊎◌, ◌&&◌, Bool, true, false, not, min, nat_lt, if◌then◌else◌, List, ◌∷◌, ◌++◌, length, fold, Option, Some, None, is_some, Result, Ok, Err}
use Rattle.hex_text.specs.Lines.{lines_of, bare, said, is_skipped}
use Rattle.record_text.specs.declared.fault.ReadFault.{ReadFault}
use Rattle.record_text.specs.declared.fault.ReadFaultKind.{ReadFaultKind}
use Rattle.record_text.specs.declared.fault.ReadFaultKind.TheVariants as faults
use Rattle.record_text.specs.declared.form.Section.{Section}
use Rattle.record_text.specs.declared.form.Section.TheVariants as sections
use Rattle.record_text.specs.Grammar.{Grammar}

-- what was read so far: the section that goes on, the number of lines, skipped ones counted, the first fault, and what
-- is kept of the lines
pub record RecordReaderView (F : Type 0) : Type 0 where
  pub section : Section
  pub lines : ℕ
  pub fault : Option ReadFault
  pub form : F

abbrev pub nothing_read : {F : Type 0} → F → RecordReaderView F
nothing_read form = record { section = sections.FirstLine; lines = 0; fault = None; form = form }

-- the number of the line that comes next, a number of 64 bits
abbrev pub next_line : {F : Type 0} → RecordReaderView F → ℕ
next_line s = min (s.lines + 1) (2 ^ 64 - 1)

abbrev pub fault_at_next : {F : Type 0} → RecordReaderView F → ReadFaultKind → ReadFault
fault_at_next s kind = record { kind = kind; line = next_line s }

-- one line more
abbrev pub counted : {F : Type 0} → RecordReaderView F → RecordReaderView F
counted s = record s { lines = next_line s }

-- one line more, after which that section goes on
abbrev pub gone_on : {F : Type 0} → RecordReaderView F → Section → RecordReaderView F
gone_on s section = record s { section = section; lines = next_line s }

abbrev pub faulty : {F : Type 0} → RecordReaderView F → ReadFaultKind → RecordReaderView F
faulty s kind = record s { lines = next_line s; fault = Some (fault_at_next s kind) }

-- a line that isn't due, and one of no form: faults of the head where that is due
abbrev pub misplaced : Section → ReadFaultKind
misplaced sections.FirstLine = faults.Head
misplaced _ = faults.Section

abbrev pub formless : Section → ReadFaultKind
formless sections.FirstLine = faults.Head
formless _ = faults.Line

-- a line after which that section goes on, if it is due
abbrev pub placed : {F L : Type 0} → Grammar F L → RecordReaderView F → L → Option Section → RecordReaderView F
placed g s l None = faulty s (misplaced s.section)
placed g s l (Some section) = record s { section = section; lines = next_line s; form = g.kept s.form l }

abbrev pub taken : {F L : Type 0} → Grammar F L → RecordReaderView F → Option L → RecordReaderView F
taken g s None = faulty s (formless s.section)
taken g s (Some l) = placed g s l (g.section_after s.section l)

-- ---- lines

-- behind a fault nothing is read
abbrev pub after_line : {F L : Type 0} → Grammar F L → RecordReaderView F → List ℕ → RecordReaderView F
after_line g s line =
    if is_some s.fault then s
    else (if is_skipped line then counted s else taken g s (g.line_of s.form line))

-- a line over the limit has no form
abbrev pub after_long_line : {F : Type 0} → RecordReaderView F → RecordReaderView F
after_long_line s = if is_some s.fault then s else faulty s (formless s.section)

-- a line has at most 512 bytes before its line feed: that is tested first
abbrev pub take_line : {F L : Type 0} → Grammar F L → RecordReaderView F → List ℕ → RecordReaderView F
take_line g s line = if nat_lt 512 (length (bare line)) then after_long_line s else after_line g s (said line)

-- what was read of a text, from what is kept before it on
abbrev pub reading_of : {F L : Type 0} → Grammar F L → F → List ℕ → RecordReaderView F
reading_of g form text = fold (take_line g) (nothing_read form) (lines_of text)

-- ---- growth

-- a line that is due adds to what is kept
abbrev pub adds : {F L : Type 0} → Grammar F L → Section → Option L → Bool
adds g section None = false
adds g section (Some l) = is_some (g.section_after section l) && g.adds l

-- no fault was read before, and the line adds to what is kept
abbrev pub adds_one : {F L : Type 0} → Grammar F L → RecordReaderView F → List ℕ → Bool
adds_one g s line = not (is_some s.fault) && (not (is_skipped line) && adds g s.section (g.line_of s.form line))

-- the same of a line with what ends it
abbrev pub adds_by : {F L : Type 0} → Grammar F L → RecordReaderView F → List ℕ → Bool
adds_by g s line = not (nat_lt 512 (length (bare line))) && adds_one g s (said line)

-- ---- the end

-- what is missing
abbrev pub ended_in : {F : Type 0} → Section → RecordReaderView F → Result F ReadFault
ended_in sections.FirstLine s = Err (fault_at_next s faults.Head)
ended_in sections.Memory s = Err (fault_at_next s faults.Line)
ended_in sections.Records s = Err (fault_at_next s faults.Section)
ended_in sections.History s = Err (fault_at_next s faults.Section)
ended_in sections.End s = Ok s.form

abbrev pub fault_or_end : {F : Type 0} → Option ReadFault → RecordReaderView F → Result F ReadFault
fault_or_end (Some f) s = Err f
fault_or_end None s = ended_in s.section s

abbrev pub at_end : {F : Type 0} → RecordReaderView F → Result F ReadFault
at_end s = fault_or_end s.fault s

-- what is kept of a text, or its first fault
abbrev pub read_of : {F L : Type 0} → Grammar F L → F → List ℕ → Result F ReadFault
read_of g form text = at_end (reading_of g form text)

-- an allocation failed for a line, before which no fault was read
pub record IsRefused {F L : Type 0} (g : Grammar F L) (form : F) (text : List ℕ) (f : ReadFault) : Type 0 where
  pub read : List (List ℕ)
  pub line : List ℕ
  pub rest : List (List ℕ)
  pub begins : lines_of text ≡ read ++ line ∷ rest
  pub adds : adds_by g (fold (take_line g) (nothing_read form) read) line ≡ true
  pub is : f ≡ fault_at_next (fold (take_line g) (nothing_read form) read) faults.Memory

-- the first fault, or that memory ran out before one
abbrev pub Tells : {F L : Type 0} → Grammar F L → F → List ℕ → ReadFault → Type 0
Tells g form text f = (read_of g form text ≡ Err f) ⊎ IsRefused g form text f
