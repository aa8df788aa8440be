-- The lines of a text, by how they end.
use Rattle.std.specs.Prelude.{ℕ, List, Bool, not, ◌&&◌, nat_lt, length, if◌then◌else◌}
use Rattle.std.specs.Io.BufRead.{strip_last}
use Rattle.record_text.specs.Grammar.{Grammar}
use Rattle.record_text.specs.RecordReaderView.{RecordReaderView, after_line, after_long_line, adds_one}

-- a line, of which this is said if it isn't too long
abbrev pub on_said : {F L : Type 0} → Grammar F L → RecordReaderView F → List ℕ → List ℕ → RecordReaderView F
on_said g s line said = if nat_lt 512 (length line) then after_long_line s else after_line g s said

-- a line that a line feed ended, given without it
abbrev pub on_ended_line : {F L : Type 0} → Grammar F L → RecordReaderView F → List ℕ → RecordReaderView F
on_ended_line g s line = on_said g s line (strip_last 13 line)

-- the last line, where no line feed ends it
abbrev pub on_last_line : {F L : Type 0} → Grammar F L → RecordReaderView F → List ℕ → RecordReaderView F
on_last_line g s line = on_said g s line line

-- whether they add to what is kept

abbrev pub adds_said : {F L : Type 0} → Grammar F L → RecordReaderView F → List ℕ → List ℕ → Bool
adds_said g s line said = not (nat_lt 512 (length line)) && adds_one g s said

abbrev pub adds_ended : {F L : Type 0} → Grammar F L → RecordReaderView F → List ℕ → Bool
adds_ended g s line = adds_said g s line (strip_last 13 line)

abbrev pub adds_last : {F L : Type 0} → Grammar F L → RecordReaderView F → List ℕ → Bool
adds_last g s line = adds_said g s line line
