-- Of which line of a trace's text a reason is told, and when.
use Rattle.std.specs.Prelude.{ℕ, ◌≡◌, ◌+◌, ◌-◌, ◌^◌, ◌<◌, nat_le, min, if◌then◌else◌, List, [], ◌∷◌, ◌++◌, length, Option, Some, None, slice_get}
use Rattle.hex_text.specs.Lines.{is_skipped}
use Rattle.history_words.specs.declared.flaws.FlawKind.{FlawKind}
use Rattle.flaw_places.specs.Places.{is_of_entry}
use Rattle.diagnostics.specs.declared.telling.Part.{Part}
use Rattle.diagnostics.specs.declared.telling.Part.TheVariants.{Record, Entry}

-- the first fault: one that is known, or else one that is found
abbrev pub first_of : Option ℕ → Option ℕ → Option ℕ
first_of (Some n) found = Some n
first_of None found = found

-- what is new: the found one, if none was known
abbrev pub news_of : Option ℕ → Option ℕ → Option ℕ
news_of (Some n) found = None
news_of None found = found

-- the lines of a text so far: how many, and the numbers of those that are skipped, from 1
pub record TraceLinesView : Type 0 where
  pub lines : ℕ
  pub skipped : List ℕ

abbrev pub nothing_numbered : TraceLinesView
nothing_numbered = record { lines = 0; skipped = [] }

-- the number of the line that comes next, a number of 64 bits
abbrev pub next_line : TraceLinesView → ℕ
next_line s = min (s.lines + 1) (2 ^ 64 - 1)

abbrev pub numbered : TraceLinesView → List ℕ → TraceLinesView
numbered s line = record { lines = next_line s; skipped = if is_skipped line then s.skipped ++ next_line s ∷ [] else s.skipped }

-- places are numbers of 64 bits
abbrev pub plus : ℕ → ℕ → ℕ
plus a b = min (a + b) (2 ^ 64 - 1)

-- each skipped line, taken in order, puts the lines from its number on one further
abbrev pub further : List ℕ → ℕ → ℕ
further [] n = n
further (k ∷ ks) n = further ks (if nat_le k n then plus n 1 else n)

-- the number of the nth line that isn't skipped, from 0
abbrev pub number_at : TraceLinesView → ℕ → ℕ
number_at s n = further s.skipped (plus n 1)

-- after these lines, in their order
abbrev pub numbered_all : TraceLinesView → List (List ℕ) → TraceLinesView
numbered_all s [] = s
numbered_all s (line ∷ rest) = numbered_all (numbered s line) rest

-- the numbers of the lines that aren't skipped, where the first line has this number
abbrev pub unskipped : ℕ → List (List ℕ) → List ℕ
unskipped number [] = []
unskipped number (line ∷ rest) = if is_skipped line then unskipped (number + 1) rest else number ∷ unskipped (number + 1) rest

-- of the lines of a text, numbered from 1, the nth one that isn't skipped has the number that is told
abbrev pub LinesHaveTheirNumbers : Type 0
LinesHaveTheirNumbers = (lines : List (List ℕ)) (n number : ℕ) → length lines < 2 ^ 64
    → slice_get (unskipped 1 lines) n ≡ Some number → number_at (numbered_all nothing_numbered lines) n ≡ number

-- the header and the memory's line stand before the records
abbrev pub record_line : TraceLinesView → ℕ → ℕ
record_line s place = number_at s (plus place 2)

-- and the line that ends the records before the entries
abbrev pub entry_line : TraceLinesView → ℕ → ℕ → ℕ
entry_line s records index = number_at s (plus index (plus records 3))

-- the place of a flaw is that of an entry, or of a record
abbrev pub line_of_flaw : TraceLinesView → ℕ → FlawKind → ℕ → ℕ
line_of_flaw s records kind place = if is_of_entry kind then entry_line s records place else record_line s place

abbrev pub part_of_flaw : FlawKind → ℕ → Part
part_of_flaw kind place = if is_of_entry kind then Entry place else Record place

-- of a text that is read: the line whose fault was told, and what the error stream holds
pub record TraceReasonsView : Type 0 where
  pub told : Option ℕ
  pub errors : Option (List ℕ)
