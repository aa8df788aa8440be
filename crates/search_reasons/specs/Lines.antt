-- On which lines of its text a log stands, and how its words are written.
use Rattle.std.specs.Prelude.{ℕ, ◌≡◌, ◌≤◌, ◌<◌, List, ◌++◌, length, map, codes, slice_index}
use Rattle.hex.specs.Hex.{encode_upper}
use Rattle.operation_text.specs.Texts.{hexadecimal}
use Rattle.hex_text.specs.Lines.{ended_lines, said}
use Rattle.trace_diagnostics.specs.Told.{TraceLinesView, nothing_numbered, numbered_all}

-- what the lines of a text say that a line feed ends
abbrev pub said_lines : List ℕ → List (List ℕ)
said_lines text = map said (ended_lines text)

-- these lines, by their numbers
abbrev pub lines_in : List ℕ → TraceLinesView
lines_in text = numbered_all nothing_numbered (said_lines text)

-- the place of the first of these numbers that is more, or how many they are
pub record IsFirstAbove (numbers : List ℕ) (least place : ℕ) : Type 0 where
  pub within : place ≤ length numbers
  pub before : (k : ℕ) → k < place → slice_index numbers k ≤ least
  pub above : place < length numbers → least < slice_index numbers place

-- the text has the four bytes of a word, and its address
pub record IsWordText (address : ℕ) (text : List ℕ) : Type 0 where
  pub bytes : List ℕ
  pub four : length bytes ≡ 4
  pub says : text ≡ encode_upper bytes ++ codes " at " ++ hexadecimal address
