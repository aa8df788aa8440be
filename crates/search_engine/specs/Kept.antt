-- What is kept of the lines of an input.
use Rattle.std.specs.Prelude.{ℕ, ◌≡◌, ◌≢◌, ◌⊎◌, List, [], ◌∷◌, ◌++◌, length, map, take, nat_lt, if◌then◌else◌, All}
use Rattle.std.specs.Io.BufRead.{strip_last}
use Rattle.hex_text.specs.Lines.{lines_of, is_skipped}

-- a line that a line feed ends
abbrev pub ended : List ℕ → List ℕ
ended line = line ++ 10 ∷ []

-- the least that is kept of it: of one that is too long as much as tells that, of one that is skipped nothing
abbrev pub kept_of : List ℕ → List ℕ
kept_of line = if nat_lt 512 (length line) then take 513 line else (if is_skipped (strip_last 13 line) then [] else line)

-- such a line without its line feed, and what is kept of it: all, or the least
pub record KeptLine : Type 0 where
  pub line : List ℕ
  pub kept : List ℕ
  pub is : (kept ≡ line) ⊎ (kept ≡ kept_of line)

abbrev pub as_read : KeptLine → List ℕ
as_read l = ended l.line

abbrev pub as_kept : KeptLine → List ℕ
as_kept l = ended l.kept

-- the text has of each line of the input what is kept of it, and of the last one, which no line feed ends, 513 bytes at most
pub record AreKept (input text : List ℕ) : Type 0 where
  pub ended_lines : List KeptLine
  pub last : List ℕ
  pub one_line : All (λ b. b ≢ 10) last
  pub lines : lines_of input ≡ map as_read ended_lines ++ lines_of last
  pub kept : lines_of text ≡ map as_kept ended_lines ++ lines_of (take 513 last)

-- the same in the middle of an input: the text has what is kept of the lines that have ended, and this is kept of the one
-- that goes on
pub record KeepsUpTo (read text line : List ℕ) : Type 0 where
  pub ended_lines : List KeptLine
  pub last : List ℕ
  pub one_line : All (λ b. b ≢ 10) last
  pub unfinished : line ≡ take 513 last
  pub lines : (more : List ℕ) → lines_of (read ++ more) ≡ map as_read ended_lines ++ lines_of (last ++ more)
  pub kept : (more : List ℕ) → lines_of (text ++ more) ≡ map as_kept ended_lines ++ lines_of more
