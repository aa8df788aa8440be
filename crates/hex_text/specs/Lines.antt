-- The lines of a text.
use Rattle.std.specs.Prelude.{ℕ, List, [], ◌∷◌, ◌==◌, Bool, true, filter, if◌then◌else◌}
use Rattle.std.specs.Io.BufRead.{strip_last, ends_with_byte}

-- the first line begins with b
abbrev pub onto_first : ℕ → List (List ℕ) → List (List ℕ)
onto_first b [] = (b ∷ []) ∷ []
onto_first b (line ∷ lines) = (b ∷ line) ∷ lines

-- the lines of a text, each with the line feed that ends it; the last may have none
unfoldable pub lines_of : List ℕ → List (List ℕ)
lines_of [] = []
lines_of (b ∷ bs) = if b == 10 then (10 ∷ []) ∷ lines_of bs else onto_first b (lines_of bs)

-- a line without its line feed
abbrev pub bare : List ℕ → List ℕ
bare line = strip_last 10 line

-- what a line says: neither its line feed nor one carriage return before that counts
abbrev pub said : List ℕ → List ℕ
said line = if ends_with_byte 10 line then strip_last 13 (bare line) else line

-- those of them that a line feed has ended
abbrev pub ended_lines : List ℕ → List (List ℕ)
ended_lines bytes = filter (ends_with_byte 10) (lines_of bytes)

-- empty lines and those that begin with `#` are skipped
abbrev pub is_skipped : List ℕ → Bool
is_skipped [] = true
is_skipped (c ∷ cs) = c == 35
