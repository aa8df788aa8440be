-- How the lines of a text of records are read, and where they may stand.
use Rattle.std.specs.Prelude.{List, ℕ, Option, Bool}
use Rattle.record_text.specs.declared.form.Section.{Section}

-- of a text of which F is kept, and whose lines say L
pub record Grammar (F L : Type 0) : Type 0 where
  -- the line that bytes spell
  pub line_of : F → List ℕ → Option L
  -- the section after a line, if the line is due in the section
  pub section_after : Section → L → Option Section
  -- what is kept with a line that is due
  pub kept : F → L → F
  -- whether what is kept grows by it
  pub adds : L → Bool
