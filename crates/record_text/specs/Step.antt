-- What comes of one line of a text of records.
use Rattle.std.specs.Prelude.{ℕ, Bool, true, false, List, Option, Some, None}
use Rattle.record_text.specs.declared.form.Section.{Section}
use Rattle.record_text.specs.declared.form.Taken.{Taken}
use Rattle.record_text.specs.declared.form.Taken.TheVariants as takes
use Rattle.record_text.specs.Grammar.{Grammar}

-- whether the text spells a line, the section after the line if it is due, and what is kept then
pub record Step (F : Type 0) : Type 0 where
  pub is_spelled : Bool
  pub after : Option Section
  pub form : F

-- of a line after which that section goes on, if it is due
abbrev pub placing : {F L : Type 0} → Grammar F L → F → L → Option Section → Step F
placing g form l None = record { is_spelled = true; after = None; form = form }
placing g form l (Some section) = record { is_spelled = true; after = Some section; form = g.kept form l }

abbrev pub step_by : {F L : Type 0} → Grammar F L → Section → F → Option L → Step F
step_by g section form None = record { is_spelled = false; after = None; form = form }
step_by g section form (Some l) = placing g form l (g.section_after section l)

-- of the text of a line in that section
abbrev pub step : {F L : Type 0} → Grammar F L → Section → F → List ℕ → Step F
step g section form text = step_by g section form (g.line_of form text)

-- what an answer tells, where that is kept then
abbrev pub step_told : {F : Type 0} → Taken → F → Step F
step_told (takes.Kept section) form = record { is_spelled = true; after = Some section; form = form }
step_told takes.NotDue form = record { is_spelled = true; after = None; form = form }
step_told takes.Misfit form = record { is_spelled = false; after = None; form = form }
