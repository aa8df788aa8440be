use Rattle.std.proofs.Common.{List, ℕ, sym, subst}
use Rattle.step_engine.specs.Script.{IsScript}
use Rattle.generate_laws.proofs.Reading.{script-read}
use Rattle.generate_laws.proofs.a_generated_script_is_read.Goals as goal

pub returns : goal.returns
returns c = λ config count text f s.
    subst (λ (t : List ℕ). IsScript t config s.events) (sym s.says)
    (script-read c.own_line_spells_event.ensures c.own_line_spells_fabric.ensures config s.events s.happened.is_new.config s.happened.spelled)
