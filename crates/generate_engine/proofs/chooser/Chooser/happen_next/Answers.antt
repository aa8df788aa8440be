use Rattle.fabric_steps.specs.declared.event.EventOf.TheVariants.{Submit}
use Rattle.std.proofs.Common.{rules}
use Rattle.generate_engine.proofs.chooser.Chooser.happen_next.Goals as goal
use Rattle.generate_engine.proofs.chooser.Chooser.happen_next.Goals.{in-Submit+in_ok-happened, in_default+in_ok-happened-2}

pub returns-then-happened-clause-ok : goal.returns-then-happened-clause-ok
returns-then-happened-clause-ok g c = elim c.match-candidate.branch [
  | in-Submit+in_ok-happened w ↦ (Submit w.in-Submit.port w.lend.result, search rules, search rules, search rules)
  | in_default+in_ok-happened-2 w ↦ (w.with_operation-event.result, search rules, search rules, search rules)
]
