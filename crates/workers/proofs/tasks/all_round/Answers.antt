use Rattle.std.proofs.Common.{arith, ◌∙◌}
use Rattle.std.proofs.lemmas.Grind.{common_steps}
use Rattle.workers.proofs.Returning.{kept_set}
use Rattle.workers.proofs.tasks.all_round.Goals as goal

pub loop-task-preserved : goal.loop-task-preserved
loop-task-preserved g c = (
  grind (arith, common_steps),
  grind (arith, common_steps),
  kept_set c.loop-task.tasks c.loop-task.task-index c.task-item.result c.rounds.new.self c.rounds.ensures.job c.rounds.ensures.hall ∙ c.loop-task.invariant.2,
)
