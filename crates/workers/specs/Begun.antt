-- What a run begins with.
use Rattle.std.specs.Prelude.{◌≡◌}
use Rattle.fabric_core.specs.Config.{IsNewWith}
use Rattle.hall_laws.specs.Rule.{HasConfig}
use Rattle.worker_report.specs.declared.plan.RunPlan.{RunPlan}
use Rattle.worker_report.specs.Halts.{IsPlan}
use Rattle.workers.specs.declared.context.RunContext.{RunContext}

-- a run of this plan, which can be run, in a hall of a new fabric with its configuration
pub record IsRunBy (plan : RunPlan) (run : RunContext) : Type 0 where
  pub same : run.plan ≡ plan
  pub can : IsPlan plan
  pub opened : IsNewWith plan.config run.hall.opened
  pub config : HasConfig run.hall.opened run.hall.config
