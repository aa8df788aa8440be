use Rattle.std.proofs.Common.{◌∙◌, ◌∷◌, ap, map}
use Rattle.std.proofs.lemmas.Result.{on_ok_weaker}
use Rattle.log_runs.specs.Histories.{completed, history_of}
use Rattle.log_runs.specs.declared.Step.{Step}
use Rattle.log_events.proofs.completing.step_on.Goals as goal

pub returns-in-Act-clause-records : goal.returns-in-Act-clause-records
returns-in-Act-clause-records c =
    let rs = c.args.store.now.records in
    on_ok_weaker c.act.result (λ acted ys. ap (λ (s : Step). map (completed c.args.memory.now.extent c.args.bytes.now (history_of rs (s ∷ ys))) rs) c.in-Act.is ∙ acted ys) c.act.ensures.records
