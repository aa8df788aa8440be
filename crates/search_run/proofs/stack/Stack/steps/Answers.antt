use Rattle.std.proofs.Common.{◌∙◌, ◌++◌, List, ap}
use Rattle.log_runs.specs.declared.Step.{Step}
use Rattle.search_run.specs.Trails.{steps_by}
use Rattle.search_run.specs.StackView.{StackView}
use Rattle.search_run.specs.Stacked.{steps_of}
use Rattle.search_run.proofs.StackLemmas.{all_steps}
use Rattle.search_run.proofs.stack.Stack.steps.Goals as goal

pub returns : goal.returns
returns c =
    let s = c.self.inside in
    c.in_ok-add_steps.ensures
    ∙ ap (λ (xs : List Step). xs ++ steps_by s.trail) c.in_ok-steps.ensures.items
    ∙ all_steps s.frames.items s.closed s.trail s.notes.items c.self.invariant
    ∙ ap (λ (v : StackView). steps_of v.frames ++ steps_by v.done) c.self.view_is
