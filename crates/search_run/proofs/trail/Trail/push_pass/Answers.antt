use Rattle.std.proofs.Common.{◌∙◌, List, ◌++◌, [], ◌∷◌, ap}
use Rattle.log_runs.specs.declared.Step.TheVariants as kinds
use Rattle.search_places.specs.declared.steps.Done.{Done}
use Rattle.search_run.proofs.TrailLemmas.{pass_put}
use Rattle.search_run.proofs.trail.Trail.push_pass.Goals as goal

pub invariant_of-self-2 : goal.invariant_of-self-2
invariant_of-self-2 c =
    (pass_put c.self.inside.marks.items c.self.inside.requests.items c.self.inside.bytes.items c.push.new.self.items c.self.invariant c.in_ok-push.ensures.items).0

pub returns-clause-more : goal.returns-clause-more
returns-clause-more c =
    (pass_put c.self.inside.marks.items c.self.inside.requests.items c.self.inside.bytes.items c.push.new.self.items c.self.invariant c.in_ok-push.ensures.items).1
    ∙ ap (λ (ds : List Done). ds ++ record { step = kinds.Pass; old = record { items = [] } } ∷ []) c.self.view_is
