use Rattle.std.proofs.Common.{◌∙◌, ℕ, List, length, ◌++◌, [], ◌∷◌, ap, refl}
use Rattle.log_runs.specs.declared.Step.TheVariants as kinds
use Rattle.search_places.specs.declared.steps.Done.{Done}
use Rattle.search_run.proofs.TrailLemmas.{act_put}
use Rattle.search_run.proofs.trail.Trail.push_act.Goals as goal

pub invariant_of-self-2 : goal.invariant_of-self-2
invariant_of-self-2 c =
    let t = c.self.inside in
    (act_put t.marks.items t.requests.items t.bytes.items c.push.new.self.items c.push-2.new.self.items c.extend_from_slice.new.self.items
    (length c.args.old.now) c.args.b c.args.old.now c.self.invariant c.in_ok-push.ensures.items
    (c.in_ok-push-2.ensures.items ∙ ap (λ (bs : List ℕ). bs ++ c.args.b ∷ []) c.in_ok-reserve.ensures.items)
    (c.in_ok-extend_from_slice.ensures.items ∙ ap (λ (bs : List ℕ). bs ++ c.args.old.now) c.in_ok-reserve-2.ensures.items)
    refl c.requires).0

pub returns-clause-more : goal.returns-clause-more
returns-clause-more c =
    let t = c.self.inside in
    (act_put t.marks.items t.requests.items t.bytes.items c.push.new.self.items c.push-2.new.self.items c.extend_from_slice.new.self.items
    (length c.args.old.now) c.args.b c.args.old.now c.self.invariant c.in_ok-push.ensures.items
    (c.in_ok-push-2.ensures.items ∙ ap (λ (bs : List ℕ). bs ++ c.args.b ∷ []) c.in_ok-reserve.ensures.items)
    (c.in_ok-extend_from_slice.ensures.items ∙ ap (λ (bs : List ℕ). bs ++ c.args.old.now) c.in_ok-reserve-2.ensures.items)
    refl c.requires).1
    ∙ ap (λ (ds : List Done). ds ++ record { step = kinds.Act c.args.b; old = record { items = c.args.old.now } } ∷ []) c.self.view_is
