use Rattle.std.proofs.Common.{[], ◌∷◌}
use Rattle.search_run.proofs.FrameLemmas.{lost_more, lost_too, none_lost}
use Rattle.search_run.proofs.walk.try_next.Goals as goal

pub returns-then-was_tried-clause-lost : goal.returns-then-was_tried-clause-lost
returns-then-was_tried-clause-lost c = λ so.
    let log = c.args.log.now in
    let walk = c.args.walk.now in
    lost_too log walk walk [] (none_lost log walk c.requires.at) c.args.step (c.was_tried.ensures c.if-was_tried.true log c.requires.at)

pub returns-clause-lost : goal.returns-clause-lost
returns-clause-lost c = λ so.
    let log = c.args.log.now in
    let lost = c.in_ok-try_step.ensures.lost c.if-branch.false in
    lost_more log c.args.walk.now c.try_step.new.walk (c.args.step ∷ []) lost c.spare.new.walk [] (c.spare.ensures.lost log lost.at)
