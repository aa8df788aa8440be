use Rattle.std.proofs.Common.{ℕ, sym, subst, arith}
use Rattle.std.proofs.Math.Numerals.{add-one}
use Rattle.search_run.specs.Watched.{Is, Saw}
use Rattle.search_run.proofs.FrameLemmas.{sees_more}
use Rattle.search_run.proofs.exploring.choose.Goals as goal

pub returns-then-not-branch-clause-saw : goal.returns-then-not-branch-clause-saw
returns-then-not-branch-clause-saw g c =
    let log = c.args.course.log.now in
    subst (λ (n : ℕ). Saw g.W.Watch.sees (Is log) n c.args.watch.now c.choice.new.self) (sym (add-one c.loop-states.states))
    (sees_more g.W.Watch.sees log c.finishes.new.walk c.loop-states.states _ _ _ _ c.loop-states.invariant.1 c.in_ok-finishes.ensures.at c.in_ok-finishes.ensures.over.1 c.if-branch.false c.choice.ensures)

pub loop-states-preserved : goal.loop-states-preserved
loop-states-preserved g c =
    let log = c.args.course.log.now in (
      c.in_ok-advance.ensures.at c.if-not-branch.false,
      subst (λ (n : ℕ). Saw g.W.Watch.sees (Is log) n c.args.watch.now c.choice.new.self) (sym (add-one c.loop-states.states))
          (sees_more g.W.Watch.sees log c.finishes.new.walk c.loop-states.states _ _ _ _ c.loop-states.invariant.1 c.in_ok-finishes.ensures.at c.in_ok-finishes.ensures.over.1 c.if-branch.false c.choice.ensures),
      omega (arith, c.loop-states.invariant.2, c.in_ok-finishes.ensures.work, c.in_ok-advance.ensures.work),
    )
