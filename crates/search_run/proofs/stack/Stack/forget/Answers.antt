use Rattle.std.proofs.Common.{drop, subst, arith}
use Rattle.search_run.specs.StackView.{StackView}
use Rattle.search_run.specs.Marks.{frames_in}
use Rattle.search_run.specs.Stacked.{Forgets, HasNone}
use Rattle.search_run.proofs.StackLemmas.{drained, forgotten}
use Rattle.search_run.proofs.stack.Stack.forget.Goals as goal

pub returns-then-not-lower-clause-empty : goal.returns-then-not-lower-clause-empty
returns-then-not-lower-clause-empty c =
    let s = c.self.inside in
    λ so. subst HasNone c.self.view_is (drained s.frames.items s.closed s.trail s.notes.items (c.lower.ensures.lowest c.if-not-lower.true))

pub invariant_of-self-2 : goal.invariant_of-self-2
invariant_of-self-2 c =
    let s = c.self.inside in
    (forgotten s.frames.items c.lower.new.frames.items s.closed s.trail s.notes.items c.pop.new.self.items c.pop.result c.self.invariant
    (c.lower.ensures.some c.if-not-lower.false) c.pop.ensures.items (λ l. c.pop.ensures.variant.1 (omega (arith, l, s.notes.ok.0)))).0

pub returns-clause-some : goal.returns-clause-some
returns-clause-some c =
    let s = c.self.inside in
    let t : StackView = record { frames = frames_in c.lower.new.frames.items s.trail c.pop.new.self.items; done = drop s.closed s.trail } in
    λ so. subst (λ (v : StackView). Forgets v t) c.self.view_is
    (forgotten s.frames.items c.lower.new.frames.items s.closed s.trail s.notes.items c.pop.new.self.items c.pop.result c.self.invariant
    (c.lower.ensures.some c.if-not-lower.false) c.pop.ensures.items (λ l. c.pop.ensures.variant.1 (omega (arith, l, s.notes.ok.0)))).1
