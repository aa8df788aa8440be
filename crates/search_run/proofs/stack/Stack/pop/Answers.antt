use Rattle.std.proofs.Common.{◌∙◌, ap, arith}
use Rattle.search_run.specs.StackView.{StackView}
use Rattle.search_run.proofs.StackLemmas.{off}
use Rattle.search_run.proofs.stack.Stack.pop.Goals as goal

pub returns-clause-frames : goal.returns-clause-frames
returns-clause-frames c =
    let s = c.self.inside in
    (off s.frames.items s.closed s.trail c.pop.new.self s.notes.items c.pop.result c.self.invariant
    (omega (arith, c.if-len-self.false, c.len.ensures, c.self.invariant.closed, c.self.invariant.taken)) c.pop.ensures.items).1
    ∙ ap (λ (v : StackView). v.frames) c.self.view_is
