use Rattle.std.proofs.Common.{◌∙◌, ap}
use Rattle.search_run.specs.StackView.{StackView}
use Rattle.search_run.specs.Stacked.{close}
use Rattle.search_run.proofs.StackLemmas.{closed_by}
use Rattle.search_run.proofs.stack.Stack.close.Goals as goal

pub invariant_of-self-2 : goal.invariant_of-self-2
invariant_of-self-2 c =
    let s = c.self.inside in
    (closed_by s.frames.items c.push.new.self.items s.closed c.len-len.result s.trail s.notes.items c.self.invariant c.len-len.ensures c.in_ok-push.ensures.items).0

pub returns : goal.returns
returns c =
    let s = c.self.inside in
    (closed_by s.frames.items c.push.new.self.items s.closed c.len-len.result s.trail s.notes.items c.self.invariant c.len-len.ensures c.in_ok-push.ensures.items).1
    ∙ ap close c.self.view_is
