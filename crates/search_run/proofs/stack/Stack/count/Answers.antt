use Rattle.std.proofs.Common.{◌∙◌, sym, ap, arith}
use Rattle.search_run.specs.StackView.{StackView}
use Rattle.search_run.specs.Stacked.{noted_at}
use Rattle.search_run.proofs.StackLemmas.{counted}
use Rattle.search_run.proofs.stack.Stack.count.Goals as goal

pub returns : goal.returns
returns c =
    let s = c.self.inside in
    c.len.ensures ∙ s.notes.ok.0 ∙ c.self.invariant.noted
    ∙ sym (counted s.frames.items s.trail s.notes.items (omega (arith, c.self.invariant.noted)))
    ∙ ap (λ (v : StackView). noted_at v.frames) c.self.view_is
