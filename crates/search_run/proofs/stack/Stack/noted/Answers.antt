use Rattle.std.proofs.Common.{◌≡◌, ◌∙◌, ◌-◌, ◌+◌, ◌≤◌, ◌++◌, ◌∷◌, [], List, length, drop, sym, ap, subst, arith}
use Rattle.log_runs.specs.declared.Step.{Step}
use Rattle.search_run.specs.StackView.{FrameView, StackView}
use Rattle.search_run.proofs.StackLemmas.{last_noted, within, none_there}
use Rattle.search_run.proofs.stack.Stack.noted.Goals as goal

pub returns-then-count-eq0 : goal.returns-then-count-eq0
returns-then-count-eq0 c = λ fs f e.
    let s = c.self.inside in
    absurd (none_there s.frames.items s.trail s.notes.items (omega (arith, c.len-count.ensures, s.frames.ok.0, c.if-count-eq0.true)) fs f (ap (λ (v : StackView). v.frames) c.self.view_is ∙ e))

pub last_of-requires : goal.last_of-requires
last_of-requires c =
    let s = c.self.inside in
    let size : c.len-count.result - 1 + 1 ≡ length s.frames.items = omega (arith, c.len-count.ensures, s.frames.ok.0, c.if-count-eq0.false) in
    let m = c.index-mark.result.now in
    subst (λ (xs : List Step). m.noted ≤ length xs) (sym c.as_slice.ensures.value)
    (within s.frames.items (c.len-count.result - 1) m s.closed s.trail s.notes.items c.self.invariant size c.index-mark.ensures)

pub returns : goal.returns
returns c = λ fs f e.
    let s = c.self.inside in
    let size : c.len-count.result - 1 + 1 ≡ length s.frames.items = omega (arith, c.len-count.ensures, s.frames.ok.0, c.if-count-eq0.false) in
    let m = c.index-mark.result.now in
    c.last_of.ensures
    ∙ ap (λ (xs : List Step). drop (length xs - m.noted) xs) c.as_slice.ensures.value
    ∙ last_noted s.frames.items (c.len-count.result - 1) m s.closed s.trail s.notes.items c.self.invariant size c.index-mark.ensures fs f
    (ap (λ (v : StackView). v.frames) c.self.view_is ∙ e)
