use Rattle.std.proofs.Common.{◌∙◌, ◌-◌, ℕ, take, drop, ap, subst, arith}
use Rattle.search_run.specs.StackView.{StackView}
use Rattle.search_run.specs.Marks.{frames_in}
use Rattle.search_run.specs.Stacked.{Reopens}
use Rattle.search_run.proofs.StackLemmas.{reopened, is_within}
use Rattle.search_run.proofs.stack.Stack.reopen.Goals as goal

pub overflow_sub-self : goal.overflow_sub-self
overflow_sub-self c =
    let s = c.self.inside in
    (is_within s.frames.items c.pop.new.self.items s.closed s.trail s.notes.items c.in-Some.mark c.self.invariant c.in-Some.ensures.items).0

pub overflow_sub-len : goal.overflow_sub-len
overflow_sub-len c =
    let s = c.self.inside in
    let within = (is_within s.frames.items c.pop.new.self.items s.closed s.trail s.notes.items c.in-Some.mark c.self.invariant c.in-Some.ensures.items).1 in
    omega (arith, within, c.len.ensures, s.notes.ok.0)

pub invariant_of-self-2 : goal.invariant_of-self-2
invariant_of-self-2 c =
    let s = c.self.inside in
    let within = (is_within s.frames.items c.pop.new.self.items s.closed s.trail s.notes.items c.in-Some.mark c.self.invariant c.in-Some.ensures.items).0 in
    (reopened s.frames.items c.pop.new.self.items s.closed (s.closed - c.in-Some.mark.done) s.trail s.notes.items c.truncate.new.self.items c.in-Some.mark c.self.invariant c.in-Some.ensures.items
    (omega (arith, within))
    (c.truncate.ensures.items ∙ ap (λ (k : ℕ). take (k - c.in-Some.mark.noted) s.notes.items) (c.len.ensures ∙ s.notes.ok.0))).0

pub returns-clause-some : goal.returns-clause-some
returns-clause-some c =
    let s = c.self.inside in
    let t : StackView = record { frames = frames_in c.pop.new.self.items s.trail c.truncate.new.self.items; done = drop (s.closed - c.in-Some.mark.done) s.trail } in
    let within = (is_within s.frames.items c.pop.new.self.items s.closed s.trail s.notes.items c.in-Some.mark c.self.invariant c.in-Some.ensures.items).0 in
    λ so. subst (λ (v : StackView). Reopens v t) c.self.view_is
    (reopened s.frames.items c.pop.new.self.items s.closed (s.closed - c.in-Some.mark.done) s.trail s.notes.items c.truncate.new.self.items c.in-Some.mark c.self.invariant c.in-Some.ensures.items
    (omega (arith, within))
    (c.truncate.ensures.items ∙ ap (λ (k : ℕ). take (k - c.in-Some.mark.noted) s.notes.items) (c.len.ensures ∙ s.notes.ok.0))).1
