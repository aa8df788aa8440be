use Rattle.std.proofs.Common.{◌∙◌, ℕ, List, ◌++◌, [], ◌∷◌, ap, sym, arith}
use Rattle.std.proofs.lemmas.Bool.{ne_eqb}
use Rattle.log_runs.specs.declared.Step.TheVariants as kinds
use Rattle.search_run.specs.Trails.{trail_of}
use Rattle.search_run.proofs.TrailLemmas.{pass_off, act_off, has_act}
use Rattle.search_run.proofs.trail.Trail.pop.Goals as goal

pub invariant_of-self-then-mark : goal.invariant_of-self-then-mark
invariant_of-self-then-mark c =
    let t = c.self.inside in
    (pass_off t.marks.items t.requests.items t.bytes.items c.pop.new.self.items c.in-Some.mark c.self.invariant c.in-Some.ensures.items c.if-mark.true).0

pub returns-then-mark-clause-items : goal.returns-then-mark-clause-items
returns-then-mark-clause-items c =
    let t = c.self.inside in
    sym c.self.view_is
    ∙ (pass_off t.marks.items t.requests.items t.bytes.items c.pop.new.self.items c.in-Some.mark c.self.invariant c.in-Some.ensures.items c.if-mark.true).1
    ∙ ap (λ (xs : List ℕ). trail_of c.pop.new.self.items t.requests.items t.bytes.items ++ record { step = kinds.Pass; old = record { items = xs } } ∷ []) (sym c.new.ensures)

pub invariant_of-self-in_default-pop : goal.invariant_of-self-in_default-pop
invariant_of-self-in_default-pop c =
    let t = c.self.inside in
    let there = has_act t.marks.items t.requests.items t.bytes.items c.pop.new.self.items c.in-Some.mark c.self.invariant c.in-Some.ensures.items (ne_eqb c.in-Some.mark 255 c.if-mark.false) in
    absurd (omega (arith, there.0, c.self.inside.requests.ok.0, c.in_default-pop.ensures.cases.0))

pub returns-in_default-pop-clause-items : goal.returns-in_default-pop-clause-items
returns-in_default-pop-clause-items c =
    let t = c.self.inside in
    let there = has_act t.marks.items t.requests.items t.bytes.items c.pop.new.self.items c.in-Some.mark c.self.invariant c.in-Some.ensures.items (ne_eqb c.in-Some.mark 255 c.if-mark.false) in
    absurd (omega (arith, there.0, c.self.inside.requests.ok.0, c.in_default-pop.ensures.cases.0))

pub returns-in_default-pop-clause-none : goal.returns-in_default-pop-clause-none
returns-in_default-pop-clause-none c =
    let t = c.self.inside in
    let there = has_act t.marks.items t.requests.items t.bytes.items c.pop.new.self.items c.in-Some.mark c.self.invariant c.in-Some.ensures.items (ne_eqb c.in-Some.mark 255 c.if-mark.false) in
    absurd (omega (arith, there.0, c.self.inside.requests.ok.0, c.in_default-pop.ensures.cases.0))

pub taken_off-old-requires-clause-there : goal.taken_off-old-requires-clause-there
taken_off-old-requires-clause-there c =
    let t = c.self.inside in
    (has_act t.marks.items t.requests.items t.bytes.items c.pop.new.self.items c.in-Some.mark c.self.invariant c.in-Some.ensures.items (ne_eqb c.in-Some.mark 255 c.if-mark.false)).1

pub invariant_of-self-2 : goal.invariant_of-self-2
invariant_of-self-2 c =
    let t = c.self.inside in
    (act_off t.marks.items t.requests.items t.bytes.items c.pop.new.self.items c.pop-2.new.self.items c.taken_off-old.new.bytes.items c.in-Some.mark c.in-Some-pop.b c.taken_off-old.result.items
    c.self.invariant c.in-Some.ensures.items c.in-Some-pop.ensures.items c.taken_off-old.ensures.items (ne_eqb c.in-Some.mark 255 c.if-mark.false) c.taken_off-old.ensures.len).0

pub returns-clause-items : goal.returns-clause-items
returns-clause-items c =
    let t = c.self.inside in
    sym c.self.view_is
    ∙ (act_off t.marks.items t.requests.items t.bytes.items c.pop.new.self.items c.pop-2.new.self.items c.taken_off-old.new.bytes.items c.in-Some.mark c.in-Some-pop.b c.taken_off-old.result.items
    c.self.invariant c.in-Some.ensures.items c.in-Some-pop.ensures.items c.taken_off-old.ensures.items (ne_eqb c.in-Some.mark 255 c.if-mark.false) c.taken_off-old.ensures.len).1
