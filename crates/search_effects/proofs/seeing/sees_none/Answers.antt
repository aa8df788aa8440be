use Rattle.std.proofs.Common.{◌∙◌, ap}
use Rattle.seq_memory.specs.Step.{after}
use Rattle.search_effects.proofs.Answered.{seen_same}
use Rattle.search_effects.proofs.seeing.sees_none.Goals as goal

pub returns-clause-read : goal.returns-clause-read
returns-clause-read c = λ yes base block m.
    let (a, d, f, l, is) = c.is_read.ensures c.if-not-is_read.false in
    ap (after base block m) is ∙ c.refused_and_read_change_nothing.ensures.reads base block a d f l m

pub returns-clause-answer : goal.returns-clause-answer
returns-clause-answer c = λ yes base block m n.
    seen_same base block m n c.args.one.now c.args.other.now (c.is_read.ensures c.if-not-is_read.false) (c.needs_none.ensures yes)
