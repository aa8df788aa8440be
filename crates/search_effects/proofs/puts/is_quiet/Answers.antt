use Rattle.std.proofs.Common.{◌∙◌, ap}
use Rattle.seq_memory.specs.Step.{after}
use Rattle.search_effects.specs.Effects.{told_of}
use Rattle.search_effects.proofs.puts.is_quiet.Goals as goal

pub returns-then-is_read : goal.returns-then-is_read
returns-then-is_read c = λ yes base m agrees.
    let (a, d, f, l, is) = c.is_read.ensures c.if-is_read.true in
    ap (after base c.args.block m) is ∙ c.refused_and_read_change_nothing.ensures.reads base c.args.block a d f l m

pub returns-in-Some : goal.returns-in-Some
returns-in-Some c = λ yes base m agrees. c.is_kept_by.ensures yes base m (agrees c.in-Some.reply.now (ap told_of c.in-Some.is))
