use Rattle.std.proofs.Common.{◌∙◌, ap}
use Rattle.seq_memory.specs.Limits.{Extent}
use Rattle.search_effects.specs.Effects.{told_of}
use Rattle.search_rules.proofs.NeverLemmas.{refused_stays, quiet_by, unserved}
use Rattle.search_rules.proofs.pairs.is_quiet.Goals as goal

pub returns-then-is_quiet : goal.returns-then-is_quiet
returns-then-is_quiet c = λ yes m size agrees.
    quiet_by c.args.log.now.extent c.block.result c.args.op.now (told_of c.args.told) (c.block.ensures.value ∙ ap (λ (e : Extent). e.block) c.extent.ensures) (c.is_quiet.ensures c.if-is_quiet.true) m agrees

pub returns-then-is_none : goal.returns-then-is_none
returns-then-is_none c = λ yes m size agrees.
    let (r, e) = c.is_served.ensures.no (unserved c.is_served.result yes) in
    refused_stays c.refused_and_read_change_nothing.ensures.refused c.args.log.now.extent c.args.op.now r e m size
