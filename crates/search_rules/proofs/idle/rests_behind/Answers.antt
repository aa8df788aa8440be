use Rattle.std.proofs.Common.{◌∙◌, ap}
use Rattle.seq_memory.specs.Limits.{Extent}
use Rattle.search_rules.proofs.PairLemmas.{sub_at}
use Rattle.search_rules.proofs.IdleLemmas.{rests_by}
use Rattle.search_rules.proofs.idle.rests_behind.Goals as goal

pub returns-in-Some-Sub : goal.returns-in-Some-Sub
returns-in-Some-Sub c = λ yes.
    rests_by c.args.log.now c.args.q c.in-Some-Sub.field-0-0 c.block.result c.in-Some-Sub.op c.args.made.op.now c.in-Some-Sub.field-0-2 c.args.made.reply.now
    (sub_at c.args.log.now.events c.args.q c.in-Some-Sub.field-0 c.in-Some-Sub.field-0-0 c.in-Some-Sub.op c.in-Some-Sub.field-0-2 c.in-Some-Sub.field-0-is c.in-Some-Sub.ensures)
    (c.block.ensures.value ∙ ap (λ (e : Extent). e.block) c.extent.ensures) (c.is_served.ensures.yes c.if-not-is_served.false) (c.rests.ensures yes)
