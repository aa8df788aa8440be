use Rattle.std.proofs.Common.{◌≡◌, ◌∙◌, ap}
use Rattle.seq_memory.specs.Limits.{Extent}
use Rattle.search_places.proofs.Readiness.{missed}
use Rattle.search_places.proofs.allowed.answers.Goals as goal

pub returns-then-waits : goal.returns-then-waits
returns-then-waits c =
    let base : c.base.result ≡ c.args.log.now.extent.base = c.base.ensures.value ∙ ap (λ (x : Extent). x.base) c.extent.ensures in
    missed c.args.log.now.extent c.base.result c.args.bytes.now c.args.op.now c.args.reply.now base (c.waits.ensures c.if-waits.true)
