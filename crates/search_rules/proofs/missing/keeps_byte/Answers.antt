use Rattle.std.proofs.Common.{◌≡◌, ◌∙◌, ◌+◌, ap, sym}
use Rattle.seq_memory.specs.Limits.{Extent}
use Rattle.search_effects.specs.Effects.{told_of}
use Rattle.search_rules.proofs.ByteLemmas.{puts_by}
use Rattle.search_rules.proofs.missing.keeps_byte.Goals as goal

pub returns : goal.returns
returns c = λ yes.
    let low : c.base.result ≡ c.args.log.now.extent.base = c.base.ensures.value ∙ ap (λ (e : Extent). e.base) c.extent-extent.ensures in
    let there : c.args.log.now.extent.base + c.args.need.place ≡ c.in-Some.address = ap (λ n. n + c.args.need.place) (sym low) ∙ sym c.in-Some.ensures.1 in
    puts_by c.args.log.now.extent c.block.result c.in-Some.address c.args.need.place c.args.need.value c.args.op.now (told_of c.args.told)
    (c.block.ensures.value ∙ ap (λ (e : Extent). e.block) c.extent-extent.ensures) there (c.never_puts.ensures yes)
