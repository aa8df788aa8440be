use Rattle.std.proofs.Common.{◌∙◌, ap}
use Rattle.seq_memory.specs.Limits.{Extent}
use Rattle.search_effects.specs.Effects.{told_of}
use Rattle.search_words.proofs.WordLemmas.{leaves_by}
use Rattle.search_words.proofs.words.put_at.Goals as goal

pub returns-clause-leaves : goal.returns-clause-leaves
returns-clause-leaves c =
    let x = c.args.log.now.extent in
    leaves_by x c.base.result c.block.result c.args.word c.in_ok-value.value c.args.op.now (told_of c.args.told) c.left-new.result.items c.as_slice.result.now
    (c.base.ensures.value ∙ ap (λ (e : Extent). e.base) c.extent-2.ensures) (c.block.ensures.value ∙ ap (λ (e : Extent). e.block) c.extent.ensures) c.as_slice.ensures.value
    c.in_ok-value.ensures.puts c.left-new.ensures
