use Rattle.search_effects.specs.Effects.{told_of}
use Rattle.search_effects.proofs.Yielding.{broken_by}
use Rattle.search_effects.proofs.pairs.breaks.Goals as goal

pub returns : goal.returns
returns c = λ yes base m n served agrees same.
    broken_by c.what_is_needed_is_there.ensures base c.args.block m n c.args.one.now c.args.other.now (told_of c.args.told) c.left-new.result.items c.as_slice.result.now c.in-Data.need c.as_slice-2.result.now c.args.reply.now
    (c.left-new.ensures base) c.as_slice.ensures.value c.as_slice-2.ensures.value c.in-Data.is (c.some_put_other.ensures yes) served agrees same
