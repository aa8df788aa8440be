use Rattle.search_effects.proofs.Yielding.{clashing_by}
use Rattle.search_effects.proofs.pairs.clashes.Goals as goal

pub returns : goal.returns
returns c = λ yes base block m.
    clashing_by c.what_is_needed_is_there.ensures base block m c.args.one.now c.args.other.now c.in-Data.old c.as_slice.result.now c.in-Data-reply.need c.as_slice-2.result.now c.args.told.now c.args.reply.now
    c.as_slice.ensures.value c.as_slice-2.ensures.value c.in-Data.is c.in-Data-reply.is (c.some_need_other.ensures yes)
