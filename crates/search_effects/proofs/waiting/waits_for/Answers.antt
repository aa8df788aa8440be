use Rattle.search_effects.proofs.WaitingOf.{waits_by}
use Rattle.search_effects.proofs.waiting.waits_for.Goals as goal

pub returns : goal.returns
returns c = λ yes block n.
    waits_by c.what_is_needed_is_there.ensures c.args.base block c.args.bytes.now n c.args.one.now c.args.other.now c.in-Data.old c.as_slice.result.now c.args.reply.now
    c.as_slice.ensures.value c.in-Data.is (c.some_differs.ensures yes)
