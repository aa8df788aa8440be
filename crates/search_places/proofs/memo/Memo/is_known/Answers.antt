use Rattle.std.proofs.Common.{sym, subst}
use Rattle.std.specs.List.{All}
use Rattle.search_places.specs.Known.{IsDeadEntry}
use Rattle.search_places.proofs.Knowing.{known_dead}
use Rattle.search_places.proofs.memo.Memo.is_known.Goals as goal

pub returns : goal.returns
returns c = λ log known place hit.
    known_dead log c.args.place.now c.in-Some-key_of.key c.in-Some-key_of.ensures.event c.in-Some-key_of.ensures.pending
    c.in-Some-key_of.ensures.bytes place
    (c.is_among.ensures log (subst (All (IsDeadEntry log)) (sym c.as_slice-2.ensures.value) known) hit)
