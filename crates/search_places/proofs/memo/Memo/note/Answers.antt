use Rattle.search_places.proofs.Knowing.{key_of_dead}
use Rattle.search_places.proofs.memo.Memo.note.Goals as goal

pub returns-then-is_ok : goal.returns-then-is_ok
returns-then-is_ok c = λ log known place dead.
    c.add.ensures.dead log known (key_of_dead log c.args.place.now c.in-Some.key c.in-Some.ensures.event c.in-Some.ensures.pending c.in-Some.ensures.bytes place dead)

pub returns-else-is_ok : goal.returns-else-is_ok
returns-else-is_ok c = λ log known place dead.
    c.add.ensures.dead log known (key_of_dead log c.args.place.now c.in-Some.key c.in-Some.ensures.event c.in-Some.ensures.pending c.in-Some.ensures.bytes place dead)
