use Rattle.std.proofs.Common.{◌∙◌}
use Rattle.search_effects.proofs.Leaving.{write_by}
use Rattle.search_effects.proofs.puts.left_by_write.Goals as goal

pub returns-in-Write : goal.returns-in-Write
returns-in-Write c = λ base at m l put served.
    write_by c.only_the_place_changes.ensures.size c.only_the_place_changes.ensures.place c.args.op.now c.in-Write.address c.in-Write.first c.in-Write.last c.in-Write.bytes c.payload_of.result.items
    c.in-Write.is (c.payload_of.ensures.items ∙ c.as_slice.ensures.value) base c.args.block at m l put served
