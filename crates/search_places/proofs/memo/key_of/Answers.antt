use Rattle.std.proofs.Common.{◌∙◌}
use Rattle.search_places.specs.Known.{whole}
use Rattle.search_places.proofs.Knowing.{block_behind}
use Rattle.search_places.proofs.memo.key_of.Goals as goal

pub loop-rest-preserved : goal.loop-rest-preserved
loop-rest-preserved c =
    let (event, pending, even, bytes) = c.loop-rest.invariant in
    let new = c.in_ok-add_block.ensures in (
      new.event ∙ event,
      new.pending ∙ pending,
      new.even even,
      block_behind (whole c.loop-rest.key) (whole c.add_block.new.key) c.loop-rest.rest.now c.args.place.now.state.bytes bytes (new.bytes even),
    )
