use Rattle.tlp_core.proofs.Operations.{add_sound, swap_sound, halves_sound}
use Rattle.tlp_core.proofs.lent.op_lent.Goals as goal

pub returns-in-FetchAdd-clause-sound : goal.returns-in-FetchAdd-clause-sound
returns-in-FetchAdd-clause-sound c = rw (c.operand_of-width.ensures.width, c.operand_of-width.ensures.number) (add_sound c.tlp.inside.header.kind c.tlp.inside.header.body c.in-Request.address c.in-Request.first c.in-Request.last c.tlp.inside.header.length c.tlp.inside.payload.now c.tlp.invariant.fits c.in-FetchAdd.is c.in-Request.is c.slice_holds_bytes.ensures)

pub returns-in-Swap-clause-sound : goal.returns-in-Swap-clause-sound
returns-in-Swap-clause-sound c = rw (c.operand_of-width-in-Swap.ensures.width, c.operand_of-width-in-Swap.ensures.number) (swap_sound c.tlp.inside.header.kind c.tlp.inside.header.body c.in-Request.address c.in-Request.first c.in-Request.last c.tlp.inside.header.length c.tlp.inside.payload.now c.tlp.invariant.fits c.in-Swap.is c.in-Request.is c.slice_holds_bytes.ensures)

pub returns-in-Cas-clause-sound : goal.returns-in-Cas-clause-sound
returns-in-Cas-clause-sound c = rw (c.operand_of-width-in-Cas.ensures.width, c.operand_of-width-in-Cas.ensures.number, c.operand_of-swap.ensures.number) (halves_sound c.tlp.inside.header.kind c.tlp.inside.header.body c.in-Request.address c.in-Request.first c.in-Request.last c.tlp.inside.header.length c.tlp.inside.payload.now c.tlp.invariant.fits c.in-Cas.is c.in-Request.is c.slice_holds_bytes-in-Cas.ensures c.slice_holds_bytes-in-Cas-2.ensures)
