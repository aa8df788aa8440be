use Rattle.std.proofs.Common.{◌≤◌, length, subst}
use Rattle.requester_core.proofs.Requests.{is_packet, asks_for}
use Rattle.requester_core.proofs.request.sound_request.Goals as goal

pub invariant_of-result : goal.invariant_of-result
invariant_of-result c =
    rw (c.kind_for.ensures, c.length_for.ensures, c.address.ensures, c.enables_for-first.ensures.first, c.enables_for-first.ensures.last, c.payload_for.ensures.items)
    (is_packet c.args.op.now c.args.origin c.requires.sound c.requires.tc c.requires.attr (subst (λ xs. length xs ≤ 128) c.payload_for.ensures.items c.payload_for.ensures.range))

pub returns-clause-asks : goal.returns-clause-asks
returns-clause-asks c =
    rw (c.kind_for.ensures, c.length_for.ensures, c.address.ensures, c.enables_for-first.ensures.first, c.enables_for-first.ensures.last, c.payload_for.ensures.items)
    (asks_for c.args.op.now c.args.origin c.requires.sound)
