use Rattle.std.proofs.Common.{◌≡◌, drop}
use Rattle.log_pieces.specs.InPieces.{subs, with_more}
use Rattle.log_pieces.proofs.splitting.put_subs.Given as goal

abbrev pub invariant-loop-op : goal.invariant-loop-op
invariant-loop-op l =
    with_more l.records (subs l.of.requester l.number l.of.n (drop l.op-index l.ops)) ≡ with_more l.fn.records (subs l.of.requester l.of.number l.of.n l.ops)
