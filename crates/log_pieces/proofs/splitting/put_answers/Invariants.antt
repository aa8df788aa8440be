use Rattle.std.proofs.Common.{◌≡◌, drop}
use Rattle.op_pieces.specs.Pieces.{parts}
use Rattle.log_pieces.specs.InPieces.{answers, with_more}
use Rattle.log_pieces.proofs.splitting.put_answers.Given as goal

abbrev pub invariant-loop-at : goal.invariant-loop-at
invariant-loop-at l =
    with_more l.records (answers l.of.requester l.number l.of.n (parts (drop l.at l.ops) l.rest))
    ≡ with_more l.fn.records (answers l.of.requester l.of.number l.of.n (parts l.ops l.reply))
