use Rattle.std.proofs.Common.{◌≡◌, [], replicate}
use Rattle.log_pieces.proofs.rows.rows.Given as goal

abbrev pub invariant-loop-turn : goal.invariant-loop-turn
invariant-loop-turn l = l.rows.items ≡ replicate l.turn (record { next = 0; requests = [] })
