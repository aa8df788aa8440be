use Rattle.log_cells.proofs.Tables.{names_same, names_more}
use Rattle.log_cells.proofs.names.names_in.Goals as goal
use Rattle.log_cells.proofs.names.names_in.Goals.{then-not-is_apart+in_ok-push, else-not-is_apart}

pub loop-at-preserved : goal.loop-at-preserved
loop-at-preserved c = elim c.if-not-is_apart.branch [
  | then-not-is_apart+in_ok-push w ↦
      rw (w.names-is, w.in_ok-push.ensures.items) (names_more c.loop-at.names.items c.args.places.now c.args.low c.args.high c.loop-at.at c.loop-at.invariant)
  | else-not-is_apart w ↦
      rw (w.names-is) (names_same c.loop-at.names.items c.args.places.now c.args.low c.args.high c.loop-at.at (c.is_apart.ensures w.if-not-is_apart.false) c.loop-at.invariant)
]
