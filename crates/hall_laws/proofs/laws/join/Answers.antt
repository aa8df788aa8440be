use Rattle.hall_laws.specs.Rule.{parts, IsSoundTraced, Fits}
use Rattle.hall_laws.proofs.Moves.{join_keeps}
use Rattle.hall_laws.proofs.laws.join.Goals as goal

pub join_seat-requires : goal.join_seat-requires
join_seat-requires c = (c.requires.0, c.requires.1, c.requires.3, c.requires.2, join_keeps parts IsSoundTraced Fits _ _ _ _)
