use Rattle.hall_laws.specs.Rule.{parts, IsSoundTraced, Fits}
use Rattle.hall_laws.proofs.Moves.{split_keeps}
use Rattle.hall_laws.proofs.laws.split.Goals as goal

pub split_seat-requires : goal.split_seat-requires
split_seat-requires c = (c.requires.0, c.requires.1, split_keeps parts IsSoundTraced Fits _ _ c.requires.2)
