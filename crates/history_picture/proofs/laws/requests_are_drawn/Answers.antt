use Rattle.history_picture.proofs.Drawings.{each, answered, dots}
use Rattle.history_picture.proofs.laws.requests_are_drawn.Goals as goal

pub returns : goal.returns
returns c = record { each = each; answered = answered; dots = dots }
