use Rattle.std.proofs.Common.{ap}
use Rattle.log_pieces.specs.declared.Granularity.{Granularity}
use Rattle.log_pieces.specs.InPieces.{in_pieces}
use Rattle.log_pieces.proofs.splitting.bytes_of.Goals as goal

pub returns-in-Four-clause-pieces : goal.returns-in-Four-clause-pieces
unfolding in_pieces
returns-in-Four-clause-pieces c = λ t. ap (λ (size : Granularity). in_pieces size t) c.in-Four.is

pub returns-in-Eight-clause-pieces : goal.returns-in-Eight-clause-pieces
unfolding in_pieces
returns-in-Eight-clause-pieces c = λ t. ap (λ (size : Granularity). in_pieces size t) c.in-Eight.is

pub returns-in-Sixteen-clause-pieces : goal.returns-in-Sixteen-clause-pieces
unfolding in_pieces
returns-in-Sixteen-clause-pieces c = λ t. ap (λ (size : Granularity). in_pieces size t) c.in-Sixteen.is

pub returns-in-SixtyFour-clause-pieces : goal.returns-in-SixtyFour-clause-pieces
unfolding in_pieces
returns-in-SixtyFour-clause-pieces c = λ t. ap (λ (size : Granularity). in_pieces size t) c.in-SixtyFour.is
