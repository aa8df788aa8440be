use Rattle.search_picture.proofs.Drawings.{each}
use Rattle.search_picture.proofs.laws.requests_are_drawn.Goals as goal

pub returns-clause-each : goal.returns-clause-each
returns-clause-each c = each
