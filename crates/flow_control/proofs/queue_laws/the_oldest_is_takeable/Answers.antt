use Rattle.flow_control.proofs.Places.{each, all}
use Rattle.flow_control.proofs.queue_laws.the_oldest_is_takeable.Goals as goal

pub returns-clause-each : goal.returns-clause-each
returns-clause-each c = each

pub returns-clause-all : goal.returns-clause-all
returns-clause-all c = all
