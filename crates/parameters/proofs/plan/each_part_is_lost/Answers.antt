use Rattle.parameters.proofs.Spread.{failed_in_a_row, lost_in_a_row, failed_alone_in_a_row, none_lost_in_a_row}
use Rattle.parameters.proofs.plan.each_part_is_lost.Goals as goal

pub returns-clause-failed : goal.returns-clause-failed
returns-clause-failed c = failed_in_a_row

pub returns-clause-lost : goal.returns-clause-lost
returns-clause-lost c = lost_in_a_row

pub returns-clause-failed_alone : goal.returns-clause-failed_alone
returns-clause-failed_alone c = failed_alone_in_a_row

pub returns-clause-none_lost : goal.returns-clause-none_lost
returns-clause-none_lost c = λ corrupt start. none_lost_in_a_row corrupt start 65536
