use Rattle.workers.proofs.Beginning.{stopped}
use Rattle.workers.proofs.running.ended.Goals as goal

pub returns-in-Some-clause-halt : goal.returns-in-Some-clause-halt
returns-in-Some-clause-halt c = λ p by. stopped p c.in-Some.stop c.of.result by.can c.of.ensures

pub returns-in-Err-clause-halt : goal.returns-in-Err-clause-halt
returns-in-Err-clause-halt c = λ p by. stopped p c.in-Err.stop c.of-in-Err.result by.can c.of-in-Err.ensures
