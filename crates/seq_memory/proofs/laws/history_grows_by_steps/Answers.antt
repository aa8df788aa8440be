use Rattle.seq_memory.proofs.Histories.{contents-none, contents-push, contents-at, contents-size}
use Rattle.seq_memory.proofs.laws.history_grows_by_steps.Goals as goal

pub returns-clause-none : goal.returns-clause-none
returns-clause-none c = contents-none

pub returns-clause-next : goal.returns-clause-next
returns-clause-next c = contents-push

pub returns-clause-at : goal.returns-clause-at
returns-clause-at c = λ x p es e at. contents-at x es p e at

pub returns-clause-size : goal.returns-clause-size
returns-clause-size c = contents-size
