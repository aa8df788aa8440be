use Rattle.seq_memory.proofs.Histories.{reply-before, reply-seam, reply-past}
use Rattle.seq_memory.proofs.laws.replies_stay.Goals as goal

pub returns-clause-before : goal.returns-clause-before
returns-clause-before c = λ x p es fs h. reply-before x es fs p h

pub returns-clause-next : goal.returns-clause-next
returns-clause-next c = λ x es fs e. reply-seam x es e fs

pub returns-clause-past : goal.returns-clause-past
returns-clause-past c = λ x p es h. reply-past x es p h
