use Rattle.endpoint_core.proofs.Ordering.{posted_acts, posted_leaves, others_wait, others_queue}
use Rattle.endpoint_core.proofs.Coming.{posted_write}
use Rattle.endpoint_core.proofs.laws.posted_requests_act_when_they_come.Goals as goal

pub returns-clause-acts : goal.returns-clause-acts
returns-clause-acts c = posted_acts

pub returns-clause-stays : goal.returns-clause-stays
returns-clause-stays c = posted_leaves

pub returns-clause-later : goal.returns-clause-later
returns-clause-later c = others_wait

pub returns-clause-writes : goal.returns-clause-writes
returns-clause-writes c = posted_write

pub returns-clause-waits : goal.returns-clause-waits
returns-clause-waits c = others_queue
