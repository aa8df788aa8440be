use Rattle.endpoint_core.proofs.Reports.{unclaimed_write, unclaimed_atomic}
use Rattle.endpoint_core.proofs.laws.unsupported_goes_before_poisoned.Goals as goal

pub returns-clause-posted : goal.returns-clause-posted
returns-clause-posted c = unclaimed_write

pub returns-clause-waits : goal.returns-clause-waits
returns-clause-waits c = unclaimed_atomic
