use Rattle.log_text.proofs.FaultLemmas.{trace-known, seen-known}
use Rattle.log_text.proofs.laws.no_fault_is_out_of_memory.Goals as goal

pub returns-clause-trace : goal.returns-clause-trace
returns-clause-trace c = trace-known

pub returns-clause-seen : goal.returns-clause-seen
returns-clause-seen c = seen-known
