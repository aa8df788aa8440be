use Rattle.seq_memory.proofs.Steps.{reads_keep}
use Rattle.seq_memory.proofs.laws.refused_and_read_change_nothing.Goals as goal

pub returns-clause-reads : goal.returns-clause-reads
returns-clause-reads c = reads_keep
