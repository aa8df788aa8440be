use Rattle.seq_memory.specs.History.{extent_of}
use Rattle.seq_memory.proofs.Histories.{contents-size}
use Rattle.seq_memory.proofs.memory.Memory.refusal.Goals as goal

pub returns-clause-size : goal.returns-clause-size
returns-clause-size g c = contents-size (extent_of c.args.self.now) c.args.self.now.entries
