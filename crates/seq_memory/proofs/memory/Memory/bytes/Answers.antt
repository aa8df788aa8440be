use Rattle.std.proofs.Common.{◌∙◌, ap, length, ℕ}
use Rattle.seq_memory.specs.History.{MemoryView}
use Rattle.seq_memory.proofs.Histories.{contents-size}
use Rattle.seq_memory.proofs.memory.Memory.bytes.Goals as goal

pub returns-clause-size : goal.returns-clause-size
returns-clause-size g c =
    ap (length {A = ℕ}) (c.deref.ensures.value ∙ c.self.invariant) ∙ contents-size c.self.inside.extent (g.K.Keeper.entries c.self.inside.past)
    ∙ ap (λ (m : MemoryView). m.size) c.self.view_is
