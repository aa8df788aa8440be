use Rattle.std.proofs.Common.{◌∙◌, ap, ℕ, List, sym}
use Rattle.std.specs.Prelude.{replicate}
use Rattle.seq_memory.specs.History.{contents}
use Rattle.seq_memory.specs.Entries.{Entry}
use Rattle.seq_memory.proofs.Histories.{contents-none}
use Rattle.seq_memory.proofs.memory.Memory.with_keeper.Goals as goal

pub invariant_of-result : goal.invariant_of-result
invariant_of-result g c =
    c.in_ok-bytes.ensures.items ∙ ap (λ (n : ℕ). replicate n 0) c.size.ensures.value ∙ sym (contents-none c.args.extent)
    ∙ ap (λ (es : List Entry). contents c.args.extent es) (sym c.new.ensures)
