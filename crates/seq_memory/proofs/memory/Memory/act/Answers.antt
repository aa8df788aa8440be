use Rattle.std.proofs.Common.{◌≡◌, ◌∙◌, refl, ap, List, ℕ, length}
use Rattle.seq_memory.specs.Step.{after}
use Rattle.seq_memory.proofs.Histories.{stepped}
use Rattle.seq_memory.proofs.memory.Memory.act.Goals as goal

pub invariant_of-self-2 : goal.invariant_of-self-2
invariant_of-self-2 g c =
    let i = c.self.inside in
    let old = c.deref_mut.ensures.value in
    let op = c.args.entry.op in
    let step : c.perform.new.bytes ≡ after i.extent.base i.extent.block c.deref_mut.result.now op = rw (← c.base-base.ensures.value, ← c.block-block.ensures.value) c.perform.ensures.bytes in
    stepped i.extent i.bytes.len i.bytes.items c.perform.new.bytes (g.K.Keeper.entries i.past) (g.K.Keeper.entries c.add.new.self) c.args.entry op
    i.bytes.ok.0 (c.perform.auto.bytes ∙ ap (length {A = ℕ}) old) c.self.invariant
    (step ∙ ap (λ (m : List ℕ). after i.extent.base i.extent.block m op) old)
    refl
    c.in_ok-add.ensures.ok
