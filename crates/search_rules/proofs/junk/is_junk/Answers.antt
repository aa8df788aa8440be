use Rattle.std.proofs.Common.{◌∙◌, inl, inr, ap}
use Rattle.seq_memory.specs.Limits.{Extent}
use Rattle.search_effects.specs.Effects.{told_of}
use Rattle.search_rules.proofs.MissLemmas.{there_by}
use Rattle.search_rules.proofs.junk.is_junk.Goals as goal

pub returns-then-ignores : goal.returns-then-ignores
returns-then-ignores c = λ yes. elim (c.ignores.ensures c.if-ignores.true) [
  | inl apart ↦ inl apart
  | inr overlooks ↦ inr (inl overlooks)
]

pub returns : goal.returns
returns c = λ yes.
    inr (inr (there_by c.args.log.now.extent c.base.result c.args.bytes.now c.args.one.now c.args.other.now (told_of c.args.told) (c.base.ensures.value ∙ ap (λ (e : Extent). e.base) c.extent.ensures) (c.waits.ensures yes)))
