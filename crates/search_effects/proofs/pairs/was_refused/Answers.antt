use Rattle.std.proofs.Common.{◌∙◌, inl, inr, Some, ap}
use Rattle.seq_memory.specs.Entries.{Reply}
use Rattle.search_effects.specs.Effects.{told_of}
use Rattle.search_effects.proofs.pairs.was_refused.Goals as goal

pub returns-in-Some : goal.returns-in-Some
returns-in-Some c = λ yes. elim (c.is_refusal.ensures yes) [
  | inl is ↦ inl (ap told_of c.in-Some.is ∙ ap (λ (r : Reply). Some r) is)
  | inr is ↦ inr (ap told_of c.in-Some.is ∙ ap (λ (r : Reply). Some r) is)
]
