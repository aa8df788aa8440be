use Rattle.std.proofs.Common.{ℕ, sym, subst}
use Rattle.hall_laws.specs.Calls.{HasSlot}
use Rattle.hall_laws.proofs.Lanes.{part_within}
use Rattle.hall_laws.proofs.part.Part.slot.Goals as goal

pub returns-clause-within : goal.returns-clause-within
returns-clause-within c = λ z n sized named. subst (λ (k : ℕ). HasSlot z k) (sym c.part_slot.ensures) (part_within z n c.args.self sized named)
