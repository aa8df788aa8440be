-- What the slot owns goes with its two fields.
use Rattle.std.specs.Prelude.{◌≡◌, Some}
use base.Logic.{id⊢}
use contract.Monad.{fact}
use contract.Running.{tables_of}
use Rattle.c_buffer.proofs.SlotMoves.{met}
use Rattle.c_device.proofs.AsBox.{E, parts, slot}
use Rattle.c_device.specs.contracts.slot.into_parts.Key.{name as #self}
use Rattle.c_device.proofs.slot.into_parts.Statement as stated
use Rattle.c_device.proofs.slot.into_parts.Code as code

pub into_parts_spec : {M : Type 1} → stated.statement M
unfolding tables_of
into_parts_spec 𝓤 𝓛 𝓜 𝓡 wired =
    met E slot parts E.row.Denot (λ s x. x) 𝓛 (λ s x. fact 𝓤 (s.memory ≡ Some x)) (λ s x. id⊢ 𝓤 _) 𝓜 𝓡 #self (code.unfolded 𝓤 𝓛.H 𝓜 𝓡 wired)
