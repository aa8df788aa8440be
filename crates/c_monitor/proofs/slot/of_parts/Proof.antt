-- What the parts own goes with their two fields.
use mathlib.Core.Path.{refl}
use base.Logic.{emp}
use contract.Monad.{fact_i}
use contract.Running.{tables_of}
use Rattle.c_buffer.proofs.SlotMoves.{met}
use Rattle.c_monitor.proofs.AsBox.{E, parts, slot}
use Rattle.c_monitor.specs.contracts.slot.of_parts.Key.{name as #self}
use Rattle.c_monitor.proofs.slot.of_parts.Statement as stated
use Rattle.c_monitor.proofs.slot.of_parts.Code as code

pub of_parts_spec : {M : Type 1} → stated.statement M
unfolding tables_of
of_parts_spec 𝓤 𝓛 𝓜 𝓡 wired =
    met E parts slot (Unit {0}) (λ p _. p.value) 𝓛 (λ p _. emp 𝓤) (λ p _. fact_i 𝓤 _ _ refl) 𝓜 𝓡 #self (code.unfolded 𝓤 𝓛.H 𝓜 𝓡 wired)
