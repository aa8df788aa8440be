-- A memory's box; its parts and a slot, which hold one.
use mathlib.Core.Path.{refl}
use Rattle.std.specs.Prelude.{Option, Some}
use Rattle.std_alloc.proofs.BoxSteps.Form.{Bx}
use Rattle.c_buffer.proofs.SlotMoves.{Holder, heap_box, parts_of}
use Rattle.seq_memory.specs.contracts.history.Kept as Kept
use Rattle.seq_memory.specs.contracts.history.KeptKeeper.TheImpl as keeper
use Rattle.seq_memory.proofs.history.Kept.TheLaws as kept
use Rattle.seq_memory.proofs.memory.Memory.TheLaws as memory
use Rattle.c_device.specs.contracts.slot.Slot as Slot
use Rattle.c_device.specs.Slot.{memory_row}

abbrev pub E : Bx
E = heap_box memory_row (memory.the_row_laws Kept.the_row keeper.ghosts kept.the_row_laws)

abbrev pub parts : Holder E
parts = parts_of E (λ p a x ws. refl) (λ p. tt) (λ p f. refl)

abbrev pub slot : Holder E
slot = record {
  type = Slot.the_type;
  Held = Option E.row.Denot;
  one = Some;
  ptr = λ s. s.at;
  alloc = λ s. s.alloc;
  held = λ s. s.memory;
  made = λ p a x. record { at = p; alloc = a; memory = x };
  held_made = λ p a x. refl;
  made_of = λ s. refl;
  owns = λ p a x ws. refl;
  last = λ s. tt;
  silent = λ s f. refl;
}
