-- A monitor's box; its parts and a slot, which hold one.
use mathlib.Core.Path.{refl}
use Rattle.std.specs.Prelude.{Option, Some}
use Rattle.std_alloc.proofs.BoxSteps.Form.{Bx}
use Rattle.c_buffer.proofs.SlotMoves.{Holder, heap_box, parts_of}
use Rattle.monitor_ports.specs.contracts.monitor.Monitor as Monitor
use Rattle.monitor_ports.proofs.monitor.Monitor.TheLaws as monitor
use Rattle.c_monitor.specs.contracts.slot.Slot as Slot

abbrev pub E : Bx
E = heap_box Monitor.the_row monitor.the_row_laws

abbrev pub parts : Holder E
parts = parts_of E (λ p a x ws. refl) (λ p. tt) (λ p f. refl)

abbrev pub slot : Holder E
slot = record {
  type = Slot.the_type;
  Held = Option E.row.Denot;
  one = Some;
  ptr = λ s. s.at;
  alloc = λ s. s.alloc;
  held = λ s. s.monitor;
  made = λ p a x. record { at = p; alloc = a; monitor = x };
  held_made = λ p a x. refl;
  made_of = λ s. refl;
  owns = λ p a x ws. refl;
  last = λ s. tt;
  silent = λ s f. refl;
}
