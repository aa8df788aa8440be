-- What happens to registers, one after another.
use Rattle.std.specs.Prelude.{ℕ, ◌==◌, ◌||◌, Bool, true, false, not, List, [], ◌∷◌, bit_and}
use Rattle.config_core.specs.declared.registers.Noted.{Noted}
use Rattle.config_core.specs.RegistersView.{RegistersView}
use Rattle.config_core.specs.Registers.{lanes, written, after_error, after_poison}

pub data Change : Type 0 where
  -- a write of the register at an offset, with these byte enables
  Write : ℕ → ℕ → ℕ → Change
  -- an error is reported
  Error : Noted → Change
  -- poisoned data came
  Poison : Change

abbrev pub after_change : RegistersView → Change → RegistersView
after_change r (Write offset enables new) = written r offset enables new
after_change r (Error error) = after_error r error
after_change r Poison = after_poison r

abbrev pub after_changes : RegistersView → List Change → RegistersView
after_changes r [] = r
after_changes r (change ∷ changes) = after_changes (after_change r change) changes

-- no write of that register enables a byte that has one of these bits
abbrev pub leaves : ℕ → ℕ → Change → Bool
leaves offset mask (Write o enables new) = not (o == offset) || (bit_and (lanes enables) mask == 0)
leaves offset mask (Error error) = true
leaves offset mask Poison = true

-- no write of that register has a 1 in one of these bits, in a byte that it enables
abbrev pub writes_no_one : ℕ → ℕ → Change → Bool
writes_no_one offset mask (Write o enables new) = not (o == offset) || (bit_and new (bit_and (lanes enables) mask) == 0)
writes_no_one offset mask (Error error) = true
writes_no_one offset mask Poison = true

-- each of them is a write
abbrev pub is_write : Change → Bool
is_write (Write o enables new) = true
is_write (Error error) = false
is_write Poison = false
