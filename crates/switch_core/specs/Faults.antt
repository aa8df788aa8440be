-- The numbers and names under which refusals are told.
use Rattle.std.specs.Prelude.{ℕ, List, codes}
use Rattle.switch_core.specs.declared.fault.ForwardRefusal.{ForwardRefusal}
use Rattle.switch_core.specs.declared.fault.ForwardRefusal.TheVariants as refusals
use Rattle.lane_core.specs.Refusals.{name_of}

-- the place of a refusal in the order of the tests, from 1
abbrev pub refusal_number : ForwardRefusal → ℕ
refusal_number refusals.NotTakeable = 1
refusal_number (refusals.Lane r) = 2

abbrev pub refusal_name : ForwardRefusal → List ℕ
refusal_name refusals.NotTakeable = codes "NotTakeable"
refusal_name (refusals.Lane r) = name_of r
