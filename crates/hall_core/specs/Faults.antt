-- Why a hall isn't made.
use Rattle.std.specs.Prelude.{◌≤◌, ℕ, List, codes}
use Rattle.hall_core.specs.declared.fault.HallFault.{HallFault}
use Rattle.hall_core.specs.declared.fault.HallFault.TheVariants.{Seats, Memory}

-- a hall has 1 to 64 work seats
abbrev pub IsSeatCount : ℕ → Type 0
IsSeatCount work = (1 ≤ work) × (work ≤ 64)

-- the number of work seats is tested first; `Memory` comes only where it is right
abbrev pub HasHallFault : ℕ → HallFault → Type 0
HasHallFault work Seats = ¬ IsSeatCount work
HasHallFault work Memory = IsSeatCount work

abbrev pub hall_fault_number : HallFault → ℕ
hall_fault_number Seats = 1
hall_fault_number Memory = 2

abbrev pub hall_fault_name : HallFault → List ℕ
hall_fault_name Seats = codes "Seats"
hall_fault_name Memory = codes "Memory"
