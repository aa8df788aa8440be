-- The numbers and names of what stops an engine.
use Rattle.std.specs.Prelude.{ℕ, List, codes}
use Rattle.line_loop.specs.declared.fault.EngineFault.{EngineFault}
use Rattle.line_loop.specs.declared.fault.EngineFault.TheVariants as faults

abbrev pub fault_number : EngineFault → ℕ
fault_number faults.Read = 1
fault_number faults.Write = 2
fault_number faults.Memory = 3

abbrev pub fault_name : EngineFault → List ℕ
fault_name faults.Read = codes "read"
fault_name faults.Write = codes "write"
fault_name faults.Memory = codes "memory"
