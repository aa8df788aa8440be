-- The names of refusals, and their numbers in the order in which they are looked for.
use Rattle.std.specs.Prelude.{ℕ, List, codes}
use Rattle.dllp_core.specs.Faults.{number_of, name_of}
use Rattle.port_core.specs.declared.fault.EnterRefusal.{EnterRefusal}
use Rattle.port_core.specs.declared.fault.EnterRefusal.TheVariants.{NotActive, NoCredits, WindowFull, Memory}
use Rattle.port_core.specs.declared.fault.DllpRefusal.{DllpRefusal}
use Rattle.port_core.specs.declared.fault.DllpRefusal.TheVariants.{Bytes, NotOutstanding, CreditLimit}

abbrev pub enter_number : EnterRefusal → ℕ
enter_number NotActive = 1
enter_number (NoCredits class) = 2
enter_number WindowFull = 3
enter_number Memory = 4

abbrev pub enter_name : EnterRefusal → List ℕ
enter_name NotActive = codes "NotActive"
enter_name (NoCredits class) = codes "NoCredits"
enter_name WindowFull = codes "WindowFull"
enter_name Memory = codes "Memory"

abbrev pub dllp_number : DllpRefusal → ℕ
dllp_number (Bytes fault) = number_of fault
dllp_number NotOutstanding = 4
dllp_number CreditLimit = 5

abbrev pub dllp_name : DllpRefusal → List ℕ
dllp_name (Bytes fault) = name_of fault
dllp_name NotOutstanding = codes "NotOutstanding"
dllp_name CreditLimit = codes "CreditLimit"
