-- The numbers and names under which faults are reported.
use Rattle.std.specs.Prelude.{ℕ, List, codes}
use Rattle.config_core.specs.declared.fault.CfgFault.{CfgFault}
use Rattle.config_core.specs.declared.fault.CfgFault.TheVariants as faults

abbrev pub number_of : CfgFault → ℕ
number_of faults.Short = 1
number_of faults.Kind = 2
number_of faults.Digest = 3
number_of faults.Poisoned = 4
number_of faults.LengthMismatch = 5
number_of faults.Fields = 6

abbrev pub name_of : CfgFault → List ℕ
name_of faults.Short = codes "Short"
name_of faults.Kind = codes "Kind"
name_of faults.Digest = codes "Digest"
name_of faults.Poisoned = codes "Poisoned"
name_of faults.LengthMismatch = codes "LengthMismatch"
name_of faults.Fields = codes "Fields"
