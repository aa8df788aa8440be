-- The numbers and names under which faults are told, and the line that tells one.
use Rattle.std.specs.Prelude.{ℕ, ◌∷◌, ◌++◌, List, codes}
use Rattle.std.specs.Fmt.{decimal}
use Rattle.record_text.specs.declared.fault.ReadFault.{ReadFault}
use Rattle.record_text.specs.declared.fault.ReadFaultKind.{ReadFaultKind}
use Rattle.record_text.specs.declared.fault.ReadFaultKind.TheVariants as faults

abbrev pub number_of : ReadFaultKind → ℕ
number_of faults.Head = 1
number_of faults.Line = 2
number_of faults.Section = 3
number_of faults.Memory = 4

abbrev pub name_of : ReadFaultKind → List ℕ
name_of faults.Head = codes "Head"
name_of faults.Line = codes "Line"
name_of faults.Section = codes "Section"
name_of faults.Memory = codes "Memory"

abbrev pub fault_line : ReadFault → List ℕ
fault_line f = codes "fault " ++ decimal f.line ++ 32 ∷ name_of f.kind
