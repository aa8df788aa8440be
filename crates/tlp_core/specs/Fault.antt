-- The numbers and names under which faults are told.
use Rattle.std.specs.Prelude.{ℕ, List, codes}
use Rattle.tlp_core.specs.declared.fault.TlpFault.{TlpFault}
use Rattle.tlp_core.specs.declared.fault.TlpFault.TheVariants as faults

abbrev pub number_of : TlpFault → ℕ
number_of faults.Short = 1
number_of faults.Prefix = 2
number_of faults.Kind = 3
number_of faults.TenBitTag = 4
number_of faults.Hints = 5
number_of faults.Digest = 6
number_of faults.Poisoned = 7
number_of faults.Translated = 8
number_of faults.LengthMismatch = 9
number_of faults.PayloadTooLong = 10
number_of faults.ByteEnables = 11
number_of faults.OperandSize = 12
number_of faults.Unaligned = 13

abbrev pub name_of : TlpFault → List ℕ
name_of faults.Short = codes "Short"
name_of faults.Prefix = codes "Prefix"
name_of faults.Kind = codes "Kind"
name_of faults.TenBitTag = codes "TenBitTag"
name_of faults.Hints = codes "Hints"
name_of faults.Digest = codes "Digest"
name_of faults.Poisoned = codes "Poisoned"
name_of faults.Translated = codes "Translated"
name_of faults.LengthMismatch = codes "LengthMismatch"
name_of faults.PayloadTooLong = codes "PayloadTooLong"
name_of faults.ByteEnables = codes "ByteEnables"
name_of faults.OperandSize = codes "OperandSize"
name_of faults.Unaligned = codes "Unaligned"
