-- The names under which faults are told.
use Rattle.std.specs.Prelude.{ℕ, List, codes}
use Rattle.tlp_core.specs.Fault as packets
use Rattle.monitor_ports.specs.declared.fault.MonitorFault.{MonitorFault}
use Rattle.monitor_ports.specs.declared.fault.MonitorFault.TheVariants as faults

abbrev pub name_of : MonitorFault → List ℕ
name_of faults.NoRequester = codes "NoRequester"
name_of (faults.Packet f) = packets.name_of f
name_of faults.NoRequest = codes "NoRequest"
name_of faults.NoCompletion = codes "NoCompletion"
name_of faults.OtherRequester = codes "OtherRequester"
name_of faults.TagInUse = codes "TagInUse"
name_of faults.Unexpected = codes "Unexpected"
name_of faults.Mismatch = codes "Mismatch"
name_of faults.NumbersUsed = codes "NumbersUsed"
name_of faults.Memory = codes "Memory"
