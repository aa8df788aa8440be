-- A monitor's faults as failures of calls.
use Rattle.tlp_core.specs.Fault.{number_of}
use Rattle.monitor_ports.specs.declared.fault.MonitorFault.{MonitorFault}
use Rattle.monitor_ports.specs.declared.fault.MonitorFault.TheVariants as faults
use Rattle.c_buffer.specs.declared.outcome.Failure.{Failure}
use Rattle.c_buffer.specs.declared.outcome.Failure.TheVariants as failures

-- a packet's fault has its number, and what is wrong with its place at the port one from 20 on
abbrev pub failure_of : MonitorFault → Failure
failure_of (faults.Packet f) = failures.Fault (number_of f)
failure_of faults.TagInUse = failures.Fault 20
failure_of faults.Unexpected = failures.Fault 21
failure_of faults.Mismatch = failures.Fault 22
failure_of faults.OtherRequester = failures.Fault 23
failure_of faults.NumbersUsed = failures.Fault 24
failure_of faults.NoRequest = failures.NoRequest
failure_of faults.Memory = failures.NoMemory
failure_of faults.NoCompletion = failures.NoCompletion
failure_of faults.NoRequester = failures.NoRequester
