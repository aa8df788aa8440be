-- The fault under which it is told why words are no packet.
use Rattle.packet_text.specs.declared.fault.TextFault.{TextFault}
use Rattle.packet_text.specs.declared.fault.TextFault.TheVariants as faults
use Rattle.packet_text.specs.declared.fault.Unread.{Unread}
use Rattle.packet_text.specs.declared.fault.Unread.TheVariants as unread

-- where words don't fit isn't told
abbrev pub fault_of : Unread → TextFault
fault_of (unread.Words misfit) = faults.Words
fault_of (unread.Packet fault) = faults.Packet fault
