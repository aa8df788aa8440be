-- Packets of all kinds, TLPs, configuration requests and DLLPs, and their bytes.
use Rattle.std.specs.Prelude.{ℕ, ◌^◌, ◌<◌, ◌==◌, if◌then◌else◌, List, length, Result, Ok, Err}
use Rattle.tlp_core.specs.declared.fault.TlpFault.{TlpFault}
use Rattle.tlp_core.specs.declared.fault.TlpFault.TheVariants as of_tlps
use Rattle.tlp_core.specs.Bits.{IsBytes}
use Rattle.tlp_core.specs.TlpView as tlp
use Rattle.tlp_core.specs.Layout as tlp_layout
use Rattle.tlp_core.specs.Faults as tlp_faults
use Rattle.config_core.specs.declared.request.CfgRequest.{CfgRequest}
use Rattle.config_core.specs.declared.fault.CfgFault.{CfgFault}
use Rattle.config_core.specs.declared.fault.CfgFault.TheVariants as of_requests
use Rattle.config_core.specs.Layout as configuration
use Rattle.config_core.specs.Canonical as configuration_bytes
use Rattle.dllp_core.specs.declared.packet.Dllp.{Dllp}
use Rattle.dllp_core.specs.declared.fault.DllpFault.{DllpFault}
use Rattle.dllp_core.specs.Layout as dllp_layout
use Rattle.dllp_core.specs.Faults as dllp_faults
use Rattle.packet_text.specs.declared.packet.Packet.{Packet}
use Rattle.packet_text.specs.declared.packet.Packet.TheVariants as packets
use Rattle.packet_text.specs.declared.fault.BytesFault.{BytesFault}
use Rattle.packet_text.specs.declared.fault.BytesFault.TheVariants as faults

-- ---- which packets there are

-- a TLP of the grammar, each number in its field
pub record IsTlp (t : tlp.TlpView) : Type 0 where
  pub grammar : tlp.IsPacket t
  pub requester : t.requester < 2 ^ 16
  pub tag : t.tag < 2 ^ 8
  pub body : tlp.IsBodyInRange t.body
  pub payload : IsBytes t.payload

abbrev pub IsPacket : Packet → Type 0
IsPacket (packets.Tlp t) = IsTlp t
IsPacket (packets.Configuration r) = configuration_bytes.FitsFields r
IsPacket (packets.Dllp d) = dllp_layout.FitsFields d

-- the numbers that may be too great for their fields aren't: those of a configuration request, and a DLLP's data credits
abbrev pub FitsFields : Packet → Type 0
FitsFields (packets.Tlp t) = Unit {0}
FitsFields (packets.Configuration r) = configuration_bytes.FitsFields r
FitsFields (packets.Dllp d) = dllp_layout.FitsDataFC d

-- ---- bytes

abbrev pub of_configuration_fault : CfgFault → BytesFault
of_configuration_fault of_requests.Kind = faults.Tlp of_tlps.Kind
of_configuration_fault f = faults.Configuration f

-- what bytes are whose first byte is of no other TLP
abbrev pub of_other : Result CfgRequest CfgFault → Result Packet BytesFault
of_other (Ok r) = Ok (packets.Configuration r)
of_other (Err f) = Err (of_configuration_fault f)

abbrev pub of_tlp_fault : List ℕ → TlpFault → Result Packet BytesFault
of_tlp_fault bytes of_tlps.Kind = of_other (configuration.reading bytes)
of_tlp_fault bytes f = Err (faults.Tlp f)

abbrev pub of_tlp : List ℕ → Result tlp.TlpView TlpFault → Result Packet BytesFault
of_tlp bytes (Ok t) = Ok (packets.Tlp t)
of_tlp bytes (Err f) = of_tlp_fault bytes f

abbrev pub of_dllp : Result Dllp DllpFault → Result Packet BytesFault
of_dllp (Ok d) = Ok (packets.Dllp d)
of_dllp (Err f) = Err (faults.Dllp f)

-- four bytes are read as a DLLP, and any other number as a TLP, which may be a configuration request
abbrev pub reading : List ℕ → Result Packet BytesFault
reading bytes = if length bytes == 4 then of_dllp (dllp_faults.reading bytes) else of_tlp bytes (tlp_faults.reading bytes)

-- the one spelling with zeros in all ignored bits, and for a TLP with the shortest header
abbrev pub canonical : Packet → List ℕ
canonical (packets.Tlp t) = tlp_layout.canonical t
canonical (packets.Configuration r) = configuration_bytes.canonical r
canonical (packets.Dllp d) = dllp_layout.canonical d
