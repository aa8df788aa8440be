-- The text of a packet: one line of words.
use Rattle.std.specs.Prelude.{ℕ, ◌/◌, ◌%◌, ◌==◌, if◌then◌else◌, Bool, true, false, List, [], ◌∷◌, ◌++◌, codes, Option, Some, None, Result, Ok, Err}
use Rattle.std.specs.Fmt.{decimal}
use Rattle.byteorder.specs.Endian.{little_bytes}
use Rattle.hex.specs.Hex.{encode_upper}
use Rattle.tlp_core.specs.Ops.{Op}
use Rattle.tlp_core.specs.declared.packet.Kind.{Kind}
use Rattle.tlp_core.specs.declared.packet.Kind.TheVariants as kinds
use Rattle.tlp_core.specs.declared.packet.Body.{Body}
use Rattle.tlp_core.specs.declared.packet.Body.TheVariants as bodies
use Rattle.tlp_core.specs.declared.packet.Status.{Status}
use Rattle.tlp_core.specs.declared.packet.Status.TheVariants as statuses
use Rattle.tlp_core.specs.declared.fault.TlpFault.{TlpFault}
use Rattle.tlp_core.specs.declared.fault.TlpFault.TheVariants as tlp_faults
use Rattle.tlp_core.specs.Fault as tlp_fault
use Rattle.tlp_core.specs.Operation.{op_of}
use Rattle.tlp_core.specs.TlpView as tlp
use Rattle.config_core.specs.declared.request.CfgRequest.{CfgRequest}
use Rattle.config_core.specs.declared.fault.CfgFault.{CfgFault}
use Rattle.config_core.specs.declared.fault.CfgFault.TheVariants as configuration_faults
use Rattle.config_core.specs.Fault as configuration_fault
use Rattle.dllp_core.specs.declared.packet.Class.{Class}
use Rattle.dllp_core.specs.declared.packet.Class.TheVariants as classes
use Rattle.dllp_core.specs.declared.packet.Dllp.{Dllp}
use Rattle.dllp_core.specs.declared.packet.Dllp.TheVariants as dllps
use Rattle.dllp_core.specs.declared.fault.DllpFault.{DllpFault}
use Rattle.dllp_core.specs.Faults as dllp_fault
use Rattle.operation_text.specs.Texts.{op_text, octet_text, sequence_text, hexadecimal}
use Rattle.packet_text.specs.declared.packet.Packet.{Packet}
use Rattle.packet_text.specs.declared.packet.Packet.TheVariants as packets
use Rattle.packet_text.specs.declared.fault.BytesFault.{BytesFault}
use Rattle.packet_text.specs.declared.fault.BytesFault.TheVariants as bytes_faults
use Rattle.packet_text.specs.declared.fault.TextFault.{TextFault}
use Rattle.packet_text.specs.declared.fault.TextFault.TheVariants as text_faults

-- ---- numbers with all their digits, hexadecimal and in capitals

-- a Requester ID, a Completer ID
abbrev pub id_text : ℕ → List ℕ
id_text n = octet_text (n / 256) ++ octet_text (n % 256)

-- ---- TLPs

-- a name and its number, nothing for 0
abbrev pub named : List ℕ → ℕ → List ℕ
named name n = if n == 0 then [] else name ++ decimal n

-- Traffic Class and attributes, those that are not 0
abbrev pub class_text : ℕ → ℕ → List ℕ
class_text tc attr = named (codes " tc ") tc ++ named (codes " attr ") attr

abbrev pub id_and_tag_text : ℕ → ℕ → List ℕ
id_and_tag_text requester tag = id_text requester ++ (codes " tag " ++ octet_text tag)

-- whose request it is
abbrev pub origin_text : tlp.TlpView → List ℕ
origin_text t = id_and_tag_text t.requester t.tag

abbrev pub request_text : tlp.TlpView → Op → List ℕ
request_text t op = op_text op ++ (codes " from " ++ (origin_text t ++ class_text t.tc t.attr))

abbrev pub status_text : Status → List ℕ
status_text statuses.Success = codes "sc"
status_text statuses.Unsupported = codes "ur"
status_text statuses.Aborted = codes "ca"

-- the data of a completion, where its kind has data
abbrev pub data_text : Kind → List ℕ → List ℕ
data_text kinds.CompletionData bytes = 32 ∷ encode_upper bytes
data_text _ bytes = []

-- Completer ID, Byte Count and Lower Address
abbrev pub completer_text : ℕ → ℕ → ℕ → List ℕ
completer_text completer count lower = codes " by " ++ (id_text completer ++ (codes " count " ++ (decimal count ++ (codes " lower " ++ octet_text lower))))

abbrev pub completion_text : tlp.TlpView → Body → List ℕ
completion_text t (bodies.Completion completer status count lower) =
    codes "completion " ++ (status_text status ++ (data_text t.kind t.payload ++ (codes " to " ++ (origin_text t
    ++ (completer_text completer count lower ++ class_text t.tc t.attr)))))
completion_text t (bodies.Request a f l) = []

abbrev pub tlp_text_by : Option Op → tlp.TlpView → List ℕ
tlp_text_by (Some op) t = request_text t op
tlp_text_by None t = completion_text t t.body

abbrev pub tlp_text : tlp.TlpView → List ℕ
tlp_text t = tlp_text_by (op_of t) t

-- ---- configuration requests

-- a read or a write, the second one of Type 1
abbrev pub access_text : Bool → Bool → List ℕ
access_text false false = codes "cfgread"
access_text false true = codes "cfgread1"
access_text true false = codes "cfgwrite"
access_text true true = codes "cfgwrite1"

-- a device on a bus, and its function
abbrev pub function_text : ℕ → ℕ → ℕ → List ℕ
function_text bus device function = hexadecimal bus ++ (codes ":" ++ (hexadecimal device ++ (codes "." ++ hexadecimal function)))

-- a register's offset, which has 12 bits, in three digits, and First DW BE
abbrev pub register_text : ℕ → ℕ → List ℕ
register_text register enables = sequence_text (register % 4096) ++ (codes " " ++ hexadecimal enables)

-- what is written, in memory order; a read has no such word
abbrev pub written_text : Bool → ℕ → List ℕ
written_text true value = codes " " ++ encode_upper (little_bytes 4 value)
written_text false value = []

abbrev pub configuration_text : CfgRequest → List ℕ
configuration_text r =
    access_text r.writes r.is_type_1 ++ (codes " " ++ (function_text r.bus r.device r.function ++ (codes " "
    ++ (register_text r.register r.enables ++ (written_text r.writes r.value ++ (codes " from " ++ id_and_tag_text r.requester r.tag))))))

-- ---- DLLPs

abbrev pub credits_text : Class → List ℕ
credits_text classes.Posted = codes "p"
credits_text classes.NonPosted = codes "np"
credits_text classes.Completion = codes "cpl"

abbrev pub dllp_text : Dllp → List ℕ
dllp_text (dllps.Ack n) = codes "ack " ++ sequence_text n
dllp_text (dllps.Nak n) = codes "nak " ++ sequence_text n
dllp_text (dllps.Update class header units) = codes "update " ++ (credits_text class ++ 32 ∷ (decimal header ++ 32 ∷ decimal units))

abbrev pub packet_text : Packet → List ℕ
packet_text (packets.Tlp t) = tlp_text t
packet_text (packets.Configuration r) = configuration_text r
packet_text (packets.Dllp d) = dllp_text d

-- ---- faults

abbrev pub fault_text : ℕ → List ℕ → List ℕ
fault_text number name = codes "fault " ++ (decimal number ++ 32 ∷ name)

abbrev pub tlp_fault_text : TlpFault → List ℕ
tlp_fault_text f = fault_text (tlp_fault.number_of f) (tlp_fault.name_of f)

-- the number of the fault of other TLPs that has this name, and behind them the next one
abbrev pub configuration_number : CfgFault → ℕ
configuration_number configuration_faults.Short = tlp_fault.number_of tlp_faults.Short
configuration_number configuration_faults.Kind = tlp_fault.number_of tlp_faults.Kind
configuration_number configuration_faults.Digest = tlp_fault.number_of tlp_faults.Digest
configuration_number configuration_faults.Poisoned = tlp_fault.number_of tlp_faults.Poisoned
configuration_number configuration_faults.LengthMismatch = tlp_fault.number_of tlp_faults.LengthMismatch
configuration_number configuration_faults.Fields = 14

abbrev pub configuration_fault_text : CfgFault → List ℕ
configuration_fault_text f = fault_text (configuration_number f) (configuration_fault.name_of f)

abbrev pub dllp_fault_text : DllpFault → List ℕ
dllp_fault_text f = fault_text (dllp_fault.number_of f) (dllp_fault.name_of f)

abbrev pub bytes_fault_name : BytesFault → List ℕ
bytes_fault_name (bytes_faults.Tlp f) = tlp_fault.name_of f
bytes_fault_name (bytes_faults.Configuration f) = configuration_fault.name_of f
bytes_fault_name (bytes_faults.Dllp f) = dllp_fault.name_of f

abbrev pub bytes_fault_text : BytesFault → List ℕ
bytes_fault_text (bytes_faults.Tlp f) = tlp_fault_text f
bytes_fault_text (bytes_faults.Configuration f) = configuration_fault_text f
bytes_fault_text (bytes_faults.Dllp f) = dllp_fault_text f

-- what bytes are read as, a packet or a fault
abbrev pub decoded_text : Result Packet BytesFault → List ℕ
decoded_text (Ok p) = packet_text p
decoded_text (Err f) = bytes_fault_text f

abbrev pub text_fault_name : TextFault → List ℕ
text_fault_name text_faults.Words = codes "words"
text_fault_name (text_faults.Packet f) = tlp_fault.name_of f

abbrev pub text_fault_text : TextFault → List ℕ
text_fault_text text_faults.Words = codes "fault words"
text_fault_text (text_faults.Packet f) = tlp_fault_text f
