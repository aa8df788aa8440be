-- What becomes of the bytes of a TLP, whatever the state of the device (PCI Express Base 4.0, sections 2.2, 2.3.1 and 2.7).
use Rattle.std.specs.Prelude.{ℕ, ◌+◌, ◌-◌, ◌*◌, ◌/◌, ◌%◌, ◌==◌, ◌&&◌, ◌||◌, Bool, false, true, not, nat_lt, if◌then◌else◌, List, length, take, drop, slice_index, slice_set, Result, Ok, Err}
use Rattle.tlp_core.specs.Limits.{max_payload}
use Rattle.byteorder.specs.Endian.{big_number}
use Rattle.tlp_core.specs.declared.fault.TlpFault.{TlpFault}
use Rattle.tlp_core.specs.declared.fault.TlpFault.TheVariants as faults
use Rattle.tlp_core.specs.declared.packet.Kind.{Kind}
use Rattle.tlp_core.specs.declared.packet.Kind.TheVariants as kinds
use Rattle.tlp_core.specs.declared.packet.Body.{Body}
use Rattle.tlp_core.specs.declared.packet.Body.TheVariants as bodies
use Rattle.tlp_core.specs.TlpView.{TlpView}
use Rattle.tlp_core.specs.Bits.{bits, has_bit}
use Rattle.tlp_core.specs.Layout.{dw_count}
use Rattle.tlp_core.specs.Faults.{reading}
use Rattle.config_core.specs.declared.registers.Noted.TheVariants as noted
use Rattle.config_core.specs.declared.request.CfgRequest.{CfgRequest}
use Rattle.config_core.specs.declared.fault.CfgFault.{CfgFault}
use Rattle.config_core.specs.Layout as configuration
use Rattle.endpoint_core.specs.DescriptorView.{DescriptorView}
use Rattle.endpoint_core.specs.declared.received.Malformed.TheVariants as malformed
use Rattle.endpoint_core.specs.declared.received.Received.{Received}
use Rattle.endpoint_core.specs.declared.received.Received.TheVariants as received

-- ---- digest and poison

-- the longest TLP has 16 bytes of a header, 128 of a payload and 4 of a digest
abbrev pub longest : ℕ
longest = 148

-- EP, which counts in a TLP with data alone: Fmt bit 1 (section 2.7.2.1)
abbrev pub is_poisoned : List ℕ → Bool
is_poisoned b = has_bit b 0 6 && has_bit b 2 6

-- ---- bits that a receiver ignores

-- Fmt and Type: CplLk 0Bh and CplDLk 4Bh are completions, too
abbrev pub plain_code : ℕ → ℕ
plain_code code = if code == 0x0B then 0x0A else (if code == 0x4B then 0x4A else code)

-- byte 1 without T9, T8, LN and TH, of a configuration request without Attr[2], too
abbrev pub plain_hints : List ℕ → ℕ
plain_hints b =
    if configuration.is_kind (slice_index b 0) then bits b 1 4 3 * 16
    else bits b 1 4 3 * 16 + bits b 1 2 1 * 4

-- Fmt and Type of a memory read: 00h, 20h
abbrev pub is_read : ℕ → Bool
is_read code = (code == 0x00) || (code == 0x20)

-- byte 7: with TH a read has a Steering Tag there, and all its bytes are enabled (section 2.2.7.1)
abbrev pub plain_enables : List ℕ → ℕ
plain_enables b =
    if is_read (slice_index b 0) && has_bit b 1 0 then (if dw_count b == 1 then 0x0F else 0xFF) else slice_index b 7

-- where TD is 1 the last DW is the digest (section 2.2.3)
abbrev pub without_digest : List ℕ → List ℕ
without_digest b = take (if slice_index b 2 / 128 == 1 then length b - 4 else length b) b

-- the bytes without these bits, TD, EP and the digest
abbrev pub plain : List ℕ → List ℕ
plain b =
    slice_set (slice_set (slice_set (slice_set (without_digest b) 0 (plain_code (slice_index b 0))) 1 (plain_hints b))
    2 (slice_index b 2 % 64)) 7 (plain_enables b)

-- ---- memory requests and completions

-- a read or a write across a multiple of 4096
abbrev pub crosses_at : Kind → Body → ℕ → Bool
crosses_at kinds.MemoryRead (bodies.Request a f l) dw = nat_lt 4096 (a % 4096 + 4 * dw)
crosses_at kinds.MemoryWrite (bodies.Request a f l) dw = nat_lt 4096 (a % 4096 + 4 * dw)
crosses_at _ _ dw = false

abbrev pub crosses : TlpView → Bool
crosses t = crosses_at t.kind t.body t.length

abbrev pub descriptor_of : TlpView → DescriptorView
descriptor_of t = record { tc = t.tc; attr = t.attr; requester = t.requester; tag = t.tag }

abbrev pub by_kind : Kind → TlpView → Received
by_kind kinds.MemoryWrite t = received.Posted t
by_kind kinds.Completion t = received.Unexpected
by_kind kinds.CompletionData t = received.Unexpected
by_kind _ t = received.NonPosted t

abbrev pub poisoned_by_kind : Kind → TlpView → Received
poisoned_by_kind kinds.MemoryWrite t = received.PoisonedPosted t
poisoned_by_kind kinds.Completion t = received.Unexpected
poisoned_by_kind kinds.CompletionData t = received.Unexpected
poisoned_by_kind _ t = received.PoisonedNonPosted t

abbrev pub of_packet : Bool → Result TlpView TlpFault → Received
of_packet poisoned (Err f) = received.Malformed (malformed.Packet f)
of_packet poisoned (Ok t) =
    if crosses t then received.Malformed malformed.Boundary
    else (if poisoned then poisoned_by_kind t.kind t else by_kind t.kind t)

-- ---- configuration requests

-- TC and attributes are 0
abbrev pub descriptor_for : CfgRequest → DescriptorView
descriptor_for r = record { tc = 0; attr = 0; requester = r.requester; tag = r.tag }

-- of Type 0, to function 0
abbrev pub is_supported : CfgRequest → Bool
is_supported r = not r.is_type_1 && (r.function == 0)

-- that it isn't supported goes before that it is poisoned (section 6.2.3.2.3)
abbrev pub of_configuration : Bool → Result CfgRequest CfgFault → Received
of_configuration poisoned (Err f) = received.Malformed (malformed.Configuration f)
of_configuration poisoned (Ok r) =
    if poisoned then received.Refused (descriptor_for r) (if is_supported r then noted.Poisoned else noted.Refused) else received.Configuration r

-- ---- I/O requests: IORd 02h, IOWr 42h, of 1 DW

abbrev pub is_io : ℕ → Bool
is_io code = (code == 0x02) || (code == 0x42)

abbrev pub io_size : ℕ → ℕ
io_size code = if code == 0x42 then 16 else 12

abbrev pub descriptor_at : List ℕ → DescriptorView
descriptor_at b = record { tc = bits b 1 4 3; attr = bits b 1 2 1 * 4 + bits b 2 4 2; requester = big_number 2 (drop 4 b); tag = slice_index b 6 }

abbrev pub of_io : List ℕ → Received
of_io b =
    if nat_lt (length b) 12 then received.Malformed (malformed.Packet faults.Short)
    else (if not (length b == io_size (slice_index b 0)) || not (dw_count b == 1) then received.Malformed (malformed.Packet faults.LengthMismatch)
    else received.Refused (descriptor_at b) noted.Refused)

-- ---- messages: Msg 30h to 37h, MsgD 70h to 77h, with a header of 4 DW

abbrev pub is_message_with_data : ℕ → Bool
is_message_with_data code = code / 8 == 14

abbrev pub is_message : ℕ → Bool
is_message code = (code / 8 == 6) || is_message_with_data code

-- Message Code: Unlock, Ignored messages, Set_Slot_Power_Limit, Vendor_Defined Type 1
abbrev pub is_ignored : ℕ → Bool
is_ignored code =
    (code == 0x00) || (code == 0x40) || (code == 0x41) || (code == 0x43) || (code == 0x44) || (code == 0x45) || (code == 0x47) || (code == 0x48)
    || (code == 0x50) || (code == 0x7F)

-- the bytes of data that Length promises
abbrev pub message_data : List ℕ → ℕ
message_data b = if is_message_with_data (slice_index b 0) then 4 * dw_count b else 0

abbrev pub of_message : Bool → List ℕ → Received
of_message poisoned b =
    if nat_lt (length b) 16 then received.Malformed (malformed.Packet faults.Short)
    else (if not (length b - 16 == message_data b) then received.Malformed (malformed.Packet faults.LengthMismatch)
    else (if nat_lt max_payload (message_data b) then received.Malformed (malformed.Packet faults.PayloadTooLong)
    else (if not (is_ignored (slice_index b 7)) then received.Unsupported noted.Unclaimed
    else (if poisoned then received.Unsupported noted.Dropped else received.Ignored))))

-- ---- any TLP

abbrev pub of_plain : Bool → List ℕ → Received
of_plain poisoned b =
    if configuration.is_kind (slice_index b 0) then of_configuration poisoned (configuration.reading b)
    else (if is_io (slice_index b 0) then of_io b
    else (if is_message (slice_index b 0) then of_message poisoned b
    else of_packet poisoned (reading b)))

abbrev pub becomes : List ℕ → Received
becomes b =
    if nat_lt longest (length b) then received.Malformed (malformed.Packet faults.PayloadTooLong)
    else (if nat_lt (length b) 12 then received.Malformed (malformed.Packet faults.Short)
    else of_plain (is_poisoned b) (plain b))

abbrev pub is_malformed : Received → Bool
is_malformed (received.Malformed f) = true
is_malformed _ = false

-- poisoned data comes in it
abbrev pub carries_poison : List ℕ → Bool
carries_poison b = is_poisoned b && not (is_malformed (becomes b))
