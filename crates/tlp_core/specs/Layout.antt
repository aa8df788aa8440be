-- The bytes of a packet: the tables of the base specification's packet headers.
use Rattle.std.specs.Prelude.{ℕ, ◌≡◌, ◌+◌, ◌*◌, ◌/◌, ◌%◌, ◌^◌, ◌≤◌, false, if◌then◌else◌, ◌==◌, ◌||◌, nat_lt, List, [], ◌∷◌, ◌++◌, length, drop, slice_index, Option, Some, None}
use Rattle.byteorder.specs.Endian.{big_number, big_bytes}
use Rattle.tlp_core.specs.declared.packet.Kind.{Kind}
use Rattle.tlp_core.specs.declared.packet.Kind.TheVariants as kinds
use Rattle.tlp_core.specs.declared.packet.Body.{Body}
use Rattle.tlp_core.specs.declared.packet.Body.TheVariants as bodies
use Rattle.tlp_core.specs.declared.packet.Status.{Status}
use Rattle.tlp_core.specs.declared.packet.Status.TheVariants as statuses
use Rattle.tlp_core.specs.Bits.{bits, has_bit}
use Rattle.tlp_core.specs.TlpView.{TlpView, IsPacket}

-- Fmt and Type, in byte 0
abbrev pub kind_of : ℕ → Option Kind
kind_of code =
    if (code == 0x00) || (code == 0x20) then Some kinds.MemoryRead
    else (if (code == 0x40) || (code == 0x60) then Some kinds.MemoryWrite
    else (if (code == 0x4C) || (code == 0x6C) then Some kinds.FetchAdd
    else (if (code == 0x4D) || (code == 0x6D) then Some kinds.Swap
    else (if (code == 0x4E) || (code == 0x6E) then Some kinds.Cas
    else (if code == 0x0A then Some kinds.Completion
    else (if code == 0x4A then Some kinds.CompletionData
    else None))))))

-- the number, where 0 stands for the greatest
abbrev pub or_all : ℕ → ℕ → ℕ
or_all greatest n = if n == 0 then greatest else n

-- a header of 4 DWs has bit 5 of byte 0
abbrev pub header_length : List ℕ → ℕ
header_length bytes = if has_bit bytes 0 5 then 16 else 12

-- Length, in DWs
abbrev pub dw_count : List ℕ → ℕ
dw_count bytes = or_all 1024 (bits bytes 2 0 2 * 256 + slice_index bytes 3)

-- the address of a request: its two lowest bits are ignored
abbrev pub address_of : List ℕ → ℕ
address_of bytes =
    if has_bit bytes 0 5 then big_number 8 (drop 8 bytes) / 4 * 4 else big_number 4 (drop 8 bytes) / 4 * 4

abbrev pub status_of : ℕ → Status
status_of code = if code == 0 then statuses.Success else (if code == 4 then statuses.Aborted else statuses.Unsupported)

abbrev pub request_at : List ℕ → Body
request_at bytes = bodies.Request (address_of bytes) (bits bytes 7 0 4) (bits bytes 7 4 4)

-- byte enables of an AtomicOp are ignored
abbrev pub atomic_at : List ℕ → Body
atomic_at bytes = bodies.Request (address_of bytes) 0 0

abbrev pub completion_at : List ℕ → Body
completion_at bytes =
    bodies.Completion (big_number 2 (drop 4 bytes)) (status_of (bits bytes 6 5 3)) (or_all 4096 (bits bytes 6 0 4 * 256 + slice_index bytes 7)) (bits bytes 11 0 7)

abbrev pub body_at : Kind → List ℕ → Body
body_at kinds.MemoryRead = request_at
body_at kinds.MemoryWrite = request_at
body_at kinds.Completion = completion_at
body_at kinds.CompletionData = completion_at
body_at _ = atomic_at

-- a completion without data has no length
abbrev pub length_at : Kind → List ℕ → ℕ
length_at kinds.Completion bytes = 0
length_at _ bytes = dw_count bytes

-- where the Requester ID and behind it the tag stand
abbrev pub requester_place : Kind → ℕ
requester_place kinds.Completion = 8
requester_place kinds.CompletionData = 8
requester_place _ = 4

-- T9, T8, LN, TH, TD, EP and AT are 0
pub record AreReservedZero (bytes : List ℕ) : Type 0 where
  pub t9 : has_bit bytes 1 7 ≡ false
  pub t8 : has_bit bytes 1 3 ≡ false
  pub ln : has_bit bytes 1 1 ≡ false
  pub th : has_bit bytes 1 0 ≡ false
  pub td : has_bit bytes 2 7 ≡ false
  pub ep : has_bit bytes 2 6 ≡ false
  pub at : bits bytes 2 2 2 ≡ 0

-- The bytes are a header and the payload behind it, each field where the tables have it. No other bit counts.
pub record Spells (bytes : List ℕ) (t : TlpView) : Type 0 where
  pub whole : header_length bytes ≤ length bytes
  pub kind : kind_of (slice_index bytes 0) ≡ Some t.kind
  pub reserved : AreReservedZero bytes
  pub tc : t.tc ≡ bits bytes 1 4 3
  pub attr : t.attr ≡ bits bytes 1 2 1 * 4 + bits bytes 2 4 2
  pub dws : t.length ≡ length_at t.kind bytes
  pub requester : t.requester ≡ big_number 2 (drop (requester_place t.kind) bytes)
  pub tag : t.tag ≡ slice_index bytes (requester_place t.kind + 2)
  pub body : t.body ≡ body_at t.kind bytes
  pub payload : t.payload ≡ drop (header_length bytes) bytes
  pub grammar : IsPacket t

-- the packet that the tables read, its grammar aside
abbrev pub packet_at : List ℕ → Kind → TlpView
packet_at b k = record { kind = k; tc = bits b 1 4 3; attr = bits b 1 2 1 * 4 + bits b 2 4 2; length = length_at k b; requester = big_number 2 (drop (requester_place k) b); tag = slice_index b (requester_place k + 2); body = body_at k b; payload = drop (header_length b) b }

-- ---- the canonical bytes

abbrev pub short_code : Kind → ℕ
short_code kinds.MemoryRead = 0x00
short_code kinds.MemoryWrite = 0x40
short_code kinds.FetchAdd = 0x4C
short_code kinds.Swap = 0x4D
short_code kinds.Cas = 0x4E
short_code kinds.Completion = 0x0A
short_code kinds.CompletionData = 0x4A

-- the first byte: the header of 4 DWs is for addresses that need it
abbrev pub code_of : Kind → Body → ℕ
code_of kind (bodies.Request a f l) = if nat_lt a (2 ^ 32) then short_code kind else short_code kind + 32
code_of kind (bodies.Completion c s n lower) = short_code kind

abbrev pub status_code : Status → ℕ
status_code statuses.Success = 0
status_code statuses.Unsupported = 1
status_code statuses.Aborted = 4

-- bytes 4 to the header's end
abbrev pub rest_of_header : ℕ → ℕ → Body → List ℕ
rest_of_header requester tag (bodies.Request a f l) =
    big_bytes 2 requester ++ (tag ∷ (l * 16 + f) ∷ []) ++ (if nat_lt a (2 ^ 32) then big_bytes 4 a else big_bytes 8 a)
rest_of_header requester tag (bodies.Completion c s n lower) =
    big_bytes 2 c ++ ((status_code s * 32 + n % 4096 / 256) ∷ (n % 256) ∷ []) ++ big_bytes 2 requester ++ (tag ∷ lower ∷ [])

-- the one spelling with the shortest header and zeros in all ignored bits
abbrev pub canonical : TlpView → List ℕ
canonical t =
    (code_of t.kind t.body ∷ (t.tc * 16 + t.attr / 4 * 4) ∷ (t.attr % 4 * 16 + t.length % 1024 / 256) ∷ (t.length % 256) ∷ [])
    ++ rest_of_header t.requester t.tag t.body ++ t.payload
