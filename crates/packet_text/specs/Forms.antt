-- The packet that a line of words spells.
use Rattle.std.specs.Prelude.{ℕ, ◌+◌, ◌*◌, ◌/◌, ◌%◌, ◌==◌, ◌||◌, Bool, true, false, not, nat_lt, if◌then◌else◌, List, [], ◌∷◌, length, take, drop, codes, bytes_eq, Option, Some, None, Result, Ok, Err}
use Rattle.std.specs.Char.{digit_value}
use Rattle.byteorder.specs.Endian.{little_number}
use Rattle.tlp_core.specs.Ops.{Op}
use Rattle.tlp_core.specs.declared.packet.Kind.TheVariants as kinds
use Rattle.tlp_core.specs.declared.packet.Body.TheVariants as bodies
use Rattle.tlp_core.specs.declared.packet.Status.{Status}
use Rattle.tlp_core.specs.declared.packet.Status.TheVariants as statuses
use Rattle.tlp_core.specs.declared.fault.TlpFault.{TlpFault}
use Rattle.tlp_core.specs.declared.fault.TlpFault.TheVariants as tlp_faults
use Rattle.tlp_core.specs.Operation.{op_fault}
use Rattle.tlp_core.specs.TlpView as tlp
use Rattle.config_core.specs.declared.request.CfgRequest.{CfgRequest}
use Rattle.dllp_core.specs.declared.packet.Class.{Class}
use Rattle.dllp_core.specs.declared.packet.Class.TheVariants as classes
use Rattle.dllp_core.specs.declared.packet.Dllp.{Dllp}
use Rattle.dllp_core.specs.declared.packet.Dllp.TheVariants as dllps
use Rattle.requester_core.specs.declared.request.Origin.{Origin}
use Rattle.requester_core.specs.Request.{request, unless}
use Rattle.operation_text.specs.Words.{words, then_with, first_field, field, ended}
use Rattle.operation_text.specs.Numbers.{numeral, byte_string}
use Rattle.operation_text.specs.Operations as operations
use Rattle.packet_text.specs.declared.packet.Packet.{Packet}
use Rattle.packet_text.specs.declared.packet.Packet.TheVariants as packets
use Rattle.packet_text.specs.declared.completion.Completer.{Completer}
use Rattle.packet_text.specs.declared.configuration.Access.{Access}
use Rattle.packet_text.specs.declared.fault.TextFault.{TextFault}
use Rattle.packet_text.specs.declared.fault.TextFault.TheVariants as faults

-- ---- fields

-- a hexadecimal digit, of either case
abbrev pub digit : ℕ → Option ℕ
digit c = if nat_lt (digit_value c) 16 then Some (digit_value c) else None

-- a tag: two digits
abbrev pub octet : List ℕ → Option ℕ
octet (a ∷ b ∷ []) = then_with (digit a) (λ high. then_with (digit b) (λ low. Some (high * 16 + low)))
octet _ = None

-- a sequence number: three digits
abbrev pub sequence : List ℕ → Option ℕ
sequence (a ∷ b ∷ c ∷ []) = then_with (digit a) (λ high. then_with (octet (b ∷ c ∷ [])) (λ low. Some (high * 256 + low)))
sequence _ = None

-- a Requester ID or Completer ID: four digits
abbrev pub id : List ℕ → Option ℕ
id (a ∷ b ∷ c ∷ d ∷ []) = then_with (octet (a ∷ b ∷ [])) (λ high. then_with (octet (c ∷ d ∷ [])) (λ low. Some (high * 256 + low)))
id _ = None

-- what follows a word that has to stand there
abbrev pub behind : List ℕ → List (List ℕ) → Option (List (List ℕ))
behind name [] = None
behind name (w ∷ ws) = if bytes_eq w name then Some ws else None

abbrev pub keyword : {Y : Type 0} → List ℕ → (List (List ℕ) → Option Y) → List (List ℕ) → Option Y
keyword name f ws = then_with (behind name ws) f

-- a number of three bits behind its name, 0 where the name is not there
abbrev pub named : List ℕ → List (List ℕ) → Option (ℕ × List (List ℕ))
named name [] = Some (0, [])
named name (w ∷ ws) = if bytes_eq w name then first_field (numeral 10 7) ws else Some (0, w ∷ ws)

-- ---- what all TLPs have

-- Traffic Class and attributes end the line
abbrev pub class : List (List ℕ) → Option (ℕ × ℕ)
class ws = then_with (named (codes "tc") ws) (λ tc. then_with (named (codes "attr") tc.1) (λ attr. ended (tc.0, attr.0) attr.1))

-- a Requester ID and a tag
abbrev pub id_and_tag : List (List ℕ) → Option ((ℕ × ℕ) × List (List ℕ))
id_and_tag ws = field id (λ requester. keyword (codes "tag") (field octet (λ tag rest. Some ((requester, tag), rest)))) ws

abbrev pub origin_with : ℕ → ℕ → List (List ℕ) → Option Origin
origin_with requester tag ws = then_with (class ws) (λ p. Some (record { requester = requester; tag = tag; tc = p.0; attr = p.1 }))

-- ---- requests

-- the text before the last ` from `, and the text behind it
abbrev pub begins : List ℕ → Option (List ℕ × List ℕ)
begins line = if bytes_eq (take 6 line) (codes " from ") then Some ([], drop 6 line) else None

abbrev pub cut_by : Option (List ℕ × List ℕ) → ℕ → List ℕ → Option (List ℕ × List ℕ)
cut_by (Some p) c cs = Some (c ∷ p.0, p.1)
cut_by None c cs = begins (c ∷ cs)

abbrev pub cut_from : List ℕ → Option (List ℕ × List ℕ)
cut_from [] = None
cut_from (c ∷ cs) = cut_by (cut_from cs) c cs

abbrev pub origin : List (List ℕ) → Option Origin
origin ws = then_with (id_and_tag ws) (λ s. origin_with s.0.0 s.0.1 s.1)

abbrev pub request_by : Option Op → Option Origin → Option (Result tlp.TlpView TlpFault)
request_by op o = then_with op (λ op. then_with o (λ o. Some (unless (op_fault op) (request op o))))

abbrev pub request_of : List ℕ → Option (Result tlp.TlpView TlpFault)
request_of line = then_with (cut_from line) (λ p. request_by (operations.op_spelled (words p.0)) (origin (words p.1)))

-- ---- completions

abbrev pub status : List ℕ → Option Status
status w =
    if bytes_eq w (codes "sc") then Some statuses.Success
    else (if bytes_eq w (codes "ur") then Some statuses.Unsupported
    else (if bytes_eq w (codes "ca") then Some statuses.Aborted else None))

-- the bytes of data, if they are there, before the word `to`
abbrev pub data_to : List (List ℕ) → Option (Option (List ℕ) × List (List ℕ))
data_to [] = None
data_to (w ∷ ws) =
    if bytes_eq w (codes "to") then Some (None, ws)
    else then_with (byte_string w) (λ bytes. keyword (codes "to") (λ rest. Some (Some bytes, rest)) ws)

-- Byte Count, 1 to 4096
abbrev pub byte_count : List ℕ → Option ℕ
byte_count w = then_with (numeral 10 4096 w) (λ n. if n == 0 then None else Some n)

-- Lower Address, 00 to 7F
abbrev pub lower : List ℕ → Option ℕ
lower w = then_with (octet w) (λ n. if nat_lt n 128 then Some n else None)

abbrev pub completer : List (List ℕ) → Option (Completer × List (List ℕ))
completer ws =
    keyword (codes "by") (field id (λ c. keyword (codes "count") (field byte_count (λ n. keyword (codes "lower") (field lower (λ l rest.
    Some (record { completer = c; byte_count = n; lower = l }, rest))))))) ws

-- data are whole DWs, one at least
abbrev pub data_fault : Option (List ℕ) → Option TlpFault
data_fault None = None
data_fault (Some bytes) = if (length bytes == 0) || not (length bytes % 4 == 0) then Some tlp_faults.LengthMismatch else None

-- the completion with that status and that data
abbrev pub completion : Status → Option (List ℕ) → Completer → Origin → tlp.TlpView
completion s None c o = record {
  kind = kinds.Completion;
  tc = o.tc;
  attr = o.attr;
  length = 0;
  requester = o.requester;
  tag = o.tag;
  body = bodies.Completion c.completer s c.byte_count c.lower;
  payload = [];
}
completion s (Some bytes) c o = record {
  kind = kinds.CompletionData;
  tc = o.tc;
  attr = o.attr;
  length = length bytes / 4;
  requester = o.requester;
  tag = o.tag;
  body = bodies.Completion c.completer s c.byte_count c.lower;
  payload = bytes;
}

abbrev pub completion_to : Status → Option (List ℕ) → List (List ℕ) → Option (Result tlp.TlpView TlpFault)
completion_to s bytes ws =
    then_with (id_and_tag ws) (λ w. then_with (completer w.1) (λ c. then_with (origin_with w.0.0 w.0.1 c.1) (λ o.
    Some (unless (data_fault bytes) (completion s bytes c.0 o)))))

abbrev pub completion_of : List (List ℕ) → Option (Result tlp.TlpView TlpFault)
completion_of ws = field status (λ s rest. then_with (data_to rest) (λ d. completion_to s d.0 d.1)) ws

-- ---- configuration requests

-- a read or a write, the second one of Type 1
abbrev pub access : List ℕ → Option Access
access w =
    if bytes_eq w (codes "cfgread") then Some (record { writes = false; is_type_1 = false })
    else (if bytes_eq w (codes "cfgread1") then Some (record { writes = false; is_type_1 = true })
    else (if bytes_eq w (codes "cfgwrite") then Some (record { writes = true; is_type_1 = false })
    else (if bytes_eq w (codes "cfgwrite1") then Some (record { writes = true; is_type_1 = true }) else None)))

abbrev pub at_most : ℕ → ℕ → Option ℕ
at_most most n = if nat_lt most n then None else Some n

-- a number of one or two digits, without a leading zero
abbrev pub short : ℕ → List ℕ → Option ℕ
short most (a ∷ []) = then_with (digit a) (at_most most)
short most (a ∷ b ∷ []) = if a == 48 then None else then_with (octet (a ∷ b ∷ [])) (at_most most)
short most _ = None

-- the one or two characters before a mark, and what is behind it
abbrev pub cut_second : ℕ → ℕ → ℕ → List ℕ → Option (List ℕ × List ℕ)
cut_second mark a b [] = None
cut_second mark a b (c ∷ cs) = if c == mark then Some (a ∷ b ∷ [], cs) else None

abbrev pub cut_at : ℕ → List ℕ → Option (List ℕ × List ℕ)
cut_at mark (a ∷ b ∷ cs) = if b == mark then Some (a ∷ [], cs) else cut_second mark a b cs
cut_at mark _ = None

-- a bus, a colon, a device of 0 to 1F, a point and a function of 0 to 7
abbrev pub function : List ℕ → Option (ℕ × ℕ × ℕ)
function w =
    then_with (cut_at 58 w) (λ b. then_with (cut_at 46 b.1) (λ d.
    then_with (short 255 b.0) (λ bus. then_with (short 31 d.0) (λ device. then_with (short 7 d.1) (λ n. Some (bus, device, n))))))

-- a register's offset: three digits, and a multiple of 4
abbrev pub register : List ℕ → Option ℕ
register w = then_with (sequence w) (λ n. if n % 4 == 0 then Some n else None)

-- First DW BE: one digit
abbrev pub enables : List ℕ → Option ℕ
enables w = numeral 16 15 w

-- four bytes in memory order
abbrev pub dw : List ℕ → Option ℕ
dw w = then_with (byte_string w) (λ bytes. if length bytes == 4 then Some (little_number 4 bytes) else None)

-- what is written; a read has no such word, and 0 stands for it
abbrev pub written : Bool → List (List ℕ) → Option (ℕ × List (List ℕ))
written true ws = first_field dw ws
written false ws = Some (0, ws)

-- the request behind its name; no Traffic Class and no attributes end the line
abbrev pub configuration_of : Access → List (List ℕ) → Option CfgRequest
configuration_of a ws =
    field function (λ f. field register (λ r. field enables (λ e rest. then_with (written a.writes rest) (λ v. keyword (codes "from") (λ last.
    then_with (id_and_tag last) (λ o. ended (record {
      writes = a.writes;
      is_type_1 = a.is_type_1;
      requester = o.0.0;
      tag = o.0.1;
      bus = f.0;
      device = f.1;
      function = f.2;
      register = r;
      enables = e;
      value = v.0;
    }) o.1)) v.1)))) ws

-- ---- DLLPs

abbrev pub credits : List ℕ → Option Class
credits w =
    if bytes_eq w (codes "p") then Some classes.Posted
    else (if bytes_eq w (codes "np") then Some classes.NonPosted
    else (if bytes_eq w (codes "cpl") then Some classes.Completion else None))

abbrev pub ack_of : List (List ℕ) → Option Dllp
ack_of ws = field sequence (λ n. ended (dllps.Ack n)) ws

abbrev pub nak_of : List (List ℕ) → Option Dllp
nak_of ws = field sequence (λ n. ended (dllps.Nak n)) ws

abbrev pub update_of : List (List ℕ) → Option Dllp
update_of ws = field credits (λ c. field (numeral 10 255) (λ header. field (numeral 10 4095) (λ units. ended (dllps.Update c header units)))) ws

-- ---- lines

abbrev pub dllp_read : Option Dllp → Result Packet TextFault
dllp_read None = Err faults.Words
dllp_read (Some d) = Ok (packets.Dllp d)

abbrev pub tlp_read : Option (Result tlp.TlpView TlpFault) → Result Packet TextFault
tlp_read None = Err faults.Words
tlp_read (Some (Err f)) = Err (faults.Packet f)
tlp_read (Some (Ok t)) = Ok (packets.Tlp t)

abbrev pub configuration_read : Option CfgRequest → Result Packet TextFault
configuration_read None = Err faults.Words
configuration_read (Some r) = Ok (packets.Configuration r)

-- a request begins with its operation
abbrev pub request_read : List ℕ → Option Access → List (List ℕ) → Result Packet TextFault
request_read line (Some a) ws = configuration_read (configuration_of a ws)
request_read line None ws = tlp_read (request_of line)

-- by the first word
abbrev pub read_by : List ℕ → List ℕ → List (List ℕ) → Result Packet TextFault
read_by line kind ws =
    if bytes_eq kind (codes "completion") then tlp_read (completion_of ws)
    else (if bytes_eq kind (codes "ack") then dllp_read (ack_of ws)
    else (if bytes_eq kind (codes "nak") then dllp_read (nak_of ws)
    else (if bytes_eq kind (codes "update") then dllp_read (update_of ws)
    else request_read line (access kind) ws)))

abbrev pub read_first : List ℕ → List (List ℕ) → Result Packet TextFault
read_first line [] = Err faults.Words
read_first line (kind ∷ ws) = read_by line kind ws

-- the packet that a line spells, or why it spells none
abbrev pub text_reading : List ℕ → Result Packet TextFault
text_reading line = read_first line (words line)
