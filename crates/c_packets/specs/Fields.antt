-- The fields of a TLP as numbers. Those that its kind lacks are 0.
use Rattle.std.specs.Prelude.{ℕ, ⊤, List, length, Result, Ok, Err}
use Rattle.tlp_core.specs.declared.fault.TlpFault.{TlpFault}
use Rattle.tlp_core.specs.declared.packet.Body.{Body}
use Rattle.tlp_core.specs.declared.packet.Body.TheVariants as bodies
use Rattle.tlp_core.specs.Fault.{number_of}
use Rattle.tlp_core.specs.Faults.{reading}
use Rattle.tlp_core.specs.Layout.{header_length, short_code, status_code}
use Rattle.tlp_core.specs.TlpView.{TlpView}
use Rattle.c_buffer.specs.declared.outcome.Failure.{Failure}
use Rattle.c_buffer.specs.declared.outcome.Failure.TheVariants.{Fault}
use Rattle.c_packets.specs.declared.fields.TlpFields.{TlpFields}

-- ---- of a request

abbrev pub address_in : Body → ℕ
address_in (bodies.Request a f l) = a
address_in _ = 0

abbrev pub first_in : Body → ℕ
first_in (bodies.Request a f l) = f
first_in _ = 0

abbrev pub last_in : Body → ℕ
last_in (bodies.Request a f l) = l
last_in _ = 0

-- ---- of a completion

abbrev pub completer_in : Body → ℕ
completer_in (bodies.Completion c s n lower) = c
completer_in _ = 0

abbrev pub status_in : Body → ℕ
status_in (bodies.Completion c s n lower) = status_code s
status_in _ = 0

abbrev pub byte_count_in : Body → ℕ
byte_count_in (bodies.Completion c s n lower) = n
byte_count_in _ = 0

abbrev pub lower_in : Body → ℕ
lower_in (bodies.Completion c s n lower) = lower
lower_in _ = 0

-- ---- of a packet

-- the kind is Fmt and Type of a header of 3 DW
abbrev pub fields_of : ℕ → TlpView → TlpFields
fields_of payload_start t = record {
  address = address_in t.body;
  payload_start = payload_start;
  payload_length = length t.payload;
  length = t.length;
  requester = t.requester;
  completer = completer_in t.body;
  byte_count = byte_count_in t.body;
  kind = short_code t.kind;
  tc = t.tc;
  attr = t.attr;
  tag = t.tag;
  first = first_in t.body;
  last = last_in t.body;
  status = status_in t.body;
  lower = lower_in t.body;
}

-- what a call returns, and the fields after it
pub record Decoded : Type 0 where
  pub outcome : Result ⊤ Failure
  pub fields : TlpFields

abbrev pub decoded : ℕ → TlpFields → Result TlpView TlpFault → Decoded
decoded payload_start fields (Ok t) = record { outcome = Ok tt; fields = fields_of payload_start t }
decoded payload_start fields (Err f) = record { outcome = Err (Fault (number_of f)); fields = fields }

-- the fields of the packet that bytes spell, whose payload is behind its header
abbrev pub in_fields : List ℕ → TlpFields → Decoded
in_fields bytes fields = decoded (header_length bytes) fields (reading bytes)
