-- The request for an operation (PCI Express Base 4.0, section 2.2.7).
use Rattle.std.specs.Prelude.{ℕ, ◌*◌, ◌/◌, List, [], ◌++◌, length, Option, Some, None, Result, Ok, Err}
use Rattle.byteorder.specs.Endian.{little_bytes}
use Rattle.tlp_core.specs.Ops.{Op}
use Rattle.tlp_core.specs.declared.operation.OpOf.TheVariants as ops
use Rattle.tlp_core.specs.declared.packet.Kind.{Kind}
use Rattle.tlp_core.specs.declared.packet.Kind.TheVariants as kinds
use Rattle.tlp_core.specs.declared.packet.Body.TheVariants as bodies
use Rattle.tlp_core.specs.declared.fault.TlpFault.{TlpFault}
use Rattle.tlp_core.specs.TlpView.{TlpView}
use Rattle.tlp_core.specs.Operation.{size_of, address_of}
use Rattle.requester_core.specs.declared.request.Origin.{Origin}

abbrev pub kind_for : Op → Kind
kind_for (ops.Read a dw f l) = kinds.MemoryRead
kind_for (ops.Write a f l bytes) = kinds.MemoryWrite
kind_for (ops.FetchAdd a w x) = kinds.FetchAdd
kind_for (ops.Swap a w x) = kinds.Swap
kind_for (ops.Cas a w x y) = kinds.Cas

-- Length, in DW; a CAS carries two operands
abbrev pub length_for : Op → ℕ
length_for (ops.Read a dw f l) = dw
length_for (ops.Write a f l bytes) = length bytes.items / 4
length_for (ops.FetchAdd a w x) = size_of w / 4
length_for (ops.Swap a w x) = size_of w / 4
length_for (ops.Cas a w x y) = size_of w / 2

-- First DW BE and Last DW BE; those of an AtomicOp are 0
abbrev pub first_for : Op → ℕ
first_for (ops.Read a dw f l) = f
first_for (ops.Write a f l bytes) = f
first_for _ = 0

abbrev pub last_for : Op → ℕ
last_for (ops.Read a dw f l) = l
last_for (ops.Write a f l bytes) = l
last_for _ = 0

-- operands are little-endian, the compare value first
abbrev pub payload_for : Op → List ℕ
payload_for (ops.Read a dw f l) = []
payload_for (ops.Write a f l bytes) = bytes.items
payload_for (ops.FetchAdd a w x) = little_bytes (size_of w) x
payload_for (ops.Swap a w x) = little_bytes (size_of w) x
payload_for (ops.Cas a w x y) = little_bytes (size_of w) x ++ little_bytes (size_of w) y

-- the request for the operation
abbrev pub request : Op → Origin → TlpView
request op o = record {
  kind = kind_for op;
  tc = o.tc;
  attr = o.attr;
  length = length_for op;
  requester = o.requester;
  tag = o.tag;
  body = bodies.Request (address_of op) (first_for op) (last_for op);
  payload = payload_for op;
}

-- the packet, if nothing keeps it from being one
abbrev pub unless : Option TlpFault → TlpView → Result TlpView TlpFault
unless (Some f) t = Err f
unless None t = Ok t

-- the request of that port, with TC 0, attributes 0 and that tag
abbrev pub request_for : ℕ → ℕ → Op → TlpView
request_for port tag op = request op (record { requester = port * 256; tag = tag; tc = 0; attr = 0 })
