-- The completion that carries a reply (PCI Express Base 4.0, section 2.2.9).
use Rattle.std.specs.Prelude.{ℕ, ◌*◌, ◌/◌, List, [], length, Option, Some, None}
use Rattle.tlp_core.specs.declared.packet.Kind.{Kind}
use Rattle.tlp_core.specs.declared.packet.Kind.TheVariants as kinds
use Rattle.tlp_core.specs.declared.packet.Body.{Body}
use Rattle.tlp_core.specs.declared.packet.Body.TheVariants as bodies
use Rattle.tlp_core.specs.declared.packet.Status.{Status}
use Rattle.tlp_core.specs.declared.packet.Status.TheVariants as statuses
use Rattle.tlp_core.specs.Enables.{enables}
use Rattle.tlp_core.specs.TlpView.{TlpView}
use Rattle.seq_memory.specs.Entries.{Reply}
use Rattle.seq_memory.specs.declared.reply.ReplyOf.TheVariants as replies
use Rattle.completer_core.specs.Span.{span, low_address}

-- Byte Count: of a read the span of its enabled bytes, of an AtomicOp the operand's size
abbrev pub byte_count : Kind → Body → ℕ → ℕ
byte_count kinds.MemoryRead (bodies.Request a f l) dw = span (enables dw f l)
byte_count kinds.Cas body dw = 2 * dw
byte_count _ body dw = 4 * dw

-- Lower Address: of a read that of its first enabled byte, of an AtomicOp 0
abbrev pub lower_address : Kind → Body → ℕ → ℕ
lower_address kinds.MemoryRead (bodies.Request a f l) dw = low_address a (enables dw f l)
lower_address _ body dw = 0

-- what carries the bytes back: the request's Requester ID, tag, TC and attributes, Completer ID 0, and the Byte
-- Count and Lower Address that a served request has, whatever the status
abbrev pub completion : TlpView → Kind → Status → List ℕ → TlpView
completion t kind status bytes =
    record { kind = kind; tc = t.tc; attr = t.attr; length = length bytes / 4; requester = t.requester; tag = t.tag; body = bodies.Completion 0 status (byte_count t.kind t.body t.length) (lower_address t.kind t.body t.length); payload = bytes }

-- data makes a CplD with status SC, a refusal a Cpl with status UR or CA
abbrev pub completion_for : TlpView → Reply → Option TlpView
completion_for t replies.Done = None
completion_for t (replies.Data bytes) = Some (completion t kinds.CompletionData statuses.Success bytes.items)
completion_for t replies.Unsupported = Some (completion t kinds.Completion statuses.Unsupported [])
completion_for t replies.Aborted = Some (completion t kinds.Completion statuses.Aborted [])

-- a posted write has none, whatever became of it
abbrev pub unless_posted : Kind → Option TlpView → Option TlpView
unless_posted kinds.MemoryWrite c = None
unless_posted _ c = c

-- the completion of a request with that reply
abbrev pub completion_of : TlpView → Reply → Option TlpView
completion_of t reply = unless_posted t.kind (completion_for t reply)
