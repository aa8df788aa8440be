-- A packet with its mark, as the laws of the fabric see it.
use Rattle.std.specs.Prelude.{ℕ, ◌/◌, List, unwrap_or}
use Rattle.tlp_core.specs.declared.packet.Kind.{Kind}
use Rattle.tlp_core.specs.declared.packet.Kind.TheVariants as kinds
use Rattle.tlp_core.specs.declared.packet.Body.{Body}
use Rattle.tlp_core.specs.declared.packet.Body.TheVariants as bodies
use Rattle.tlp_core.specs.declared.packet.Status.TheVariants as statuses
use Rattle.tlp_core.specs.TlpView.{TlpView}
use Rattle.tlp_core.specs.Operation.{op_of}
use Rattle.seq_memory.specs.Entries.{Reply}
use Rattle.seq_memory.specs.declared.reply.ReplyOf.TheVariants as replies
use Rattle.flow_control.specs.Needs.{class_of}
use Rattle.fabric_steps.specs.Whole.{MarkedPacket, no_op}

abbrev pub reply_by_status : Body → Reply
reply_by_status (bodies.Completion c statuses.Unsupported n l) = replies.Unsupported
reply_by_status (bodies.Completion c statuses.Aborted n l) = replies.Aborted
reply_by_status _ = replies.Done

-- the reply that a completion carries
abbrev pub reply_in : Kind → Body → List ℕ → Reply
reply_in kinds.CompletionData body bytes = replies.Data (record { items = bytes })
reply_in kinds.Completion body bytes = reply_by_status body
reply_in _ body bytes = replies.Done

abbrev pub marked_packet : TlpView → ℕ → MarkedPacket
marked_packet t mark = record { requester = t.requester / 256; tag = t.tag; class = class_of t.kind; op = unwrap_or (op_of t) no_op; reply = reply_in t.kind t.body t.payload; mark = mark }
