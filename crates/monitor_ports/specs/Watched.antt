-- What a monitor knows of one requester.
use Rattle.std.specs.Prelude.{ℕ, ◌+◌, ◌==◌, Bool, true, false, not, ◌&&◌, if◌then◌else◌, List, length, replicate, slice_set, get_or, count_by, Option, Some, None, is_some, Result, Ok, Err}
use Rattle.tlp_core.specs.declared.packet.Kind.{Kind}
use Rattle.tlp_core.specs.declared.packet.Kind.TheVariants as kinds
use Rattle.tlp_core.specs.declared.packet.Body.{Body}
use Rattle.tlp_core.specs.declared.packet.Body.TheVariants as bodies
use Rattle.tlp_core.specs.declared.packet.Status.TheVariants as statuses
use Rattle.tlp_core.specs.TlpView.{TlpView}
use Rattle.seq_memory.specs.Entries.{Reply}
use Rattle.seq_memory.specs.declared.reply.ReplyOf.TheVariants as replies
use Rattle.seq_memory.specs.Step.{read_over}
use Rattle.requester_core.specs.RequesterView.{size_for}
use Rattle.monitor_ports.specs.declared.watched.OpenRequest.{OpenRequest}
use Rattle.monitor_ports.specs.declared.watched.Watched.{Watched}
use Rattle.monitor_ports.specs.declared.fault.MonitorFault.{MonitorFault}
use Rattle.monitor_ports.specs.declared.fault.MonitorFault.TheVariants as faults

-- a requester that has sent nothing
abbrev pub fresh : Watched
fresh = record { id = None; next = 0; open_tags = replicate 256 None }

-- the request that is open under a tag
abbrev pub open_at : Watched → ℕ → Option OpenRequest
open_at s tag = get_or s.open_tags tag None

abbrev pub open_count : Watched → ℕ
open_count s = count_by is_some s.open_tags

-- not the Requester ID of the first request
abbrev pub is_other : Option ℕ → ℕ → Bool
is_other None id = false
is_other (Some own) id = not (own == id)

-- ---- requests

-- a write is posted and opens no tag
abbrev pub needs_tag : Kind → Bool
needs_tag kinds.MemoryWrite = false
needs_tag _ = true

abbrev pub needs_open_tag : Watched → TlpView → Bool
needs_open_tag s t = needs_tag t.kind && is_some (open_at s t.tag)

-- the first cause that keeps a request from being the next one
abbrev pub request_fault : Watched → TlpView → Option MonitorFault
request_fault s t =
    if is_other s.id t.requester then Some faults.OtherRequester
    else (if needs_open_tag s t then Some faults.TagInUse
    else (if s.next == 4294967295 then Some faults.NumbersUsed else None))

-- First DW BE and Last DW BE of a read
abbrev pub enables_of : Kind → Body → Option (ℕ × ℕ)
enables_of kinds.MemoryRead (bodies.Request a f l) = Some (f, l)
enables_of _ _ = None

abbrev pub opens : Kind → List (Option OpenRequest) → ℕ → OpenRequest → List (Option OpenRequest)
opens kinds.MemoryWrite tags tag o = tags
opens _ tags tag o = slice_set tags tag (Some o)

-- the next request is this one: a non-posted one is open under its tag
abbrev pub after_request : Watched → TlpView → Watched
after_request s t = record {
  id = Some t.requester;
  next = s.next + 1;
  open_tags = opens t.kind s.open_tags t.tag (record { number = s.next; size = size_for t.kind t.length; enables = enables_of t.kind t.body });
}

-- ---- completions

-- the data as its requester sees it: 00 where a read's bytes are not enabled
abbrev pub seen : Option (ℕ × ℕ) → List ℕ → List ℕ
seen None bytes = bytes
seen (Some e) bytes = read_over e.0 e.1 bytes bytes

abbrev pub data_for : OpenRequest → List ℕ → Option Reply
data_for o bytes = if length bytes == o.size then Some (replies.Data (record { items = seen o.enables bytes })) else None

abbrev pub carried : OpenRequest → Kind → Body → List ℕ → Option Reply
carried o kinds.CompletionData (bodies.Completion c statuses.Success n lower) bytes = data_for o bytes
carried o kinds.Completion (bodies.Completion c statuses.Unsupported n lower) bytes = Some replies.Unsupported
carried o kinds.Completion (bodies.Completion c statuses.Aborted n lower) bytes = Some replies.Aborted
carried _ _ _ _ = None

-- the reply that a completion carries to the request; none if they don't fit
abbrev pub reply_to : OpenRequest → TlpView → Option Reply
reply_to o t = carried o t.kind t.body t.payload

abbrev pub replied : ℕ → Option Reply → Result (ℕ × Reply) MonitorFault
replied number None = Err faults.Mismatch
replied number (Some reply) = Ok (number, reply)

abbrev pub answered_by : Option OpenRequest → TlpView → Result (ℕ × Reply) MonitorFault
answered_by None t = Err faults.Unexpected
answered_by (Some o) t = replied o.number (reply_to o t)

-- the number of the request that a completion answers, and the reply
abbrev pub answered : Watched → TlpView → Result (ℕ × Reply) MonitorFault
answered s t = if is_other s.id t.requester then Err faults.OtherRequester else answered_by (open_at s t.tag) t

-- the tag is free
abbrev pub closed : Watched → ℕ → Watched
closed s tag = record { id = s.id; next = s.next; open_tags = slice_set s.open_tags tag None }
