-- A requester as contracts see it: the next number, and what is open under each of its 256 tags.
use Rattle.std.specs.Prelude.{◌≡◌, ℕ, ◌+◌, ◌*◌, ◌<◌, ◌≤◌, ◌==◌, Bool, true, false, not, ◌&&◌, if◌then◌else◌, List, length, replicate, slice_set, get_or, Option, Some, None, is_none, Result, Ok, Err}
use Rattle.tlp_core.specs.Limits.{most_requesters}
use Rattle.std.specs.List.{position_or_len}
use Rattle.tlp_core.specs.Ops.{Op}
use Rattle.tlp_core.specs.declared.packet.Kind.{Kind}
use Rattle.tlp_core.specs.declared.packet.Kind.TheVariants as kinds
use Rattle.tlp_core.specs.declared.packet.Body.{Body}
use Rattle.tlp_core.specs.declared.packet.Body.TheVariants as bodies
use Rattle.tlp_core.specs.declared.packet.Status.TheVariants as statuses
use Rattle.tlp_core.specs.declared.fault.TlpFault.{TlpFault}
use Rattle.tlp_core.specs.TlpView.{TlpView}
use Rattle.tlp_core.specs.Operation.{op_fault, is_posted, is_completion}
use Rattle.seq_memory.specs.Entries.{Reply}
use Rattle.seq_memory.specs.declared.reply.ReplyOf.TheVariants as replies
use Rattle.requester_core.specs.declared.requester.OpenRequest.{OpenRequest}
use Rattle.requester_core.specs.Answers.{Answer}
use Rattle.requester_core.specs.declared.fault.SubmitRefusal.{SubmitRefusal}
use Rattle.requester_core.specs.declared.fault.SubmitRefusal.TheVariants as refusals
use Rattle.requester_core.specs.declared.fault.CompletionFault.{CompletionFault}
use Rattle.requester_core.specs.declared.fault.CompletionFault.TheVariants as faults
use Rattle.requester_core.specs.Request.{request_for}

pub record RequesterView : Type 0 where
  -- its port, 1 to 7; its Requester ID is 256 times that
  pub port : ℕ
  -- the number of the next request, which is also how many there were
  pub next : ℕ
  -- for each tag, the request that is open under it
  pub open_tags : List (Option OpenRequest)

-- a requester that has asked for nothing
abbrev pub fresh : ℕ → RequesterView
fresh port = record { port = port; next = 0; open_tags = replicate 256 None }

-- the lowest free tag; 256 where all are open
abbrev pub lowest_free : List (Option OpenRequest) → ℕ
lowest_free tags = position_or_len is_none tags

-- what is open under a tag
abbrev pub open_at : RequesterView → ℕ → Option OpenRequest
open_at s tag = get_or s.open_tags tag None

-- ---- a request is prepared

-- the tag of the next request: a posted one has 0, and opens none
abbrev pub tag_for : RequesterView → Op → ℕ
tag_for s op = if is_posted op then 0 else lowest_free s.open_tags

-- a request that needs a tag where all are open
abbrev pub lacks_tag : RequesterView → Op → Bool
lacks_tag s op = not (is_posted op) && (lowest_free s.open_tags == 256)

abbrev pub prepared_by : Option TlpFault → Bool → Bool → ℕ → TlpView → Result (ℕ × TlpView) SubmitRefusal
prepared_by (Some f) tags_used numbers_used number t = Err (refusals.Profile f)
prepared_by None true numbers_used number t = Err refusals.TagsUsed
prepared_by None false true number t = Err refusals.NumbersUsed
prepared_by None false false number t = Ok (number, t)

-- the number and the request for an operation, or the first cause that refuses it
abbrev pub prepared : RequesterView → Op → Result (ℕ × TlpView) SubmitRefusal
prepared s op =
    prepared_by (op_fault op) (lacks_tag s op) (s.next == 4294967295) s.next (request_for s.port (tag_for s op) op)

-- the request is one that is prepared next
pub record IsPrepared (s : RequesterView) (t : TlpView) : Type 0 where
  pub op : Op
  pub number : ℕ
  pub is : prepared s op ≡ Ok (number, t)

-- ---- a request is taken by the lane

-- how many bytes of data its completion has, where it is served
abbrev pub size_for : Kind → ℕ → ℕ
size_for kinds.Cas dw = 2 * dw
size_for _ dw = 4 * dw

abbrev pub opens : Kind → List (Option OpenRequest) → ℕ → OpenRequest → List (Option OpenRequest)
opens kinds.MemoryWrite tags tag o = tags
opens _ tags tag o = slice_set tags tag (Some o)

-- the number is spent, and a non-posted request is open under its tag
abbrev pub after_opened : RequesterView → TlpView → RequesterView
after_opened s t =
    record { port = s.port; next = s.next + 1; open_tags = opens t.kind s.open_tags t.tag (record { number = s.next; size = size_for t.kind t.length }) }

-- ---- a completion arrives

-- a completion for this requester
abbrev pub is_ours : RequesterView → TlpView → Bool
is_ours s t = is_completion t.kind && (t.requester == s.port * 256)

-- the request that a packet completes
abbrev pub completed : RequesterView → TlpView → Option OpenRequest
completed s t = if is_ours s t then open_at s t.tag else None

-- the reply that a completion of a request of that size carries; none where they don't agree
abbrev pub reply_carried : ℕ → Kind → Body → List ℕ → Option Reply
reply_carried size kinds.CompletionData (bodies.Completion c statuses.Success n lower) bytes =
    if length bytes == size then Some (replies.Data (record { items = bytes })) else None
reply_carried size kinds.Completion (bodies.Completion c statuses.Unsupported n lower) bytes = Some replies.Unsupported
reply_carried size kinds.Completion (bodies.Completion c statuses.Aborted n lower) bytes = Some replies.Aborted
reply_carried _ _ _ _ = None

abbrev pub answered : ℕ → Option Reply → Result Answer CompletionFault
answered number None = Err faults.Mismatch
answered number (Some reply) = Ok (record { number = number; reply = reply })

abbrev pub finished_by : Option OpenRequest → TlpView → Result Answer CompletionFault
finished_by None t = Err faults.Unexpected
finished_by (Some o) t = answered o.number (reply_carried o.size t.kind t.body t.payload)

-- the number and the reply of the request that is completed, or the first cause that refuses the packet
abbrev pub finished : RequesterView → TlpView → Result Answer CompletionFault
finished s t = finished_by (completed s t) t

abbrev pub closes : Result Answer CompletionFault → RequesterView → ℕ → RequesterView
closes (Ok a) s tag = record { port = s.port; next = s.next; open_tags = slice_set s.open_tags tag None }
closes (Err e) s tag = s

-- the tag of the request that is completed is free; a packet that is refused changes nothing
abbrev pub after_finish : RequesterView → TlpView → RequesterView
after_finish s t = closes (finished s t) s t.tag

-- ---- what holds of each requester

-- each open number was given, and to one tag
pub record IsSound (s : RequesterView) : Type 0 where
  pub some_port : 1 ≤ s.port
  pub few_ports : s.port ≤ most_requesters
  pub numbers : s.next ≤ 4294967295
  pub tags : length s.open_tags ≡ 256
  pub given : (tag : ℕ) (o : OpenRequest) → open_at s tag ≡ Some o → o.number < s.next
  pub one_tag : (tag other : ℕ) (o p : OpenRequest) → open_at s tag ≡ Some o → open_at s other ≡ Some p → o.number ≡ p.number → tag ≡ other
