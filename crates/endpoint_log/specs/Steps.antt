-- What is recorded of a device: its memory's block requests as requester 1 submits them and is answered, and the history.
use Rattle.std.specs.Prelude.{ℕ, ◌+◌, ◌-◌, ◌==◌, if◌then◌else◌, List, [], ◌∷◌, ◌++◌, length, fold, Option, Some, None}
use Rattle.seq_memory.specs.declared.limits.TheConstants.{LARGE_BLOCK}
use Rattle.tlp_core.specs.Ops.{Op}
use Rattle.tlp_core.specs.declared.operation.OpOf.TheVariants as ops
use Rattle.tlp_core.specs.declared.packet.Kind.{Kind}
use Rattle.tlp_core.specs.declared.packet.Kind.TheVariants as kinds
use Rattle.tlp_core.specs.TlpView.{TlpView}
use Rattle.tlp_core.specs.Operation.{op_of}
use Rattle.seq_memory.specs.Entries.{Reply}
use Rattle.seq_memory.specs.declared.reply.ReplyOf.TheVariants as replies
use Rattle.seq_memory.specs.Step.{data_of}
use Rattle.history_words.specs.declared.record.RecordOf.TheVariants as records
use Rattle.history_words.specs.Claim.{Claim}
use Rattle.config_core.specs.SetupView.{SetupView}
use Rattle.endpoint_core.specs.declared.received.Received.{Received}
use Rattle.endpoint_core.specs.declared.received.Received.TheVariants as received
use Rattle.endpoint_core.specs.EndpointView.{DeviceView, EndpointView}
use Rattle.endpoint_core.specs.Steps as device
use Rattle.endpoint_log.specs.LogView.{LogView}

-- addresses count from the memory's first byte
abbrev pub moved : ℕ → Op → Op
moved base (ops.Read a dw f l) = ops.Read (a - base) dw f l
moved base (ops.Write a f l bytes) = ops.Write (a - base) f l bytes
moved base (ops.FetchAdd a w x) = ops.FetchAdd (a - base) w x
moved base (ops.Swap a w x) = ops.Swap (a - base) w x
moved base (ops.Cas a w x y) = ops.Cas (a - base) w x y

-- how many requests have acted
abbrev pub acted_count : LogView → ℕ
acted_count l = length l.claim.memory.entries

-- requester 1 submits a block request
abbrev pub submits : ℕ → LogView → Op → LogView
submits base l op = record l {
  claim = record l.claim { records = l.claim.records ++ records.Sub 1 l.submitted (moved base op) (acted_count l) ∷ [] };
  submitted = l.submitted + 1;
}

-- the block request with that number acts
abbrev pub enters : ℕ → ℕ → LogView → Op → LogView
enters base k l op = record l {
  claim = record l.claim { memory = record l.claim.memory { entries = l.claim.memory.entries ++ (record { requester = 1; number = k; op = moved base op }) ∷ [] } };
}

-- a posted one acts when it is submitted
abbrev pub posts : ℕ → LogView → Op → LogView
posts base l op = enters base l.submitted (submits base l op) op

abbrev pub posted_at : Op → LogView → Option ℕ → LogView
posted_at op l None = l
posted_at op l (Some base) = fold (posts base) l (device.blocks_of op)

abbrev pub posted_by : DeviceView → LogView → Option Op → LogView
posted_by d l None = l
posted_by d l (Some op) = posted_at op l (device.base_of_op d op)

-- a posted request
abbrev pub IsPosted : Received → Type 0
IsPosted (received.Posted t) = Unit {0}
IsPosted _ = ⊥

-- a TLP comes
abbrev pub came : DeviceView → Received → LogView → LogView
came d (received.Posted t) l = posted_by d l (op_of t)
came d _ l = l

-- the oldest request begins to act: its block requests are submitted
abbrev pub begins_at : ℕ → Op → LogView → Option ℕ → LogView
begins_at base op l None = record (fold (submits base) l (device.blocks_of op)) { begun = Some l.submitted }
begins_at base op l (Some k) = l

abbrev pub begins : ℕ → Op → LogView → LogView
begins base op l = begins_at base op l l.begun

-- the number of the block request that acts
abbrev pub number_in : LogView → Option ℕ → ℕ
number_in l None = l.submitted
number_in l (Some k) = k

abbrev pub next_number : LogView → ℕ
next_number l = number_in l l.begun

-- the number of the next one, if there is one
abbrev pub number_behind : ℕ → ℕ → Option ℕ
number_behind more k = if more == 0 then None else Some (k + 1)

-- the first of its block requests acts
abbrev pub enters_first : ℕ → Op → LogView → LogView
enters_first base op l =
    record (enters base (next_number l) (begins base op l) (device.first_block op)) { begun = number_behind (device.dw_in_front op) (next_number l) }

abbrev pub entered_at : Op → LogView → Option ℕ → LogView
entered_at op l None = l
entered_at op l (Some base) = enters_first base op l

abbrev pub entered_by : DeviceView → LogView → Option Op → LogView
entered_by d l None = l
entered_by d l (Some op) = entered_at op l (device.base_of_op d op)

-- the oldest request of the device acts
abbrev pub entered : EndpointView → LogView → LogView
entered e l = entered_by e.device l (device.oldest_op e.waiting)

-- the number of its block request, if it is a memory request that is claimed
abbrev pub number_at : LogView → Option ℕ → Option ℕ
number_at l None = None
number_at l (Some base) = Some (next_number l)

abbrev pub number_by : DeviceView → LogView → Option Op → Option ℕ
number_by d l None = None
number_by d l (Some op) = number_at l (device.base_of_op d op)

abbrev pub number_entered : EndpointView → LogView → Option ℕ
number_entered e l = number_by e.device l (device.oldest_op e.waiting)

-- what a completion says of the memory
abbrev pub reply_by : Kind → List ℕ → Reply
reply_by kinds.CompletionData bytes = data_of bytes
reply_by _ bytes = replies.Unsupported

abbrev pub reply_in : TlpView → Reply
reply_in t = reply_by t.kind t.payload

-- the block request with that number is answered by a completion
abbrev pub answered : LogView → ℕ → TlpView → LogView
answered l k t = record l { claim = record l.claim { records = l.claim.records ++ records.Ans 1 k (reply_in t) (acted_count l) ∷ [] } }

abbrev pub answered_by : LogView → Option ℕ → Option TlpView → LogView
answered_by l (Some k) (Some t) = answered l k t
answered_by l _ _ = l

-- the oldest request acts, and is answered
abbrev pub acted : EndpointView → LogView → LogView
acted e l = answered_by (entered e l) (number_entered e l) (device.next_completion e)

-- what waited is dropped
abbrev pub dropped : LogView → LogView
dropped l = record l { begun = None }

-- nothing so far, of blocks of 128 bytes from address 0 on
abbrev pub no_claim : SetupView → Claim
no_claim s = record { memory = record { base = 0; size = s.size; block = LARGE_BLOCK; entries = [] }; records = [] }

abbrev pub new_log : SetupView → LogView
new_log s = record { claim = no_claim s; submitted = 0; begun = None }
