-- What TLPs do to a device: those that come, and those that wait (PCI Express Base 4.0, sections 2.2.9, 2.3.1 and 2.4.1).
use Rattle.std.specs.Prelude.{ℕ, ◌+◌, ◌-◌, ◌*◌, ◌%◌, ◌^◌, ◌==◌, ◌&&◌, Bool, true, not, nat_le, if◌then◌else◌, List, [], ◌∷◌, ◌++◌, drop, fold, replicate, Option, Some, None, is_some, option_map}
use Rattle.seq_memory.specs.declared.limits.TheConstants.{LARGE_BLOCK}
use Rattle.byteorder.specs.Endian.{little_bytes}
use Rattle.tlp_core.specs.Ops.{Op}
use Rattle.tlp_core.specs.declared.operation.OpOf.TheVariants as ops
use Rattle.tlp_core.specs.declared.packet.Kind.{Kind}
use Rattle.tlp_core.specs.declared.packet.Kind.TheVariants as kinds
use Rattle.tlp_core.specs.declared.packet.Body.{Body}
use Rattle.tlp_core.specs.declared.packet.Body.TheVariants as bodies
use Rattle.tlp_core.specs.declared.packet.Status.{Status}
use Rattle.tlp_core.specs.declared.packet.Status.TheVariants as statuses
use Rattle.tlp_core.specs.TlpView.{TlpView}
use Rattle.tlp_core.specs.Operation.{address_of, count_of, op_of}
use Rattle.seq_memory.specs.Step.{after, answer}
use Rattle.op_pieces.specs.Pieces.{dw_of, dw_to, front, rest_first, rest_last, cut}
use Rattle.completer_core.specs.Completion.{byte_count, completion_of}
use Rattle.flow_control.specs.declared.needs.Need.{Need}
use Rattle.flow_control.specs.Needs.{completion_need}
use Rattle.config_core.specs.declared.registers.Noted.{Noted}
use Rattle.config_core.specs.declared.registers.Noted.TheVariants as noted
use Rattle.config_core.specs.SetupView.{SetupView}
use Rattle.config_core.specs.Registers.{after_reset, after_error, after_poison, written, value, claimed, base_of}
use Rattle.config_core.specs.declared.request.CfgRequest.{CfgRequest}
use Rattle.endpoint_core.specs.DescriptorView.{DescriptorView}
use Rattle.endpoint_core.specs.declared.received.Received.{Received}
use Rattle.endpoint_core.specs.declared.received.Received.TheVariants as received
use Rattle.endpoint_core.specs.Classes.{becomes, carries_poison, descriptor_of, descriptor_for}
pub use Rattle.endpoint_core.specs.Classes.{is_supported}
use Rattle.endpoint_core.specs.declared.waiting.Waiting.{Waiting}
use Rattle.endpoint_core.specs.declared.waiting.Waiting.TheVariants as waits
use Rattle.endpoint_core.specs.declared.endpoint.Handled.{Handled}
use Rattle.endpoint_core.specs.declared.endpoint.Handled.TheVariants as handles
use Rattle.endpoint_core.specs.EndpointView.{DeviceView, EndpointView}

-- after a reset, with the memory as it is
abbrev pub new_device : SetupView → List ℕ → DeviceView
new_device s bytes = record { registers = after_reset s; completer = 0; bytes = bytes }

-- an error is reported
abbrev pub noting : DeviceView → Noted → DeviceView
noting d n = record d { registers = after_error d.registers n }

-- where poisoned data came, Status tells so
abbrev pub with_poison : Bool → DeviceView → DeviceView
with_poison came d = record d { registers = if came then after_poison d.registers else d.registers }

-- ---- memory requests

-- the address of the memory's first byte, if the BAR claims a place of so many bytes, which ends at 2^64 or below
abbrev pub base_for : DeviceView → ℕ → ℕ → Option ℕ
base_for d address count =
    if is_some (claimed d.registers address count) && nat_le (address + count) (2 ^ 64) then Some (base_of d.registers) else None

abbrev pub base_of_op : DeviceView → Op → Option ℕ
base_of_op d op = base_for d (address_of op) (count_of op)

-- the BAR claims what it asks for
abbrev pub is_claimed : DeviceView → Option Op → Bool
is_claimed d (Some op) = is_some (base_of_op d op)
is_claimed d None = true

-- the block requests of a request: one for each naturally aligned block of 128 bytes that it touches, in rising order
abbrev pub blocks_of : Op → List Op
blocks_of op = cut LARGE_BLOCK (dw_of op) op

-- the bytes after these requests, where the first byte has the address base
abbrev pub after_all : ℕ → List ℕ → List Op → List ℕ
after_all base m ops = fold (λ m op. after base LARGE_BLOCK m op) m ops

-- a posted request that is claimed acts, block by block
abbrev pub posted_at : DeviceView → Op → Option ℕ → DeviceView
posted_at d op (Some base) = record d { bytes = after_all base d.bytes (blocks_of op) }
posted_at d op None = noting d noted.Unclaimed

abbrev pub posted : DeviceView → Option Op → DeviceView
posted d (Some op) = posted_at d op (base_of_op d op)
posted d None = d

-- of a read that goes on in the next block the DW in its first block, and else 0
abbrev pub dw_before_end : ℕ → ℕ → ℕ
dw_before_end a dw = if nat_le dw (dw_to LARGE_BLOCK a) then 0 else dw_to LARGE_BLOCK a

abbrev pub dw_in_front : Op → ℕ
dw_in_front (ops.Read a dw f l) = dw_before_end a dw
dw_in_front op = 0

-- the first of its block requests
abbrev pub first_block : Op → Op
first_block op = if dw_in_front op == 0 then op else front (dw_in_front op) op

-- what is left of a read behind so many DW
abbrev pub body_behind : ℕ → ℕ → Body → Body
body_behind n dw (bodies.Request a f l) = bodies.Request (a + 4 * n) (rest_first (dw - n) l) (rest_last (dw - n) l)
body_behind n dw body = body

abbrev pub behind : ℕ → TlpView → TlpView
behind n t = record t { length = t.length - n; body = body_behind n t.length t.body }

-- the first block request of a claimed request acts
abbrev pub acted_at : DeviceView → Op → Option ℕ → DeviceView
acted_at d op (Some base) = record d { bytes = after base LARGE_BLOCK d.bytes (first_block op) }
acted_at d op None = noting d noted.Refused

abbrev pub memory_acted : DeviceView → Option Op → DeviceView
memory_acted d (Some op) = acted_at d op (base_of_op d op)
memory_acted d None = d

-- how many DW of it are done, if more are left, and else 0
abbrev pub done_at : Op → Option ℕ → ℕ
done_at op (Some base) = dw_in_front op
done_at op None = 0

abbrev pub memory_done : DeviceView → Option Op → ℕ
memory_done d (Some op) = done_at op (base_of_op d op)
memory_done d None = 0

-- a completion with the device's Completer ID
abbrev pub body_from : ℕ → Body → Body
body_from id (bodies.Completion c status count lower) = bodies.Completion id status count lower
body_from id body = body

abbrev pub from : ℕ → TlpView → TlpView
from id t = record t { body = body_from id t.body }

-- a completion without data, whose Lower Address is 0
abbrev pub completion_without : DescriptorView → ℕ → Status → ℕ → TlpView
completion_without d id status count =
    record { kind = kinds.Completion; tc = d.tc; attr = d.attr; length = 0; requester = d.requester; tag = d.tag; body = bodies.Completion id status count 0; payload = [] }

-- Byte Count where the status isn't SC: of a read that of all its bytes, of another request 4
abbrev pub refused_count : Kind → Body → ℕ → ℕ
refused_count kinds.MemoryRead body dw = byte_count kinds.MemoryRead body dw
refused_count _ body dw = 4

-- the completion carries the reply of the block request; Byte Count and Lower Address are those of all that is left of the
-- request (section 2.2.9)
abbrev pub completion_at : DeviceView → TlpView → Op → Option ℕ → Option TlpView
completion_at d t op (Some base) = option_map (from d.completer) (completion_of t (answer base LARGE_BLOCK d.bytes (first_block op)))
completion_at d t op None = Some (completion_without (descriptor_of t) d.completer statuses.Unsupported (refused_count t.kind t.body t.length))

abbrev pub memory_completion : DeviceView → TlpView → Option Op → Option TlpView
memory_completion d t (Some op) = completion_at d t op (base_of_op d op)
memory_completion d t None = None

-- ---- poisoned memory requests: that one isn't claimed goes before that it is poisoned (section 6.2.3.2.3)

-- of a write, which is dropped
abbrev pub dropped_error : DeviceView → Option Op → Noted
dropped_error d o = if is_claimed d o then noted.Dropped else noted.Unclaimed

-- of an AtomicOp, which is completed as not supported
abbrev pub poisoned_error : DeviceView → Option Op → Noted
poisoned_error d o = if is_claimed d o then noted.Poisoned else noted.Refused

-- ---- other requests

-- the completion of a read of a register
abbrev pub completion_with : DescriptorView → ℕ → ℕ → TlpView
completion_with d id word =
    record { kind = kinds.CompletionData; tc = d.tc; attr = d.attr; length = 1; requester = d.requester; tag = d.tag; body = bodies.Completion id statuses.Success 4 0; payload = little_bytes 4 word }

-- bus and device number of a write, of function 0
abbrev pub captured : CfgRequest → ℕ
captured r = r.bus * 256 + r.device % 32 * 8

abbrev pub configured : DeviceView → CfgRequest → DeviceView
configured d r =
    if not (is_supported r) then noting d noted.Refused
    else (if r.writes then record d { registers = written d.registers r.register (r.enables % 16) r.value; completer = captured r }
    else d)

abbrev pub configuration_completion : DeviceView → CfgRequest → TlpView
configuration_completion d r =
    if not (is_supported r) then completion_without (descriptor_for r) d.completer statuses.Unsupported 4
    else (if r.writes then completion_without (descriptor_for r) (captured r) statuses.Success 4
    else completion_with (descriptor_for r) d.completer (value d.registers r.register))

-- ---- the oldest request that waits

abbrev pub acted_by : DeviceView → Waiting → DeviceView
acted_by d (waits.Memory t) = memory_acted d (op_of t)
acted_by d (waits.Configuration r) = configured d r
acted_by d (waits.Poisoned t) = noting d (poisoned_error d (op_of t))
acted_by d (waits.Refused c n) = noting d n

abbrev pub completion_by : DeviceView → Waiting → Option TlpView
completion_by d (waits.Memory t) = memory_completion d t (op_of t)
completion_by d (waits.Configuration r) = Some (configuration_completion d r)
completion_by d (waits.Poisoned t) = Some (completion_without (descriptor_of t) d.completer statuses.Unsupported 4)
completion_by d (waits.Refused c n) = Some (completion_without c d.completer statuses.Unsupported 4)

-- how many DW of it are done then, if more are left, and else 0
abbrev pub done_by : DeviceView → Waiting → ℕ
done_by d (waits.Memory t) = memory_done d (op_of t)
done_by d (waits.Configuration r) = 0
done_by d (waits.Poisoned t) = 0
done_by d (waits.Refused c n) = 0

-- the head is what is left of it behind so many DW
abbrev pub head_behind : ℕ → List Waiting → List Waiting
head_behind n (waits.Memory t ∷ ws) = waits.Memory (behind n t) ∷ ws
head_behind n ws = ws

-- the queue when so many DW of its head are done, or all of it
abbrev pub advanced : ℕ → List Waiting → List Waiting
advanced n ws = if n == 0 then drop 1 ws else head_behind n ws

abbrev pub acted_on : EndpointView → List Waiting → EndpointView
acted_on e [] = e
acted_on e (w ∷ ws) = record { device = acted_by e.device w; waiting = advanced (done_by e.device w) (w ∷ ws) }

-- after the oldest request acted, by one block if it is a memory request
abbrev pub acted : EndpointView → EndpointView
acted e = acted_on e e.waiting

abbrev pub next_by : DeviceView → List Waiting → Option TlpView
next_by d [] = None
next_by d (w ∷ ws) = completion_by d w

-- its completion
abbrev pub next_completion : EndpointView → Option TlpView
next_completion e = next_by e.device e.waiting

-- ---- what the next completion takes of the credits (section 2.6.1)

-- its bytes of data: those of the block request, if the request is claimed
abbrev pub data_at : Op → Option ℕ → ℕ
data_at op (Some base) = count_of (first_block op)
data_at op None = 0

abbrev pub memory_data : DeviceView → Option Op → ℕ
memory_data d (Some op) = data_at op (base_of_op d op)
memory_data d None = 0

abbrev pub data_by : DeviceView → Waiting → ℕ
data_by d (waits.Memory t) = memory_data d (op_of t)
data_by d (waits.Configuration r) = if is_supported r && not r.writes then 4 else 0
data_by d (waits.Poisoned t) = 0
data_by d (waits.Refused c n) = 0

abbrev pub need_by : DeviceView → List Waiting → Option Need
need_by d [] = None
need_by d (w ∷ ws) = Some (completion_need (data_by d w))

abbrev pub next_need : EndpointView → Option Need
next_need e = need_by e.device e.waiting

-- the operation of the oldest request, if that is a memory request
abbrev pub oldest_op : List Waiting → Option Op
oldest_op (waits.Memory t ∷ ws) = op_of t
oldest_op _ = None

-- ---- a TLP that comes

abbrev pub on_device : EndpointView → DeviceView → EndpointView
on_device e d = record e { device = d }

-- behind the others
abbrev pub queued : EndpointView → Waiting → EndpointView
queued e w = record e { waiting = e.waiting ++ w ∷ [] }

abbrev pub taken_as : EndpointView → Received → EndpointView
taken_as e (received.Posted t) = on_device e (posted e.device (op_of t))
taken_as e (received.NonPosted t) = queued e (waits.Memory t)
taken_as e (received.Configuration r) = queued e (waits.Configuration r)
taken_as e (received.PoisonedPosted t) = on_device e (noting e.device (dropped_error e.device (op_of t)))
taken_as e (received.PoisonedNonPosted t) = queued e (waits.Poisoned t)
taken_as e (received.Refused d n) = queued e (waits.Refused d n)
taken_as e (received.Unsupported n) = on_device e (noting e.device n)
taken_as e received.Ignored = e
taken_as e received.Unexpected = on_device e (noting e.device noted.Unexpected)
taken_as e (received.Malformed f) = on_device e (noting e.device noted.Fatal)

-- after a TLP of these bytes came
abbrev pub taken : EndpointView → List ℕ → EndpointView
taken e b = on_device (taken_as e (becomes b)) (with_poison (carries_poison b) (taken_as e (becomes b)).device)

abbrev pub handled_as : DeviceView → Received → Handled
handled_as d (received.Posted t) = if is_claimed d (op_of t) then handles.Done else handles.Unsupported
handled_as d (received.NonPosted t) = handles.Waits
handled_as d (received.Configuration r) = handles.Waits
handled_as d (received.PoisonedPosted t) = handles.Unsupported
handled_as d (received.PoisonedNonPosted t) = handles.Waits
handled_as d (received.Refused c n) = handles.Waits
handled_as d (received.Unsupported n) = handles.Unsupported
handled_as d received.Ignored = handles.Ignored
handled_as d received.Unexpected = handles.Unexpected
handled_as d (received.Malformed f) = handles.Malformed f

-- what is said of it
abbrev pub handled : EndpointView → List ℕ → Handled
handled e b = handled_as e.device (becomes b)

-- ---- a new device, and a reset

abbrev pub new_endpoint : SetupView → EndpointView
new_endpoint s = record { device = new_device s (replicate s.size 0); waiting = [] }

-- nothing waits, and the memory's bytes stay
abbrev pub after_reset_of : EndpointView → EndpointView
after_reset_of e = record { device = new_device e.device.registers.setup e.device.bytes; waiting = [] }
