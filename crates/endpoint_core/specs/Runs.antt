-- Lists of calls of a device: the requests that come, wait, act and are completed, and what is done to the registers.
use Rattle.std.specs.Prelude.{ℕ, Bool, List, [], ◌∷◌, ◌++◌, fold, map, flat_map, Option, Some, None, ◌%◌, ◌==◌, not, if◌then◌else◌}
use Rattle.seq_memory.specs.declared.limits.TheConstants.{LARGE_BLOCK}
use Rattle.tlp_core.specs.Ops.{Op}
use Rattle.tlp_core.specs.Operation.{op_of}
use Rattle.seq_memory.specs.Step.{after}
use Rattle.config_core.specs.declared.registers.Noted.{Noted}
use Rattle.config_core.specs.declared.registers.Noted.TheVariants as noted
use Rattle.config_core.specs.RegistersView.{RegistersView}
use Rattle.config_core.specs.Registers.{after_error, after_poison, after_reset, written}
use Rattle.config_core.specs.declared.request.CfgRequest.{CfgRequest}
use Rattle.endpoint_core.specs.DescriptorView.{DescriptorView}
use Rattle.endpoint_core.specs.declared.received.Received.{Received}
use Rattle.endpoint_core.specs.declared.received.Received.TheVariants as received
use Rattle.endpoint_core.specs.Classes.{becomes, carries_poison, descriptor_of, descriptor_for}
use Rattle.endpoint_core.specs.declared.waiting.Waiting.{Waiting}
use Rattle.endpoint_core.specs.declared.waiting.Waiting.TheVariants as waits
use Rattle.endpoint_core.specs.EndpointView.{DeviceView, EndpointView}
use Rattle.endpoint_core.specs.Steps.{base_of_op, blocks_of, first_block, dropped_error, poisoned_error, taken, acted, after_reset_of, is_supported, done_by}

pub data Call : Type 0 where
  -- a TLP of these bytes comes
  Take : List ℕ → Call
  -- the oldest request that waits acts
  Act : Call
  -- a reset
  Reset : Call

abbrev pub after_call : EndpointView → Call → EndpointView
after_call e (Take b) = taken e b
after_call e Act = acted e
after_call e Reset = after_reset_of e

abbrev pub after_calls : EndpointView → List Call → EndpointView
after_calls e cs = fold after_call e cs

-- what each call has of something, in turn
unfoldable pub all_of : {A : Type 0} → (EndpointView → Call → List A) → EndpointView → List Call → List A
all_of f e [] = []
all_of f e (c ∷ cs) = f e c ++ all_of f (after_call e c) cs

-- ---- block requests of non-posted memory requests

abbrev pub blocks_in : Option Op → List Op
blocks_in (Some op) = blocks_of op
blocks_in None = []

abbrev pub blocks_by : Waiting → List Op
blocks_by (waits.Memory t) = blocks_in (op_of t)
blocks_by (waits.Configuration r) = []
blocks_by (waits.Poisoned t) = []
blocks_by (waits.Refused d n) = []

-- those that wait, in order
abbrev pub blocks_waiting : EndpointView → List Op
blocks_waiting e = flat_map blocks_by e.waiting

-- those of a TLP that comes
abbrev pub blocks_as : Received → List Op
blocks_as (received.NonPosted t) = blocks_in (op_of t)
blocks_as _ = []

abbrev pub blocks_coming : Call → List Op
blocks_coming (Take b) = blocks_as (becomes b)
blocks_coming _ = []

-- those that leave the queue: the first, if the request is claimed, and else all of it, which is refused; a reset drops all
abbrev pub leaving_at : Op → Option ℕ → List Op
leaving_at op (Some base) = first_block op ∷ []
leaving_at op None = blocks_of op

abbrev pub leaving_op : DeviceView → Option Op → List Op
leaving_op d (Some op) = leaving_at op (base_of_op d op)
leaving_op d None = []

abbrev pub leaving_by : DeviceView → List Waiting → List Op
leaving_by d (waits.Memory t ∷ ws) = leaving_op d (op_of t)
leaving_by d _ = []

abbrev pub blocks_leaving : EndpointView → Call → List Op
blocks_leaving e (Take b) = []
blocks_leaving e Act = leaving_by e.device e.waiting
blocks_leaving e Reset = blocks_waiting e

abbrev pub all_coming : List Call → List Op
all_coming cs = flat_map blocks_coming cs

abbrev pub all_leaving : EndpointView → List Call → List Op
all_leaving e cs = all_of blocks_leaving e cs

-- ---- what acts on the memory

-- a block request, and the address of the memory's first byte then
pub record Effect : Type 0 where
  pub base : ℕ
  pub op : Op

abbrev pub effects_at : List Op → Option ℕ → List Effect
effects_at ops (Some base) = map (λ op. record { base = base; op = op }) ops
effects_at ops None = []

-- a posted request that is claimed acts when it comes
abbrev pub effects_posted : DeviceView → Option Op → List Effect
effects_posted d (Some op) = effects_at (blocks_of op) (base_of_op d op)
effects_posted d None = []

abbrev pub effects_as : DeviceView → Received → List Effect
effects_as d (received.Posted t) = effects_posted d (op_of t)
effects_as d _ = []

-- what leaves the queue acts, if the request is claimed
abbrev pub effects_op : DeviceView → Option Op → List Effect
effects_op d (Some op) = effects_at (leaving_op d (Some op)) (base_of_op d op)
effects_op d None = []

abbrev pub effects_by : DeviceView → List Waiting → List Effect
effects_by d (waits.Memory t ∷ ws) = effects_op d (op_of t)
effects_by d _ = []

abbrev pub effects : EndpointView → Call → List Effect
effects e (Take b) = effects_as e.device (becomes b)
effects e Act = effects_by e.device e.waiting
effects e Reset = []

abbrev pub all_effects : EndpointView → List Call → List Effect
all_effects e cs = all_of effects e cs

-- the bytes after all of them
abbrev pub bytes_by : List ℕ → List Effect → List ℕ
bytes_by m es = fold (λ m x. after x.base LARGE_BLOCK m x.op) m es

-- ---- which requests are completed

-- what the completions of a request carry of it
abbrev pub descriptor_in : Waiting → DescriptorView
descriptor_in (waits.Memory t) = descriptor_of t
descriptor_in (waits.Configuration r) = descriptor_for r
descriptor_in (waits.Poisoned t) = descriptor_of t
descriptor_in (waits.Refused d n) = d

abbrev pub descriptors_waiting : EndpointView → List DescriptorView
descriptors_waiting e = map descriptor_in e.waiting

-- non-posted requests that come
abbrev pub asked_as : Received → List DescriptorView
asked_as (received.NonPosted t) = descriptor_of t ∷ []
asked_as (received.Configuration r) = descriptor_for r ∷ []
asked_as (received.PoisonedNonPosted t) = descriptor_of t ∷ []
asked_as (received.Refused d n) = d ∷ []
asked_as _ = []

abbrev pub asked_by : Call → List DescriptorView
asked_by (Take b) = asked_as (becomes b)
asked_by _ = []

-- the oldest request, if this is its last completion; a reset drops all
abbrev pub finished_by : DeviceView → List Waiting → List DescriptorView
finished_by d [] = []
finished_by d (w ∷ ws) = if done_by d w == 0 then descriptor_in w ∷ [] else []

abbrev pub finished : EndpointView → Call → List DescriptorView
finished e (Take b) = []
finished e Act = finished_by e.device e.waiting
finished e Reset = descriptors_waiting e

abbrev pub all_asked : List Call → List DescriptorView
all_asked cs = flat_map asked_by cs

abbrev pub all_finished : EndpointView → List Call → List DescriptorView
all_finished e cs = all_of finished e cs

-- ---- what acts on the registers

pub data RegisterEffect : Type 0 where
  -- the register at an offset is written, with these byte enables
  Write : ℕ → ℕ → ℕ → RegisterEffect
  -- an error is reported
  Report : Noted → RegisterEffect
  -- poisoned data came
  Poison : RegisterEffect
  -- all registers are what they are after a reset
  Restore : RegisterEffect

abbrev pub after_effect : RegistersView → RegisterEffect → RegistersView
after_effect r (Write offset enables new) = written r offset enables new
after_effect r (Report n) = after_error r n
after_effect r Poison = after_poison r
after_effect r Restore = after_reset r.setup

-- a request that isn't claimed is reported
abbrev pub report_at : Noted → Option ℕ → List RegisterEffect
report_at n (Some base) = []
report_at n None = Report n ∷ []

abbrev pub report_op : DeviceView → Noted → Option Op → List RegisterEffect
report_op d n (Some op) = report_at n (base_of_op d op)
report_op d n None = []

abbrev pub register_effects_as : DeviceView → Received → List RegisterEffect
register_effects_as d (received.Posted t) = report_op d noted.Unclaimed (op_of t)
register_effects_as d (received.PoisonedPosted t) = Report (dropped_error d (op_of t)) ∷ []
register_effects_as d (received.Unsupported n) = Report n ∷ []
register_effects_as d received.Unexpected = Report noted.Unexpected ∷ []
register_effects_as d (received.Malformed f) = Report noted.Fatal ∷ []
register_effects_as d _ = []

abbrev pub configuration_effects : CfgRequest → List RegisterEffect
configuration_effects r =
    if not (is_supported r) then Report noted.Refused ∷ []
    else (if r.writes then Write r.register (r.enables % 16) r.value ∷ [] else [])

abbrev pub register_effects_by : DeviceView → List Waiting → List RegisterEffect
register_effects_by d [] = []
register_effects_by d (waits.Memory t ∷ ws) = report_op d noted.Refused (op_of t)
register_effects_by d (waits.Configuration r ∷ ws) = configuration_effects r
register_effects_by d (waits.Poisoned t ∷ ws) = Report (poisoned_error d (op_of t)) ∷ []
register_effects_by d (waits.Refused c n ∷ ws) = Report n ∷ []

abbrev pub poison_effects : Bool → List RegisterEffect
poison_effects poisoned = if poisoned then Poison ∷ [] else []

abbrev pub register_effects : EndpointView → Call → List RegisterEffect
register_effects e (Take b) = register_effects_as e.device (becomes b) ++ poison_effects (carries_poison b)
register_effects e Act = register_effects_by e.device e.waiting
register_effects e Reset = Restore ∷ []

abbrev pub all_register_effects : EndpointView → List Call → List RegisterEffect
all_register_effects e cs = all_of register_effects e cs

-- the registers after all of them
abbrev pub registers_by : RegistersView → List RegisterEffect → RegistersView
registers_by r es = fold after_effect r es
