-- The bytes of the memory are what the block requests that acted make of them.
use Rattle.std.proofs.Common.{◌≡◌, ◌∙◌, ℕ, Bool, true, false, List, [], ◌∷◌, Option, Some, None, cond, refl, ap, sym}
use Rattle.std.specs.Prelude.{map, not}
use Rattle.std.proofs.lemmas.List.Sums.{fold-append}
use Rattle.tlp_core.specs.Ops.{Op}
use Rattle.tlp_core.specs.Operation.{op_of}
use Rattle.seq_memory.specs.Step.{after}
use Rattle.config_core.specs.declared.request.CfgRequest.{CfgRequest}
use Rattle.endpoint_core.specs.declared.received.Received.{Received}
use Rattle.endpoint_core.specs.declared.received.Received.TheVariants as received
use Rattle.endpoint_core.specs.Classes.{becomes}
use Rattle.endpoint_core.specs.declared.waiting.Waiting.{Waiting}
use Rattle.endpoint_core.specs.declared.waiting.Waiting.TheVariants as waits
use Rattle.endpoint_core.specs.EndpointView.{DeviceView, EndpointView}
use Rattle.endpoint_core.specs.Steps.{base_of_op, blocks_of, after_all, posted, posted_at, memory_acted, acted_at, configured, is_supported, acted_on, taken_as}
use Rattle.endpoint_core.specs.Runs.{Call, Take, Act, Reset, after_call, after_calls, Effect, effects_at, effects_posted, effects_as, effects_op, effects_by, effects, all_of, all_effects, bytes_by, leaving_at}

mapped : (base : ℕ) (m : List ℕ) (ops : List Op) → after_all base m ops ≡ bytes_by m (map (λ op. record { base = base; op = op }) ops)
mapped base m [] = refl
mapped base m (op ∷ ops) = mapped base (after base 128 m op) ops

posted_bytes : (d : DeviceView) (op : Op) (o : Option ℕ) → (posted_at d op o).bytes ≡ bytes_by d.bytes (effects_at (blocks_of op) o)
posted_bytes d op (Some base) = mapped base d.bytes (blocks_of op)
posted_bytes d op None = refl

posted_by : (d : DeviceView) (o : Option Op) → (posted d o).bytes ≡ bytes_by d.bytes (effects_posted d o)
posted_by d (Some op) = posted_bytes d op (base_of_op d op)
posted_by d None = refl

taken_bytes : (e : EndpointView) (r : Received) → (taken_as e r).device.bytes ≡ bytes_by e.device.bytes (effects_as e.device r)
taken_bytes e (received.Posted t) = posted_by e.device (op_of t)
taken_bytes e (received.NonPosted t) = refl
taken_bytes e (received.Configuration r) = refl
taken_bytes e (received.PoisonedPosted t) = refl
taken_bytes e (received.PoisonedNonPosted t) = refl
taken_bytes e (received.Refused d n) = refl
taken_bytes e (received.Unsupported n) = refl
taken_bytes e received.Ignored = refl
taken_bytes e received.Unexpected = refl
taken_bytes e (received.Malformed f) = refl

acted_bytes : (d : DeviceView) (op : Op) (o : Option ℕ) → (acted_at d op o).bytes ≡ bytes_by d.bytes (effects_at (leaving_at op o) o)
acted_bytes d op (Some base) = refl
acted_bytes d op None = refl

memory_bytes : (d : DeviceView) (o : Option Op) → (memory_acted d o).bytes ≡ bytes_by d.bytes (effects_op d o)
memory_bytes d (Some op) = acted_bytes d op (base_of_op d op)
memory_bytes d None = refl

either : (b : Bool) (c d e : DeviceView) → c.bytes ≡ e.bytes → d.bytes ≡ e.bytes → (cond b c d).bytes ≡ e.bytes
either true c d e p q = p
either false c d e p q = q

configured_bytes : (d : DeviceView) (r : CfgRequest) → (configured d r).bytes ≡ d.bytes
configured_bytes d r = either (not (is_supported r)) _ _ d refl (either r.writes _ _ d refl refl)

head_bytes : (e : EndpointView) (ws : List Waiting) → (acted_on e ws).device.bytes ≡ bytes_by e.device.bytes (effects_by e.device ws)
head_bytes e [] = refl
head_bytes e (waits.Memory t ∷ ws) = memory_bytes e.device (op_of t)
head_bytes e (waits.Configuration r ∷ ws) = configured_bytes e.device r
head_bytes e (waits.Poisoned t ∷ ws) = refl
head_bytes e (waits.Refused d n ∷ ws) = refl

call_bytes : (e : EndpointView) (c : Call) → (after_call e c).device.bytes ≡ bytes_by e.device.bytes (effects e c)
call_bytes e (Take b) = taken_bytes e (becomes b)
call_bytes e Act = head_bytes e e.waiting
call_bytes e Reset = refl

pub bytes_made : (e : EndpointView) (cs : List Call) → (after_calls e cs).device.bytes ≡ bytes_by e.device.bytes (all_effects e cs)
unfolding all_of
bytes_made e [] = refl
bytes_made e (c ∷ cs) =
    bytes_made (after_call e c) cs
    ∙ ap (λ (m : List ℕ). bytes_by m (all_effects (after_call e c) cs)) (call_bytes e c)
    ∙ sym (fold-append (λ (m : List ℕ) (x : Effect). after x.base 128 m x.op) e.device.bytes (effects e c) (all_effects (after_call e c) cs))
