-- The registers are what writes and errors make of them.
use Rattle.std.proofs.Common.{◌≡◌, ◌∙◌, ℕ, Bool, true, false, List, [], ◌∷◌, ◌++◌, Option, Some, None, cond, refl, ap, sym}
use Rattle.std.specs.Prelude.{not, is_some}
use Rattle.std.proofs.lemmas.List.Sums.{fold-append}
use Rattle.tlp_core.specs.Ops.{Op}
use Rattle.tlp_core.specs.TlpView.{TlpView}
use Rattle.tlp_core.specs.Operation.{op_of}
use Rattle.config_core.specs.RegistersView.{RegistersView}
use Rattle.config_core.specs.Registers.{after_poison}
use Rattle.config_core.specs.declared.registers.Noted.{Noted}
use Rattle.config_core.specs.declared.registers.Noted.TheVariants as noted
use Rattle.config_core.specs.declared.request.CfgRequest.{CfgRequest}
use Rattle.endpoint_core.specs.declared.received.Received.{Received}
use Rattle.endpoint_core.specs.declared.received.Received.TheVariants as received
use Rattle.endpoint_core.specs.Classes.{becomes, carries_poison}
use Rattle.endpoint_core.specs.declared.waiting.Waiting.{Waiting}
use Rattle.endpoint_core.specs.declared.waiting.Waiting.TheVariants as waits
use Rattle.endpoint_core.specs.EndpointView.{DeviceView, EndpointView}
use Rattle.endpoint_core.specs.Steps.{base_of_op, is_claimed, posted, posted_at, memory_acted, acted_at, configured, is_supported, acted_on, taken_as, with_poison}
use Rattle.endpoint_core.specs.Runs.{Call, Take, Act, Reset, after_call, after_calls, RegisterEffect, Report, after_effect, report_at, report_op, register_effects_as, configuration_effects, register_effects_by, register_effects, all_of, all_register_effects, registers_by, Poison, poison_effects}

-- ---- a poisoned request that isn't claimed

reports_at : (n : Noted) (o : Option ℕ) → is_some o ≡ false → Report n ∷ [] ≡ report_at n o
reports_at n (Some base) e = absurd cc
reports_at n None e = refl

reports : (d : DeviceView) (n : Noted) (o : Option Op) → is_claimed d o ≡ false → Report n ∷ [] ≡ report_op d n o
reports d n (Some op) e = reports_at n (base_of_op d op) e
reports d n None e = absurd cc

pub unclaimed_write : (d : DeviceView) (t : TlpView) → is_claimed d (op_of t) ≡ false → register_effects_as d (received.PoisonedPosted t) ≡ register_effects_as d (received.Posted t)
unclaimed_write d t e = ap (λ (b : Bool). Report (cond b noted.Dropped noted.Unclaimed) ∷ []) e ∙ reports d noted.Unclaimed (op_of t) e

pub unclaimed_atomic : (d : DeviceView) (t : TlpView) (ws : List Waiting) → is_claimed d (op_of t) ≡ false → register_effects_by d (waits.Poisoned t ∷ ws) ≡ register_effects_by d (waits.Memory t ∷ ws)
unclaimed_atomic d t ws e = ap (λ (b : Bool). Report (cond b noted.Poisoned noted.Refused) ∷ []) e ∙ reports d noted.Refused (op_of t) e

-- ---- each call

posted_reports : (d : DeviceView) (op : Op) (o : Option ℕ) → (posted_at d op o).registers ≡ registers_by d.registers (report_at noted.Unclaimed o)
posted_reports d op (Some base) = refl
posted_reports d op None = refl

posted_by : (d : DeviceView) (o : Option Op) → (posted d o).registers ≡ registers_by d.registers (report_op d noted.Unclaimed o)
posted_by d (Some op) = posted_reports d op (base_of_op d op)
posted_by d None = refl

taken_reports : (e : EndpointView) (r : Received) → (taken_as e r).device.registers ≡ registers_by e.device.registers (register_effects_as e.device r)
taken_reports e (received.Posted t) = posted_by e.device (op_of t)
taken_reports e (received.NonPosted t) = refl
taken_reports e (received.Configuration r) = refl
taken_reports e (received.PoisonedPosted t) = refl
taken_reports e (received.PoisonedNonPosted t) = refl
taken_reports e (received.Refused d n) = refl
taken_reports e (received.Unsupported n) = refl
taken_reports e received.Ignored = refl
taken_reports e received.Unexpected = refl
taken_reports e (received.Malformed f) = refl

acted_reports : (d : DeviceView) (op : Op) (o : Option ℕ) → (acted_at d op o).registers ≡ registers_by d.registers (report_at noted.Refused o)
acted_reports d op (Some base) = refl
acted_reports d op None = refl

memory_reports : (d : DeviceView) (o : Option Op) → (memory_acted d o).registers ≡ registers_by d.registers (report_op d noted.Refused o)
memory_reports d (Some op) = acted_reports d op (base_of_op d op)
memory_reports d None = refl

either : (b : Bool) (c d : DeviceView) (r : RegistersView) (es fs : List RegisterEffect) → c.registers ≡ registers_by r es → d.registers ≡ registers_by r fs → (cond b c d).registers ≡ registers_by r (cond b es fs)
either true c d r es fs p q = p
either false c d r es fs p q = q

configured_reports : (d : DeviceView) (r : CfgRequest) → (configured d r).registers ≡ registers_by d.registers (configuration_effects r)
configured_reports d r = either (not (is_supported r)) _ _ d.registers _ _ refl (either r.writes _ _ d.registers _ _ refl refl)

head_reports : (e : EndpointView) (ws : List Waiting) → (acted_on e ws).device.registers ≡ registers_by e.device.registers (register_effects_by e.device ws)
head_reports e [] = refl
head_reports e (waits.Memory t ∷ ws) = memory_reports e.device (op_of t)
head_reports e (waits.Configuration r ∷ ws) = configured_reports e.device r
head_reports e (waits.Poisoned t ∷ ws) = refl
head_reports e (waits.Refused d n ∷ ws) = refl

poisoned : (came : Bool) (d : DeviceView) (r : RegistersView) (es : List RegisterEffect) → d.registers ≡ registers_by r es
    → (with_poison came d).registers ≡ registers_by r (es ++ poison_effects came)
poisoned true d r es is = ap after_poison is ∙ sym (fold-append after_effect r es (Poison ∷ []))
poisoned false d r es is = is ∙ sym (fold-append after_effect r es [])

call_reports : (e : EndpointView) (c : Call) → (after_call e c).device.registers ≡ registers_by e.device.registers (register_effects e c)
call_reports e (Take b) = poisoned (carries_poison b) (taken_as e (becomes b)).device e.device.registers (register_effects_as e.device (becomes b)) (taken_reports e (becomes b))
call_reports e Act = head_reports e e.waiting
call_reports e Reset = refl

pub registers_made : (e : EndpointView) (cs : List Call) → (after_calls e cs).device.registers ≡ registers_by e.device.registers (all_register_effects e cs)
unfolding all_of
registers_made e [] = refl
registers_made e (c ∷ cs) =
    registers_made (after_call e c) cs
    ∙ ap (λ (r : RegistersView). registers_by r (all_register_effects (after_call e c) cs)) (call_reports e c)
    ∙ sym (fold-append after_effect e.device.registers (register_effects e c) (all_register_effects (after_call e c) cs))
