-- What enters the replay buffer of a device takes no more data units than a completion can.
use Rattle.std.proofs.Common.{◌≡◌, ℕ, ◌+◌, ◌-◌, ◌/◌, ◌≤◌, Bool, true, false, cond, List, [], ◌∷◌, ◌++◌, length, Option, Some, None, refl, sym, subst, ap, ◌∙◌, arith}
use Rattle.std.specs.Prelude.{◌==◌, ◌||◌, ◌&&◌, not, is_some, option_map, if◌then◌else◌}
use Rattle.std.proofs.lemmas.Bool.Decides.{nat_tests}
use Rattle.tlp_core.specs.Ops.{Op}
use Rattle.tlp_core.specs.declared.operation.OpOf.TheVariants as ops
use Rattle.tlp_core.specs.declared.fault.TlpFault.{TlpFault}
use Rattle.tlp_core.specs.declared.packet.Kind.{Kind}
use Rattle.tlp_core.specs.declared.packet.Kind.TheVariants as kinds
use Rattle.tlp_core.specs.declared.packet.Status.TheVariants as statuses
use Rattle.tlp_core.specs.TlpView.{TlpView}
use Rattle.tlp_core.specs.Operation.{op_of, op_fault, is_posted, address_of, count_of}
use Rattle.seq_memory.specs.declared.Refusal.{Refusal}
use Rattle.seq_memory.specs.declared.Refusal.TheVariants as refusals
use Rattle.seq_memory.specs.declared.reply.ReplyOf.TheVariants as replies
use Rattle.seq_memory.specs.Entries.{Reply}
use Rattle.seq_memory.specs.Step.{is_in_block, is_inside, refusal, read_back, bytes_at, answer_by, answer}
use Rattle.completer_core.specs.Completion.{completion_for, unless_posted}
use Rattle.completer_core.proofs.Shapes.{served_bytes}
use Rattle.flow_control.specs.declared.limits.LaneCredits.{LaneCredits}
use Rattle.flow_control.specs.declared.needs.Need.{Need}
use Rattle.flow_control.specs.Limits.{least_units}
use Rattle.flow_control.specs.Needs.{need_of, units_of}
use Rattle.endpoint_core.specs.DescriptorView.{DescriptorView}
use Rattle.endpoint_core.specs.Classes.{descriptor_for}
use Rattle.config_core.specs.SetupView.{SetupView}
use Rattle.config_core.specs.Registers.{value}
use Rattle.port_core.specs.declared.fault.EnterRefusal.{EnterRefusal}
use Rattle.port_core.specs.declared.incoming.Received.{Received}
use Rattle.port_core.specs.declared.incoming.Received.TheVariants as arrivals
use Rattle.port_core.specs.Incoming.{tlp_in}
use Rattle.port_core.specs.Port as port
use Rattle.port_core.specs.Port.{PortView}
use Rattle.port_core.specs.Runs as ports
use Rattle.port_core.specs.Runs.{IsOfFewUnits, AreOfFewUnits}
use Rattle.endpoint_core.specs.declared.waiting.Waiting.{Waiting}
use Rattle.endpoint_core.specs.declared.waiting.Waiting.TheVariants as waits
use Rattle.endpoint_core.specs.EndpointView.{DeviceView}
use Rattle.endpoint_core.specs.Steps as device
use Rattle.linked_endpoint.specs.LinkedView.{LinkedView}
use Rattle.linked_endpoint.specs.Linked.{is_waiting, after_arrival, may_act, is_last, given_back, acted, refusal_of, entered_with}
use Rattle.linked_endpoint.specs.Runs.{Call, Up, Down, Receive, ReceiveDllp, Act, Enter, Next, Refresh, Replay, Retrained, entered_unless, after_call, somes, frees, frees_last, frees_first, enters, calls_of_port, Run, new_run, run_by, runs_by, run_in}

abbrev pub AreFew : Option TlpView → Type 0
AreFew None = Unit {0}
AreFew (Some t) = (need_of t).units ≤ least_units (need_of t).class

-- ---- a reply has the bytes of one block

abbrev IsShort : Reply → Type 0
IsShort (replies.Data bytes) = length bytes.items ≤ 128
IsShort replies.Done = Unit {0}
IsShort replies.Unsupported = Unit {0}
IsShort replies.Aborted = Unit {0}

abbrev refused_as : Bool → Bool → Bool → Option Refusal
refused_as fault fits inside = cond (fault || not fits) (Some refusals.Aborted) (cond inside None (Some refusals.Unsupported))

served : (fault fits inside : Bool) → refused_as fault fits inside ≡ None → (fault ≡ false) × (fits ≡ true)
served true fits inside e = absurd cc
served false true inside e = (refl, refl)
served false false inside e = absurd cc

without : (o : Option TlpFault) → is_some o ≡ false → o ≡ None
without None e = refl
without (Some f) e = absurd cc

one_block : (a c : ℕ) → (a / 128 == (a + c - 1) / 128) ≡ true → c ≤ 128
one_block a c e = grind (arith, nat_tests)

read_short : (base : ℕ) (m : List ℕ) (op : Op) → is_posted op ≡ false → refusal base (length m) 128 op ≡ None → IsShort (read_back op (bytes_at m (address_of op - base) (count_of op)))
read_short base m op p none =
    let tested = served (is_some (op_fault op)) (is_in_block 128 (address_of op) (count_of op)) (is_inside base (length m) (address_of op) (count_of op)) none in
    let old = bytes_at m (address_of op - base) (count_of op) in
    let d = served_bytes base 128 m op (without (op_fault op) tested.0) p none in
    let given : answer base 128 m op ≡ read_back op old = ap (λ (o : Option Refusal). answer_by o (read_back op old)) none in
    let size = d.size in
    let few = one_block (address_of op) (count_of op) tested.1 in
    subst IsShort (sym (sym given ∙ d.is)) (omega (arith, size, few))

back_short : (base : ℕ) (m : List ℕ) (op : Op) → refusal base (length m) 128 op ≡ None → IsShort (read_back op (bytes_at m (address_of op - base) (count_of op)))
back_short base m (ops.Read a dw f l) none = read_short base m (ops.Read a dw f l) refl none
back_short base m (ops.Write a f l bytes) none = tt
back_short base m (ops.FetchAdd a w x) none = read_short base m (ops.FetchAdd a w x) refl none
back_short base m (ops.Swap a w x) none = read_short base m (ops.Swap a w x) refl none
back_short base m (ops.Cas a w x y) none = read_short base m (ops.Cas a w x y) refl none

answered : (o : Option Refusal) (r : Reply) → (o ≡ None → IsShort r) → IsShort (answer_by o r)
answered None r h = h refl
answered (Some refusals.Aborted) r h = tt
answered (Some refusals.Unsupported) r h = tt

short : (base : ℕ) (m : List ℕ) (op : Op) → IsShort (answer base 128 m op)
short base m op = answered (refusal base (length m) 128 op) _ (back_short base m op)

-- ---- so its completion takes few data units

eight : (n : ℕ) → n ≤ 128 → units_of n ≤ 8
eight n h = omega (arith, h)

no_units : 0 ≤ 8
no_units = omega arith

few_for : (id : ℕ) (t : TlpView) (r : Reply) → IsShort r → AreFew (option_map (device.from id) (completion_for t r))
few_for id t replies.Done h = tt
few_for id t (replies.Data bytes) h = eight (length bytes.items) h
few_for id t replies.Unsupported h = no_units
few_for id t replies.Aborted h = no_units

few_unless : (id : ℕ) (k : Kind) (c : Option TlpView) → AreFew (option_map (device.from id) c) → AreFew (option_map (device.from id) (unless_posted k c))
few_unless id kinds.MemoryRead c h = h
few_unless id kinds.MemoryWrite c h = tt
few_unless id kinds.FetchAdd c h = h
few_unless id kinds.Swap c h = h
few_unless id kinds.Cas c h = h
few_unless id kinds.Completion c h = h
few_unless id kinds.CompletionData c h = h

few_at : (d : DeviceView) (t : TlpView) (op : Op) (base : Option ℕ) → AreFew (device.completion_at d t op base)
few_at d t op None = no_units
few_at d t op (Some base) =
    few_unless d.completer t.kind (completion_for t (answer base 128 d.bytes (device.first_block op)))
    (few_for d.completer t (answer base 128 d.bytes (device.first_block op)) (short base d.bytes (device.first_block op)))

few_memory : (d : DeviceView) (t : TlpView) (o : Option Op) → AreFew (device.memory_completion d t o)
few_memory d t None = tt
few_memory d t (Some op) = few_at d t op (device.base_of_op d op)

few_configuration : (supported writes : Bool) (a b : TlpView) (c : TlpView) → AreFew (Some a) → AreFew (Some b) → AreFew (Some c)
    → AreFew (Some (if not supported then a else (if writes then b else c)))
few_configuration false writes a b c h k l = h
few_configuration true true a b c h k l = k
few_configuration true false a b c h k l = l

one_word : (c : DescriptorView) (id word : ℕ) → AreFew (Some (device.completion_with c id word))
one_word c id word = omega arith

few_by : (d : DeviceView) (w : Waiting) → AreFew (device.completion_by d w)
few_by d (waits.Memory t) = few_memory d t (op_of t)
few_by d (waits.Configuration r) =
    let c = descriptor_for r in
    few_configuration (device.is_supported r) r.writes (device.completion_without c d.completer statuses.Unsupported 4)
    (device.completion_without c (device.captured r) statuses.Success 4) (device.completion_with c d.completer (value d.registers r.register))
    no_units no_units (one_word c d.completer (value d.registers r.register))
few_by d (waits.Poisoned t) = no_units
few_by d (waits.Refused c n) = no_units

few_next : (d : DeviceView) (ws : List Waiting) → AreFew (device.next_by d ws)
few_next d [] = tt
few_next d (w ∷ ws) = few_by d w

-- ---- what is held

arrives_few : (r : Received) (l : LinkedView) (p : PortView) (tlp : List ℕ) → AreFew l.held → AreFew (after_arrival r l p tlp).held
arrives_few (arrivals.Accepted need true) l p tlp h = h
arrives_few (arrivals.Accepted need false) l p tlp h = h
arrives_few arrivals.Dropped l p tlp h = h
arrives_few arrivals.Duplicate l p tlp h = h
arrives_few arrivals.NakNow l p tlp h = h
arrives_few arrivals.Quiet l p tlp h = h

back_few : (b : Bool) (l : LinkedView) → AreFew l.held → AreFew (cond b (given_back l) l).held
back_few true l h = h
back_few false l h = h

acts_few : (b : Bool) (l : LinkedView) → AreFew l.held → AreFew (cond b (acted l) l).held
acts_few true l h =
    back_few (is_last l.endpoint) (record l { endpoint = device.acted l.endpoint; held = device.next_completion l.endpoint }) (few_next l.endpoint.device l.endpoint.waiting)
acts_few false l h = h

entered_few : (l : LinkedView) (t : Option TlpView) → AreFew l.held → AreFew (entered_with l t).held
entered_few l None h = h
entered_few l (Some t) h = tt

enters_few : (o : Option EnterRefusal) (l : LinkedView) → AreFew l.held → AreFew (entered_unless o l).held
enters_few None l h = entered_few l l.held h
enters_few (Some r) l h = h

call_few : (l : LinkedView) (call : Call) → AreFew l.held → AreFew (after_call l call).held
call_few l Up h = tt
call_few l Down h = tt
call_few l (Receive packet check) h = arrives_few (port.received l.port packet check) l (port.after_receive l.port packet check) (tlp_in packet) h
call_few l (ReceiveDllp bytes check) h = h
call_few l Act h = acts_few (may_act l) l h
call_few l Enter h = enters_few (refusal_of l) l h
call_few l Next h = h
call_few l Refresh h = h
call_few l Replay h = h
call_few l Retrained h = h

-- ---- what enters the port

more_few : (xs ys : List ports.Call) → AreOfFewUnits xs → AreOfFewUnits ys → AreOfFewUnits (xs ++ ys)
more_few [] ys h k = k
more_few (x ∷ xs) ys h k = (h.0, more_few xs ys h.1 k)

frees_few : (place : ℕ) (need : Option Need) → AreOfFewUnits (frees place need)
frees_few place None = tt
frees_few place (Some n) = (tt, tt)

unless_few : (w : Bool) (place : ℕ) (need : Option Need) → AreOfFewUnits (if w then [] else frees place need)
unless_few true place need = tt
unless_few false place need = frees_few place need

last_few : (l : LinkedView) (r : Received) (tlp : List ℕ) → AreOfFewUnits (frees_last l r tlp)
last_few l (arrivals.Accepted need true) tlp = tt
last_few l (arrivals.Accepted need false) tlp = unless_few (is_waiting (device.handled l.endpoint tlp)) (length (somes l.needs)) need
last_few l arrivals.Dropped tlp = tt
last_few l arrivals.Duplicate tlp = tt
last_few l arrivals.NakNow tlp = tt
last_few l arrivals.Quiet tlp = tt

first_few : (needs : List (Option Need)) → AreOfFewUnits (frees_first needs)
first_few [] = tt
first_few (need ∷ needs) = frees_few 0 need

gives_few : (b : Bool) (needs : List (Option Need)) → AreOfFewUnits (if b then frees_first needs else [])
gives_few true needs = first_few needs
gives_few false needs = tt

held_few : (t : Option TlpView) → AreFew t → AreOfFewUnits (enters t)
held_few None h = tt
held_few (Some t) h = (h, tt)

port_few : (l : LinkedView) (call : Call) → AreFew l.held → AreOfFewUnits (calls_of_port l call)
port_few l Up h = (tt, tt)
port_few l Down h = (tt, tt)
port_few l (Receive packet check) h = (tt, last_few l (port.received l.port packet check) (tlp_in packet))
port_few l (ReceiveDllp bytes check) h = (tt, tt)
port_few l Act h = gives_few (may_act l && is_last l.endpoint) l.needs
port_few l Enter h = held_few l.held h
port_few l Next h = (tt, tt)
port_few l Refresh h = (tt, tt)
port_few l Replay h = (tt, tt)
port_few l Retrained h = (tt, tt)

-- ---- a run

record IsFewRun (r : Run) : Type 0 where
  held : AreFew r.linked.held
  calls : AreOfFewUnits r.port_calls

run_few : (r : Run) (call : Call) → IsFewRun r → IsFewRun (run_by r call)
run_few r Up i = record { held = tt; calls = more_few r.port_calls _ i.calls (port_few r.linked Up i.held) }
run_few r Down i = record { held = tt; calls = more_few r.port_calls _ i.calls (port_few r.linked Down i.held) }
run_few r (Receive packet check) i = record { held = call_few r.linked (Receive packet check) i.held; calls = more_few r.port_calls _ i.calls (port_few r.linked (Receive packet check) i.held) }
run_few r (ReceiveDllp bytes check) i = record { held = i.held; calls = more_few r.port_calls _ i.calls (port_few r.linked (ReceiveDllp bytes check) i.held) }
run_few r Act i = record { held = call_few r.linked Act i.held; calls = more_few r.port_calls _ i.calls (port_few r.linked Act i.held) }
run_few r Enter i = record { held = call_few r.linked Enter i.held; calls = more_few r.port_calls _ i.calls (port_few r.linked Enter i.held) }
run_few r Next i = record { held = i.held; calls = more_few r.port_calls _ i.calls (port_few r.linked Next i.held) }
run_few r Refresh i = record { held = i.held; calls = more_few r.port_calls _ i.calls (port_few r.linked Refresh i.held) }
run_few r Replay i = record { held = i.held; calls = more_few r.port_calls _ i.calls (port_few r.linked Replay i.held) }
run_few r Retrained i = record { held = i.held; calls = more_few r.port_calls _ i.calls (port_few r.linked Retrained i.held) }

runs_few : (r : Run) (calls : List Call) → IsFewRun r → IsFewRun (runs_by r calls)
runs_few r [] i = i
runs_few r (call ∷ calls) i = runs_few (run_by r call) calls (run_few r call i)

pub are_few : (setup : SetupView) (ours : LaneCredits) (calls : List Call) → AreOfFewUnits (run_in setup ours calls).port_calls
are_few setup ours calls = (runs_few (new_run setup ours) calls (record { held = tt; calls = tt })).calls
