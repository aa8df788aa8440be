-- Each request that acts has a completion.
use Rattle.std.proofs.Common.{◌≡◌, ◌∙◌, ℕ, Bool, true, false, List, [], ◌∷◌, Option, Some, None, cond, refl, ap, sym, subst}
use Rattle.std.specs.Prelude.{◌-◌, IsSome, ◌==◌, length, option_map}
use Rattle.tlp_core.specs.Ops.{Op}
use Rattle.tlp_core.specs.declared.operation.OpOf.TheVariants as ops
use Rattle.tlp_core.specs.declared.packet.Kind.{Kind}
use Rattle.tlp_core.specs.declared.packet.Kind.TheVariants as kinds
use Rattle.tlp_core.specs.declared.packet.Body.{Body}
use Rattle.tlp_core.specs.declared.packet.Body.TheVariants as bodies
use Rattle.tlp_core.specs.TlpView.{TlpView}
use Rattle.tlp_core.specs.Operation.{op_at, op_of, address_of, count_of}
use Rattle.seq_memory.specs.declared.Refusal.{Refusal}
use Rattle.seq_memory.specs.declared.Refusal.TheVariants as refusals
use Rattle.seq_memory.specs.Entries.{Reply}
use Rattle.seq_memory.specs.Step.{answer, answer_by, read_back, data_of, refusal, bytes_at}
use Rattle.op_pieces.specs.Pieces.{front}
use Rattle.completer_core.specs.Completion.{completion_for, completion_of, unless_posted}
use Rattle.config_core.specs.SetupView.{SetupView}
use Rattle.endpoint_core.specs.declared.waiting.Waiting.{Waiting}
use Rattle.endpoint_core.specs.declared.waiting.Waiting.TheVariants as waits
use Rattle.endpoint_core.specs.EndpointView.{DeviceView}
use Rattle.endpoint_core.specs.Steps.{base_of_op, dw_in_front, first_block, from, memory_completion, completion_at, completion_by, next_by, next_completion, new_endpoint}
use Rattle.endpoint_core.specs.Runs.{Call, after_calls}
use Rattle.endpoint_core.proofs.Coming.{IsAsked}
use Rattle.endpoint_core.proofs.Queue.{AsksOne, AreAsked, new_asked}

front_read : (z : Bool) (n a dw f l : ℕ) (m : List ℕ) → (bytes : List ℕ) × (read_back (cond z (ops.Read a dw f l) (front n (ops.Read a dw f l))) m ≡ data_of bytes)
front_read true n a dw f l m = (_, refl)
front_read false n a dw f l m = (_, refl)

-- what a non-posted request asks
record IsOp (o : Option Op) : Type 0 where
  pub op : Op
  pub is : o ≡ Some op
  pub reads : (m : List ℕ) → (bytes : List ℕ) × (read_back (first_block op) m ≡ data_of bytes)

asks_op : (k : Kind) (b : Body) (dw : ℕ) (bytes : List ℕ) → IsAsked k b → IsOp (op_at k b dw bytes)
asks_op kinds.MemoryRead (bodies.Request a f l) dw bytes al = record { op = _; is = refl; reads = λ m. front_read (dw_in_front (ops.Read a dw f l) == 0) (dw_in_front (ops.Read a dw f l)) a dw f l m }
asks_op kinds.MemoryRead (bodies.Completion c s n lower) dw bytes al = absurd al
asks_op kinds.MemoryWrite b dw bytes al = absurd al
asks_op kinds.FetchAdd (bodies.Request a f l) dw bytes al = record { op = _; is = refl; reads = λ m. (m, refl) }
asks_op kinds.FetchAdd (bodies.Completion c s n lower) dw bytes al = absurd al
asks_op kinds.Swap (bodies.Request a f l) dw bytes al = record { op = _; is = refl; reads = λ m. (m, refl) }
asks_op kinds.Swap (bodies.Completion c s n lower) dw bytes al = absurd al
asks_op kinds.Cas (bodies.Request a f l) dw bytes al = record { op = _; is = refl; reads = λ m. (m, refl) }
asks_op kinds.Cas (bodies.Completion c s n lower) dw bytes al = absurd al
asks_op kinds.Completion b dw bytes al = absurd al
asks_op kinds.CompletionData b dw bytes al = absurd al

not_posted : (k : Kind) (b : Body) (c : Option TlpView) → IsAsked k b → unless_posted k c ≡ c
not_posted kinds.MemoryRead b c al = refl
not_posted kinds.MemoryWrite b c al = absurd al
not_posted kinds.FetchAdd b c al = refl
not_posted kinds.Swap b c al = refl
not_posted kinds.Cas b c al = refl
not_posted kinds.Completion b c al = absurd al
not_posted kinds.CompletionData b c al = absurd al

some_for : (id : ℕ) (t : TlpView) (o : Option Refusal) (bytes : List ℕ) → IsSome (option_map (from id) (completion_for t (answer_by o (data_of bytes))))
some_for id t None bytes = refl
some_for id t (Some refusals.Aborted) bytes = refl
some_for id t (Some refusals.Unsupported) bytes = refl

at_base : (d : DeviceView) (t : TlpView) (op : Op) (base : Option ℕ) → IsAsked t.kind t.body → ((m : List ℕ) → (bytes : List ℕ) × (read_back (first_block op) m ≡ data_of bytes)) → IsSome (completion_at d t op base)
at_base d t op None al reads = refl
at_base d t op (Some base) al reads =
    let m = bytes_at d.bytes (address_of (first_block op) - base) (count_of (first_block op)) in
    let p = reads m in
    let o = refusal base (length d.bytes) 128 (first_block op) in
    let same : completion_of t (answer base 128 d.bytes (first_block op)) ≡ completion_for t (answer_by o (data_of p.0)) =
    not_posted t.kind t.body (completion_for t (answer base 128 d.bytes (first_block op))) al ∙ ap (λ (r : Reply). completion_for t (answer_by o r)) p.1 in
    subst (λ (c : Option TlpView). IsSome (option_map (from d.completer) c)) (sym same) (some_for d.completer t o p.0)

memory_some : (d : DeviceView) (t : TlpView) → IsAsked t.kind t.body → IsSome (memory_completion d t (op_of t))
memory_some d t al =
    let p = asks_op t.kind t.body t.length t.payload al in
    subst (λ (o : Option Op). IsSome (memory_completion d t o)) (sym p.is) (at_base d t p.op (base_of_op d p.op) al p.reads)

completes : (d : DeviceView) (w : Waiting) → AsksOne w → IsSome (completion_by d w)
completes d (waits.Memory t) al = memory_some d t al
completes d (waits.Configuration r) al = refl
completes d (waits.Poisoned t) al = refl
completes d (waits.Refused c n) al = refl

head_completes : (d : DeviceView) (w : Waiting) (ws xs : List Waiting) → xs ≡ w ∷ ws → AreAsked xs → IsSome (next_by d xs)
head_completes d w ws [] is all = absurd cc
head_completes d w ws (x ∷ xs) is all = completes d x all.0

pub each_completes : (s : SetupView) (cs : List Call) (w : Waiting) (ws : List Waiting) → (after_calls (new_endpoint s) cs).waiting ≡ w ∷ ws → IsSome (next_completion (after_calls (new_endpoint s) cs))
each_completes s cs w ws is =
    let e = after_calls (new_endpoint s) cs in
    head_completes e.device w ws e.waiting is (new_asked s cs)
