-- A posted request has no completion, and any other has one.
use Rattle.std.proofs.Common.{ℕ, ◌≡◌, ◌+◌, Bool, true, false, List, refl, sym, ap, ◌∙◌, Option, Some, None, if◌then◌else◌}
use Rattle.std.specs.Prelude.{is_some, option_and_then}
use Rattle.dllp_core.specs.declared.packet.Class.TheVariants.{Posted}
use Rattle.tlp_core.specs.Ops.{Op}
use Rattle.tlp_core.specs.declared.operation.OpOf.TheVariants as ops
use Rattle.tlp_core.specs.declared.packet.Kind.{Kind}
use Rattle.tlp_core.specs.declared.packet.Kind.TheVariants as kinds
use Rattle.tlp_core.specs.declared.packet.Body.{Body}
use Rattle.tlp_core.specs.declared.packet.Body.TheVariants as bodies
use Rattle.tlp_core.specs.TlpView.{TlpView}
use Rattle.tlp_core.specs.Operation.{op_at, op_of}
use Rattle.seq_memory.specs.declared.Refusal.{Refusal}
use Rattle.seq_memory.specs.declared.Refusal.TheVariants as refusals
use Rattle.seq_memory.specs.Entries.{Reply}
use Rattle.seq_memory.specs.Step.{answer, answer_by, data_of, refusal, bytes_at, read_back}
use Rattle.seq_memory.specs.History.{MemoryView, bytes_of}
use Rattle.completer_core.specs.Completion.{completion_for, unless_posted}
use Rattle.completer_core.specs.Serving.{completion_to}
use Rattle.flow_control.specs.Needs.{class_of}
use Rattle.flow_control.specs.Credits.{same}
use Rattle.fabric_settle.specs.Hops.{hops_of}

-- the hops of a completion that enters `out`, if there is one
abbrev pub hops_if_any : Option TlpView → ℕ
hops_if_any None = 0
hops_if_any (Some c) = 2

abbrev pub completed : TlpView → Kind → (Op → Reply) → Option Op → Option TlpView
completed t kind reply o = option_and_then (λ op. unless_posted kind (completion_for t (reply op))) o

-- data or a refusal makes a completion
one_by : (t : TlpView) (r : Option Refusal) (bytes : List ℕ) → hops_if_any (completion_for t (answer_by r (data_of bytes))) ≡ 2
one_by t None bytes = refl
one_by t (Some refusals.Aborted) bytes = refl
one_by t (Some refusals.Unsupported) bytes = refl

by_kind : (base block : ℕ) (m : List ℕ) (t : TlpView) (k : Kind) (b : Body) (dw : ℕ) (bytes : List ℕ) → is_some (op_at k b dw bytes) ≡ true
    → hops_if_any (completed t k (answer base block m) (op_at k b dw bytes)) + 1 ≡ (if same (class_of k) Posted then 1 else 3)
by_kind base block m t kinds.MemoryRead (bodies.Request a f l) dw bytes h = ap (λ n. n + 1) (one_by t _ _)
by_kind base block m t kinds.MemoryWrite (bodies.Request a f l) dw bytes h = refl
by_kind base block m t kinds.FetchAdd (bodies.Request a f l) dw bytes h = ap (λ n. n + 1) (one_by t _ _)
by_kind base block m t kinds.Swap (bodies.Request a f l) dw bytes h = ap (λ n. n + 1) (one_by t _ _)
by_kind base block m t kinds.Cas (bodies.Request a f l) dw bytes h = ap (λ n. n + 1) (one_by t _ _)
by_kind base block m t kinds.MemoryRead (bodies.Completion c s n l) dw bytes h = absurd cc
by_kind base block m t kinds.MemoryWrite (bodies.Completion c s n l) dw bytes h = absurd cc
by_kind base block m t kinds.FetchAdd (bodies.Completion c s n l) dw bytes h = absurd cc
by_kind base block m t kinds.Swap (bodies.Completion c s n l) dw bytes h = absurd cc
by_kind base block m t kinds.Cas (bodies.Completion c s n l) dw bytes h = absurd cc
by_kind base block m t kinds.Completion b dw bytes h = absurd cc
by_kind base block m t kinds.CompletionData b dw bytes h = absurd cc

pub served_hops : (m : MemoryView) (t : TlpView) (mark : ℕ) → is_some (op_of t) ≡ true → hops_if_any (completion_to m t) + 1 ≡ hops_of 1 3 (t, mark)
served_hops m t mark h = by_kind m.base m.block (bytes_of m) t t.kind t.body t.length t.payload h
