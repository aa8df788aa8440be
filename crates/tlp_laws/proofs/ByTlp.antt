-- What `tlp` answers to a request that is alone in a fabric.
use Rattle.std.proofs.Common.{ℕ, ◌≡◌, ◌*◌, ◌/◌, Bool, true, false, List, ◌∷◌, [], ◌++◌, Some, refl, sym, ap, ◌∙◌, arith}
use Rattle.std.specs.Prelude.{◌==◌}
use Rattle.std.proofs.lemmas.Bool.{ne_eqb}
use Rattle.tlp_core.specs.TlpView.{TlpView}
use Rattle.tlp_core.specs.declared.packet.Kind.{Kind}
use Rattle.tlp_core.specs.declared.packet.Kind.TheVariants as kinds
use Rattle.tlp_core.specs.declared.packet.Body.{Body}
use Rattle.tlp_core.specs.declared.packet.Body.TheVariants as bodies
use Rattle.tlp_core.specs.Ops.{Op}
use Rattle.tlp_core.specs.Operation.{op_of, op_at, is_completion}
use Rattle.seq_memory.specs.History.{MemoryView}
use Rattle.completer_core.specs.Serving.{with_entry}
use Rattle.history_words.specs.Records.{Record}
use Rattle.line_loop.specs.Run.{Answer}
use Rattle.packet_engine.specs.Tlp.{requests_of, answer_packet, answer_request, with_history}
use Rattle.tlp_laws.specs.Alone.{IsAnswered, by_tlp}

asks_for_none : (k : Kind) (b : Body) (dw : ℕ) (bytes : List ℕ) (op : Op) → op_at k b dw bytes ≡ Some op → is_completion k ≡ false
asks_for_none kinds.MemoryRead b dw bytes op h = refl
asks_for_none kinds.MemoryWrite b dw bytes op h = refl
asks_for_none kinds.FetchAdd b dw bytes op h = refl
asks_for_none kinds.Swap b dw bytes op h = refl
asks_for_none kinds.Cas b dw bytes op h = refl
asks_for_none kinds.Completion b dw bytes op h = absurd cc
asks_for_none kinds.CompletionData b dw bytes op h = absurd cc

pub is_by_tlp : (m m' : MemoryView) (port : ℕ) (op : Op) (records : List Record) (t : TlpView) → IsAnswered m port op records m' → op_of t ≡ Some op → t.requester ≡ port * 256
    → answer_packet with_history m t ≡ by_tlp m t op m'
is_by_tlp m m' port op records t a asks id =
    let port_is : t.requester / 256 ≡ port = omega (arith, id) in
    let count : requests_of m.entries (t.requester / 256) ≡ a.number = ap (requests_of m.entries) port_is ∙ sym a.numbered in
    let few = a.few in
    let low : (a.number == 4294967295) ≡ false = ne_eqb a.number 4294967295 (λ e. omega (arith, e, few)) in
    let request : is_completion t.kind ≡ false = asks_for_none t.kind t.body t.length t.payload op asks in
    rw request (
    ap (answer_request with_history m t) count
    ∙ rw (low, asks) (ap (λ (i : ℕ). by_tlp m t op (with_entry m (record { requester = i; number = a.number; op = op }))) port_is ∙ ap (by_tlp m t op) (sym a.acted))
    )
