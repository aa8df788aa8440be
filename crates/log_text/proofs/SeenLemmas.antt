-- A log, or else a trace.
use Rattle.std.proofs.Common.{◌≡◌, ◌∙◌, ℕ, List, ap, sym, inl, inr, Result, Ok, Err}
use Rattle.std.specs.Prelude.{IfOk, IfErr, ◌⊎◌, Bool, true, false, cond}
use Rattle.history_words.specs.TraceView.{TraceView}
use Rattle.record_text.specs.declared.fault.ReadFault.{ReadFault}
use Rattle.record_text.specs.declared.fault.Misread.{Misread}
use Rattle.trace_text.specs.TraceReaderView as traces
use Rattle.log_text.specs.LogReaderView.{log_of, seen_of, or_trace, is_head, without_history, Tells, SeenTells}

pub seen-log : (text : List ℕ) (t : TraceView) → log_of text ≡ Ok t → seen_of text ≡ Ok t
unfolding seen_of
seen-log text t e = ap (λ (r : Result TraceView ReadFault). or_trace r text) e

-- no allocation failed for a fault of the head
pub fault-is : (text : List ℕ) (f : ReadFault) → is_head f.kind ≡ true → Tells text f → log_of text ≡ Err f
fault-is text f e told = elim told [
  | inl is ↦ is
  | inr refused ↦ absurd (let k = sym e ∙ ap (λ (g : ReadFault). is_head g.kind) refused.is in cc k)
]

seen-else : (text : List ℕ) (f : ReadFault) → is_head f.kind ≡ true → Tells text f → seen_of text ≡ without_history (traces.read_of text)
unfolding seen_of
seen-else text f e told =
    ap (λ (r : Result TraceView ReadFault). or_trace r text) (fault-is text f e told)
    ∙ ap (λ (t : Bool). cond t (without_history (traces.read_of text)) (Err f)) e

pub else-ok : (text : List ℕ) (f : ReadFault) (r : Result TraceView Misread) → is_head f.kind ≡ true → Tells text f
    → IfOk r (λ t. without_history (traces.read_of text) ≡ Ok t) → IfOk r (λ t. seen_of text ≡ Ok t)
else-ok text f (Ok t) e told h = seen-else text f e told ∙ h
else-ok text f (Err g) e told h = tt

pub else-err : (text : List ℕ) (f : ReadFault) (r : Result TraceView Misread) → is_head f.kind ≡ true → Tells text f
    → IfErr r (λ e. (without_history (traces.read_of text) ≡ Err e.fault) ⊎ traces.IsRefused text e.fault) → IfErr r (λ e. SeenTells text e.fault)
else-err text f (Ok t) e told h = tt
else-err text f (Err g) e told h = elim h [
  | inl is ↦ inl (seen-else text f e told ∙ is)
  | inr refused ↦ inr (inr refused)
]

-- another fault stays
pub other-err : (text : List ℕ) (f : ReadFault) → is_head f.kind ≡ false → Tells text f → SeenTells text f
unfolding seen_of
other-err text f e told = elim told [
  | inl is ↦
      inl (ap (λ (r : Result TraceView ReadFault). or_trace r text) is
      ∙ ap (λ (t : Bool). cond t (without_history (traces.read_of text)) (Err f)) e)
  | inr refused ↦ inr (inl refused)
]
