-- The first fault of a text is none of memory.
use Rattle.std.proofs.Common.{◌≡◌, ◌∙◌, ℕ, Bool, true, false, List, [], ◌∷◌, length, ap, refl, fold, Option, Some, None, Result, Ok, Err}
use Rattle.std.specs.Prelude.{nat_lt, cond, is_some}
use Rattle.hex_text.specs.Lines.{lines_of, bare, said, is_skipped}
use Rattle.history_words.specs.Claim.{Claim}
use Rattle.history_words.specs.TraceView.{TraceView}
use Rattle.record_text.specs.declared.fault.ReadFault.{ReadFault}
use Rattle.record_text.specs.declared.fault.ReadFaultKind.{ReadFaultKind}
use Rattle.record_text.specs.declared.fault.ReadFaultKind.TheVariants as faults
use Rattle.record_text.specs.declared.form.Section.{Section}
use Rattle.record_text.specs.declared.form.Section.TheVariants as sections
use Rattle.record_text.specs.Grammar.{Grammar}
use Rattle.record_text.specs.RecordReaderView.{RecordReaderView, nothing_read, fault_at_next, counted, faulty, misplaced, formless, placed, taken, after_line, after_long_line, take_line, reading_of, ended_in, fault_or_end, at_end}
use Rattle.record_text.specs.RecordReaderView as reads
use Rattle.trace_text.specs.TraceReaderView.{TraceFormView, no_trace, trace_grammar, claim_in}
use Rattle.trace_text.specs.TraceReaderView as traces
use Rattle.log_text.specs.LogReaderView.{LogFormView, no_log, log_grammar, log_in, log_of, or_trace, is_head, seen_of, without_history}

-- ---- the kind of a fault

abbrev IsNoMemory : ReadFaultKind → Type 0
IsNoMemory kind = kind ≡ faults.Memory → ⊥

misplaced-known : (section : Section) → IsNoMemory (misplaced section)
misplaced-known sections.FirstLine e = absurd (cc e)
misplaced-known sections.Memory e = absurd (cc e)
misplaced-known sections.Records e = absurd (cc e)
misplaced-known sections.History e = absurd (cc e)
misplaced-known sections.End e = absurd (cc e)

formless-known : (section : Section) → IsNoMemory (formless section)
formless-known sections.FirstLine e = absurd (cc e)
formless-known sections.Memory e = absurd (cc e)
formless-known sections.Records e = absurd (cc e)
formless-known sections.History e = absurd (cc e)
formless-known sections.End e = absurd (cc e)

-- ---- the first fault so far

abbrev IsKnown : {F : Type 0} → RecordReaderView F → Type 0
IsKnown s = (f : ReadFault) → s.fault ≡ Some f → IsNoMemory f.kind

faulty-known : {F : Type 0} (s : RecordReaderView F) (kind : ReadFaultKind) → IsNoMemory kind → IsKnown (faulty s kind)
faulty-known s kind h f e m = h (let same : kind ≡ f.kind = cc e in same ∙ m)

by-cond : {F : Type 0} (t : Bool) (a b : RecordReaderView F) → IsKnown a → IsKnown b → IsKnown (cond t a b)
by-cond true a b ha hb = ha
by-cond false a b ha hb = hb

module _ {F L : Type 0} (g : Grammar F L) where
  placed-known : (s : RecordReaderView F) (l : L) (o : Option Section) → IsKnown s → IsKnown (placed g s l o)
  placed-known s l None h = faulty-known s (misplaced s.section) (misplaced-known s.section)
  placed-known s l (Some section) h = h

  taken-known : (s : RecordReaderView F) (o : Option L) → IsKnown s → IsKnown (taken g s o)
  taken-known s None h = faulty-known s (formless s.section) (formless-known s.section)
  taken-known s (Some l) h = placed-known s l (g.section_after s.section l) h

  after-known : (s : RecordReaderView F) (line : List ℕ) → IsKnown s → IsKnown (after_line g s line)
  after-known s line h =
      let read = taken g s (g.line_of s.form line) in
      by-cond (is_some s.fault) s (cond (is_skipped line) (counted s) read) h
      (by-cond (is_skipped line) (counted s) read h (taken-known s (g.line_of s.form line) h))

  long-known : (s : RecordReaderView F) → IsKnown s → IsKnown (after_long_line s)
  long-known s h = by-cond (is_some s.fault) s (faulty s (formless s.section)) h (faulty-known s (formless s.section) (formless-known s.section))

  lines-known : (ls : List (List ℕ)) (s : RecordReaderView F) → IsKnown s → IsKnown (fold (take_line g) s ls)
  lines-known [] s h = h
  lines-known (l ∷ ls) s h =
      lines-known ls (take_line g s l)
      (by-cond (nat_lt 512 (length (bare l))) (after_long_line s) (after_line g s (said l)) (long-known s h) (after-known s (said l) h))

  end-known : (s : RecordReaderView F) (f : ReadFault) → IsKnown s → at_end s ≡ Err f → IsNoMemory f.kind
  end-known s f h e = by s.fault s.section refl e
    where
      by : (o : Option ReadFault) (section : Section) → s.fault ≡ o → fault_or_end o (record s { section = section }) ≡ Err f → IsNoMemory f.kind
      by (Some x) section is k m = h f (let same : x ≡ f = cc k in is ∙ ap Some same) m
      by None sections.FirstLine is k m = absurd (let same : faults.Head ≡ f.kind = cc k in cc (same ∙ m))
      by None sections.Memory is k m = absurd (let same : faults.Line ≡ f.kind = cc k in cc (same ∙ m))
      by None sections.Records is k m = absurd (let same : faults.Section ≡ f.kind = cc k in cc (same ∙ m))
      by None sections.History is k m = absurd (let same : faults.Section ≡ f.kind = cc k in cc (same ∙ m))
      by None sections.End is k m = absurd (cc k)

  read-known : (form : F) (text : List ℕ) (f : ReadFault) → reads.read_of g form text ≡ Err f → IsNoMemory f.kind
  read-known form text f e = end-known (reading_of g form text) f (lines-known (lines_of text) (nothing_read form) (λ x none. absurd (cc none))) e

-- ---- texts

pub trace-known : (text : List ℕ) (f : ReadFault) → traces.read_of text ≡ Err f → IsNoMemory f.kind
trace-known text f e = by (reads.read_of trace_grammar no_trace text) refl e
  where
    by : (r : Result TraceFormView ReadFault) → reads.read_of trace_grammar no_trace text ≡ r → claim_in r ≡ Err f → IsNoMemory f.kind
    by (Ok t) is k = absurd (cc k)
    by (Err x) is k = read-known trace_grammar no_trace text f (let same : x ≡ f = cc k in is ∙ ap Err same)

log-known : (text : List ℕ) (f : ReadFault) → log_of text ≡ Err f → IsNoMemory f.kind
log-known text f e = by (reads.read_of log_grammar no_log text) refl e
  where
    by : (r : Result LogFormView ReadFault) → reads.read_of log_grammar no_log text ≡ r → log_in r ≡ Err f → IsNoMemory f.kind
    by (Ok t) is k = absurd (cc k)
    by (Err x) is k = read-known log_grammar no_log text f (let same : x ≡ f = cc k in is ∙ ap Err same)

without-known : (text : List ℕ) (f : ReadFault) → without_history (traces.read_of text) ≡ Err f → IsNoMemory f.kind
without-known text f e = by (traces.read_of text) refl e
  where
    by : (r : Result Claim ReadFault) → traces.read_of text ≡ r → without_history r ≡ Err f → IsNoMemory f.kind
    by (Ok c) is k = absurd (cc k)
    by (Err x) is k = trace-known text f (let same : x ≡ f = cc k in is ∙ ap Err same)

pub seen-known : (text : List ℕ) (f : ReadFault) → seen_of text ≡ Err f → IsNoMemory f.kind
unfolding seen_of
seen-known text f e = by (log_of text) refl e
  where
    or-known : (x : ReadFault) (head : Bool) → log_of text ≡ Err x → cond head (without_history (traces.read_of text)) (Err x) ≡ Err f → IsNoMemory f.kind
    or-known x true is k = without-known text f k
    or-known x false is k = log-known text f (let same : x ≡ f = cc k in is ∙ ap Err same)

    by : (r : Result TraceView ReadFault) → log_of text ≡ r → or_trace r text ≡ Err f → IsNoMemory f.kind
    by (Ok t) is k = absurd (cc k)
    by (Err x) is k = or-known x (is_head x.kind) is k
