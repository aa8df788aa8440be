-- What was seen can be told.
use Rattle.std.proofs.Common.{◌≡◌, ℕ, Bool, true, false, List, [], ◌∷◌, ◌∙◌, length, refl, subst, fold, arith, Option, Some, None, inl, Result, Ok, Err}
use Rattle.std.specs.Prelude.{All, nat_lt, cond, codes, bytes_eq, is_some}
use Rattle.std.proofs.lemmas.List.Elements.{All-nil, All-cons, All-head, All-tail, All-append}
use Rattle.hex_text.specs.Lines.{lines_of, bare, said, is_skipped}
use Rattle.seq_memory.specs.Limits.{IsWithinLimits, Extent}
use Rattle.history_words.specs.Records.{Record}
use Rattle.history_words.specs.declared.record.RecordOf.TheVariants as records
use Rattle.history_words.specs.Claim.{Claim}
use Rattle.history_words.specs.TraceView.{TraceView}
use Rattle.tlp_core.specs.Ops.{Op}
use Rattle.seq_memory.specs.Entries.{Reply}
use Rattle.operation_text.specs.Operations.{op_spelled}
use Rattle.operation_text.specs.Words.{words, field, then_with, ended}
use Rattle.record_text.specs.declared.fault.ReadFault.{ReadFault}
use Rattle.record_text.specs.declared.form.Section.{Section}
use Rattle.record_text.specs.declared.form.Section.TheVariants as sections
use Rattle.record_text.specs.Forms as fields
use Rattle.record_text.specs.RecordReaderView.{RecordReaderView}
use Rattle.record_text.specs.RecordReaderView as reads
use Rattle.trace_text.specs.Tellable.{IsRequest, IsTellableRecord, IsTellable}
use Rattle.trace_store.specs.Changes.{seen_by}
use Rattle.trace_text.specs.TraceReaderView as traces
use Rattle.log_text.specs.declared.line.LogLine.{LogLine}
use Rattle.log_text.specs.declared.line.LogLine.TheVariants as lines
use Rattle.log_text.specs.Forms as forms
use Rattle.log_text.specs.Forms.{line_of, section_after}
use Rattle.log_text.specs.Told.{IsToldLog}
use Rattle.log_text.specs.declared.line.Version.{Version}
use Rattle.log_text.specs.declared.line.Version.TheVariants as versions
use Rattle.log_text.specs.ToldSubmissions.{IsToldSub}
use Rattle.log_text.specs.LogReaderView.{LogFormView, no_log, kept, log_grammar, log_read, log_in, log_of, without_history, is_head, or_trace, seen_of}

-- ---- what the fields of a line are

-- the field that a line begins with, and what follows
record Field {X Y : Type 0} (spells : List ℕ → Option X) (f : X → List (List ℕ) → Option Y) (y : Y) : Type 0 where
  value : X
  word : List ℕ
  rest : List (List ℕ)
  is : spells word ≡ Some value
  follows : f value rest ≡ Some y

field-first : {X Y : Type 0} (spells : List ℕ → Option X) (f : X → List (List ℕ) → Option Y) (ws : List (List ℕ)) (y : Y)
    → field spells f ws ≡ Some y → Field spells f y
field-first spells f [] y h = absurd (cc h)
field-first {X} {Y} spells f (w ∷ rest) y h = by (spells w) refl h
  where
    by : (o : Option X) → spells w ≡ o → then_with {X = X × List (List ℕ)} (then_with o (λ x. Some (x, rest))) (λ s. f s.0 s.1) ≡ Some y → Field spells f y
    by None e k = absurd (cc k)
    by (Some x) e k = record { value = x; word = w; rest = rest; is = e; follows = k }

-- what one word spells, and what is made of it
record Then {X Y : Type 0} (o : Option X) (f : X → Option Y) (y : Y) : Type 0 where
  value : X
  is : o ≡ Some value
  follows : f value ≡ Some y

then-first : {X Y : Type 0} (o : Option X) (f : X → Option Y) (y : Y) → then_with o f ≡ Some y → Then o f y
then-first None f y h = absurd (cc h)
then-first (Some x) f y h = record { value = x; is = refl; follows = h }

ended-is : {X : Type 0} (x y : X) (ws : List (List ℕ)) → ended x ws ≡ Some y → x ≡ y
ended-is x y [] h = cc h
ended-is x y (w ∷ ws) h = absurd (cc h)

some-is : {A : Type 0} (x y : A) → Some x ≡ Some y → x ≡ y
some-is x y e = cc e

-- one of two ways
either : {Y : Type 0} (P : Type 0) (t : Bool) (a b : Option Y) (y : Y) → (a ≡ Some y → P) → (b ≡ Some y → P) → cond t a b ≡ Some y → P
either P true a b y f g h = f h
either P false a b y f g h = g h

-- ---- what is known of the fields

-- the numbers of a request, and an extent
pub record Fields : Type 0 where
  pub request : (v w : List ℕ) (i k : ℕ) → fields.requester v ≡ Some i → fields.number w ≡ Some k → IsRequest i k
  pub memory : (has_block : Bool) (ws : List (List ℕ)) (x : Extent) → fields.memory_of has_block ws ≡ Some x → IsWithinLimits x

abbrev LineTold : LogLine → Type 0
LineTold (lines.FirstLine v) = Unit {0}
LineTold (lines.Memory x) = IsWithinLimits x
LineTold (lines.Record r) = IsToldSub r
LineTold lines.End = Unit {0}

abbrev Told : LogFormView → Type 0
Told l = IsToldLog (log_read l)

-- a record more
told-kept : (l : LogFormView) (line : LogLine) → Told l → LineTold line → Told (kept l line)
told-kept l (lines.FirstLine v) h is = record { limits = h.limits; submissions = h.submissions }
told-kept l (lines.Memory x) h is = record { limits = is; submissions = h.submissions }
told-kept l (lines.Record r) h is = record {
  limits = h.limits;
  submissions = All-append IsToldSub l.records (r ∷ []) h.submissions (All-cons IsToldSub r [] is (All-nil IsToldSub));
}
told-kept l lines.End h is = h

module _ (known : Fields) where
  memory-told : (ws : List (List ℕ)) (l : LogLine) → forms.memory_line_of ws ≡ Some l → LineTold l
  memory-told ws l h =
      let x = then-first (fields.memory_of true ws) (λ x. Some (lines.Memory x)) l h in
      subst LineTold (some-is (lines.Memory x.value) l x.follows) (known.memory true ws x.value x.is)

  sub-told : (ws : List (List ℕ)) (l : LogLine) → forms.sub_of ws ≡ Some l → LineTold l
  sub-told ws l h =
      let made : ℕ → ℕ → Op → Option LogLine = λ i k op. Some (lines.Record (records.Sub i k op 0)) in
      let i = field-first fields.requester (λ i. field fields.number (λ k rest. then_with (op_spelled rest) (made i k))) ws l h in
      let k = field-first fields.number (λ k rest. then_with (op_spelled rest) (made i.value k)) i.rest l i.follows in
      let op = then-first (op_spelled k.rest) (made i.value k.value) l k.follows in
      subst LineTold (some-is (lines.Record (records.Sub i.value k.value op.value 0)) l op.follows) (known.request i.word k.word i.value k.value i.is k.is, (k.rest, op.is))

  ans-told : (v : Version) (ws : List (List ℕ)) (l : LogLine) → forms.ans_of v ws ≡ Some l → LineTold l
  ans-told v ws l h =
      let made : ℕ → ℕ → Reply → Option LogLine = λ i k reply. Some (lines.Record (records.Ans i k reply 0)) in
      let i = field-first fields.requester (λ i. field fields.number (λ k rest. then_with (forms.reply_of v rest) (made i k))) ws l h in
      let k = field-first fields.number (λ k rest. then_with (forms.reply_of v rest) (made i.value k)) i.rest l i.follows in
      let reply = then-first (forms.reply_of v k.rest) (made i.value k.value) l k.follows in
      subst LineTold (some-is (lines.Record (records.Ans i.value k.value reply.value 0)) l reply.follows) tt

  words-told : (v : Version) (ws : List (List ℕ)) (l : LogLine) → forms.line_in_words v ws ≡ Some l → LineTold l
  words-told v [] l h = absurd (cc h)
  words-told v (kind ∷ ws) l h =
      either (LineTold l) (bytes_eq kind (codes "sub")) _ _ l (sub-told ws l)
      (either (LineTold l) (bytes_eq kind (codes "ans")) _ _ l (ans-told v ws l)
      (either (LineTold l) (bytes_eq kind (codes "memory")) _ _ l (memory-told ws l)
      (either (LineTold l) (bytes_eq kind (codes "end")) _ _ l (λ e. subst LineTold (ended-is lines.End l ws e) tt) (λ n. absurd (cc n))))) h

  line-told : (v : Version) (line : List ℕ) (l : LogLine) → line_of v line ≡ Some l → LineTold l
  line-told v line l h =
      either (LineTold l) (bytes_eq line (codes "pciex-log 1")) _ _ l (λ e. subst LineTold (some-is (lines.FirstLine versions.One) l e) tt)
      (either (LineTold l) (bytes_eq line (codes "pciex-log 2")) _ _ l (λ e. subst LineTold (some-is (lines.FirstLine versions.Two) l e) tt) (words-told v (words line) l)) h

  -- ---- the lines one after the other

  taken-told : (s : RecordReaderView LogFormView) (line : List ℕ) → Told s.form → Told (reads.taken log_grammar s (line_of s.form.version line)).form
  taken-told s line h = by (line_of s.form.version line) refl
    where
      placed : (l : LogLine) (next : Option Section) → line_of s.form.version line ≡ Some l → Told (reads.placed log_grammar s l next).form
      placed l None e = h
      placed l (Some section) e = told-kept s.form l h (line-told s.form.version line l e)

      by : (o : Option LogLine) → line_of s.form.version line ≡ o → Told (reads.taken log_grammar s o).form
      by None e = h
      by (Some l) e = placed l (section_after s.section l) e

  told-if : (t : Bool) (a b : RecordReaderView LogFormView) → Told a.form → Told b.form → Told (cond t a b).form
  told-if true a b ha hb = ha
  told-if false a b ha hb = hb

  take-told : (s : RecordReaderView LogFormView) (line : List ℕ) → Told s.form → Told (reads.take_line log_grammar s line).form
  take-told s line h =
      told-if (nat_lt 512 (length (bare line))) (reads.after_long_line s) (reads.after_line log_grammar s (said line))
      (told-if (is_some s.fault) s (reads.faulty s (reads.formless s.section)) h h)
      (told-if (is_some s.fault) s _ h (told-if (is_skipped (said line)) _ (reads.taken log_grammar s (line_of s.form.version (said line))) h (taken-told s (said line) h)))

  lines-told : (ls : List (List ℕ)) (s : RecordReaderView LogFormView) → Told s.form → Told (fold (reads.take_line log_grammar) s ls).form
  lines-told [] s h = h
  lines-told (l ∷ ls) s h = lines-told ls (reads.take_line log_grammar s l) (take-told s l h)

  nothing-told : Told no_log
  nothing-told = record {
    limits = record { in_size = (omega arith, omega arith, refl); in_base = (refl, omega arith); in_block = inl refl };
    submissions = All-nil IsToldSub;
  }

  end-told : (s : RecordReaderView LogFormView) (t : TraceView) → Told s.form → log_in (reads.at_end s) ≡ Ok t → IsToldLog t
  end-told s t h e = by s.fault s.section e
    where
      by : (f : Option ReadFault) (section : Section) → log_in (reads.fault_or_end f (record s { section = section })) ≡ Ok t → IsToldLog t
      by (Some f) section k = absurd (cc k)
      by None sections.FirstLine k = absurd (cc k)
      by None sections.Memory k = absurd (cc k)
      by None sections.Records k = absurd (cc k)
      by None sections.History k = absurd (cc k)
      by None sections.End k = let same : log_read s.form ≡ t = cc k in subst IsToldLog same h

  log-told : (text : List ℕ) (t : TraceView) → log_of text ≡ Ok t → IsToldLog t
  log-told text t e = end-told (reads.reading_of log_grammar no_log text) t (lines-told (lines_of text) (reads.nothing_read no_log) nothing-told) e

  -- ---- a log or a trace

  -- a trace without its history
  sub-of : (r : Record) → IsTellableRecord r → IsToldSub r
  sub-of (records.Sub i k op n) x = (x.0, x.2)
  sub-of (records.Ans i k reply n) x = tt

  subs-of : (rs : List Record) → All IsTellableRecord rs → All IsToldSub rs
  subs-of [] all = All-nil IsToldSub
  subs-of (r ∷ rs) all = All-cons IsToldSub r rs (sub-of r (All-head IsTellableRecord r rs all)) (subs-of rs (All-tail IsTellableRecord r rs all))

  seen-told : (r : Result Claim ReadFault) (t : TraceView) → ((c : Claim) → r ≡ Ok c → IsTellable c) → without_history r ≡ Ok t → IsToldLog t
  seen-told (Err f) t told e = absurd (cc e)
  seen-told (Ok c) t told e =
      let x = told c refl in
      let same : seen_by c ≡ t = cc e in
      subst IsToldLog same (record { limits = x.limits; submissions = subs-of c.records x.records_are })

  pub can-be-told : ((text : List ℕ) (c : Claim) → traces.read_of text ≡ Ok c → IsTellable c) → (text : List ℕ) (t : TraceView) → seen_of text ≡ Ok t → IsToldLog t
  unfolding seen_of
  can-be-told read text t e = by (log_of text) refl e
    where
      trace-or : (f : ReadFault) (head : Bool) → cond head (without_history (traces.read_of text)) (Err f) ≡ Ok t → IsToldLog t
      trace-or f true k = seen-told (traces.read_of text) t (read text) k
      trace-or f false k = absurd (cc k)

      by : (r : Result TraceView ReadFault) → log_of text ≡ r → or_trace r text ≡ Ok t → IsToldLog t
      by (Ok u) is k = log-told text t (is ∙ k)
      by (Err f) is k = trace-or f (is_head f.kind) k
