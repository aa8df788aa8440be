-- What a rewriter has written is the text of what a reader has read.
use Rattle.std.proofs.Common.{◌≡◌, ◌∙◌, ℕ, Bool, true, false, List, [], ◌∷◌, ◌++◌, length, refl, sym, ap, fold, cond, map, append_assoc, Option, Some, None, Ok}
use Rattle.std.specs.Prelude.{nat_lt, is_some, codes}
use Rattle.std.proofs.lemmas.List.{append-nil, map-append}
use Rattle.seq_memory.specs.Limits.{Extent}
use Rattle.seq_memory.specs.Entries.{Entry}
use Rattle.history_words.specs.Records.{Record}
use Rattle.history_words.specs.Claim.{Claim}
use Rattle.hex_text.specs.Lines.{bare, said, is_skipped}
use Rattle.operation_text.specs.Words.{words}
use Rattle.record_text.specs.declared.fault.ReadFault.{ReadFault}
use Rattle.record_text.specs.declared.form.Section.{Section}
use Rattle.record_text.specs.declared.form.Section.TheVariants as sections
use Rattle.record_text.specs.RecordReaderView as reads
use Rattle.trace_text.specs.declared.line.Version.{Version}
use Rattle.trace_text.specs.declared.line.Line.{Line}
use Rattle.trace_text.specs.declared.line.Line.TheVariants as lines
use Rattle.trace_text.specs.Forms.{line_of, section_after}
use Rattle.trace_text.specs.TraceReaderView.{TraceFormView, TraceReaderView, trace_grammar, kept, nothing_read, take_line, claim_in, claim_read}
use Rattle.trace_text.specs.TraceReaderView.{after_line as read_line, after_long_line as read_long_line}
use Rattle.trace_text.specs.Texts.{memory_line, record_line, entry_line, lines_text, records_text, trace_text}
use Rattle.trace_text.specs.TraceRewriterView.{TraceRewriterView, rewrite_grammar, added, version_after, after_line, after_long_line, text_in, text_at_end}
use Rattle.trace_text.specs.Rewritten.{rewrite_line, text_of, RewritingIsReading}
use Rattle.trace_text.proofs.TextLemmas.{lines_text-append, lines_text-next, lines_text-none, trace_text-by}

-- a trace and a history
abbrev claim_by : Extent → List Record → List Entry → Claim
claim_by m rs es = record { memory = record { base = m.base; size = m.size; block = m.block; entries = es }; records = rs }

-- what is written of what is kept, by the section
abbrev text_so_far : Section → TraceFormView → List ℕ
text_so_far sections.FirstLine t = []
text_so_far sections.Memory t = codes "pciex-trace 2\n"
text_so_far sections.Records t = (codes "pciex-trace 2\n" ++ (memory_line (claim_by t.extent [] []).memory ++ 10 ∷ [])) ++ lines_text (map record_line t.records)
text_so_far sections.History t = records_text (claim_by t.extent t.records []) ++ lines_text (map entry_line t.entries)
text_so_far sections.End t = (records_text (claim_by t.extent t.records []) ++ lines_text (map entry_line t.entries)) ++ codes "end\n"

-- lists are empty until their section
abbrev IsInOrder : Section → TraceFormView → Type 0
IsInOrder sections.FirstLine t = (t.records ≡ []) × (t.entries ≡ [])
IsInOrder sections.Memory t = (t.records ≡ []) × (t.entries ≡ [])
IsInOrder sections.Records t = t.entries ≡ []
IsInOrder sections.History t = Unit {0}
IsInOrder sections.End t = Unit {0}

-- the rewriter of what a reader has read
abbrev rewriter_of : TraceReaderView → TraceRewriterView
rewriter_of s = record {
  section = s.section;
  lines = s.lines;
  fault = s.fault;
  form = record { version = s.form.version; text = text_so_far s.section s.form };
}

record Stands (w : TraceRewriterView) (s : TraceReaderView) : Type 0 where
  is : w ≡ rewriter_of s
  order : IsInOrder s.section s.form

-- a line more at the end
more : {X : Type 0} (f : X → List ℕ) (xs : List X) (x : X) → lines_text (map f xs) ++ (f x ++ 10 ∷ []) ≡ lines_text (map f (xs ++ x ∷ []))
more f xs x =
    let last : lines_text (f x ∷ []) ≡ f x ++ 10 ∷ [] = lines_text-next (f x) [] ∙ ap (λ (t : List ℕ). f x ++ 10 ∷ t) lines_text-none in
    ap (λ (t : List ℕ). lines_text (map f xs) ++ t) (sym last)
    ∙ sym (lines_text-append (map f xs) (f x ∷ []))
    ∙ ap lines_text (sym (map-append f xs (x ∷ [])))

-- what a line that is due makes of the text and of the order
record Goes (section next : Section) (t : TraceFormView) (l : Line) : Type 0 where
  text : text_so_far section t ++ added l ≡ text_so_far next (kept t l)
  order : IsInOrder next (kept t l)

goes-memory : (t : TraceFormView) (m : Extent) → IsInOrder sections.Memory t → Goes sections.Memory sections.Records t (lines.Memory m)
goes-memory t m h =
    let head = codes "pciex-trace 2\n" ++ (memory_line (claim_by m [] []).memory ++ 10 ∷ []) in
    record {
      text = sym (append-nil head) ∙ ap (λ (t : List ℕ). head ++ t) (sym lines_text-none) ∙ ap (λ (rs : List Record). head ++ lines_text (map record_line rs)) (sym h.0);
      order = h.1;
    }

goes-record : (t : TraceFormView) (r : Record) → IsInOrder sections.Records t → Goes sections.Records sections.Records t (lines.Record r)
goes-record t r h =
    let head = codes "pciex-trace 2\n" ++ (memory_line (claim_by t.extent [] []).memory ++ 10 ∷ []) in
    record {
      text = append_assoc head (lines_text (map record_line t.records)) (record_line r ++ 10 ∷ []) ∙ ap (λ (t : List ℕ). head ++ t) (more record_line t.records r);
      order = h;
    }

goes-history : (t : TraceFormView) → IsInOrder sections.Records t → Goes sections.Records sections.History t lines.History
goes-history t h =
    let before = records_text (claim_by t.extent t.records []) in
    record {
      text = sym (append-nil before) ∙ ap (λ (t : List ℕ). before ++ t) (sym lines_text-none) ∙ ap (λ (es : List Entry). before ++ lines_text (map entry_line es)) (sym h);
      order = tt;
    }

goes-entry : (t : TraceFormView) (e : Entry) → Goes sections.History sections.History t (lines.Entry e)
goes-entry t e =
    let before = records_text (claim_by t.extent t.records []) in
    record {
      text = append_assoc before (lines_text (map entry_line t.entries)) (entry_line e ++ 10 ∷ []) ∙ ap (λ (t : List ℕ). before ++ t) (more entry_line t.entries e);
      order = tt;
    }

-- the rewriter of what is read with a line
record Places (s : TraceReaderView) (l : Line) (next : Option Section) : Type 0 where
  is : reads.placed rewrite_grammar (rewriter_of s) l next ≡ rewriter_of (reads.placed trace_grammar s l next)
  order : IsInOrder (reads.placed trace_grammar s l next).section (reads.placed trace_grammar s l next).form

-- a line that isn't due leaves all as it is
stays : (s : TraceReaderView) (l : Line) → IsInOrder s.section s.form → Places s l None
stays s l h = record { is = refl; order = h }

same-version : (t : TraceFormView) (l : Line) → version_after t.version l ≡ (kept t l).version
same-version t (lines.FirstLine v) = refl
same-version t (lines.Memory m) = refl
same-version t (lines.Record r) = refl
same-version t lines.History = refl
same-version t (lines.Entry e) = refl
same-version t lines.End = refl

goes-on : (s : TraceReaderView) (l : Line) (next : Section) → Goes s.section next s.form l → Places s l (Some next)
goes-on s l next g =
    let made : Version → List ℕ → TraceRewriterView = λ v text. record { section = next; lines = reads.next_line s; fault = s.fault; form = record { version = v; text = text } } in
    record {
      is = ap (λ (v : Version). made v (text_so_far s.section s.form ++ added l)) (same-version s.form l) ∙ ap (made (kept s.form l).version) g.text;
      order = g.order;
    }

places : (section : Section) (s : TraceReaderView) (l : Line) → IsInOrder section s.form → Places (record s { section = section }) l (section_after section l)
places sections.FirstLine s (lines.FirstLine v) h = goes-on _ (lines.FirstLine v) sections.Memory (record { text = refl; order = h })
places sections.FirstLine s (lines.Memory m) h = stays _ (lines.Memory m) h
places sections.FirstLine s (lines.Record r) h = stays _ (lines.Record r) h
places sections.FirstLine s lines.History h = stays _ lines.History h
places sections.FirstLine s (lines.Entry e) h = stays _ (lines.Entry e) h
places sections.FirstLine s lines.End h = stays _ lines.End h
places sections.Memory s (lines.FirstLine v) h = stays _ (lines.FirstLine v) h
places sections.Memory s (lines.Memory m) h = goes-on _ (lines.Memory m) sections.Records (goes-memory s.form m h)
places sections.Memory s (lines.Record r) h = stays _ (lines.Record r) h
places sections.Memory s lines.History h = stays _ lines.History h
places sections.Memory s (lines.Entry e) h = stays _ (lines.Entry e) h
places sections.Memory s lines.End h = stays _ lines.End h
places sections.Records s (lines.FirstLine v) h = stays _ (lines.FirstLine v) h
places sections.Records s (lines.Memory m) h = stays _ (lines.Memory m) h
places sections.Records s (lines.Record r) h = goes-on _ (lines.Record r) sections.Records (goes-record s.form r h)
places sections.Records s lines.History h = goes-on _ lines.History sections.History (goes-history s.form h)
places sections.Records s (lines.Entry e) h = stays _ (lines.Entry e) h
places sections.Records s lines.End h = stays _ lines.End h
places sections.History s (lines.FirstLine v) h = stays _ (lines.FirstLine v) h
places sections.History s (lines.Memory m) h = stays _ (lines.Memory m) h
places sections.History s (lines.Record r) h = stays _ (lines.Record r) h
places sections.History s lines.History h = stays _ lines.History h
places sections.History s (lines.Entry e) h = goes-on _ (lines.Entry e) sections.History (goes-entry s.form e)
places sections.History s lines.End h = goes-on _ lines.End sections.End (record { text = refl; order = tt })
places sections.End s l h = stays _ l h

by-form : (s : TraceReaderView) (o : Option Line) → IsInOrder s.section s.form → Stands (reads.taken rewrite_grammar (rewriter_of s) o) (reads.taken trace_grammar s o)
by-form s None h = record { is = refl; order = h }
by-form s (Some l) h = let p = places s.section s l h in record { is = p.is; order = p.order }

after : (s : TraceReaderView) (line : List ℕ) → IsInOrder s.section s.form → Stands (after_line (rewriter_of s) line) (read_line s line)
after s line h = by (is_some s.fault) (is_skipped line)
  where
    other : Option Line
    other = line_of s.form.version (words line)

    by : (faulty skipped : Bool) → Stands
        (cond faulty (rewriter_of s) (cond skipped (reads.counted (rewriter_of s)) (reads.taken rewrite_grammar (rewriter_of s) other)))
        (cond faulty s (cond skipped (reads.counted s) (reads.taken trace_grammar s other)))
    by true skipped = record { is = refl; order = h }
    by false true = record { is = refl; order = h }
    by false false = by-form s other h

after-long : (s : TraceReaderView) → IsInOrder s.section s.form → Stands (after_long_line (rewriter_of s)) (read_long_line s)
after-long s h = by (is_some s.fault)
  where
    by : (faulty : Bool) → Stands
        (cond faulty (rewriter_of s) (reads.faulty (rewriter_of s) (reads.formless s.section)))
        (cond faulty s (reads.faulty s (reads.formless s.section)))
    by true = record { is = refl; order = h }
    by false = record { is = refl; order = h }

line : (s : TraceReaderView) (l : List ℕ) → IsInOrder s.section s.form → Stands (rewrite_line (rewriter_of s) l) (take_line s l)
line s l h = by (nat_lt 512 (length (bare l)))
  where
    by : (long : Bool) → Stands (cond long (after_long_line (rewriter_of s)) (after_line (rewriter_of s) (said l))) (cond long (read_long_line s) (read_line s (said l)))
    by true = after-long s h
    by false = after s (said l) h

all : (ls : List (List ℕ)) (s : TraceReaderView) → IsInOrder s.section s.form → Stands (fold rewrite_line (rewriter_of s) ls) (fold take_line s ls)
all [] s h = record { is = refl; order = h }
all (l ∷ ls) s h =
    let one = line s l h in
    let rest = all ls (take_line s l) one.order in
    record { is = ap (λ (r : TraceRewriterView). fold rewrite_line r ls) one.is ∙ rest.is; order = rest.order }

-- ---- the end

whole-text : (t : TraceFormView) → text_so_far sections.End t ≡ trace_text (claim_read t)
whole-text t = trace_text-by (claim_read t) (records_text (claim_read t)) (records_text (claim_read t) ++ lines_text (map entry_line t.entries)) (text_so_far sections.End t) refl refl refl

ends : (f : Option ReadFault) (section : Section) (s : TraceReaderView) → text_in (reads.fault_or_end f (rewriter_of (record s { section = section }))) ≡ text_of (claim_in (reads.fault_or_end f (record s { section = section })))
ends (Some f) section s = refl
ends None sections.FirstLine s = refl
ends None sections.Memory s = refl
ends None sections.Records s = refl
ends None sections.History s = refl
ends None sections.End s = ap (λ (t : List ℕ). Ok t) (whole-text s.form)

pub rewriting-is-reading : RewritingIsReading
rewriting-is-reading ls =
    let read = fold take_line nothing_read ls in
    let run = all ls nothing_read (refl, refl) in
    ap text_at_end run.is ∙ ends read.fault read.section read
