-- What is read of a trace is spelled.
use Rattle.std.proofs.Common.{◌≡◌, ℕ, Bool, true, false, List, [], ◌∷◌, ◌++◌, length, refl, subst, fold, Option, Some, None, inl, Ok}
use Rattle.std.specs.Prelude.{nat_lt, cond, codes, is_some}
use Rattle.hex_text.specs.Lines.{bare, said, is_skipped}
use Rattle.seq_memory.specs.Entries.{Entry}
use Rattle.seq_memory.specs.Limits.{IsBlock, Extent, is_within_limits}
use Rattle.seq_memory.specs.History.{extent_of}
use Rattle.history_words.specs.Records.{Record}
use Rattle.history_words.specs.Claim.{Claim}
use Rattle.operation_text.specs.Words.{words}
use Rattle.operation_text.specs.Operations.{address}
use Rattle.record_text.specs.declared.fault.ReadFault.{ReadFault}
use Rattle.trace_text.specs.declared.line.Version.{Version}
use Rattle.trace_text.specs.declared.line.Line.{Line}
use Rattle.trace_text.specs.declared.line.Line.TheVariants as lines
use Rattle.record_text.specs.declared.form.Section.{Section}
use Rattle.record_text.specs.declared.form.Section.TheVariants as sections
use Rattle.record_text.specs.Forms as fields
use Rattle.record_text.specs.RecordReaderView as reads
use Rattle.trace_text.specs.Forms.{line_of, section_after}
use Rattle.trace_text.specs.TraceReaderView.{TraceFormView, TraceReaderView, trace_grammar, kept, nothing_read, after_line, after_long_line, take_line, claim_read, claim_in, at_end}
use Rattle.trace_text.proofs.FormLemmas.{IsSpelled, RecordIs, EntryIs, LineIs, line-is}

abbrev pub AllRecords : List Record → Type 0
AllRecords [] = Unit {0}
AllRecords (r ∷ rs) = RecordIs r × AllRecords rs

abbrev pub AllEntries : List Entry → Type 0
AllEntries [] = Unit {0}
AllEntries (e ∷ es) = EntryIs e × AllEntries es

pub records-more : (rs : List Record) (r : Record) → AllRecords rs → RecordIs r → AllRecords (rs ++ r ∷ [])
records-more [] r h hr = (hr, tt)
records-more (x ∷ rs) r h hr = (h.0, records-more rs r h.1 hr)

pub entries-more : (es : List Entry) (e : Entry) → AllEntries es → EntryIs e → AllEntries (es ++ e ∷ [])
entries-more [] e h he = (he, tt)
entries-more (x ∷ es) e h he = (h.0, entries-more es e h.1 he)

pub record IsOwn (x : Extent) (rs : List Record) (es : List Entry) : Type 0 where
  pub within : is_within_limits x ≡ true
  pub base_is : IsSpelled address x.base
  pub size_is : IsSpelled fields.count x.size
  pub block_is : IsBlock x.block
  pub records_are : AllRecords rs
  pub entries_are : AllEntries es

abbrev pub Own : TraceFormView → Type 0
Own t = IsOwn t.extent t.records t.entries

pub own-kept : (t : TraceFormView) (l : Line) → Own t → LineIs l → Own (kept t l)
own-kept t (lines.FirstLine v) h is = h
own-kept t (lines.Memory x) h is = record { within = is.3; base_is = is.0; size_is = is.1; block_is = is.2; records_are = h.records_are; entries_are = h.entries_are }
own-kept t (lines.Record r) h is = record { within = h.within; base_is = h.base_is; size_is = h.size_is; block_is = h.block_is; records_are = records-more t.records r h.records_are is; entries_are = h.entries_are }
own-kept t lines.History h is = h
own-kept t (lines.Entry e) h is = record { within = h.within; base_is = h.base_is; size_is = h.size_is; block_is = h.block_is; records_are = h.records_are; entries_are = entries-more t.entries e h.entries_are is }
own-kept t lines.End h is = h

pub own-taken : (s : TraceReaderView) (v : Version) (ws : List (List ℕ)) → Own s.form → Own (reads.taken trace_grammar s (line_of v ws)).form
own-taken s v ws h = by (line_of v ws) refl
  where
    placed : (l : Line) (next : Option Section) → line_of v ws ≡ Some l → Own (reads.placed trace_grammar s l next).form
    placed l None e = h
    placed l (Some section) e = own-kept s.form l h (line-is v ws l e)

    by : (o : Option Line) → line_of v ws ≡ o → Own (reads.taken trace_grammar s o).form
    by None e = h
    by (Some l) e = placed l (section_after s.section l) e

pub own-if : (t : Bool) (a b : TraceReaderView) → Own a.form → Own b.form → Own (cond t a b).form
own-if true a b ha hb = ha
own-if false a b ha hb = hb

pub own-line : (s : TraceReaderView) (line : List ℕ) → Own s.form → Own (take_line s line).form
own-line s line h =
    own-if (nat_lt 512 (length (bare line))) (after_long_line s) (after_line s (said line))
    (own-if (is_some s.fault) s (reads.faulty s (reads.formless s.section)) h h)
    (own-if (is_some s.fault) s _ h (own-if (is_skipped (said line)) _ (reads.taken trace_grammar s (line_of s.form.version (words (said line)))) h (own-taken s s.form.version (words (said line)) h)))

pub own-lines : (ls : List (List ℕ)) (s : TraceReaderView) → Own s.form → Own (fold take_line s ls).form
own-lines [] s h = h
own-lines (l ∷ ls) s h = own-lines ls (take_line s l) (own-line s l h)

pub own-nothing : Own nothing_read.form
own-nothing = record { within = refl; base_is = (codes "0", refl); size_is = (codes "128", refl); block_is = inl refl; records_are = tt; entries_are = tt }

abbrev pub OwnClaim : Claim → Type 0
OwnClaim c = IsOwn (extent_of c.memory) c.records c.memory.entries

pub own-end : (s : TraceReaderView) (c : Claim) → Own s.form → at_end s ≡ Ok c → OwnClaim c
own-end s c h e = by s.fault s.section e
  where
    by : (f : Option ReadFault) (section : Section) → claim_in (reads.fault_or_end f (record s { section = section })) ≡ Ok c → OwnClaim c
    by (Some f) section k = absurd (cc k)
    by None sections.FirstLine k = absurd (cc k)
    by None sections.Memory k = absurd (cc k)
    by None sections.Records k = absurd (cc k)
    by None sections.History k = absurd (cc k)
    by None sections.End k = let same : claim_read s.form ≡ c = cc k in subst OwnClaim same h
