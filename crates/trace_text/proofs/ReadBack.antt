-- The text of a claim that some text spells is read back.
use Rattle.std.proofs.Common.{◌≡◌, ℕ, ◌+◌, ◌-◌, ◌^◌, ◌<◌, ◌≤◌, Bool, true, false, List, [], ◌∷◌, ◌++◌, length, get_or, refl, sym, ap, ◌∙◌, append_assoc, length-append, arith, All, map, Some, None, inl, inr, Ok}
use Rattle.std.specs.Prelude.{◌==◌, if◌then◌else◌, ◌&&◌, ◌≢◌, nat_lt, nat_le, codes, min}
use Rattle.std.specs.Io.BufRead.{strip_last}
use Rattle.std.specs.Fmt.{decimal}
use Rattle.std.proofs.lemmas.Bool.{and_parts, ne_eqb}
use Rattle.std.proofs.lemmas.Bool.Decides.{nat_tests}
use Rattle.std.proofs.lemmas.List.{append-nil}
use Rattle.std.proofs.lemmas.List.Elements.{All-nil, All-cons, All-append, All-head, All-tail, All-drop, All-get_or}
use Rattle.hex_text.specs.Lines.{lines_of, is_skipped}
use Rattle.tlp_core.specs.Ops.{Op}
use Rattle.seq_memory.specs.Entries.{Entry}
use Rattle.seq_memory.specs.Entries.{Reply}
use Rattle.seq_memory.specs.History.{MemoryView, extent_of}
use Rattle.seq_memory.specs.Limits.{IsSize, IsBase, IsBlock, IsWithinLimits, Extent, is_size, is_base, is_block, is_within_limits}
use Rattle.history_words.specs.Records.{Record}
use Rattle.history_words.specs.declared.record.RecordOf.TheVariants as records
use Rattle.history_words.specs.Claim.{Claim}
use Rattle.operation_text.specs.Words.{words}
use Rattle.operation_text.specs.Numbers.{numeral}
use Rattle.operation_text.specs.Operations.{address, op_spelled, reply_spelled}
use Rattle.operation_text.specs.Texts.{hexadecimal, op_text, reply_text, IsPrinted, IsPrintedChar}
use Rattle.trace_text.specs.declared.line.Version.{Version}
use Rattle.trace_text.specs.declared.line.Version.TheVariants as versions
use Rattle.trace_text.specs.declared.line.Line.{Line}
use Rattle.trace_text.specs.declared.line.Line.TheVariants as lines
use Rattle.record_text.specs.declared.form.Section.{Section}
use Rattle.record_text.specs.declared.form.Section.TheVariants as sections
use Rattle.record_text.specs.RecordReaderView.{placed}
use Rattle.record_text.specs.ReadingFacts as readings
use Rattle.record_text.specs.Forms as fields
use Rattle.trace_text.specs.Forms.{line_of, section_after}
use Rattle.trace_text.specs.TraceReaderView.{TraceReaderView, trace_grammar, nothing_read, at_end, read_of}
use Rattle.trace_text.specs.Tellable.{IsTellableRecord, IsTellableEntry, IsTellable}
use Rattle.trace_text.specs.Texts.{memory_line, record_line, entry_line, lines_text, trace_text}
use Rattle.trace_text.proofs.FormLemmas.{IsSpelled, RecordIs, EntryIs}
use Rattle.trace_text.proofs.ReadSpelled.{AllRecords, AllEntries, own-lines, own-nothing, OwnClaim, own-end}
use Rattle.trace_text.proofs.TextLemmas.{lines_text-next, lines_text-none, trace_text-is}
use Rattle.trace_text.proofs.ToldLemmas.{requester-range}

-- what is known of the texts of numbers, operations and replies
pub record Laws : Type 0 where
  pub range : (radix most n : ℕ) (word : List ℕ) → numeral radix most word ≡ Some n → n ≤ most
  pub decimal_back : (most n : ℕ) → n ≤ most → n < 2 ^ 64 → numeral 10 most (decimal n) ≡ Some n
  pub hexadecimal_back : (most n : ℕ) → n ≤ most → n < 2 ^ 64 → numeral 16 most (hexadecimal n) ≡ Some n
  pub decimal_word : (n : ℕ) (line : List ℕ) → words (decimal n ++ 32 ∷ line) ≡ decimal n ∷ words line
  pub decimal_last : (n : ℕ) → words (decimal n) ≡ decimal n ∷ []
  pub hexadecimal_word : (n : ℕ) (line : List ℕ) → words (hexadecimal n ++ 32 ∷ line) ≡ hexadecimal n ∷ words line
  pub printed : (n : ℕ) → IsPrinted (decimal n) × IsPrinted (hexadecimal n)
  pub short : (n : ℕ) → n < 2 ^ 64 → (length (decimal n) ≤ 20) × (length (hexadecimal n) ≤ 16)
  pub op_back : (ws : List (List ℕ)) (op : Op) → op_spelled ws ≡ Some op → op_spelled (words (op_text op)) ≡ Some op
  pub op_printed : (ws : List (List ℕ)) (op : Op) → op_spelled ws ≡ Some op → IsPrinted (op_text op)
  pub op_short : (ws : List (List ℕ)) (op : Op) → op_spelled ws ≡ Some op → length (op_text op) ≤ 320
  pub reply_back : (ws : List (List ℕ)) (reply : Reply) → reply_spelled ws ≡ Some reply → reply_spelled (words (reply_text reply)) ≡ Some reply
  pub reply_printed : (ws : List (List ℕ)) (reply : Reply) → reply_spelled ws ≡ Some reply → IsPrinted (reply_text reply)
  pub reply_short : (ws : List (List ℕ)) (reply : Reply) → reply_spelled ws ≡ Some reply → length (reply_text reply) ≤ 261

-- ---- the own text of what is spelled

-- the state of a reading of the second version without a fault
abbrev at : Section → ℕ → Extent → List Record → List Entry → TraceReaderView
at section n x rs es = record {
  section = section;
  lines = n;
  fault = None;
  form = record { version = versions.Two; extent = x; records = rs; entries = es };
}

-- the lines that follow a reading
abbrev reading_on : TraceReaderView → List ℕ → TraceReaderView
reading_on s text = readings.reading_on trace_grammar s text

-- a printed line of a form, that is none of those skipped
record IsLine (v : Version) (line : List ℕ) (l : Line) : Type 0 where
  printed : IsPrinted line
  fits : length line ≤ 512
  kept : is_skipped line ≡ false
  says : line_of v (words line) ≡ Some l

no_feeds : (line : List ℕ) → IsPrinted line → All (λ b. b ≢ 10) line
no_feeds [] h = All-nil (λ b. b ≢ 10)
no_feeds (c ∷ cs) h =
    All-cons (λ b. b ≢ 10) c cs (λ e. let k = All-head IsPrintedChar c cs h in omega (arith, k.0, e)) (no_feeds cs (All-drop IsPrintedChar 1 (c ∷ cs) h))

-- no carriage return ends it
no_return : (line : List ℕ) → IsPrinted line → strip_last 13 line ≡ line
no_return [] h = refl
no_return (c ∷ cs) h =
    let last = All-get_or IsPrintedChar (c ∷ cs) (length (c ∷ cs) - 1) 0 (omega arith) h in
    let ne : (get_or (c ∷ cs) (length (c ∷ cs) - 1) 0 == 13) ≡ false = ne_eqb (get_or (c ∷ cs) (length (c ∷ cs) - 1) 0) 13 (λ e. omega (arith, last.0, e)) in
    rw ne (grind (arith, nat_tests))

on-line : (s : TraceReaderView) (line more : List ℕ) (l : Line) → s.fault ≡ None → IsLine s.form.version line l
    → reading_on s (line ++ 10 ∷ more) ≡ reading_on (placed trace_grammar s l (section_after s.section l)) more
on-line s line more l none is =
    let short : nat_lt 512 (length line) ≡ false = let fits = is.fits in grind (arith, nat_tests) in
    readings.on-feed trace_grammar s line more (no_feeds line is.printed)
    ∙ ap (λ (r : TraceReaderView). reading_on r more) (rw (short, no_return line is.printed, none, is.kept, is.says) refl)

-- one word more
printed-field : (w line : List ℕ) → IsPrinted w → IsPrinted line → IsPrinted (w ++ 32 ∷ line)
printed-field w line hw hl = All-append IsPrintedChar w (32 ∷ line) hw (All-cons IsPrintedChar 32 line (omega arith, omega arith) hl)

longer : (w line : List ℕ) → length (w ++ 32 ∷ line) ≡ length w + 1 + length line
longer w line = omega (arith, length-append w (32 ∷ line))

are_printed : List ℕ → Bool
are_printed [] = true
are_printed (c ∷ cs) = (nat_le 32 c && nat_le c 126) && are_printed cs

printed-is : (cs : List ℕ) → are_printed cs ≡ true → IsPrinted cs
unfolding are_printed
printed-is [] h = All-nil IsPrintedChar
printed-is (c ∷ cs) h =
    let parts = and_parts (nat_le 32 c && nat_le c 126) (are_printed cs) h in
    let char = and_parts (nat_le 32 c) (nat_le c 126) parts.0 in
    All-cons IsPrintedChar c cs (le-of 32 c char.0, le-of c 126 char.1) (printed-is cs parts.1)
  where
    le-of : (a b : ℕ) → nat_le a b ≡ true → a ≤ b
    le-of a b t = grind (arith, nat_tests)

-- ---- lines by their values

module _ (law : Laws) where
  requester-back : (i : ℕ) → IsSpelled fields.requester i → fields.requester (decimal i) ≡ Some i
  requester-back i h =
      let r = requester-range law.range i h in
      let test : (i == 0) ≡ false = ne_eqb i 0 r.1 in
      rw (law.decimal_back 7 i r.0 (omega (arith, r.0)), test) refl

  number-back : (k : ℕ) → IsSpelled fields.number k → fields.number (decimal k) ≡ Some k
  number-back k h = let le = law.range 10 4294967294 k h.0 h.1 in law.decimal_back 4294967294 k le (omega arith)

  count-back : (n : ℕ) → IsSpelled fields.count n → fields.count (decimal n) ≡ Some n
  count-back n h = let le = law.range 10 18446744073709551615 n h.0 h.1 in law.decimal_back 18446744073709551615 n le (omega arith)

  address-back : (a : ℕ) → IsSpelled address a → address (hexadecimal a) ≡ Some a
  address-back a h = let le = law.range 16 18446744073709551615 a h.0 h.1 in law.hexadecimal_back 18446744073709551615 a le (omega arith)

  requester-short : (i : ℕ) → IsSpelled fields.requester i → length (decimal i) ≤ 20
  requester-short i h = let r = requester-range law.range i h in (law.short i (omega (arith, r.0))).0

  number-short : (k : ℕ) → IsSpelled fields.number k → length (decimal k) ≤ 20
  number-short k h = let le = law.range 10 4294967294 k h.0 h.1 in (law.short k (omega arith)).0

  count-short : (n : ℕ) → IsSpelled fields.count n → length (decimal n) ≤ 20
  count-short n h = let le = law.range 10 18446744073709551615 n h.0 h.1 in (law.short n (omega arith)).0

  address-short : (a : ℕ) → IsSpelled address a → length (hexadecimal a) ≤ 16
  address-short a h = let le = law.range 16 18446744073709551615 a h.0 h.1 in (law.short a (omega arith)).1

  sub-line : (i k n : ℕ) (op : Op) → RecordIs (records.Sub i k op n) → IsLine versions.Two (record_line (records.Sub i k op n)) (lines.Record (records.Sub i k op n))
  unfolding are_printed
  sub-line i k n op h = record {
    printed =
        printed-field (codes "sub") _ (printed-is (codes "sub") refl) (printed-field (decimal i) _ (law.printed i).0 (printed-field (decimal k) _ (law.printed k).0
        (printed-field (decimal n) (op_text op) (law.printed n).0 (law.op_printed h.3.0 op h.3.1))));
    fits =
        let a = requester-short i h.0 in
        let b = number-short k h.1 in
        let d = count-short n h.2 in
        let t = law.op_short h.3.0 op h.3.1 in
        omega (arith, a, b, d, t, longer (decimal n) (op_text op), longer (decimal k) (decimal n ++ 32 ∷ op_text op), longer (decimal i) (decimal k ++ 32 ∷ (decimal n ++ 32 ∷ op_text op)));
    kept = refl;
    says = rw (
      law.decimal_word i (decimal k ++ 32 ∷ (decimal n ++ 32 ∷ op_text op)),
      law.decimal_word k (decimal n ++ 32 ∷ op_text op),
      law.decimal_word n (op_text op),
      requester-back i h.0,
      number-back k h.1,
      count-back n h.2,
      law.op_back h.3.0 op h.3.1,
    ) refl;
  }

  ans-line : (i k n : ℕ) (reply : Reply) → RecordIs (records.Ans i k reply n) → IsLine versions.Two (record_line (records.Ans i k reply n)) (lines.Record (records.Ans i k reply n))
  unfolding are_printed
  ans-line i k n reply h = record {
    printed =
        printed-field (codes "ans") _ (printed-is (codes "ans") refl) (printed-field (decimal i) _ (law.printed i).0 (printed-field (decimal k) _ (law.printed k).0
        (printed-field (decimal n) (reply_text reply) (law.printed n).0 (law.reply_printed h.3.0 reply h.3.1))));
    fits =
        let a = requester-short i h.0 in
        let b = number-short k h.1 in
        let d = count-short n h.2 in
        let t = law.reply_short h.3.0 reply h.3.1 in
        omega (arith, a, b, d, t, longer (decimal n) (reply_text reply), longer (decimal k) (decimal n ++ 32 ∷ reply_text reply), longer (decimal i) (decimal k ++ 32 ∷ (decimal n ++ 32 ∷ reply_text reply)));
    kept = refl;
    says = rw (
      law.decimal_word i (decimal k ++ 32 ∷ (decimal n ++ 32 ∷ reply_text reply)),
      law.decimal_word k (decimal n ++ 32 ∷ reply_text reply),
      law.decimal_word n (reply_text reply),
      requester-back i h.0,
      number-back k h.1,
      count-back n h.2,
      law.reply_back h.3.0 reply h.3.1,
    ) refl;
  }

  entry-line : (e : Entry) → EntryIs e → IsLine versions.Two (entry_line e) (lines.Entry e)
  unfolding are_printed
  entry-line e h = record {
    printed =
        printed-field (codes "ent") _ (printed-is (codes "ent") refl) (printed-field (decimal e.requester) _ (law.printed e.requester).0
        (printed-field (decimal e.number) (op_text e.op) (law.printed e.number).0 (law.op_printed h.2.0 e.op h.2.1)));
    fits =
        let a = requester-short e.requester h.0 in
        let b = number-short e.number h.1 in
        let t = law.op_short h.2.0 e.op h.2.1 in
        omega (arith, a, b, t, longer (decimal e.number) (op_text e.op), longer (decimal e.requester) (decimal e.number ++ 32 ∷ op_text e.op));
    kept = refl;
    says = rw (
      law.decimal_word e.requester (decimal e.number ++ 32 ∷ op_text e.op),
      law.decimal_word e.number (op_text e.op),
      requester-back e.requester h.0,
      number-back e.number h.1,
      law.op_back h.2.0 e.op h.2.1,
    ) refl;
  }

  record-line : (r : Record) → RecordIs r → IsLine versions.Two (record_line r) (lines.Record r)
  record-line (records.Sub i k op n) h = sub-line i k n op h
  record-line (records.Ans i k reply n) h = ans-line i k n reply h

  block-back : (b : ℕ) → IsBlock b → fields.block (decimal b) ≡ Some b
  block-back b (inl e) = rw (e, law.decimal_back 128 64 (omega arith) (omega arith)) refl
  block-back b (inr e) = rw (e, law.decimal_back 128 128 (omega arith) (omega arith)) refl

  block-short : (b : ℕ) → IsBlock b → length (decimal b) ≤ 20
  block-short b (inl e) = (law.short b (omega arith)).0
  block-short b (inr e) = (law.short b (omega arith)).0

  memory-line : (m : MemoryView) → IsSpelled address m.base → IsSpelled fields.count m.size → IsBlock m.block → is_within_limits (extent_of m) ≡ true → IsLine versions.Two (memory_line m) (lines.Memory (extent_of m))
  unfolding are_printed
  memory-line m hb hs hk hw = record {
    printed =
        printed-field (codes "memory") _ (printed-is (codes "memory") refl) (printed-field (hexadecimal m.base) _ (law.printed m.base).1
        (printed-field (decimal m.size) (decimal m.block) (law.printed m.size).0 (law.printed m.block).0));
    fits =
        let a = address-short m.base hb in
        let b = count-short m.size hs in
        let d = block-short m.block hk in
        omega (arith, a, b, d, longer (decimal m.size) (decimal m.block), longer (hexadecimal m.base) (decimal m.size ++ 32 ∷ decimal m.block));
    kept = refl;
    says = rw (
      law.hexadecimal_word m.base (decimal m.size ++ 32 ∷ decimal m.block),
      law.decimal_word m.size (decimal m.block),
      law.decimal_last m.block,
      address-back m.base hb,
      count-back m.size hs,
      block-back m.block hk,
      hw,
    ) refl;
  }

  -- ---- the lines one after the other

  on-records : (x : Extent) (n : ℕ) (done rs : List Record) (more : List ℕ) → AllRecords rs
      → (m : ℕ) × (reading_on (at sections.Records n x done []) (lines_text (map record_line rs) ++ more) ≡ reading_on (at sections.Records m x (done ++ rs) []) more)
  on-records x n done [] more h = (
    n,
    ap (λ (t : List ℕ). reading_on (at sections.Records n x done []) (t ++ more)) lines_text-none
        ∙ ap (λ (rs : List Record). reading_on (at sections.Records n x rs []) more) (sym (append-nil done)),
  )
  on-records x n done (r ∷ rs) more h =
      let s = at sections.Records n x done [] in
      let rest = on-records x (min (n + 1) (2 ^ 64 - 1)) (done ++ r ∷ []) rs more h.1 in (
        rest.0,
        ap (λ (t : List ℕ). reading_on s (t ++ more)) (lines_text-next (record_line r) (map record_line rs))
            ∙ ap (reading_on s) (append_assoc (record_line r) (10 ∷ lines_text (map record_line rs)) more)
            ∙ on-line s (record_line r) (lines_text (map record_line rs) ++ more) (lines.Record r) refl (record-line r h.0)
            ∙ rest.1
            ∙ ap (λ (rs : List Record). reading_on (at sections.Records rest.0 x rs []) more) (append_assoc done (r ∷ []) rs),
      )

  on-entries : (x : Extent) (n : ℕ) (rs : List Record) (done es : List Entry) (more : List ℕ) → AllEntries es
      → (m : ℕ) × (reading_on (at sections.History n x rs done) (lines_text (map entry_line es) ++ more) ≡ reading_on (at sections.History m x rs (done ++ es)) more)
  on-entries x n rs done [] more h = (
    n,
    ap (λ (t : List ℕ). reading_on (at sections.History n x rs done) (t ++ more)) lines_text-none
        ∙ ap (λ (es : List Entry). reading_on (at sections.History n x rs es) more) (sym (append-nil done)),
  )
  on-entries x n rs done (e ∷ es) more h =
      let s = at sections.History n x rs done in
      let rest = on-entries x (min (n + 1) (2 ^ 64 - 1)) rs (done ++ e ∷ []) es more h.1 in (
        rest.0,
        ap (λ (t : List ℕ). reading_on s (t ++ more)) (lines_text-next (entry_line e) (map entry_line es))
            ∙ ap (reading_on s) (append_assoc (entry_line e) (10 ∷ lines_text (map entry_line es)) more)
            ∙ on-line s (entry_line e) (lines_text (map entry_line es) ++ more) (lines.Entry e) refl (entry-line e h.0)
            ∙ rest.1
            ∙ ap (λ (es : List Entry). reading_on (at sections.History rest.0 x rs es) more) (append_assoc done (e ∷ []) es),
      )

  head-line : IsLine versions.One (codes "pciex-trace 2") (lines.FirstLine versions.Two)
  unfolding are_printed
  head-line = record { printed = printed-is (codes "pciex-trace 2") refl; fits = omega arith; kept = refl; says = refl }

  history-line : IsLine versions.Two (codes "history") lines.History
  unfolding are_printed
  history-line = record { printed = printed-is (codes "history") refl; fits = omega arith; kept = refl; says = refl }

  end-line : IsLine versions.Two (codes "end") lines.End
  unfolding are_printed
  end-line = record { printed = printed-is (codes "end") refl; fits = omega arith; kept = refl; says = refl }

  -- all that is read of the whole text
  on-text : (c : Claim) → OwnClaim c → (n : ℕ) × (reading_on nothing_read (trace_text c) ≡ at sections.End n (extent_of c.memory) c.records c.memory.entries)
  on-text c h =
      let x : Extent = extent_of c.memory in
      let rs = c.records in
      let es = c.memory.entries in
      let last = codes "end" ++ 10 ∷ [] in
      let third = codes "history" ++ 10 ∷ (lines_text (map entry_line es) ++ last) in
      let second = lines_text (map record_line rs) ++ third in
      let first = memory_line c.memory ++ 10 ∷ second in
      let n0 : ℕ = min (0 + 1) (2 ^ 64 - 1) in
      let n1 : ℕ = min (n0 + 1) (2 ^ 64 - 1) in
      let read = on-records x n1 [] rs third h.records_are in
      let n2 : ℕ = min (read.0 + 1) (2 ^ 64 - 1) in
      let entered = on-entries x n2 rs [] es last h.entries_are in (
        min (entered.0 + 1) (2 ^ 64 - 1),
        ap (reading_on nothing_read) (trace_text-is c)
            ∙ on-line nothing_read (codes "pciex-trace 2") first (lines.FirstLine versions.Two) refl head-line
            ∙ on-line (at sections.Memory n0 (record { base = 0; size = 128; block = 64 }) [] []) (memory_line c.memory) second (lines.Memory x) refl (memory-line c.memory h.base_is h.size_is h.block_is h.within)
            ∙ read.1
            ∙ on-line (at sections.Records read.0 x rs []) (codes "history") (lines_text (map entry_line es) ++ last) lines.History refl history-line
            ∙ entered.1
            ∙ on-line (at sections.History entered.0 x rs es) (codes "end") [] lines.End refl end-line
            ∙ readings.on-none trace_grammar (at sections.End (min (entered.0 + 1) (2 ^ 64 - 1)) x rs es),
      )

  pub read-back : (text : List ℕ) (c : Claim) → read_of text ≡ Ok c → read_of (trace_text c) ≡ Ok c
  read-back text c h =
      let own = own-end (reading_on nothing_read text) c (own-lines (lines_of text) nothing_read own-nothing) h in
      ap at_end (on-text c own).1

  pub one-claim : (t u : List ℕ) (c d : Claim) → read_of t ≡ Ok c → read_of u ≡ Ok d → trace_text c ≡ trace_text d → c ≡ d
  one-claim t u c d h k e = let same = sym (read-back t c h) ∙ ap read_of e ∙ read-back u d k in cc same

  -- ---- what lines can tell is spelled

  requester-told : (i : ℕ) → 1 ≤ i → i ≤ 7 → IsSpelled fields.requester i
  requester-told i low high =
      let test : (i == 0) ≡ false = ne_eqb i 0 (λ e. omega (arith, low, e)) in
      (decimal i, rw (law.decimal_back 7 i high (omega (arith, high)), test) refl)

  number-told : (k : ℕ) → k < 2 ^ 32 - 1 → IsSpelled fields.number k
  number-told k lt = (decimal k, law.decimal_back 4294967294 k (omega (arith, lt)) (omega (arith, lt)))

  count-told : (n : ℕ) → n < 2 ^ 64 → IsSpelled fields.count n
  count-told n lt = (decimal n, law.decimal_back 18446744073709551615 n (omega (arith, lt)) lt)

  address-told : (a : ℕ) → a < 2 ^ 64 → IsSpelled address a
  address-told a lt = (hexadecimal a, law.hexadecimal_back 18446744073709551615 a (omega (arith, lt)) lt)

  record-told : (r : Record) → IsTellableRecord r → RecordIs r
  record-told (records.Sub i k op n) h = (requester-told i h.0.0 h.0.1, number-told k h.0.2, count-told n h.1, h.2)
  record-told (records.Ans i k reply n) h = (requester-told i h.0.0 h.0.1, number-told k h.0.2, count-told n h.1, h.2)

  records-told : (rs : List Record) → All IsTellableRecord rs → AllRecords rs
  records-told [] h = tt
  records-told (r ∷ rs) h = (record-told r (All-head IsTellableRecord r rs h), records-told rs (All-tail IsTellableRecord r rs h))

  entry-told : (e : Entry) → IsTellableEntry e → EntryIs e
  entry-told e h = (requester-told e.requester h.0.0 h.0.1, number-told e.number h.0.2, h.1)

  entries-told : (es : List Entry) → All IsTellableEntry es → AllEntries es
  entries-told [] h = tt
  entries-told (e ∷ es) h = (entry-told e (All-head IsTellableEntry e es h), entries-told es (All-tail IsTellableEntry e es h))

  size-test : (size : ℕ) → IsSize size → is_size size ≡ true
  size-test size h = grind (arith, nat_tests)

  base-test : (base size : ℕ) → IsBase base size → is_base base size ≡ true
  base-test base size h = grind (arith, nat_tests)

  block-test : (block : ℕ) → IsBlock block → is_block block ≡ true
  block-test block (inl e) = rw e refl
  block-test block (inr e) = rw e refl

  limits-test : (x : Extent) → IsWithinLimits x → is_within_limits x ≡ true
  limits-test x h = rw (size-test x.size h.in_size, base-test x.base x.size h.in_base, block-test x.block h.in_block) refl

  claim-told : (c : Claim) → IsTellable c → OwnClaim c
  claim-told c h =
      let s = h.limits.in_size in
      let b = h.limits.in_base in
      record {
        within = limits-test (extent_of c.memory) h.limits;
        base_is = address-told c.memory.base (omega (arith, s.0, b.1));
        size_is = count-told c.memory.size (omega (arith, s.1));
        block_is = h.limits.in_block;
        records_are = records-told c.records h.records_are;
        entries_are = entries-told c.memory.entries h.entries_are;
      }

  pub told-back : (c : Claim) → IsTellable c → read_of (trace_text c) ≡ Ok c
  told-back c h = ap at_end (on-text c (claim-told c h)).1
