-- What is kept of an input is read as the input, and its lines have the same numbers.
use Rattle.std.proofs.Common.{◌≡◌, ◌≢◌, ◌≤◌, ◌-◌, ◌⊎◌, ◌==◌, ℕ, Bool, true, false, if◌then◌else◌, List, [], ◌∷◌, ◌++◌, ◌∙◌, length, take, map, filter, fold, refl, ap, sym, arith, nat_lt, inl, inr, subst, All, Result, Ok, Err, suc}
use Rattle.std.specs.Prelude.{cond, is_some}
use Rattle.std.specs.Io.BufRead.{strip_last, ends_with_byte}
use Rattle.std.proofs.lemmas.Bool.{cases_lt}
use Rattle.std.proofs.lemmas.Bool.Decides.{nat_tests}
use Rattle.std.proofs.lemmas.List.{take_all, length-take-le}
use Rattle.std.proofs.lemmas.List.Elements.{All-take}
use Rattle.hex_text.specs.Lines.{lines_of, bare, said, is_skipped}
use Rattle.hex_text.specs.LineFacts.{no_feed, lines_of-last, bare-feed, ends-feed, ends-last}
use Rattle.history_words.specs.Claim.{Claim}
use Rattle.history_words.specs.TraceView.{TraceView}
use Rattle.record_text.specs.declared.fault.ReadFault.{ReadFault}
use Rattle.record_text.specs.Grammar.{Grammar}
use Rattle.record_text.specs.RecordReaderView.{RecordReaderView, nothing_read, counted, take_line, after_long_line, at_end, read_of}
use Rattle.record_text.specs.Endings.{on_ended_line, on_last_line}
use Rattle.record_text.specs.ReadingFacts.{take_line-feed, reading_on, on-last}
use Rattle.trace_text.specs.TraceReaderView.{trace_grammar, no_trace, claim_in}
use Rattle.trace_text.specs.TraceReaderView as traces
use Rattle.log_text.specs.LogReaderView.{log_grammar, no_log, log_in, log_of, or_trace, is_head, without_history, seen_of}
use Rattle.trace_diagnostics.specs.Told.{TraceLinesView, next_line, nothing_numbered, numbered, numbered_all}
use Rattle.search_reasons.specs.Lines.{lines_in}
use Rattle.search_scene.specs.Scenes.{Shows}
use Rattle.log_pieces.specs.declared.Granularity.{Granularity}
use Rattle.search_run.specs.declared.exploring.Bounds.{Bounds}
use Rattle.search_engine.specs.Search.{IsAnswerTo, OutSearchFor}
use Rattle.search_engine.specs.Drawn.{IsAnswerDrawn, OutSearchDrawn}
use Rattle.search_engine.specs.Kept.{AreKept, KeptLine, as_kept, as_read, ended, kept_of}

-- ---- what is kept of a line

-- of one that is too long, of one that is skipped, of any other
abbrev Case : Bool → Bool → List ℕ → List ℕ → Type 0
Case long skipped line kept =
    ((long ≡ true) × (kept ≡ take 513 line)) ⊎ ((long ≡ false) × (skipped ≡ true) × (kept ≡ [])) ⊎ (kept ≡ line)

case-by : (long skipped : Bool) (line : List ℕ) → Case long skipped line (cond long (take 513 line) (cond skipped [] line))
case-by true skipped line = inl (refl, refl)
case-by false true line = inr (inl (refl, refl, refl))
case-by false false line = inr (inr refl)

case-of : (line : List ℕ) → Case (nat_lt 512 (length line)) (is_skipped (strip_last 13 line)) line (kept_of line)
case-of line = case-by (nat_lt 512 (length line)) (is_skipped (strip_last 13 line)) line

-- as much is kept of a long line as tells that it is long
still-long : (line : List ℕ) → nat_lt 512 (length line) ≡ true → nat_lt 512 (length (take 513 line)) ≡ true
still-long line long = elim (cases_lt 512 (length line)) [
  | inl more ↦ let len : length (take 513 line) ≡ 513 = length-take-le 513 line more in rw len refl
  | inr few ↦ ap (λ (t : List ℕ). nat_lt 512 (length t)) (take_all 513 line (omega arith)) ∙ long
]

first : {X : Type 0} (t : Bool) (a b : X) → t ≡ true → cond t a b ≡ a
first true a b e = refl
first false a b e = absurd (cc e)

choice : {X : Type 0} (t f k : Bool) (a b c d : X) → t ≡ false → k ≡ true → cond t a (cond f b (cond k c d)) ≡ cond f b c
choice true f k a b c d e h = absurd (cc e)
choice false f true a b c d e h = refl
choice false f false a b c d e h = absurd (cc h)

-- ---- reading

module _ {F L : Type 0} (g : Grammar F L) where
  skipped : (s : RecordReaderView F) (line : List ℕ) → nat_lt 512 (length line) ≡ false → is_skipped (strip_last 13 line) ≡ true
      → on_ended_line g s line ≡ (if is_some s.fault then s else counted s)
  skipped s line short e = choice (nat_lt 512 (length line)) (is_some s.fault) (is_skipped (strip_last 13 line)) _ s (counted s) _ short e

  ended-as-kept : (s : RecordReaderView F) (line kept : List ℕ) → Case (nat_lt 512 (length line)) (is_skipped (strip_last 13 line)) line kept
      → on_ended_line g s kept ≡ on_ended_line g s line
  ended-as-kept s line kept (inl (long, is)) =
      ap (on_ended_line g s) is ∙ first (nat_lt 512 (length (take 513 line))) (after_long_line s) _ (still-long line long)
      ∙ sym (first (nat_lt 512 (length line)) (after_long_line s) _ long)
  ended-as-kept s line kept (inr (inl (short, e, is))) = ap (on_ended_line g s) is ∙ skipped s [] refl refl ∙ sym (skipped s line short e)
  ended-as-kept s line kept (inr (inr is)) = ap (on_ended_line g s) is

  line-as-kept : (s : RecordReaderView F) (l : KeptLine) → take_line g s (as_kept l) ≡ take_line g s (as_read l)
  line-as-kept s l = take_line-feed g s l.kept ∙ by l.is ∙ sym (take_line-feed g s l.line)
    where
      by : (l.kept ≡ l.line) ⊎ (l.kept ≡ kept_of l.line) → on_ended_line g s l.kept ≡ on_ended_line g s l.line
      by (inl e) = ap (on_ended_line g s) e
      by (inr e) = ap (on_ended_line g s) e ∙ ended-as-kept s l.line (kept_of l.line) (case-of l.line)

  -- the last line
  last-as-kept : (s : RecordReaderView F) (line : List ℕ) → on_last_line g s (take 513 line) ≡ on_last_line g s line
  last-as-kept s line = by (nat_lt 512 (length line)) refl
    where
      short : nat_lt 512 (length line) ≡ false → length line ≤ 513
      short e = elim (cases_lt 512 (length line)) [
        | inl more ↦ let long : nat_lt 512 (length line) ≡ true = grind (arith, nat_tests) in absurd (cc (e, long))
        | inr few ↦ omega arith
      ]

      by : (t : Bool) → nat_lt 512 (length line) ≡ t → on_last_line g s (take 513 line) ≡ on_last_line g s line
      by true e =
          first (nat_lt 512 (length (take 513 line))) (after_long_line s) _ (still-long line e) ∙ sym (first (nat_lt 512 (length line)) (after_long_line s) _ e)
      by false e = ap (on_last_line g s) (take_all 513 line (short e))

  some-bytes : (b : ℕ) (bytes : List ℕ) → take 513 (b ∷ bytes) ≡ [] → ⊥
  some-bytes b bytes e = cc

  end-as-kept : (s : RecordReaderView F) (last : List ℕ) → All (λ b. b ≢ 10) last → reading_on g s (take 513 last) ≡ reading_on g s last
  end-as-kept s [] one = refl
  end-as-kept s (b ∷ bytes) one =
      on-last g s (take 513 (b ∷ bytes)) (some-bytes b bytes) (All-take (λ c. c ≢ 10) 513 (b ∷ bytes) one)
      ∙ last-as-kept s (b ∷ bytes) ∙ sym (on-last g s (b ∷ bytes) (λ e. cc) one)

  lines-as-kept : (s : RecordReaderView F) (ls : List KeptLine) (rest rest' : List (List ℕ))
      → ((r : RecordReaderView F) → fold (take_line g) r rest' ≡ fold (take_line g) r rest)
      → fold (take_line g) s (map as_kept ls ++ rest') ≡ fold (take_line g) s (map as_read ls ++ rest)
  lines-as-kept s [] rest rest' same = same s
  lines-as-kept s (l ∷ ls) rest rest' same =
      ap (λ (r : RecordReaderView F). fold (take_line g) r (map as_kept ls ++ rest')) (line-as-kept s l)
      ∙ lines-as-kept (take_line g s (as_read l)) ls rest rest' same

  same-read : (form : F) (input text : List ℕ) → AreKept input text → read_of g form text ≡ read_of g form input
  same-read form input text k =
      ap at_end (
      ap (fold (take_line g) (nothing_read form)) k.kept
      ∙ lines-as-kept (nothing_read form) k.ended_lines (lines_of k.last) (lines_of (take 513 k.last)) (λ r. end-as-kept r k.last k.one_line)
      ∙ sym (ap (fold (take_line g) (nothing_read form)) k.lines)
      )

same-log : (input text : List ℕ) → AreKept input text → log_of text ≡ log_of input
same-log input text k = ap log_in (same-read log_grammar no_log input text k)

same-trace : (input text : List ℕ) → AreKept input text → traces.read_of text ≡ traces.read_of input
same-trace input text k = ap claim_in (same-read trace_grammar no_trace input text k)

or_trace-same : (r : Result TraceView ReadFault) (input text : List ℕ) → traces.read_of text ≡ traces.read_of input → or_trace r text ≡ or_trace r input
or_trace-same (Ok t) input text e = refl
or_trace-same (Err f) input text e = ap (λ (c : Result Claim ReadFault). if is_head f.kind then without_history c else Err f) e

-- the same was seen
pub same-seen : (input text : List ℕ) → AreKept input text → seen_of text ≡ seen_of input
unfolding seen_of
same-seen input text k =
    ap (λ (r : Result TraceView ReadFault). or_trace r text) (same-log input text k) ∙ or_trace-same (log_of input) input text (same-trace input text k)

-- ---- numbers of lines

said-feed : (line : List ℕ) → said (line ++ 10 ∷ []) ≡ strip_last 13 line
said-feed line =
    let is : said (line ++ 10 ∷ []) ≡ strip_last 13 (bare (line ++ 10 ∷ [])) = rw (ends-feed line) refl in
    is ∙ ap (strip_last 13) (bare-feed line)

-- whether a line is skipped is told by its first byte
by-first : (b c : ℕ) (bytes : List ℕ) → is_skipped (strip_last 13 (b ∷ c ∷ bytes)) ≡ (b == 35)
by-first b c bytes = by (ends_with_byte 13 (b ∷ c ∷ bytes))
  where
    by : (t : Bool) → is_skipped (if t then take (length (b ∷ c ∷ bytes) - 1) (b ∷ c ∷ bytes) else b ∷ c ∷ bytes) ≡ (b == 35)
    by true = let e : length (b ∷ c ∷ bytes) - 1 ≡ suc (length bytes) = omega arith in rw e refl
    by false = refl

long-as-kept : (line : List ℕ) → nat_lt 512 (length line) ≡ true → is_skipped (strip_last 13 (take 513 line)) ≡ is_skipped (strip_last 13 line)
long-as-kept [] long = absurd (cc long)
long-as-kept (b ∷ []) long = absurd (cc long)
long-as-kept (b ∷ c ∷ bytes) long = by-first b c (take 511 bytes) ∙ sym (by-first b c bytes)

skipped-as-kept : (line kept : List ℕ) → Case (nat_lt 512 (length line)) (is_skipped (strip_last 13 line)) line kept
    → is_skipped (strip_last 13 kept) ≡ is_skipped (strip_last 13 line)
skipped-as-kept line kept (inl (long, is)) = ap (λ (t : List ℕ). is_skipped (strip_last 13 t)) is ∙ long-as-kept line long
skipped-as-kept line kept (inr (inl (short, e, is))) = ap (λ (t : List ℕ). is_skipped (strip_last 13 t)) is ∙ sym e
skipped-as-kept line kept (inr (inr is)) = ap (λ (t : List ℕ). is_skipped (strip_last 13 t)) is

same-skipped : (l : KeptLine) → is_skipped (said (as_kept l)) ≡ is_skipped (said (as_read l))
same-skipped l = ap is_skipped (said-feed l.kept) ∙ by l.is ∙ sym (ap is_skipped (said-feed l.line))
  where
    by : (l.kept ≡ l.line) ⊎ (l.kept ≡ kept_of l.line) → is_skipped (strip_last 13 l.kept) ≡ is_skipped (strip_last 13 l.line)
    by (inl e) = ap (λ (t : List ℕ). is_skipped (strip_last 13 t)) e
    by (inr e) = ap (λ (t : List ℕ). is_skipped (strip_last 13 t)) e ∙ skipped-as-kept l.line (kept_of l.line) (case-of l.line)

same-numbered : (v : TraceLinesView) (l : KeptLine) → numbered v (said (as_kept l)) ≡ numbered v (said (as_read l))
same-numbered v l =
    ap (λ (t : Bool). record { lines = next_line v; skipped = if t then v.skipped ++ next_line v ∷ [] else v.skipped }) (same-skipped l)

passes : (line : List ℕ) (ls : List (List ℕ)) → filter (ends_with_byte 10) (ended line ∷ ls) ≡ ended line ∷ filter (ends_with_byte 10) ls
passes line ls = let test = ends-feed line in rw test refl

-- no line has ended in a text without a line feed
not_ended : (bytes : List ℕ) → All (λ b. b ≢ 10) bytes → filter (ends_with_byte 10) (lines_of bytes) ≡ []
unfolding lines_of
not_ended [] h = refl
not_ended (b ∷ bytes) h =
    let test = ends-last (b ∷ bytes) h in
    ap (filter (ends_with_byte 10)) (lines_of-last bytes b (no_feed (b ∷ bytes) h)) ∙ rw test refl

-- the numbers of lines that have ended
abbrev numbers : TraceLinesView → List (List ℕ) → TraceLinesView
numbers v ls = numbered_all v (map said (filter (ends_with_byte 10) ls))

numbers-as-kept : (v : TraceLinesView) (ls : List KeptLine) (rest rest' : List (List ℕ))
    → filter (ends_with_byte 10) rest ≡ [] → filter (ends_with_byte 10) rest' ≡ []
    → numbers v (map as_kept ls ++ rest') ≡ numbers v (map as_read ls ++ rest)
numbers-as-kept v [] rest rest' e e' = ap (λ (ms : List (List ℕ)). numbered_all v (map said ms)) (e' ∙ sym e)
numbers-as-kept v (l ∷ ls) rest rest' e e' =
    ap (λ (ms : List (List ℕ)). numbered_all v (map said ms)) (passes l.kept (map as_kept ls ++ rest'))
    ∙ ap (λ (w : TraceLinesView). numbers w (map as_kept ls ++ rest')) (same-numbered v l)
    ∙ numbers-as-kept (numbered v (said (as_read l))) ls rest rest' e e'
    ∙ sym (ap (λ (ms : List (List ℕ)). numbered_all v (map said ms)) (passes l.line (map as_read ls ++ rest)))

-- lines have the same numbers
pub same-lines : (input text : List ℕ) → AreKept input text → lines_in text ≡ lines_in input
same-lines input text k =
    ap (numbers nothing_numbered) k.kept
    ∙ numbers-as-kept nothing_numbered k.ended_lines (lines_of k.last) (lines_of (take 513 k.last))
    (not_ended k.last k.one_line) (not_ended (take 513 k.last) (All-take (λ b. b ≢ 10) 513 k.last k.one_line))
    ∙ sym (ap (numbers nothing_numbered) k.lines)

-- ---- answers

-- an answer to what is kept is one to the input
pub to-input : (core : Bool) (size : Granularity) (bounds : Bounds) (input text out : List ℕ) (status : ℕ) → AreKept input text
    → OutSearchFor core size bounds text out status → OutSearchFor core size bounds input out status
to-input core size bounds input text out status k h =
    subst (λ (r : Result TraceView ReadFault). IsAnswerTo core size bounds r out status) (same-seen input text k) h

shown : (size : Granularity) (bounds : Bounds) (input text : List ℕ) (r : Result TraceView ReadFault) (out : List ℕ) (status : ℕ)
    → lines_in text ≡ lines_in input → IsAnswerDrawn size bounds text r out status → IsAnswerDrawn size bounds input r out status
shown size bounds input text (Ok t) out status e (inl flawed) = inl flawed
shown size bounds input text (Ok t) out status e (inr (formed, inl found)) = inr (formed, inl found)
shown size bounds input text (Ok t) out status e (inr (formed, inr (inl none))) = inr (
  formed,
  inr (inl (record {
    place = none.place;
    within = none.within;
    unexplained = none.unexplained;
    says = (none.says.0, subst (λ (v : TraceLinesView). Shows t none.place v none.says.0) e none.says.1, none.says.2);
    tells = none.tells;
  })),
)
shown size bounds input text (Ok t) out status e (inr (formed, inr (inr given_up))) = inr (formed, inr (inr given_up))
shown size bounds input text (Err f) out status e h = h

-- the same of pictures
pub to-input-drawn : (size : Granularity) (bounds : Bounds) (input text out : List ℕ) (status : ℕ) → AreKept input text
    → OutSearchDrawn size bounds text out status → OutSearchDrawn size bounds input out status
to-input-drawn size bounds input text out status k h =
    subst (λ (r : Result TraceView ReadFault). IsAnswerDrawn size bounds input r out status) (same-seen input text k)
    (shown size bounds input text (seen_of text) out status (same-lines input text k) h)
