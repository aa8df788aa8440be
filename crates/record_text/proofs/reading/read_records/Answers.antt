use Rattle.std.proofs.Common.{true, false, ◌≡◌, ◌∙◌, ◌++◌, ◌+◌, ◌-◌, List, ℕ, [], ◌∷◌, ap, sym, subst, take, drop, length, arith, inl, Result, Ok, Err, refl}
use Rattle.std.specs.Prelude.{◌==◌, IfOk, IfErr}
use Rattle.std.proofs.lemmas.Bool.{eqb-true}
use Rattle.std.proofs.lemmas.Grind.{common_steps}
use Rattle.hex_text.specs.Lines.{lines_of}
use Rattle.hex_text.specs.LineFacts.{none-before, none-at-all}
use Rattle.record_text.specs.declared.fault.Misread.{Misread}
use Rattle.record_text.specs.Grammar.{Grammar}
use Rattle.record_text.specs.RecordReaderView.{RecordReaderView, reading_of, Tells, at_end}
use Rattle.record_text.specs.ReadingFacts.{reading_on, on-last, on-none}
use Rattle.record_text.proofs.LineLemmas.{cut-at, Stands, stands-new, fed, whole, refused, stopped, adds-feed, adds-last, lines-feed, lines-last}
use Rattle.record_text.proofs.reading.read_records.Goals.{then-not-is_empty+in-Ok-take_last, else-not-is_empty}
use Rattle.record_text.proofs.reading.read_records.Given as given
use Rattle.record_text.proofs.reading.read_records.Goals as goal

-- all that is left behind a place
left : (xs : List ℕ) (n : ℕ) → take (length xs - n) (drop n xs) ≡ drop n xs
left xs n = grind (arith, common_steps)

-- a fault of the whole text
told : {F L : Type 0} (g : Grammar F L) (form : F) (text : List ℕ) (s : RecordReaderView F) (r : Result F Misread) → reading_of g form text ≡ s → IfErr r (λ e. at_end s ≡ Err e.fault) → IfErr r (λ e. Tells g form text e.fault)
told g form text s (Ok t) e h = tt
told g form text s (Err f) e h = inl (ap at_end e ∙ h)

some : (xs : List ℕ) → false ≡ (length xs == 0) → xs ≡ [] → ⊥
some [] e h = cc e
some (x ∷ xs) e h = cc h

empty : (xs : List ℕ) → true ≡ (length xs == 0) → xs ≡ []
empty [] e = refl
empty (x ∷ xs) e = absurd (let z = eqb-true (length (x ∷ xs)) 0 (sym e) in omega arith)

pub loop-end-init : goal.loop-end-init
loop-end-init g c = stands-new g.F.Form.grammar c.args.form c.args.text.now c.new-reader.result c.new-reader.ensures

pub returns-in_default-take_ended-clause-err : goal.returns-in_default-take_ended-clause-err
returns-in_default-take_ended-clause-err g c =
    let rest = c.loop-end.rest.now in
    let k = c.in-Some.end in
    let found = c.in-Some.ensures in
    let no_feeds = none-before rest k (omega (arith, found.0.high)) found.0.before in
    refused g.F.Form.grammar c.args.form c.args.text.now rest (take k rest ++ 10 ∷ []) (lines_of (drop (k + 1) rest)) c.loop-end.reader c.take_ended.new.reader _ c.loop-end.invariant
    (ap lines_of (cut-at rest k found.0.high found.1) ∙ lines-feed (take k rest) (drop (k + 1) rest) no_feeds)
    (adds-feed g.F.Form.grammar c.loop-end.reader (take k rest) ∙ c.in_default-take_ended.ensures.adds) c.in_default-take_ended.ensures.err c.refused.ensures

pub returns-in-Some-fault-clause-err : goal.returns-in-Some-fault-clause-err
returns-in-Some-fault-clause-err g c =
    let rest = c.loop-end.rest.now in
    let k = c.in-Some.end in
    let found = c.in-Some.ensures in
    let no_feeds = none-before rest k (omega (arith, found.0.high)) found.0.before in
    subst (Tells g.F.Form.grammar c.args.form c.args.text.now) (sym c.misread.ensures)
    (stopped g.F.Form.grammar c.args.form c.args.text.now (drop (k + 1) rest) c.take_ended.new.reader c.in-Some-fault.fault
    (fed g.F.Form.grammar c.args.form c.args.text.now rest c.loop-end.reader c.take_ended.new.reader (take k rest) (drop (k + 1) rest) c.loop-end.invariant (cut-at rest k found.0.high found.1) no_feeds c.in-Ok.ensures.ok)
    (sym c.in-Some-fault.ensures))

pub loop-end-preserved : goal.loop-end-preserved
loop-end-preserved g c =
    let rest = c.loop-end.rest.now in
    let k = c.in-Some.end in
    let found = c.in-Some.ensures in
    let no_feeds = none-before rest k (omega (arith, found.0.high)) found.0.before in
    let base : Stands g.F.Form.grammar c.args.form c.args.text.now c.take_ended.new.reader (drop (k + 1) rest) =
    fed g.F.Form.grammar c.args.form c.args.text.now rest c.loop-end.reader c.take_ended.new.reader (take k rest) (drop (k + 1) rest) c.loop-end.invariant (cut-at rest k found.0.high found.1) no_feeds c.in-Ok.ensures.ok in
    (base.0, base.1 ∙ ap (λ (r : List ℕ). base.0 ++ lines_of r) (sym (left rest (k + 1))), base.2)

pub returns-in_default-take_last-clause-err : goal.returns-in_default-take_last-clause-err
returns-in_default-take_last-clause-err g c =
    let rest = c.loop-end.rest.now in
    let one_line = none-at-all rest c.in_default.ensures in
    refused g.F.Form.grammar c.args.form c.args.text.now rest rest [] c.loop-end.reader c.take_last.new.reader _ c.loop-end.invariant
    (lines-last rest (some rest (sym c.if-not-is_empty.true ∙ c.is_empty.ensures)) one_line)
    (adds-last g.F.Form.grammar c.loop-end.reader rest one_line ∙ c.in_default-take_last.ensures.adds) c.in_default-take_last.ensures.err c.refused-in_default-take_last.ensures

-- the last line, or none
all_read : (g : given.Over) (c : goal.After-ended g) → reading_of g.F.Form.grammar c.args.form c.args.text.now ≡ c.if-not-is_empty.reader
all_read g c = elim c.if-not-is_empty.branch [
  | then-not-is_empty+in-Ok-take_last w ↦
      let rest = c.loop-end.rest.now in
      whole g.F.Form.grammar c.args.form c.args.text.now rest c.loop-end.reader c.loop-end.invariant
      ∙ (on-last g.F.Form.grammar c.loop-end.reader rest (some rest w.if-not-is_empty.ensures) (none-at-all rest c.in_default.ensures) ∙ sym w.in-Ok-take_last.ensures.ok ∙ sym w.reader-is)
  | else-not-is_empty w ↦
      let rest = c.loop-end.rest.now in
      whole g.F.Form.grammar c.args.form c.args.text.now rest c.loop-end.reader c.loop-end.invariant
      ∙ (ap (reading_on g.F.Form.grammar c.loop-end.reader) (empty rest w.if-not-is_empty.ensures) ∙ on-none g.F.Form.grammar c.loop-end.reader ∙ sym w.reader-is)
]

pub returns-clause-ok : goal.returns-clause-ok
returns-clause-ok g c = subst (λ s. IfOk c.ended.result (λ kept. at_end s ≡ Ok kept)) (sym (all_read g c)) c.ended.ensures.ok

pub returns-clause-err : goal.returns-clause-err
returns-clause-err g c = told g.F.Form.grammar c.args.form c.args.text.now c.if-not-is_empty.reader c.ended.result (all_read g c) c.ended.ensures.err
