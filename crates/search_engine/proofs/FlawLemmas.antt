-- The first flaw of a log, and what comes of it.
use Rattle.std.proofs.Common.{◌≡◌, ◌+◌, refl, sym, subst, Bool, true, false, ℕ, zero, suc, List, [], ◌∷◌, length, take, add-one}
use Rattle.std.specs.Prelude.{◌||◌}
use Rattle.std.specs.List.{list_any}
use Rattle.history_words.specs.TraceView.{TraceView}
use Rattle.seq_memory.specs.Entries.{Reply}
use Rattle.history_words.specs.Flaws.{at_place}
use Rattle.history_words.specs.Records.{Record}
use Rattle.history_words.specs.declared.record.RecordOf.TheVariants as records
use Rattle.history_words.specs.declared.flaws.FlawKind.TheVariants as flaws
use Rattle.history_words.specs.Trace.{answers_to}
use Rattle.log_events.specs.Formed.{AreFormed}
use Rattle.log_pieces.specs.declared.Granularity.{Granularity}
use Rattle.search_run.specs.declared.exploring.Bounds.{Bounds}
use Rattle.search_engine.specs.declared.answering.Finding.{Finding}
use Rattle.search_engine.specs.declared.answering.Finding.TheVariants as findings
use Rattle.search_engine.specs.Findings.{IsFindingOf, IsJudged}
use Rattle.search_engine.specs.Flaws.{flaw_of}

or_true : (a : Bool) → (a || true) ≡ true
or_true true = refl
or_true false = refl

or_false : (a b c : Bool) → (b ≡ false → c ≡ false) → (a || b) ≡ false → (a || c) ≡ false
or_false true b c f h = absurd (cc h)
or_false false b c f h = f h

-- one that is there
pub some_there : {X : Type 0} → (p : X → Bool) (xs : List X) (i : ℕ) → at_place p xs i ≡ true → list_any p xs ≡ true
some_there p [] i e = absurd (cc e)
some_there p (x ∷ xs) zero e = rw e refl
some_there p (x ∷ xs) (suc i) e = subst (λ (b : Bool). (p x || b) ≡ true) (sym (some_there p xs i e)) (or_true (p x))

none_beyond : {X : Type 0} → (p : X → Bool) (xs : List X) (i : ℕ) → list_any p (take i xs) ≡ false → at_place p xs i ≡ false → list_any p (take (suc i) xs) ≡ false
none_beyond p [] i none e = refl
none_beyond p (x ∷ xs) zero none e = rw e refl
none_beyond p (x ∷ xs) (suc i) none e = or_false (p x) (list_any p (take i xs)) (list_any p (take (suc i) xs)) (λ h. none_beyond p xs i h e) none

-- none among the first ones, and none at the next place
pub none_more : {X : Type 0} → (p : X → Bool) (xs : List X) (i : ℕ) → list_any p (take i xs) ≡ false → at_place p xs i ≡ false → list_any p (take (i + 1) xs) ≡ false
none_more p xs i none e = subst (λ n. list_any p (take n xs) ≡ false) (sym (add-one i)) (none_beyond p xs i none e)

pub again : (before : List Record) (item : Record) (i k n : ℕ) (reply : Reply) → item ≡ records.Ans i k reply n → list_any (answers_to i k) before ≡ true → flaws.Again ≡ flaw_of before item
again before item i k n reply e is = subst (λ (r : Record). flaws.Again ≡ flaw_of before r) (sym e) (rw is refl)

pub unasked : (before : List Record) (item : Record) (i k n : ℕ) (reply : Reply) → item ≡ records.Ans i k reply n → list_any (answers_to i k) before ≡ false → flaws.Unasked ≡ flaw_of before item
unasked before item i k n reply e is = subst (λ (r : Record). flaws.Unasked ≡ flaw_of before r) (sym e) (rw is refl)

-- what comes of a search of a log whose form is right
pub judged_of : (size : Granularity) (bounds : Bounds) (t : TraceView) (f : Finding) → AreFormed t.records (length t.records) → IsFindingOf size bounds t f → IsJudged size bounds t f
judged_of size bounds t (findings.Found store) formed h = (formed, h)
judged_of size bounds t (findings.None seen count pieces) formed h = (formed, h)
judged_of size bounds t (findings.Limit seen ending far pieces) formed h = (formed, h)
judged_of size bounds t (findings.Flaw seen flaw) formed h = absurd h
judged_of size bounds t (findings.Fault f) formed h = absurd h
