-- Facts of readings, for proofs.
use Rattle.std.proofs.Common.{◌≡◌, ◌≢◌, ℕ, true, List, [], ◌∷◌, ◌++◌, ◌∙◌, length, refl, ap, fold, All}
use Rattle.std.specs.Prelude.{Bool, false, cond, nat_lt, Some}
use Rattle.hex_text.specs.Lines.{lines_of, bare}
use Rattle.hex_text.specs.LineFacts.{no_feed, lines_of-feed, lines_of-last, bare-feed, ends-feed, ends-last}
use Rattle.record_text.specs.declared.fault.ReadFault.{ReadFault}
use Rattle.record_text.specs.Grammar.{Grammar}
use Rattle.record_text.specs.RecordReaderView.{RecordReaderView, take_line}
use Rattle.record_text.specs.Endings.{on_ended_line, on_last_line}

lines_of-none : lines_of [] ≡ []
unfolding lines_of
lines_of-none = refl

module _ {F L : Type 0} (g : Grammar F L) where
  -- a line that a line feed ends, and one that the text's end ends

  pub take_line-feed : (s : RecordReaderView F) (xs : List ℕ) → take_line g s (xs ++ 10 ∷ []) ≡ on_ended_line g s xs
  take_line-feed s xs = rw (bare-feed xs, ends-feed xs) refl

  pub take_line-last : (s : RecordReaderView F) (xs : List ℕ) → All (λ b. b ≢ 10) xs → take_line g s xs ≡ on_last_line g s xs
  take_line-last s xs h = rw (ends-last xs h) refl

  -- the lines that follow a reading
  abbrev pub reading_on : RecordReaderView F → List ℕ → RecordReaderView F
  reading_on s text = fold (take_line g) s (lines_of text)

  pub on-none : (s : RecordReaderView F) → reading_on s [] ≡ s
  on-none s = ap (fold (take_line g) s) lines_of-none

  pub on-feed : (s : RecordReaderView F) (xs more : List ℕ) → All (λ b. b ≢ 10) xs → reading_on s (xs ++ 10 ∷ more) ≡ reading_on (on_ended_line g s xs) more
  on-feed s xs more h =
      ap (fold (take_line g) s) (lines_of-feed xs more (no_feed xs h))
      ∙ ap (λ (r : RecordReaderView F). fold (take_line g) r (lines_of more)) (take_line-feed s xs)

  pub on-last : (s : RecordReaderView F) (xs : List ℕ) → (xs ≡ [] → ⊥) → All (λ b. b ≢ 10) xs → reading_on s xs ≡ on_last_line g s xs
  on-last s [] some h = absurd (some refl)
  on-last s (b ∷ xs) some h = ap (fold (take_line g) s) (lines_of-last xs b (no_feed (b ∷ xs) h)) ∙ take_line-last s (b ∷ xs) h

  -- behind a fault nothing is read

  take_line-stays : (s : RecordReaderView F) (f : ReadFault) (l : List ℕ) → s.fault ≡ Some f → take_line g s l ≡ s
  take_line-stays s f l e = by (nat_lt 512 (length (bare l))) (rw e refl) (rw e refl)
    where
      by : (t : Bool) {a b : RecordReaderView F} → a ≡ s → b ≡ s → cond t a b ≡ s
      by true ea eb = ea
      by false ea eb = eb

  pub stays : (s : RecordReaderView F) (f : ReadFault) (ls : List (List ℕ)) → s.fault ≡ Some f → fold (take_line g) s ls ≡ s
  stays s f [] e = refl
  stays s f (l ∷ ls) e =
      let same = take_line-stays s f l e in
      ap (λ (r : RecordReaderView F). fold (take_line g) r ls) same ∙ stays s f ls e
