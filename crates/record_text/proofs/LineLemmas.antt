-- The lines of a text, one after the other.
use Rattle.std.proofs.Common.{◌≡◌, ◌≢◌, ◌<◌, ◌+◌, ℕ, true, List, [], ◌∷◌, ◌++◌, ◌∙◌, ◌==◌, length, take, drop, slice_index, refl, sym, ap, append_assoc, fold, All, inl, inr}
use Rattle.std.proofs.lemmas.List.Sums.{fold-append}
use Rattle.std.specs.Prelude.{Option, Some}
use Rattle.hex_text.specs.Lines.{lines_of}
use Rattle.hex_text.specs.LineFacts.{no_feed, lines_of-feed, lines_of-last, bare-feed, ends-feed, ends-last}
use Rattle.hex_text.specs.LineFacts.{cut-at as cut-behind}
use Rattle.record_text.specs.declared.fault.ReadFault.{ReadFault}
use Rattle.record_text.specs.declared.fault.ReadFaultKind.TheVariants as faults
use Rattle.record_text.specs.Grammar.{Grammar}
use Rattle.record_text.specs.RecordReaderView.{RecordReaderView, nothing_read, take_line, adds_by, reading_of, fault_at_next, fault_or_end, at_end, Tells}
use Rattle.record_text.specs.Endings.{on_ended_line, adds_ended, adds_last}
use Rattle.record_text.specs.ReadingFacts.{reading_on, take_line-feed, stays}

-- the lines of a text
pub lines-feed : (xs more : List ℕ) → All (λ b. b ≢ 10) xs → lines_of (xs ++ 10 ∷ more) ≡ (xs ++ 10 ∷ []) ∷ lines_of more
lines-feed xs more h = lines_of-feed xs more (no_feed xs h)

pub lines-last : (xs : List ℕ) → (xs ≡ [] → ⊥) → All (λ b. b ≢ 10) xs → lines_of xs ≡ xs ∷ []
lines-last [] some h = absurd (some refl)
lines-last (b ∷ xs) some h = lines_of-last xs b (no_feed (b ∷ xs) h)

-- the text up to a line feed, the line feed, and the rest
pub cut-at : (xs : List ℕ) (k : ℕ) → k < length xs → (slice_index xs k == 10) ≡ true → xs ≡ take k xs ++ 10 ∷ drop (k + 1) xs
cut-at xs k lt t = cut-behind xs k lt t ∙ append_assoc (take k xs) (10 ∷ []) (drop (k + 1) xs)

module _ {F L : Type 0} (g : Grammar F L) where
  -- what grows

  pub adds-feed : (s : RecordReaderView F) (xs : List ℕ) → adds_by g s (xs ++ 10 ∷ []) ≡ adds_ended g s xs
  adds-feed s xs = rw (bare-feed xs, ends-feed xs) refl

  pub adds-last : (s : RecordReaderView F) (xs : List ℕ) → All (λ b. b ≢ 10) xs → adds_by g s xs ≡ adds_last g s xs
  adds-last s xs h = rw (ends-last xs h) refl

  -- what stands while the lines are read

  abbrev pub Stands : F → List ℕ → RecordReaderView F → List ℕ → Type 0
  Stands form text s rest = (done : List (List ℕ)) × (lines_of text ≡ done ++ lines_of rest) × (fold (take_line g) (nothing_read form) done ≡ s)

  pub stands-new : (form : F) (text : List ℕ) (s : RecordReaderView F) → s ≡ nothing_read form → Stands form text s text
  stands-new form text s e = ([], refl, sym e)

  pub fed : (form : F) (text rest : List ℕ) (s t : RecordReaderView F) (xs after : List ℕ) → Stands form text s rest → rest ≡ xs ++ 10 ∷ after → All (λ b. b ≢ 10) xs
      → t ≡ on_ended_line g s xs → Stands form text t after
  fed form text rest s t xs after h cut one e = (
    h.0 ++ (xs ++ 10 ∷ []) ∷ [],
    h.1 ∙ ap (λ (r : List ℕ). h.0 ++ lines_of r) cut ∙ ap (λ (ls : List (List ℕ)). h.0 ++ ls) (lines-feed xs after one)
        ∙ sym (append_assoc h.0 ((xs ++ 10 ∷ []) ∷ []) (lines_of after)),
    fold-append (take_line g) (nothing_read form) h.0 ((xs ++ 10 ∷ []) ∷ []) ∙ ap (λ (r : RecordReaderView F). take_line g r (xs ++ 10 ∷ [])) h.2 ∙ take_line-feed g s xs ∙ sym e,
  )

  -- all was read
  pub whole : (form : F) (text rest : List ℕ) (s : RecordReaderView F) → Stands form text s rest → reading_of g form text ≡ reading_on g s rest
  whole form text rest s h =
      ap (fold (take_line g) (nothing_read form)) h.1 ∙ fold-append (take_line g) (nothing_read form) h.0 (lines_of rest)
      ∙ ap (λ (r : RecordReaderView F). fold (take_line g) r (lines_of rest)) h.2

  -- an allocation failed for the line that comes next
  pub refused : (form : F) (text rest line : List ℕ) (later : List (List ℕ)) (s t : RecordReaderView F) (f : ReadFault) → Stands form text s rest → lines_of rest ≡ line ∷ later
      → adds_by g s line ≡ true → t ≡ s → f ≡ fault_at_next t faults.Memory → Tells g form text f
  refused form text rest line later s t f h next adds same is = inr (record {
    read = h.0;
    line = line;
    rest = later;
    begins = h.1 ∙ ap (λ (ls : List (List ℕ)). h.0 ++ ls) next;
    adds = ap (λ (r : RecordReaderView F). adds_by g r line) h.2 ∙ adds;
    is = is ∙ ap (λ (r : RecordReaderView F). fault_at_next r faults.Memory) (same ∙ sym h.2);
  })

  -- a fault ends the reading
  pub stopped : (form : F) (text rest : List ℕ) (s : RecordReaderView F) (f : ReadFault) → Stands form text s rest → s.fault ≡ Some f → Tells g form text f
  stopped form text rest s f h e =
      inl (ap at_end (whole form text rest s h ∙ stays g s f (lines_of rest) e) ∙ ap (λ (o : Option ReadFault). fault_or_end o s) e)
