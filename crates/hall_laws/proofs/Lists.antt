-- Lemmas on lists.
use Rattle.std.proofs.Common.{◌≡◌, ◌≢◌, ℕ, eqb, subst, eq-eqb, ne_eqb, zero, suc, ◌<◌, ◌≤◌, ◌⊎◌, true, List, [], ◌∷◌, ◌++◌, length, take, set, sym, refl, ap, ◌∙◌, inl, inr, ⊎_elim, arith}
use Rattle.std.proofs.lemmas.List.{append-nil}
use Rattle.std.proofs.lemmas.List.Elements.{filter_map-append}
use Rattle.std.proofs.lemmas.Bool.Decides.{nat_tests}
use mathlib.Core.Option.{some, some-injective, some-ne-none}
use mathlib.Core.Logic.{dite}
use native.Mathlib.Decide.{ℕ_discrete}
use prog.Atomic.{either}
use lib.ListN.{get_elem?}
use Rattle.tlp_core.specs.Ops.{Op}
use Rattle.seq_memory.specs.Entries.{Reply}
use Rattle.history_words.specs.Records.{Record}
use Rattle.history_words.specs.declared.record.RecordOf.TheVariants.{Sub, Ans}
use Rattle.history_words.specs.Trace.{submission, submissions, answers_to}
use Rattle.hall_laws.specs.Standing.{word_of}
pub use Rattle.fabric_steps.specs.ListFacts.{each_at, get_before, get_seam}

-- ---- elements by number

module _ {A : Type 0} where
  pub at_set : (l : List A) (i j : ℕ) (a b : A) → get_elem? (set l i a) j ≡ some b → ((j ≡ i) × (a ≡ b)) ⊎ ((j ≢ i) × (get_elem? l j ≡ some b))
  at_set [] i j a b e = absurd (some-ne-none b (sym e))
  at_set (x ∷ xs) zero zero a b e = inl (refl, some-injective a b e)
  at_set (x ∷ xs) zero (suc j) a b e = inr ((λ h. omega arith), e)
  at_set (x ∷ xs) (suc i) zero a b e = inr ((λ h. omega arith), e)
  at_set (x ∷ xs) (suc i) (suc j) a b e = ⊎_elim (λ t. inl (ap suc t.0, t.1)) (λ t. let n = t.0 in inr ((λ h. n (omega arith)), t.1)) (at_set xs i j a b e)

  pub set_here : (l : List A) (i : ℕ) (a : A) → i < length l → get_elem? (set l i a) i ≡ some a
  set_here [] i a h = absurd (omega arith)
  set_here (x ∷ xs) zero a h = refl
  set_here (x ∷ xs) (suc i) a h = set_here xs i a (omega arith)

  pub set_else : (l : List A) (i j : ℕ) (a : A) → j ≢ i → get_elem? (set l i a) j ≡ get_elem? l j
  set_else [] i j a n = refl
  set_else (x ∷ xs) zero zero a n = absurd (n refl)
  set_else (x ∷ xs) zero (suc j) a n = refl
  set_else (x ∷ xs) (suc i) zero a n = refl
  set_else (x ∷ xs) (suc i) (suc j) a n = set_else xs i j a (λ e. n (ap suc e))

  pub set_again : (l : List A) (i : ℕ) (a : A) → get_elem? l i ≡ some a → set l i a ≡ l
  set_again [] i a e = refl
  set_again (x ∷ xs) zero a e = λ k. sym (some-injective x a e) k ∷ xs
  set_again (x ∷ xs) (suc i) a e = λ k. x ∷ set_again xs i a e k

  pub at_longer : (l m : List A) (i : ℕ) (a : A) → get_elem? l i ≡ some a → get_elem? (l ++ m) i ≡ some a
  at_longer [] m i a e = absurd (some-ne-none a (sym e))
  at_longer (x ∷ xs) m zero a e = e
  at_longer (x ∷ xs) m (suc i) a e = at_longer xs m i a e

  pub at_last : (l : List A) (a : A) (n : ℕ) → length l ≡ n → get_elem? (l ++ a ∷ []) n ≡ some a
  at_last [] a zero e = refl
  at_last [] a (suc n) e = absurd (omega arith)
  at_last (x ∷ xs) a zero e = absurd (omega arith)
  at_last (x ∷ xs) a (suc n) e = at_last xs a n (omega arith)

  pub at_snoc : (l : List A) (a b : A) (j : ℕ) → get_elem? (l ++ a ∷ []) j ≡ some b → (get_elem? l j ≡ some b) ⊎ (a ≡ b)
  at_snoc [] a b zero e = inr (some-injective a b e)
  at_snoc [] a b (suc j) e = absurd (some-ne-none b (sym e))
  at_snoc (x ∷ xs) a b zero e = inl e
  at_snoc (x ∷ xs) a b (suc j) e = at_snoc xs a b j e

-- what stands at the word of a slot after that of another is set
pub at_set_word : (words : List ℕ) (k j x y : ℕ) → get_elem? (set words (word_of k) x) (word_of j) ≡ some y → ((j ≡ k) × (x ≡ y)) ⊎ ((j ≢ k) × (get_elem? words (word_of j) ≡ some y))
at_set_word words k j x y e = ⊎_elim (λ h. let same = h.0 in inl ((omega arith), h.1)) (λ h. inr ((λ (same : j ≡ k). h.0 (ap word_of same)), h.1)) (at_set words (word_of k) (word_of j) x y e)

pub exchanged : (n old new : ℕ) (F : ℕ → Type 0) → (n ≡ old → F new) → (n ≢ old → F n) → F (either (eqb n old) new n)
exchanged n old new F hit miss = dite (ℕ_discrete n old) (λ e. subst (λ b. F (either b new n)) (sym (eq-eqb n old e)) (hit e)) (λ ne. subst (λ b. F (either b new n)) (sym (ne_eqb n old ne)) (miss ne))

pub take_before : {X : Type 0} (xs ys : List X) (n : ℕ) → n ≤ length xs → take n (xs ++ ys) ≡ take n xs
take_before xs ys zero h = refl
take_before [] ys (suc n) h = absurd (omega arith)
take_before (z ∷ xs) ys (suc n) h = ap (λ l. z ∷ l) (take_before xs ys n (omega arith))

pub take_all : {X : Type 0} (xs : List X) → take (length xs) xs ≡ xs
take_all [] = refl
take_all (z ∷ xs) = ap (λ l. z ∷ l) (take_all xs)

-- ---- records

pub made_ans : (i j k : ℕ) (r : Reply) (n : ℕ) (rs : List Record) → submissions (rs ++ Ans j k r n ∷ []) i ≡ submissions rs i
made_ans i j k r n rs = filter_map-append (submission i) rs (Ans j k r n ∷ []) ∙ append-nil (submissions rs i)

pub made_own : (i k n : ℕ) (op : Op) (rs : List Record) → submissions (rs ++ Sub i k op n ∷ []) i ≡ submissions rs i ++ op ∷ []
made_own i k n op rs = filter_map-append (submission i) rs (Sub i k op n ∷ []) ∙ ap (λ (l : List Op). submissions rs i ++ l) one
  where
    one : submissions (Sub i k op n ∷ []) i ≡ op ∷ []
    one = rw (eq-eqb i i refl) refl

pub answer_is : (i k : ℕ) (r : Record) → answers_to i k r ≡ true → (x : Reply) × (n : ℕ) × (r ≡ Ans i k x n)
answer_is i k (Sub a b o n) h = absurd (cc)
answer_is i k (Ans a b x n) h =
    let both : (a ≡ i) × (b ≡ k) = grind (arith, nat_tests) in
    (x, n, ap (λ (j : ℕ). Ans j b x n) both.0 ∙ ap (λ (m : ℕ). Ans i m x n) both.1)
