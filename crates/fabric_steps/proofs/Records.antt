-- Records of submissions and answers, and tests on lists.
use Rattle.std.proofs.Common.{◌≡◌, ◌≢◌, ℕ, zero, suc, ◌≤◌, ◌==◌, Bool, true, false, List, [], ◌∷◌, ◌++◌, length, take, refl, sym, ap, ◌∙◌, subst, arith, inl, inr, ◌⊎◌, ⊎_elim, Some, eq-eqb}
use Rattle.std.specs.Prelude.{slice_get, option_map}
use Rattle.std.specs.List.{list_any}
use Rattle.std.proofs.lemmas.List.{append-nil}
use Rattle.std.proofs.lemmas.List.Elements.{filter_map-append}
use Rattle.std.proofs.lemmas.Bool.Decides.{nat_tests}
use Rattle.std.proofs.lemmas.Bool.{ne_eqb}
use Rattle.tlp_core.specs.Ops.{Op}
use Rattle.seq_memory.specs.Entries.{Entry}
use Rattle.seq_memory.specs.Entries.{Reply}
use Rattle.seq_memory.specs.Step.{answer}
use Rattle.seq_memory.specs.History.{reply_at, contents}
use Rattle.history_words.specs.Records.{Record}
use Rattle.history_words.specs.declared.record.RecordOf.TheVariants.{Sub, Ans}
use Rattle.history_words.specs.Trace.{submission, submissions, answers_to}
use Rattle.fabric_steps.specs.Lists.{one_if, count}
use Rattle.fabric_steps.specs.Whole.{Extent, reply_after}

test : (b : Bool) → (b ≡ true) ⊎ (b ≡ false)
test true = inl refl
test false = inr refl

-- ---- what was submitted

abbrev pub made : ℕ → List Record → List Op
made i rs = submissions rs i

pub made_ans : (i j k : ℕ) (r : Reply) (n : ℕ) (rs : List Record) → made i (rs ++ Ans j k r n ∷ []) ≡ made i rs
made_ans i j k r n rs = filter_map-append (submission i) rs (Ans j k r n ∷ []) ∙ append-nil (made i rs)

pub made_own : (i k n : ℕ) (op : Op) (rs : List Record) → made i (rs ++ Sub i k op n ∷ []) ≡ made i rs ++ op ∷ []
made_own i k n op rs = filter_map-append (submission i) rs (Sub i k op n ∷ []) ∙ ap (λ (l : List Op). made i rs ++ l) one
  where
    one : made i (Sub i k op n ∷ []) ≡ op ∷ []
    one = rw (eq-eqb i i refl) refl

pub made_other : (i j k n : ℕ) (op : Op) (rs : List Record) → j ≢ i → made i (rs ++ Sub j k op n ∷ []) ≡ made i rs
made_other i j k n op rs ne = filter_map-append (submission i) rs (Sub j k op n ∷ []) ∙ (ap (λ (l : List Op). made i rs ++ l) none ∙ append-nil (made i rs))
  where
    none : made i (Sub j k op n ∷ []) ≡ []
    none = rw (ne_eqb i j (λ h. ne (sym h))) refl

-- the operation of a submission by its number
pub made_at : (i k n a : ℕ) (op : Op) (rs : List Record) → slice_get rs a ≡ Some (Sub i k op n) → slice_get (made i rs) (length (made i (take a rs))) ≡ Some op
made_at i k n a op [] e = absurd (cc)
made_at i k n zero op (r ∷ rs) e = let is : r ≡ Sub i k op n = cc in subst (λ (x : Record). slice_get (made i (x ∷ rs)) 0 ≡ Some op) (sym is) (rw (eq-eqb i i refl) refl)
made_at i k n (suc a) op (Sub b c o m ∷ rs) e = let r : slice_get (made i rs) (length (made i (take a rs))) ≡ Some op = made_at i k n a op rs e in
    ⊎_elim (λ (t : (i == b) ≡ true). rw t r) (λ (t : (i == b) ≡ false). rw t r) (test (i == b))
made_at i k n (suc a) op (Ans b c o m ∷ rs) e = made_at i k n a op rs e

pub answer_is : (i k : ℕ) (r : Record) → answers_to i k r ≡ true → (x : Reply) × (n : ℕ) × (r ≡ Ans i k x n)
answer_is i k (Sub a b o n) h = absurd (cc)
answer_is i k (Ans a b x n) h =
    let both : (a ≡ i) × (b ≡ k) = grind (arith, nat_tests) in
    (x, n, ap (λ (j : ℕ). Ans j b x n) both.0 ∙ ap (λ (m : ℕ). Ans i m x n) both.1)

-- ---- counts, and whether one passes

pub none_any : {X : Type 0} (p : X → Bool) (xs : List X) → count p xs ≡ 0 → list_any p xs ≡ false
unfolding count
none_any p [] z = refl
none_any p (x ∷ xs) z = ⊎_elim
    (λ (t : p x ≡ true). absurd (let k : one_if (p x) ≡ 1 = ap one_if t in omega arith))
    (λ (t : p x ≡ false). let r : list_any p xs ≡ false = none_any p xs (omega arith) in rw t r)
    (test (p x))

pub none_counted : {X : Type 0} (p : X → Bool) (xs : List X) → list_any p xs ≡ false → count p xs ≡ 0
unfolding count
none_counted p [] z = refl
none_counted p (x ∷ xs) z = ⊎_elim
    (λ (t : p x ≡ true). absurd (let e : list_any p (x ∷ xs) ≡ true = rw t refl in cc))
    (λ (t : p x ≡ false). let e : list_any p (x ∷ xs) ≡ list_any p xs = rw t refl in let r : count p xs ≡ 0 = none_counted p xs (sym e ∙ z) in let k : one_if (p x) ≡ 0 = ap one_if t in omega arith)
    (test (p x))

pub some_any : {X : Type 0} (p : X → Bool) (xs : List X) → 1 ≤ count p xs → list_any p xs ≡ true
some_any p xs h = ⊎_elim
    (λ (t : list_any p xs ≡ true). t)
    (λ (t : list_any p xs ≡ false). absurd (let z : count p xs ≡ 0 = none_counted p xs t in omega arith))
    (test (list_any p xs))

-- ---- replies

-- the reply at the place of an entry
pub reply_there : (g : Extent) (h : List Entry) (p : ℕ) (e : Entry) → slice_get h p ≡ Some e → reply_at g h p ≡ Some (reply_after g (take p h) e.op)
reply_there g h p e at = unfold reply_after in ap (option_map (λ (e : Entry). answer g.base g.block (contents g (take p h)) e.op)) at
