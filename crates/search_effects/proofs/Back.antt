-- Bytes that are put back.
use Rattle.std.proofs.Common.{◌≡◌, ◌∙◌, ℕ, zero, suc, ◌+◌, ◌-◌, ◌<◌, ◌≤◌, ◌⊎◌, inl, inr, Bool, true, false, List, [], ◌∷◌, ◌++◌, length, take, drop, Option, Some, None, refl, sym, ap, subst, arith}
use Rattle.std.specs.Prelude.{slice_index, is_some, IfNone}
use Rattle.tlp_core.specs.Ops.{Op}
use Rattle.tlp_core.specs.Operation.{address_of, count_of}
use Rattle.seq_memory.specs.declared.Refusal.{Refusal}
use Rattle.seq_memory.specs.Step.{refusal, bytes_at, after}
use Rattle.search_effects.specs.Saved.{saved_at, saved_by}

-- two lists that are the same from a place on
same_rest : (a m : List ℕ) → length a ≡ length m → ((k : ℕ) → slice_index a k ≡ slice_index m k) → a ≡ m
same_rest [] [] len same = refl
same_rest [] (y ∷ ys) len same = absurd (omega (arith, len))
same_rest (x ∷ xs) [] len same = absurd (omega (arith, len))
same_rest (x ∷ xs) (y ∷ ys) len same =
    let head : x ≡ y = same 0 in
    let tail : xs ≡ ys = same_rest xs ys (omega (arith, len)) (λ k. same (suc k)) in
    rw (head, tail) refl

nothing : (xs : List ℕ) (i c : ℕ) → xs ≡ [] → take i xs ++ (take c (drop i xs) ++ drop c (drop i xs)) ≡ xs
nothing [] zero zero e = refl
nothing [] zero (suc c) e = refl
nothing [] (suc i) zero e = refl
nothing [] (suc i) (suc c) e = refl
nothing (x ∷ xs) i c e = cc

later_zero : (c k : ℕ) → (k < 0) ⊎ (0 + c ≤ k) → (suc k < 0) ⊎ (0 + suc c ≤ suc k)
later_zero c k (inl l) = absurd (omega arith)
later_zero c k (inr g) = inr (omega arith)

later : (i c k : ℕ) → (k < i) ⊎ (i + c ≤ k) → (suc k < suc i) ⊎ (suc i + c ≤ suc k)
later i c k (inl l) = inl (omega arith)
later i c k (inr g) = inr (omega arith)

-- the middle of one list between the ends of another that is the same there
middle : (a m : List ℕ) (i c : ℕ) → length a ≡ length m → ((k : ℕ) → (k < i) ⊎ (i + c ≤ k) → slice_index a k ≡ slice_index m k) → take i a ++ (take c (drop i m) ++ drop c (drop i a)) ≡ m
middle [] [] i c len same = nothing [] i c refl
middle [] (y ∷ ys) i c len same = absurd (omega (arith, len))
middle (x ∷ xs) [] i c len same = absurd (omega (arith, len))
middle (x ∷ xs) (y ∷ ys) zero zero len same = same_rest (x ∷ xs) (y ∷ ys) len (λ k. same k (inr (omega arith)))
middle (x ∷ xs) (y ∷ ys) zero (suc c) len same = ap (λ zs. y ∷ zs) (middle xs ys zero c (omega (arith, len)) (λ k w. same (suc k) (later_zero c k w)))
middle (x ∷ xs) (y ∷ ys) (suc i) c len same =
    let head : x ≡ y = same 0 (inl (omega arith)) in
    let tail = middle xs ys i c (omega (arith, len)) (λ k w. same (suc k) (later i c k w)) in
    rw head (ap (λ zs. y ∷ zs) tail)

pub if_none : {X : Type 0} → (o : Option X) (P : Type 0) → o ≡ None → IfNone o P → P
if_none None P e p = p
if_none (Some x) P e p = cc

pub none_of : {X : Type 0} → (o : Option X) → is_some o ≡ false → o ≡ None
none_of None e = refl
none_of (Some x) e = cc

abbrev pub Others : Type 0
Others =
    (base block k : ℕ) (m : List ℕ) (op : Op) → (base + k < address_of op) ⊎ (address_of op + count_of op ≤ base + k) → slice_index (after base block m op) k ≡ slice_index m k

abbrev pub Sizes : Type 0
Sizes = (base block : ℕ) (m : List ℕ) (op : Op) → length (after base block m op) ≡ length m

pub refused_back : (base block : ℕ) (m a : List ℕ) (op : Op) (o : Option Refusal) → Sizes → ((base block : ℕ) (m : List ℕ) (op : Op) (r : Refusal) → refusal base (length m) block op ≡ Some r → after base block m op ≡ m)
    → a ≡ after base block m op → o ≡ refusal base (length a) block op → is_some o ≡ true → a ≡ m
refused_back base block m a op None sizes same is e some = cc
refused_back base block m a op (Some r) sizes same is e some =
    is ∙ same base block m op r (ap (λ n. refusal base n block op) (sym (ap length is ∙ sizes base block m op)) ∙ sym e)

module _ (others : Others) (sizes : Sizes) (base block : ℕ) (m a old : List ℕ) (op : Op) (is : a ≡ after base block m op) (saved : old ≡ saved_at base block m op) (served : refusal base (length a) block op ≡ None) (low : base ≤ address_of op) where
  len : length a ≡ length m
  len = ap length is ∙ sizes base block m op

  pub old_is : old ≡ bytes_at m (address_of op - base) (count_of op)
  old_is = saved ∙ ap (λ o. saved_by o (bytes_at m (address_of op - base) (count_of op))) (ap (λ n. refusal base n block op) (sym len) ∙ served)

  apart : (k : ℕ) → (k < address_of op - base) ⊎ ((address_of op - base) + count_of op ≤ k) → slice_index a k ≡ slice_index m k
  apart k w = ap (λ (b : List ℕ). slice_index b k) is ∙ others base block k m op (by w)
    where
      by : (k < address_of op - base) ⊎ ((address_of op - base) + count_of op ≤ k) → (base + k < address_of op) ⊎ (address_of op + count_of op ≤ base + k)
      by (inl l) = inl (omega arith)
      by (inr g) = inr (omega arith)

  pub put_there : (i c : ℕ) → i ≡ address_of op - base → c ≡ count_of op → take i a ++ (old ++ drop c (drop i a)) ≡ m
  put_there i c ei ec =
      rw (ei, ec, old_is) (middle a m (address_of op - base) (count_of op) len apart)
