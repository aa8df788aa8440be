-- Rounds that lower a measure come to rest within as many as it was, and one.
use Rattle.std.proofs.Common.{ℕ, zero, suc, ◌≡◌, ◌⊎◌, ◌+◌, ◌<◌, ◌≤◌, inl, inr, Bool, true, false, if◌then◌else◌, refl, ap, ◌∙◌, arith}
use Rattle.fabric_settle.proofs.Resting as rest

module _ {S : Type 0} (round : S → S) (moved : S → Bool) where
  abbrev rounds : ℕ → S → S
  rounds = rest.rounds round moved

  abbrev Ends : ℕ → S → S → Type 0
  Ends = rest.EndsWithin round moved

  one : (n : ℕ) (s : S) → moved (round s) ≡ true → rounds (suc n) s ≡ rounds n (round s)
  unfolding rest.rounds
  one n s m = ap (λ (b : Bool). if b then rounds n (round s) else round s) m

  last : (n : ℕ) (s : S) → moved (round s) ≡ false → rounds (suc n) s ≡ round s
  unfolding rest.rounds
  last n s m = ap (λ (b : Bool). if b then rounds n (round s) else round s) m

  now : (most n : ℕ) (s : S) → moved (round s) ≡ false → Ends most s (rounds (suc n) s)
  unfolding rest.after_rounds
  now most n s m = record { before = 0; few = omega arith; last = last n s m; still = ap moved (last n s m) ∙ m }

  later : (most n : ℕ) (s : S) → moved (round s) ≡ true → Ends most (round s) (rounds n (round s)) → Ends (suc most) s (rounds (suc n) s)
  unfolding rest.after_rounds
  later most n s m e = record {
    before = suc e.before;
    few = (let few : e.before ≤ most = e.few in omega arith);
    last = one n s m ∙ e.last;
    still = ap moved (one n s m) ∙ e.still;
  }

  test : (b : Bool) → (b ≡ true) ⊎ (b ≡ false)
  test true = inl refl
  test false = inr refl

  -- nothing is left: a round that moves the rest, and one that moves nothing
  at_rest : (Good : S → Type 0) (left : S → ℕ) → rest.Settles round moved Good left → (n : ℕ) (s : S) → Good s → left s ≡ 0 → Ends 1 s (rounds (suc (suc n)) s)
  at_rest Good left h n s g z = elim (test (moved (round s))) [
    | inl m ↦ later 0 (suc n) s m (now 0 n (round s) (h.rests s g z))
    | inr m ↦ now 1 (suc n) s m
  ]

  pub comes_to_rest : (Good : S → Type 0) (left : S → ℕ) → rest.Settles round moved Good left → (k n : ℕ) (s : S) → Good s → left s ≤ k → k + 1 < n → Ends (suc k) s (rounds n s)
  comes_to_rest Good left h k zero s g few room = absurd (omega arith)
  comes_to_rest Good left h k (suc zero) s g few room = absurd (omega arith)
  comes_to_rest Good left h zero (suc (suc n)) s g few room = at_rest Good left h n s g (omega arith)
  comes_to_rest Good left h (suc k) (suc (suc n)) s g few room = elim (zero_or (left s)) [
    | inl z ↦ more (at_rest Good left h n s g z)
    | inr pos ↦ later (suc k) (suc n) s (h.moves s g pos) (comes_to_rest Good left h k (suc n) (round s) (h.keeps s g) (let low : left (round s) < left s = h.lowers s g pos in omega arith) (omega arith))
  ]
    where
      zero_or : (m : ℕ) → (m ≡ 0) ⊎ (0 < m)
      zero_or zero = inl refl
      zero_or (suc m) = inr (omega arith)

      more : Ends 1 s (rounds (suc (suc n)) s) → Ends (suc (suc k)) s (rounds (suc (suc n)) s)
      more e = record { before = e.before; few = (let few : e.before ≤ 1 = e.few in omega arith); last = e.last; still = e.still }
