-- Rounds over states of any kind, until one moves nothing.
use Rattle.std.proofs.Common.{ℕ, zero, suc, ◌≡◌, ◌<◌, ◌≤◌, Bool, true, false, if◌then◌else◌}

module _ {S : Type 0} (round : S → S) (moved : S → Bool) where
  unfoldable pub rounds : ℕ → S → S
  rounds zero s = s
  rounds (suc n) s = if moved (round s) then rounds n (round s) else round s

  unfoldable pub after_rounds : ℕ → S → S
  after_rounds zero s = s
  after_rounds (suc n) s = after_rounds n (round s)

  pub record EndsWithin (most : ℕ) (s t : S) : Type 0 where
    pub before : ℕ
    pub few : before ≤ most
    pub last : t ≡ round (after_rounds before s)
    pub still : moved t ≡ false

  -- rounds lower a measure of good states until it is 0, and two rounds later nothing moves
  pub record Settles (Good : S → Type 0) (left : S → ℕ) : Type 0 where
    pub keeps : (s : S) → Good s → Good (round s)
    pub lowers : (s : S) → Good s → 0 < left s → left (round s) < left s
    pub moves : (s : S) → Good s → 0 < left s → moved (round s) ≡ true
    pub none : (s : S) → Good s → left s ≡ 0 → left (round s) ≡ 0
    pub rests : (s : S) → Good s → left s ≡ 0 → moved (round (round s)) ≡ false
