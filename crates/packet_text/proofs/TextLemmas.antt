-- Texts, one behind the other.
use Rattle.std.proofs.Common.{◌≡◌, ◌++◌, ◌∙◌, List, ℕ, ap, append_assoc}

-- two texts that were added
pub then : (a b c x y : List ℕ) → b ≡ a ++ x → c ≡ b ++ y → c ≡ a ++ (x ++ y)
then a b c x y e f = f ∙ ap (λ (t : List ℕ). t ++ y) e ∙ append_assoc a x y
