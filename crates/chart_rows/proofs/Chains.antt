-- Pieces that are added one after the other.
use Rattle.std.proofs.Common.{◌≡◌, ◌++◌, List, ℕ, append_assoc}

pub two_pairs : (p a b d e : List ℕ) → (p ++ (a ++ b)) ++ (d ++ e) ≡ p ++ (a ++ (b ++ (d ++ e)))
two_pairs p a b d e = simp append_assoc

pub four : (p a b d : List ℕ) → ((p ++ a) ++ b) ++ d ≡ p ++ (a ++ (b ++ d))
four p a b d = simp append_assoc
