-- Pieces that are added one after the other.
use Rattle.std.proofs.Common.{◌≡◌, ◌∙◌, ◌++◌, List, ℕ, length, take, ap, arith, append_assoc}
use Rattle.std.proofs.lemmas.List.{take_all, take-append-le}

pub four : (p a d e f g q : List ℕ) → (((((p ++ a) ++ d) ++ e) ++ f) ++ g) ++ q ≡ p ++ (a ++ (d ++ (e ++ (f ++ (g ++ q)))))
four p a d e f g q = simp append_assoc

pub eight : (p a d e f g h k m n q : List ℕ) → (((((((((p ++ a) ++ d) ++ e) ++ f) ++ g) ++ h) ++ k) ++ m) ++ n) ++ q ≡ p ++ (a ++ (d ++ (e ++ (f ++ (g ++ (h ++ (k ++ (m ++ (n ++ q)))))))))
eight p a d e f g h k m n q = simp append_assoc

-- what was added is taken back
pub cut_back : (o x p q : List ℕ) (n : ℕ) → n ≡ length o → p ≡ o ++ x → q ≡ take n p → q ≡ o
cut_back o x p q n is added cut =
    cut ∙ ap (λ (t : List ℕ). take n t) added ∙ take-append-le n o x (omega (arith, is)) ∙ take_all n o (omega (arith, is))
