-- Lists: a prefix and the element after it.
use Rattle.std.proofs.Common.{◌≡◌, ◌∙◌, ℕ, ◌+◌, ◌<◌, List, [], ◌∷◌, ◌++◌, length, take, get_or, sym, ap, add-one}
use Rattle.std.proofs.Math.Seq.{take-suc}

pub take_one : {X : Type 0} → (xs : List X) (i : ℕ) (d : X) → i < length xs → take (i + 1) xs ≡ take i xs ++ get_or xs i d ∷ []
take_one xs i d l = ap (λ k. take k xs) (add-one i) ∙ take-suc xs i d l

pub take_more : {X : Type 0} → (xs : List X) (i : ℕ) (x : X) → i < length xs → x ≡ get_or xs i x → take (i + 1) xs ≡ take i xs ++ x ∷ []
take_more xs i x l is = take_one xs i x l ∙ ap (λ y. take i xs ++ y ∷ []) (sym is)
