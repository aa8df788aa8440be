-- Lists that are made of chunks.
use Rattle.std.proofs.Common.{◌≡◌, ◌∙◌, ℕ, zero, suc, ◌≤◌, ◌++◌, ◌∷◌, [], List, length, map, refl, sym, ap, arith, ◌⊎◌, inl, inr}
use Rattle.std.proofs.lemmas.List.{append_assoc}

abbrev pub concat : {X : Type 0} → List (List X) → List X
concat [] = []
concat (xs ∷ xss) = xs ++ concat xss

pub same_functions : {X Y : Type 0} → (f g : X → Y) → ((x : X) → f x ≡ g x) → f ≡ g
same_functions f g h = λ i x. h x i

pub concat_append : {X : Type 0} → (xss yss : List (List X)) → concat (xss ++ yss) ≡ concat xss ++ concat yss
concat_append [] yss = refl
concat_append (xs ∷ xss) yss = ap (λ zs. xs ++ zs) (concat_append xss yss) ∙ sym (append_assoc xs (concat xss) (concat yss))

pub map_append : {X Y : Type 0} → (f : X → Y) (xs ys : List X) → map f (xs ++ ys) ≡ map f xs ++ map f ys
map_append f [] ys = refl
map_append f (x ∷ xs) ys = ap (λ zs. f x ∷ zs) (map_append f xs ys)

pub chunks_append : {X Y : Type 0} → (f : X → List Y) (xs ys : List X) → concat (map f (xs ++ ys)) ≡ concat (map f xs) ++ concat (map f ys)
chunks_append f xs ys = ap concat (map_append f xs ys) ∙ concat_append (map f xs) (map f ys)

-- the element at a place, with what stands before it and behind it
pub record Stands (X : Type 0) (xs : List X) (k : ℕ) : Type 0 where
  pub before : List X
  pub x : X
  pub behind : List X
  pub is : xs ≡ before ++ x ∷ behind
  pub place : length before ≡ k

pub stands_or_past : {X : Type 0} → (xs : List X) (k : ℕ) → Stands X xs k ⊎ (length xs ≤ k)
stands_or_past [] k = inr (omega arith)
stands_or_past (x ∷ xs) zero = inl (record { before = []; x = x; behind = xs; is = refl; place = refl })
stands_or_past (x ∷ xs) (suc k) = elim (stands_or_past xs k) [
  | inl s ↦ inl (record { before = x ∷ s.before; x = s.x; behind = s.behind; is = ap (λ ys. x ∷ ys) s.is; place = ap suc s.place })
  | inr past ↦ inr (omega (arith, past))
]
