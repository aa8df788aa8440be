-- Where a request stands first, and the memory's bytes before an entry.
use Rattle.std.proofs.Common.{◌≡◌, ◌∙◌, ℕ, zero, suc, ◌+◌, ◌<◌, Bool, true, false, cond, List, [], ◌∷◌, ◌++◌, length, take, drop, Option, Some, None, refl, sym, ap, add-one, arith}
use Rattle.std.specs.Prelude.{slice_get, option_map, replicate}
use Rattle.std.proofs.lemmas.List.{append-nil, drop_all, take_all}
use Rattle.std.proofs.lemmas.List.Sums.{fold-append}
use Rattle.std.proofs.lemmas.Option.{same_Some}
use Rattle.seq_memory.specs.Entries.{Entry}
use Rattle.seq_memory.specs.Limits.{Extent}
use Rattle.seq_memory.specs.Step.{after}
use Rattle.seq_memory.specs.History.{contents}
use Rattle.history_words.specs.Claim.{Claim}
use Rattle.history_words.specs.Headers.{bytes_after}
use Rattle.history_words.specs.Flaws.{at_place, first_place, some_and}

-- what stands at a place
pub there : {X : Type 0} (xs : List X) (n : ℕ) → n < length xs → (x : X) × (slice_get xs n ≡ Some x)
there [] n l = absurd (omega (arith, l))
there (x ∷ xs) zero l = (x, refl)
there (x ∷ xs) (suc n) l = there xs n (omega (arith, l))

-- ---- the first that passes

-- where it stands, if it stands in the rest after so many
abbrev pub found_from : {X : Type 0} → (X → Bool) → List X → ℕ → Option ℕ
found_from t xs n = option_map (λ m. m + n) (first_place t (drop n xs))

same : (o : Option ℕ) → o ≡ option_map (λ m. m + 0) o
same None = refl
same (Some n) = let e : n ≡ n + 0 = omega arith in ap Some e

pub from_first : {X : Type 0} (t : X → Bool) (xs : List X) → first_place t xs ≡ found_from t xs 0
from_first t [] = refl
from_first t (x ∷ xs) = same (first_place t (x ∷ xs))

further : (o : Option ℕ) (n : ℕ) → option_map (λ m. m + n) (option_map (λ m. m + 1) o) ≡ option_map (λ m. m + (n + 1)) o
further None n = refl
further (Some m) n = let e : m + 1 + n ≡ m + (n + 1) = omega arith in ap Some e

by_test : (b : Bool) (o : Option ℕ) (n : ℕ) → b ≡ false → option_map (λ m. m + n) (cond b (Some 0) (option_map (λ m. m + 1) o)) ≡ option_map (λ m. m + (n + 1)) o
by_test true o n e = cc
by_test false o n e = further o n

opened_at : {X : Type 0} (xs : List X) (n : ℕ) (x : X) → slice_get xs n ≡ Some x → drop n xs ≡ x ∷ drop (suc n) xs
opened_at [] n x e = cc
opened_at (y ∷ ys) zero x e = ap (λ z. z ∷ ys) (same_Some y x e)
opened_at (y ∷ ys) (suc n) x e = opened_at ys n x e

opened : {X : Type 0} (xs : List X) (n : ℕ) (x : X) → slice_get xs n ≡ Some x → drop n xs ≡ x ∷ drop (n + 1) xs
opened xs n x e = opened_at xs n x e ∙ ap (λ m. x ∷ drop m xs) (sym (add-one n))

pub from_next : {X : Type 0} (t : X → Bool) (xs : List X) (n : ℕ) (x : X) → slice_get xs n ≡ Some x → at_place t xs n ≡ false → found_from t xs n ≡ found_from t xs (n + 1)
from_next {X = X} t xs n x e other =
    let fails : t x ≡ false = sym (ap (λ (o : Option X). some_and o t) e) ∙ other in
    ap (λ l. option_map (λ m. m + n) (first_place t l)) (opened xs n x e) ∙ by_test (t x) (first_place t (drop (n + 1) xs)) n fails

found_by : (b : Bool) (o : Option ℕ) (n : ℕ) → b ≡ true → option_map (λ m. m + n) (cond b (Some 0) (option_map (λ m. m + 1) o)) ≡ Some n
found_by true o n e = let same : 0 + n ≡ n = omega arith in ap Some same
found_by false o n e = cc

pub from_here : {X : Type 0} (t : X → Bool) (xs : List X) (n : ℕ) (x : X) → slice_get xs n ≡ Some x → at_place t xs n ≡ true → found_from t xs n ≡ Some n
from_here {X = X} t xs n x e passed =
    let passes : t x ≡ true = sym (ap (λ (o : Option X). some_and o t) e) ∙ passed in
    ap (λ l. option_map (λ m. m + n) (first_place t l)) (opened xs n x e) ∙ found_by (t x) (first_place t (drop (n + 1) xs)) n passes

-- ---- the memory's bytes

pub contents_none : (x : Extent) → contents x [] ≡ replicate x.size 0
unfolding contents
contents_none x = refl

contents_push : (x : Extent) (h : List Entry) (e : Entry) → contents x (h ++ e ∷ []) ≡ after x.base x.block (contents x h) e.op
unfolding contents
contents_push x h e = fold-append (λ m e. after x.base x.block m e.op) (replicate x.size 0) h (e ∷ [])

more_at : {X : Type 0} (xs : List X) (n : ℕ) (x : X) → slice_get xs n ≡ Some x → take (suc n) xs ≡ take n xs ++ x ∷ []
more_at [] n x e = cc
more_at (y ∷ ys) zero x e = ap (λ z. z ∷ []) (same_Some y x e)
more_at (y ∷ ys) (suc n) x e = ap (λ l. y ∷ l) (more_at ys n x e)

more : {X : Type 0} (xs : List X) (n : ℕ) (x : X) → slice_get xs n ≡ Some x → take (n + 1) xs ≡ take n xs ++ x ∷ []
more xs n x e = ap (λ m. take m xs) (add-one n) ∙ more_at xs n x e

-- what is kept of bytes that are all written
pub written_back : (n : ℕ) (old new : List ℕ) → n ≡ length old → length new ≡ length old → take n (new ++ drop (length new) old) ≡ new
written_back n old new e1 e2 = rw (drop_all (length new) old (omega arith), append-nil new) (take_all n new (omega arith))

-- the entry at the index is performed
pub performed : (x : Claim) (p : ℕ) (e : Entry) (old new : List ℕ) → slice_get x.memory.entries p ≡ Some e
    → new ≡ bytes_after x.memory (slice_get x.memory.entries p) old → new ≡ after x.memory.base x.memory.block old e.op
performed x p e old new at is = is ∙ ap (λ (o : Option Entry). bytes_after x.memory o old) at

pub contents_next : (x : Extent) (h : List Entry) (p : ℕ) (e : Entry) (old new : List ℕ)
    → slice_get h p ≡ Some e → old ≡ contents x (take p h) → new ≡ after x.base x.block old e.op → new ≡ contents x (take (p + 1) h)
contents_next x h p e old new at is step =
    step ∙ ap (λ (m : List ℕ). after x.base x.block m e.op) is ∙ sym (contents_push x (take p h) e) ∙ ap (contents x) (sym (more h p e at))
