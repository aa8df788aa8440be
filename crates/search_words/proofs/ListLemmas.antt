-- Lists of places, one place more.
use Rattle.std.proofs.Common.{◌≡◌, ◌∙◌, ℕ, zero, suc, ◌+◌, ◌-◌, ◌<◌, ◌≤◌, Bool, true, false, ◌⊎◌, List, [], ◌∷◌, ◌++◌, length, length-drop, take, drop, get_or, set, Some, None, Option, refl, sym, ap, subst, arith, inl, inr, add-one}
use Rattle.std.specs.Prelude.{slice_get, nat_eq, cond}
use Rattle.std.proofs.lemmas.Bool.{cases_Bool, eqb-true, eq-eqb, cases_lt}
use Rattle.std.proofs.lemmas.Option.{same_Some}
use Rattle.std.specs.List.Sorted.{IsNonDecreasing}
use Rattle.std.specs.Map.{lookup}
use Rattle.std.proofs.lemmas.List.Sorted.{IsNonDecreasingBy-push, IsNonDecreasingBy-short}
use Rattle.search_words.specs.declared.lists.Spot.{Spot}
use Rattle.search_words.specs.declared.lists.Spot.TheVariants as spots
use Rattle.search_words.specs.ListsView.{ListsView}
use Rattle.search_words.specs.Lists.{InList, spot_of, places_at, places_of, Has, RisesTo, IsRising, Adds}

-- ---- a list

in_none : (b : ℕ) → InList [] b → ⊥
in_none b (i, e) = cc

pub in_push : (xs : List ℕ) (y b : ℕ) → InList xs b → InList (xs ++ y ∷ []) b
in_push [] y b h = absurd (in_none b h)
in_push (x ∷ xs) y b (zero, e) = (zero, e)
in_push (x ∷ xs) y b (suc i, e) = let (j, f) = in_push xs y b (i, e) in (suc j, f)

pub own_push : (xs : List ℕ) (y : ℕ) → InList (xs ++ y ∷ []) y
own_push [] y = (0, refl)
own_push (x ∷ xs) y = let (j, f) = own_push xs y in (suc j, f)

push_in : (xs : List ℕ) (y b : ℕ) → InList (xs ++ y ∷ []) b → InList xs b ⊎ (b ≡ y)
push_in [] y b (zero, e) = inr (sym (same_Some y b e))
push_in [] y b (suc i, e) = absurd (in_none b (i, e))
push_in (x ∷ xs) y b (zero, e) = inl (zero, e)
push_in (x ∷ xs) y b (suc i, e) = elim (push_in xs y b (i, e)) [
  | inl (j, f) ↦ inl (suc j, f)
  | inr same ↦ inr same
]

in_at : (xs : List ℕ) (i d : ℕ) → i < length xs → InList xs (get_or xs i d)
in_at [] i d l = absurd (omega arith)
in_at (x ∷ xs) zero d l = (0, refl)
in_at (x ∷ xs) (suc i) d l = let (j, f) = in_at xs i d (omega arith) in (suc j, f)

pub rises_none : (n : ℕ) → RisesTo [] n
rises_none n = record { rises = IsNonDecreasingBy-short (λ x. x) [] (omega arith); below = λ b h. absurd (in_none b h) }

pub rises_push : (xs : List ℕ) (n : ℕ) → RisesTo xs n → RisesTo (xs ++ n ∷ []) n
rises_push xs n h = record {
  rises = IsNonDecreasingBy-push (λ x. x) xs n h.rises (λ d l. h.below (get_or xs (length xs - 1) d) (in_at xs (length xs - 1) d (omega (arith, l))));
  below = λ b there. elim (push_in xs n b there) [
    | inl before ↦ h.below b before
    | inr same ↦ omega (arith, same)
  ];
}

rises_one : (b n : ℕ) → b ≤ n → RisesTo (b ∷ []) n
rises_one b n l = record {
  rises = IsNonDecreasingBy-short (λ x. x) (b ∷ []) (omega arith);
  below = λ c there. elim (push_in [] b c there) [
    | inl none ↦ absurd (in_none c none)
    | inr same ↦ omega (arith, same, l)
  ];
}

rises_two : (b n : ℕ) → b ≤ n → RisesTo (b ∷ n ∷ []) n
rises_two b n l = rises_push (b ∷ []) n (rises_one b n l)

-- ---- lists

every_push : (P : List ℕ → Type 0) (rows : List (List ℕ)) (x : List ℕ) → ((i : ℕ) → P (get_or rows i [])) → P x → (i : ℕ) → P (get_or (rows ++ x ∷ []) i [])
every_push P [] x all one zero = one
every_push P [] x all one (suc i) = all 0
every_push P (r ∷ rows) x all one zero = all 0
every_push P (r ∷ rows) x all one (suc i) = every_push P rows x (λ j. all (suc j)) one i

every_set : (P : List ℕ → Type 0) (rows : List (List ℕ)) (at : ℕ) (x : List ℕ) → ((i : ℕ) → P (get_or rows i [])) → P x → (i : ℕ) → P (get_or (set rows at x) i [])
every_set P [] at x all one i = all i
every_set P (r ∷ rows) zero x all one zero = one
every_set P (r ∷ rows) zero x all one (suc i) = all (suc i)
every_set P (r ∷ rows) (suc at) x all one zero = all 0
every_set P (r ∷ rows) (suc at) x all one (suc i) = every_set P rows at x (λ j. all (suc j)) one i

length_set : (rows : List (List ℕ)) (at : ℕ) (x : List ℕ) → length (set rows at x) ≡ length rows
length_set [] at x = refl
length_set (r ∷ rows) zero x = refl
length_set (r ∷ rows) (suc at) x = ap suc (length_set rows at x)

length_push : (rows : List (List ℕ)) (x : List ℕ) → length (rows ++ x ∷ []) ≡ length rows + 1
length_push [] x = refl
length_push (r ∷ rows) x = ap suc (length_push rows x ∙ add-one (length rows)) ∙ sym (add-one (suc (length rows)))

push_there : (rows : List (List ℕ)) (x : List ℕ) (i b : ℕ) → InList (get_or rows i []) b → InList (get_or (rows ++ x ∷ []) i []) b
push_there [] x i b h = absurd (in_none b h)
push_there (r ∷ rows) x zero b h = h
push_there (r ∷ rows) x (suc i) b h = push_there rows x i b h

push_own : (rows : List (List ℕ)) (x : List ℕ) → get_or (rows ++ x ∷ []) (length rows) [] ≡ x
push_own [] x = refl
push_own (r ∷ rows) x = push_own rows x

set_there : (rows : List (List ℕ)) (at : ℕ) (x : List ℕ) (i b : ℕ) → ((c : ℕ) → InList (get_or rows at []) c → InList x c) → InList (get_or rows i []) b → InList (get_or (set rows at x) i []) b
set_there [] at x i b grows h = absurd (in_none b h)
set_there (r ∷ rows) zero x zero b grows h = grows b h
set_there (r ∷ rows) zero x (suc i) b grows h = h
set_there (r ∷ rows) (suc at) x zero b grows h = h
set_there (r ∷ rows) (suc at) x (suc i) b grows h = set_there rows at x i b grows h

set_own : (rows : List (List ℕ)) (at : ℕ) (x : List ℕ) → at < length rows → get_or (set rows at x) at [] ≡ x
set_own [] at x l = absurd (omega arith)
set_own (r ∷ rows) zero x l = refl
set_own (r ∷ rows) (suc at) x l = set_own rows at x (omega arith)

-- ---- a number

grown : (rows more : List (List ℕ)) → ((i b : ℕ) → InList (get_or rows i []) b → InList (get_or more i []) b) → (s : Option Spot) (b : ℕ) → InList (places_at rows s) b → InList (places_at more s) b
grown rows more grows None b h = h
grown rows more grows (Some (spots.One c)) b h = h
grown rows more grows (Some (spots.Several i)) b h = grows i b h

module _ (old new : ListsView) (number : ℕ) (spot : Spot) (puts : (k : ℕ) → spot_of new k ≡ cond (nat_eq number k) (Some spot) (spot_of old k)) where
  here : (k : ℕ) → nat_eq number k ≡ true → spot_of new k ≡ Some spot
  here k e = puts k ∙ ap (λ (t : Bool). cond t (Some spot) (spot_of old k)) e

  there : (k : ℕ) → nat_eq number k ≡ false → spot_of new k ≡ spot_of old k
  there k e = puts k ∙ ap (λ (t : Bool). cond t (Some spot) (spot_of old k)) e

  pub kept_by : ((i b : ℕ) → InList (get_or old.several i []) b → InList (get_or new.several i []) b)
      → ((b : ℕ) → InList (places_of old number) b → InList (places_at new.several (Some spot)) b)
      → (k b : ℕ) → Has old k b → Has new k b
  kept_by grows mine k b h = elim (cases_Bool (nat_eq number k)) [
    | inl same ↦
        let k_is : number ≡ k = eqb-true number k same in
        subst (λ s. InList (places_at new.several s) b) (sym (here k same)) (mine b (subst (λ j. InList (places_of old j) b) (sym k_is) h))
    | inr other ↦ subst (λ s. InList (places_at new.several s) b) (sym (there k other)) (grown old.several new.several grows (spot_of old k) b h)
  ]

  pub own_by : (b : ℕ) → InList (places_at new.several (Some spot)) b → Has new number b
  own_by b h = elim (cases_Bool (nat_eq number number)) [
    | inl same ↦ subst (λ s. InList (places_at new.several s) b) (sym (here number same)) h
    | inr other ↦ absurd (let e = eqb-refl_of number in clash e other)
  ]
    where
      clash : {t : Bool} → t ≡ true → t ≡ false → ⊥
      clash p q = let e : true ≡ false = sym p ∙ q in cc

      eqb-refl_of : (n : ℕ) → nat_eq n n ≡ true
      eqb-refl_of n = eq-eqb n n refl

  pub one_by : (n : ℕ) → ((k b : ℕ) → spot_of old k ≡ Some (spots.One b) → b ≤ n) → ((b : ℕ) → spot ≡ spots.One b → b ≤ n) → (k b : ℕ) → spot_of new k ≡ Some (spots.One b) → b ≤ n
  one_by n before mine k b at = elim (cases_Bool (nat_eq number k)) [
    | inl same ↦ mine b (same_Some spot (spots.One b) (sym (here k same) ∙ at))
    | inr other ↦ before k b (sym (there k other) ∙ at)
  ]

  pub known_by : (n : ℕ) → ((k i : ℕ) → spot_of old k ≡ Some (spots.Several i) → i < n) → ((i : ℕ) → spot ≡ spots.Several i → i < n) → (k i : ℕ) → spot_of new k ≡ Some (spots.Several i) → i < n
  known_by n before mine k i at = elim (cases_Bool (nat_eq number k)) [
    | inl same ↦ mine i (same_Some spot (spots.Several i) (sym (here k same) ∙ at))
    | inr other ↦ before k i (sym (there k other) ∙ at)
  ]

-- a place more, by where the number's places are
pub adds_one : (old new : ListsView) (number place : ℕ) → new.several ≡ old.several → ((k : ℕ) → spot_of new k ≡ cond (nat_eq number k) (Some (spots.One place)) (spot_of old k))
    → spot_of old number ≡ None → IsRising old place → Adds old new number place
adds_one old new number place same puts none rising = record {
  kept = kept_by old new number (spots.One place) puts (λ i b h. subst (λ rows. InList (get_or rows i []) b) (sym same) h)
      (λ b h. absurd (in_none b (subst (λ s. InList (places_at old.several s) b) none h)));
  own = own_by old new number (spots.One place) puts place (0, refl);
  rising = record {
    one = one_by old new number (spots.One place) puts place rising.one (λ b e. omega (arith, one_is place b e));
    known = known_by old new number (spots.One place) puts (length new.several) (λ k i at. subst (λ rows. i < length rows) (sym same) (rising.known k i at)) (λ i e. cc);
    several = λ i. subst (λ rows. RisesTo (get_or rows i []) place) (sym same) (rising.several i);
  };
}
  where
    one_is : (x y : ℕ) → spots.One x ≡ spots.One y → x ≡ y
    one_is x y e = cc

pub adds_second : (old new : ListsView) (number one place : ℕ) → new.several ≡ old.several ++ (one ∷ place ∷ []) ∷ []
    → ((k : ℕ) → spot_of new k ≡ cond (nat_eq number k) (Some (spots.Several (length old.several))) (spot_of old k))
    → spot_of old number ≡ Some (spots.One one) → IsRising old place → Adds old new number place
adds_second old new number one place more puts was rising = record {
  kept = kept_by old new number spot puts (λ i b h. subst (λ rows. InList (get_or rows i []) b) (sym more) (push_there old.several row i b h))
      (λ b h. elim (push_in [] one b (subst (λ s. InList (places_at old.several s) b) was h)) [
        | inl none ↦ absurd (in_none b none)
        | inr same ↦ mine b (0, ap (λ (x : ℕ). Some x) (sym same))
      ]);
  own = own_by old new number spot puts place (mine place (1, refl));
  rising = record {
    one = one_by old new number spot puts place rising.one (λ b e. cc);
    known = known_by old new number spot puts (length new.several) (λ k i at. omega (arith, rising.known k i at, long)) (λ i e. omega (arith, several_is (length old.several) i e, long));
    several = λ i. subst (λ rows. RisesTo (get_or rows i []) place) (sym more) (every_push (λ xs. RisesTo xs place) old.several row rising.several (rises_two one place (rising.one number one was)) i);
  };
}
  where
    row : List ℕ
    row = one ∷ place ∷ []

    spot : Spot
    spot = spots.Several (length old.several)

    long : length new.several ≡ length old.several + 1
    long = ap length more ∙ length_push old.several row

    mine : (b : ℕ) → InList row b → InList (places_at new.several (Some spot)) b
    mine b h = subst (λ xs. InList xs b) (sym (push_own old.several row) ∙ ap (λ rows. get_or rows (length old.several) []) (sym more)) h

    several_is : (x y : ℕ) → spots.Several x ≡ spots.Several y → x ≡ y
    several_is x y e = cc

pub adds_next : (old new : ListsView) (number at place : ℕ) → new.spots ≡ old.spots → new.several ≡ set old.several at (get_or old.several at [] ++ place ∷ [])
    → spot_of old number ≡ Some (spots.Several at) → IsRising old place → Adds old new number place
adds_next old new number at place same more was rising = record {
  kept = λ k b h. subst (λ s. InList (places_at new.several s) b) (sym (spot k))
      (grown old.several new.several (λ i c there. subst (λ rows. InList (get_or rows i []) c) (sym more) (set_there old.several at row i c (λ d. in_push (get_or old.several at []) place d) there)) (spot_of old k) b h);
  own = subst (λ s. InList (places_at new.several s) place) (sym (spot number ∙ was))
      (subst (λ xs. InList xs place) (sym (ap (λ rows. get_or rows at []) more ∙ set_own old.several at row (rising.known number at was))) (own_push (get_or old.several at []) place));
  rising = record {
    one = λ k b h. rising.one k b (sym (spot k) ∙ h);
    known = λ k i h. omega (arith, rising.known k i (sym (spot k) ∙ h), ap length more ∙ length_set old.several at row);
    several = λ i. subst (λ rows. RisesTo (get_or rows i []) place) (sym more) (every_set (λ xs. RisesTo xs place) old.several at row rising.several (rises_push (get_or old.several at []) place (rising.several at)) i);
  };
}
  where
    row : List ℕ
    row = get_or old.several at [] ++ place ∷ []

    spot : (k : ℕ) → spot_of new k ≡ spot_of old k
    spot k = ap (λ es. lookup (nat_eq k) es) same

-- ---- a part of a list

pub all_rise : (l : ListsView) (n : ℕ) → IsRising l n → (k : ℕ) → IsNonDecreasing (places_of l k)
all_rise l n h k = at (spot_of l k) refl
  where
    at : (s : Option Spot) → spot_of l k ≡ s → IsNonDecreasing (places_at l.several s)
    at None e = (rises_none n).rises
    at (Some (spots.One b)) e = (rises_one b n (h.one k b e)).rises
    at (Some (spots.Several i)) e = (h.several i).rises

get_is : (xs : List ℕ) (i b d : ℕ) → slice_get xs i ≡ Some b → get_or xs i d ≡ b
get_is [] i b d e = cc
get_is (x ∷ xs) zero b d e = same_Some x b e
get_is (x ∷ xs) (suc i) b d e = get_is xs i b d e

inside : (xs : List ℕ) (i b : ℕ) → slice_get xs i ≡ Some b → i < length xs
inside [] i b e = cc
inside (x ∷ xs) zero b e = omega arith
inside (x ∷ xs) (suc i) b e = omega (arith, inside xs i b e)

in_drop : (xs : List ℕ) (f i b : ℕ) → slice_get xs i ≡ Some b → f ≤ i → (j : ℕ) × (slice_get (drop f xs) j ≡ Some b) × (f + j ≡ i)
in_drop xs zero i b e l = (i, e, omega arith)
in_drop [] (suc f) i b e l = cc
in_drop (x ∷ xs) (suc f) zero b e l = absurd (omega (arith, l))
in_drop (x ∷ xs) (suc f) (suc i) b e l = let (j, g, s) = in_drop xs f i b e (omega (arith, l)) in (j, g, omega (arith, s))

in_take : (xs : List ℕ) (n i b : ℕ) → slice_get xs i ≡ Some b → i < n → slice_get (take n xs) i ≡ Some b
in_take xs zero i b e l = absurd (omega (arith, l))
in_take [] (suc n) i b e l = e
in_take (x ∷ xs) (suc n) zero b e l = e
in_take (x ∷ xs) (suc n) (suc i) b e l = in_take xs n i b e (omega (arith, l))

-- the places before one
pub in_before : (xs : List ℕ) (end to : ℕ) → ((k d : ℕ) → end ≤ k → k < length xs → get_or xs k d < to → ⊥) → (b : ℕ) → InList xs b → b < to → InList (take end xs) b
in_before xs end to high b (i, at) early =
    let is = get_is xs i b b at in
    elim (cases_lt i end) [
      | inl inner ↦ (i, in_take xs end i b at inner)
      | inr behind ↦ absurd (high i b behind (inside xs i b at) (omega (arith, is, early)))
    ]

some_there : (xs : List ℕ) (i d : ℕ) → i < length xs → slice_get xs i ≡ Some (get_or xs i d)
some_there [] i d l = absurd (omega arith)
some_there (x ∷ xs) zero d l = refl
some_there (x ∷ xs) (suc i) d l = some_there xs i d (omega arith)

-- the same of a rising list, by one that is not before it
pub in_few : (xs : List ℕ) (end to d : ℕ) → IsNonDecreasing xs → end < length xs → to ≤ get_or xs end d → (b : ℕ) → InList xs b → b < to → InList (take end xs) b
in_few xs end to d rises inner late =
    in_before xs end to (λ k e behind within below.
    let is = get_is xs end (get_or xs end d) e (some_there xs end d inner) in omega (arith, rises end k e behind within, is, late, below))

-- the places from one on
pub in_behind : (xs : List ℕ) (first from : ℕ) → ((k d : ℕ) → k < first → get_or xs k d < from) → (b : ℕ) → InList xs b → from ≤ b → InList (drop first xs) b
in_behind xs first from low b (i, at) late =
    let is = get_is xs i b b at in
    elim (cases_lt i first) [
      | inl before ↦ absurd (omega (arith, low i b before, is, late))
      | inr from_first ↦ let (j, here, sum) = in_drop xs first i b at from_first in (j, here)
    ]

-- a list without its first places, as a slice has them
pub in_rest : (xs : List ℕ) (first b : ℕ) → InList (drop first xs) b → InList (take (length xs - first) (drop first xs)) b
in_rest xs first b (i, at) =
    let within = inside (drop first xs) i b at in
    (i, in_take (drop first xs) (length xs - first) i b at (omega (arith, length-drop first xs, within)))
