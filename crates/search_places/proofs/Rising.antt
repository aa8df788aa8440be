-- A rising list of numbers, with one more, and with one less.
use Rattle.std.proofs.Common.{◌≡◌, ◌∙◌, ℕ, suc, ◌+◌, ◌-◌, ◌<◌, ◌≤◌, true, false, List, Some, [], ◌∷◌, get_or, length, refl, sym, ap, subst, inl, inr, arith}
use Rattle.std.specs.Prelude.{slice_get, ◌==◌, ◌&&◌, ◌||◌, not, Result, Ok, Err}
use Rattle.std.specs.List.{insert, remove}
use Rattle.std.specs.List.Sorted.{IsStrictlyIncreasing, IsBinarySearchResult}
use Rattle.std.specs.Ordering.{nat_cmp}
use Rattle.std.proofs.lemmas.Bool.{cases_eq, cases_order, eq-eqb, ne_eqb, eqb-true, or_cases}
use Rattle.std.proofs.lemmas.Option.{same_Some}
use Rattle.std.proofs.lemmas.List.{get_or_default}
use Rattle.std.proofs.lemmas.List.Edits.{length-insert, length-remove, get_or-insert_below, get_or-insert_at, get_or-insert_above, get_or-remove_below, get_or-remove_above}
use Rattle.std.proofs.lemmas.List.Folds.{list_any_at}
use Rattle.std.proofs.lemmas.List.Sorted.{IsPermutation-insert, IsPermutation-remove, list_any-IsPermutation, searched}
use Rattle.std.proofs.lemmas.Map.Keys.{below_from_sorted, sorted_from_strictly_increasing}
use Rattle.search_places.specs.Pending.{has}

-- a number is below each one after it, and not above
below : (xs : List ℕ) (i j : ℕ) → IsStrictlyIncreasing xs → i < j → j < length xs → get_or xs i 0 < get_or xs j 0
below xs i j up l k = below_from_sorted xs i j 0 (sorted_from_strictly_increasing xs up) l k

level : (xs : List ℕ) → IsStrictlyIncreasing xs → (i j : ℕ) → i ≤ j → j < length xs → get_or xs i 0 ≤ get_or xs j 0
level xs up i j l k = elim (cases_order i j) as (λ w. get_or xs i 0 ≤ get_or xs j 0) [
  | inl same ↦ subst (λ n. get_or xs i 0 ≤ get_or xs n 0) same (omega arith)
  | inr (inl before) ↦ let h = below xs i j up before k in omega (arith, h)
  | inr (inr after) ↦ absurd (omega (arith, l, after))
]

-- a number that stands nowhere
missing : (xs : List ℕ) (b : ℕ) → ((k : ℕ) → k < length xs → get_or xs k 0 ≡ b → ⊥) → has xs b ≡ false
missing [] b h = refl
missing (x ∷ xs) b h = rw (ne_eqb x b (h 0 (omega arith))) (missing xs b (λ k l. h (suc k) (omega arith)))

-- ---- one less

module _ (xs : List ℕ) (up : IsStrictlyIncreasing xs) (at b : ℕ) (l : at < length xs) (is : get_or xs at 0 ≡ b) where
  gone : has (remove xs at) b ≡ false
  gone =
      let fewer = length-remove xs at l in
      missing (remove xs at) b (λ k m e. elim (cases_order k at) as (λ w. ⊥) [
        | inl same ↦
            let h = below xs at (k + 1) up (omega (arith, same)) (omega (arith, fewer, m)) in
            let g = get_or-remove_above xs at 0 k (omega (arith, same)) l in
            omega (arith, h, is, e, g)
        | inr (inl before) ↦
            let h = below xs k at up before l in
            let g = get_or-remove_below xs at 0 k before l in
            omega (arith, h, is, e, g)
        | inr (inr after) ↦
            let h = below xs at (k + 1) up (omega (arith, after)) (omega (arith, fewer, m)) in
            let g = get_or-remove_above xs at 0 k (omega (arith, after)) l in
            omega (arith, h, is, e, g)
      ])

  has_less : (c : ℕ) → has (remove xs at) c ≡ (not (b == c) && has xs c)
  has_less c =
      let all : has xs c ≡ ((b == c) || has (remove xs at) c) =
      list_any-IsPermutation (λ y. y == c) xs (b ∷ remove xs at) (IsPermutation-remove xs at b l (sym is ∙ get_or_default xs at 0 b l)) in
      elim (cases_eq b c) as (λ w. has (remove xs at) c ≡ (not (b == c) && has xs c)) [
        | inl here ↦ subst (λ d. has (remove xs at) d ≡ (not (b == d) && has xs d)) here (rw (eq-eqb b b refl) gone)
        | inr other ↦ rw (all, ne_eqb b c other) refl
      ]

-- ---- one more

pub has_insert : (xs : List ℕ) (i b c : ℕ) → has (insert xs i b) c ≡ ((b == c) || has xs c)
has_insert xs i b c = sym (list_any-IsPermutation (λ x. x == c) (b ∷ xs) (insert xs i b) (IsPermutation-insert xs i b))

module _ (xs : List ℕ) (up : IsStrictlyIncreasing xs) (at b : ℕ) (l : at ≤ length xs) (less : (k : ℕ) → k < at → get_or xs k 0 < b) (more : (k : ℕ) → at ≤ k → k < length xs → b < get_or xs k 0) where
  absent : has xs b ≡ false
  absent = missing xs b (λ k m e. elim (cases_order k at) as (λ w. ⊥) [
    | inl same ↦ let h = more k (omega (arith, same)) m in omega (arith, h, e)
    | inr (inl before) ↦ let h = less k before in omega (arith, h, e)
    | inr (inr after) ↦ let h = more k (omega (arith, after)) m in omega (arith, h, e)
  ])

  later : (k : ℕ) → at < k → get_or (insert xs at b) k 0 ≡ get_or xs (k - 1) 0
  later k m =
      let back : k - 1 + 1 ≡ k = omega (arith, m) in
      subst (λ i. get_or (insert xs at b) i 0 ≡ get_or xs (k - 1) 0) back (get_or-insert_above xs at b 0 (k - 1) (omega (arith, m)) l)

  after_it : (k : ℕ) → at ≤ k → k < length xs → get_or (insert xs at b) k 0 < get_or (insert xs at b) (k + 1) 0
  after_it k m inside =
      let next = get_or-insert_above xs at b 0 k m l in
      elim (cases_eq at k) as (λ w. get_or (insert xs at b) k 0 < get_or (insert xs at b) (k + 1) 0) [
        | inl same ↦
            let here : get_or (insert xs at b) k 0 ≡ b = subst (λ i. get_or (insert xs at b) i 0 ≡ b) same (get_or-insert_at xs at b 0 l) in
            let h = more k m inside in
            omega (arith, next, here, h)
        | inr other ↦
            let late : at < k = omega (arith, m, other) in
            let here = later k late in
            let h = below xs (k - 1) k up (omega (arith, late)) inside in
            omega (arith, next, here, h)
      ]

  rises_more : IsStrictlyIncreasing (insert xs at b)
  rises_more k m =
      let longer = length-insert xs at b l in
      elim (cases_order (k + 1) at) as (λ w. get_or (insert xs at b) k 0 < get_or (insert xs at b) (k + 1) 0) [
        | inl same ↦
            let here = get_or-insert_below xs at b 0 k (omega (arith, same)) l in
            let next : get_or (insert xs at b) (k + 1) 0 ≡ b = subst (λ i. get_or (insert xs at b) i 0 ≡ b) (sym same) (get_or-insert_at xs at b 0 l) in
            let h = less k (omega (arith, same)) in
            omega (arith, next, here, h)
        | inr (inl before) ↦
            let here = get_or-insert_below xs at b 0 k (omega (arith, before)) l in
            let next = get_or-insert_below xs at b 0 (k + 1) before l in
            let h = below xs k (k + 1) up (omega arith) (omega (arith, before, l)) in
            omega (arith, next, here, h)
        | inr (inr after) ↦ after_it k (omega (arith, after)) (omega (arith, longer, m))
      ]

-- ---- the number was searched for

-- the search answers so
abbrev pub Answers : List ℕ → ℕ → Result ℕ ℕ → Type 0
Answers xs b r = IsBinarySearchResult (λ y. nat_cmp y b) xs r

pub found_adds : (xs : List ℕ) (b at : ℕ) → IsStrictlyIncreasing xs → Answers xs b (Ok at) → (c : ℕ) → has xs c ≡ ((b == c) || has xs c)
found_adds xs b at up a c =
    let (l, is) = searched xs b (Ok at) a (level xs up) in
    elim (cases_eq b c) as (λ w. has xs c ≡ ((b == c) || has xs c)) [
      | inl same ↦ subst (λ d. has xs d ≡ ((b == d) || has xs d)) same (rw (eq-eqb b b refl) (list_any_at (λ x. x == b) xs at 0 l (eq-eqb (get_or xs at 0) b is)))
      | inr other ↦ rw (ne_eqb b c other) refl
    ]

pub found_less : (xs : List ℕ) (b at : ℕ) → IsStrictlyIncreasing xs → Answers xs b (Ok at) → (c : ℕ) → has (remove xs at) c ≡ (not (b == c) && has xs c)
found_less xs b at up a =
    let (l, is) = searched xs b (Ok at) a (level xs up) in
    has_less xs up at b l is

pub missed_less : (xs : List ℕ) (b at : ℕ) → IsStrictlyIncreasing xs → Answers xs b (Err at) → (c : ℕ) → has xs c ≡ (not (b == c) && has xs c)
missed_less xs b at up a c =
    let (l, less, more) = searched xs b (Err at) a (level xs up) in
    elim (cases_eq b c) as (λ w. has xs c ≡ (not (b == c) && has xs c)) [
      | inl same ↦ subst (λ d. has xs d ≡ (not (b == d) && has xs d)) same (rw (eq-eqb b b refl) (absent xs up at b l less more))
      | inr other ↦ rw (ne_eqb b c other) refl
    ]

pub missed_rises : (xs : List ℕ) (b at : ℕ) → IsStrictlyIncreasing xs → Answers xs b (Err at) → IsStrictlyIncreasing (insert xs at b)
missed_rises xs b at up a =
    let (l, less, more) = searched xs b (Err at) a (level xs up) in
    rises_more xs up at b l less more

found : (xs : List ℕ) (c : ℕ) → has xs c ≡ true → (j : ℕ) × (j < length xs) × (get_or xs j 0 ≡ c)
found [] c h = cc
found (x ∷ xs) c h = elim (or_cases (x == c) (has xs c) h) [
  | inl here ↦ (0, omega arith, eqb-true x c here)
  | inr there ↦ let (j, l, e) = found xs c there in (suc j, omega (arith, l), e)
]

-- the first is the least
first_least : (xs : List ℕ) (c : ℕ) → IsStrictlyIncreasing xs → has xs c ≡ true → get_or xs 0 0 ≤ c
first_least xs c up h =
    let (j, l, e) = found xs c h in
    omega (arith, level xs up 0 j (omega arith) l, e)

pub least_is_first : (xs ys : List ℕ) (x c : ℕ) → Some x ≡ slice_get ys 0 → ys ≡ xs → IsStrictlyIncreasing xs → has xs c ≡ true → x ≤ c
least_is_first xs ys x c at same up h = omega (arith, first_at xs (at ∙ ap (λ zs. slice_get zs 0) same), first_least xs c up h)
  where
    first_at : (zs : List ℕ) → Some x ≡ slice_get zs 0 → x ≡ get_or zs 0 0
    first_at [] e = cc
    first_at (z ∷ zs) e = same_Some x z e
