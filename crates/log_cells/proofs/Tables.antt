-- Tables that grow.
use Rattle.std.proofs.Common.{◌≡◌, ◌∙◌, ℕ, zero, suc, ◌+◌, ◌<◌, List, [], ◌∷◌, ◌++◌, length, take, get_or, Option, Some, refl, sym, ap, subst, arith, inl, inr, ◌⊎◌, add-one, length-append}
use Rattle.std.specs.Prelude.{slice_get}
use Rattle.std.proofs.Math.Seq.{take-suc}
use Rattle.std.proofs.lemmas.Bool.{cases_eq}
use Rattle.std.proofs.lemmas.Option.{same_Some, slice_get_within, get_or_from_slice_get}
use Rattle.tlp_core.specs.Ops.{Op}
use Rattle.seq_memory.specs.Entries.{Reply}
use Rattle.log_runs.specs.EventView.{EventView}
use Rattle.log_runs.specs.EventView as events
use Rattle.log_runs.specs.LogView.{LogView}
use Rattle.log_cells.specs.declared.places.Place.{Place}
use Rattle.log_cells.specs.Places.{IsPlaceOf, ArePlaces, IsApart, AreNames}
use Rattle.log_cells.specs.Parts.{IsInside, IsOutside, Holds, IsKept, NamesInside, AreKept, IsPart}

-- what stands in a list with one element more
more : {X : Type 0} → (xs : List X) (v x : X) (i : ℕ) → slice_get (xs ++ v ∷ []) i ≡ Some x → (slice_get xs i ≡ Some x × (i < length xs)) ⊎ ((i ≡ length xs) × (v ≡ x))
more [] v x zero at = inr (refl, same_Some v x at)
more [] v x (suc i) at = cc
more (z ∷ zs) v x zero at = inl (at, omega arith)
more (z ∷ zs) v x (suc i) at = elim (more zs v x i at) [
  | inl there ↦ inl (there.0, omega (arith, there.1))
  | inr last ↦ inr (ap suc last.0, last.1)
]

-- the elements of a list stay where they are
kept_before : {X : Type 0} → (xs ys : List X) (i : ℕ) (x : X) → slice_get xs i ≡ Some x → slice_get (xs ++ ys) i ≡ Some x
kept_before [] ys i x at = cc
kept_before (z ∷ zs) ys zero x at = at
kept_before (z ∷ zs) ys (suc i) x at = kept_before zs ys i x at

last_at : {X : Type 0} → (xs : List X) (v : X) → slice_get (xs ++ v ∷ []) (length xs) ≡ Some v
last_at [] v = refl
last_at (z ∷ zs) v = last_at zs v

pub some_at : {X : Type 0} → (xs : List X) (i : ℕ) → i < length xs → (x : X) × (slice_get xs i ≡ Some x)
some_at [] i l = absurd (omega arith)
some_at (x ∷ xs) zero l = (x, refl)
some_at (x ∷ xs) (suc i) l = some_at xs i (omega arith)

-- ---- places

pub no_places : ArePlaces [] []
no_places = record { len = refl; at = λ a e p at there. cc }

places_by : (es : List EventView) (ps : List Place) (i : ℕ) (e : EventView) (p : Place) → i < length es → e ≡ get_or es i e → ArePlaces (take i es) ps → IsPlaceOf e p → ArePlaces (take (i + 1) es) (ps ++ p ∷ [])
places_by es ps i e p l is old new =
    let grown : take (i + 1) es ≡ take i es ++ e ∷ [] = ap (λ k. take k es) (add-one i) ∙ take-suc es i e l ∙ ap (λ y. take i es ++ y ∷ []) (sym is) in
    subst (λ z. ArePlaces z (ps ++ p ∷ [])) (sym grown) (record {
      len = length-append ps (p ∷ []) ∙ ap (λ k. k + 1) old.len ∙ sym (length-append (take i es) (e ∷ []));
      at = at;
    })
  where
    at : (a : ℕ) (f : EventView) (q : Place) → slice_get (take i es ++ e ∷ []) a ≡ Some f → slice_get (ps ++ p ∷ []) a ≡ Some q → IsPlaceOf f q
    at a f q x y = elim (more (take i es) e f a x) [
      | inl there ↦ elim (more ps p q a y) [
        | inl here ↦ old.at a f q there.0 here.0
        | inr last ↦ absurd (let n = old.len in omega (arith, there.1, last.0, n))
      ]
      | inr last ↦ elim (more ps p q a y) [
        | inl here ↦ absurd (let n = old.len in omega (arith, here.1, last.0, n))
        | inr here ↦ subst (λ z. IsPlaceOf z q) last.1 (subst (λ z. IsPlaceOf e z) here.1 new)
      ]
    ]

pub places_more : (es : List EventView) (ps : List Place) (i : ℕ) (p : Place) → i < length es → ArePlaces (take i es) ps → ((e : EventView) → slice_get es i ≡ Some e → IsPlaceOf e p) → ArePlaces (take (i + 1) es) (ps ++ p ∷ [])
places_more es ps i p l old new =
    let (e, here) = some_at es i l in
    places_by es ps i e p l (sym (get_or_from_slice_get es i e e here)) old (new e here)

-- ---- names

pub no_names : (ps : List Place) (low high : ℕ) → AreNames [] ps low high 0
no_names ps low high = record {
  rises = λ i j a b l at there. cc;
  below = λ i a at. cc;
  all = λ a p l at. absurd (omega (arith, l));
}

up_to : (names : List ℕ) (ps : List Place) (low high n a : ℕ) (p : Place) → a < n + 1 → slice_get ps a ≡ Some p → AreNames names ps low high n → (a ≡ n) ⊎ (IsApart low high p ⊎ ((j : ℕ) × (slice_get names j ≡ Some a)))
up_to names ps low high n a p l at old = elim (cases_eq a n) [
  | inl here ↦ inl here
  | inr other ↦ inr (old.all a p (omega (arith, l, other)) at)
]

pub names_same : (names : List ℕ) (ps : List Place) (low high n : ℕ) → ((q : Place) → slice_get ps n ≡ Some q → IsApart low high q) → AreNames names ps low high n → AreNames names ps low high (n + 1)
names_same names ps low high n apart old = record {
  rises = old.rises;
  below = λ i a at. let h : a < n = old.below i a at in omega (arith, h);
  all = λ a p l at. elim (up_to names ps low high n a p l at old) [
    | inl last ↦ inl (apart p (ap (slice_get ps) (sym last) ∙ at))
    | inr before ↦ before
  ];
}

pub names_more : (names : List ℕ) (ps : List Place) (low high n : ℕ) → AreNames names ps low high n → AreNames (names ++ n ∷ []) ps low high (n + 1)
names_more names ps low high n old = record {
  rises = λ i j a b l at there. elim (more names n b j there) [
    | inl in_old ↦ elim (more names n a i at) [
      | inl also ↦ old.rises i j a b l also.0 in_old.0
      | inr last ↦ absurd (omega (arith, last.0, in_old.1, l))
    ]
    | inr last ↦ elim (more names n a i at) [
      | inl also ↦ let h : a < n = old.below i a also.0 in omega (arith, h, last.1)
      | inr both ↦ absurd (omega (arith, last.0, both.0, l))
    ]
  ];
  below = λ i a at. elim (more names n a i at) [
    | inl in_old ↦ let h : a < n = old.below i a in_old.0 in omega (arith, h)
    | inr last ↦ omega (arith, last.1)
  ];
  all = λ a p l at. elim (up_to names ps low high n a p l at old) [
    | inl last ↦ inr (length names, last_at names n ∙ ap Some (sym last))
    | inr before ↦ elim before [
      | inl apart ↦ inl apart
      | inr there ↦ inr (there.0, kept_before names (n ∷ []) there.0 a there.1)
    ]
  ];
}

-- ---- events

pub no_events : (es : List EventView) (names : List ℕ) (low high : ℕ) → AreKept es names low high [] 0
no_events es names low high = record { len = refl; at = λ j f at. cc }

inside_kept : (names : List ℕ) (low high : ℕ) (e f : EventView) → IsKept names e f → NamesInside low high e → NamesInside low high f
inside_kept names low high (events.Sub i op told) (events.Sub j w heard) k h = subst (IsInside low high) k.1 h
inside_kept names low high (events.Sub i op told) (events.Due c) k h = absurd k
inside_kept names low high (events.Sub i op told) events.Free k h = absurd k
inside_kept names low high (events.Due b) (events.Sub j w heard) k h = absurd k
inside_kept names low high (events.Due b) (events.Due c) k h = tt
inside_kept names low high (events.Due b) events.Free k h = tt
inside_kept names low high events.Free (events.Sub j w heard) k h = absurd k
inside_kept names low high events.Free (events.Due c) k h = absurd k
inside_kept names low high events.Free events.Free k h = tt

pub kept_more : (es : List EventView) (names : List ℕ) (low high : ℕ) (fs : List EventView) (n a : ℕ) (e f : EventView) → slice_get names n ≡ Some a → slice_get es a ≡ Some e → IsKept names e f → NamesInside low high e
    → AreKept es names low high fs n → AreKept es names low high (fs ++ f ∷ []) (n + 1)
kept_more es names low high fs n a e f name at k h old = record {
  len = length-append fs (f ∷ []) ∙ ap (λ m. m + 1) old.len;
  at = λ j g there. elim (more fs f g j there) [
    | inl before ↦ old.at j g before.0
    | inr last ↦
        let here : slice_get names j ≡ Some a = ap (slice_get names) (last.0 ∙ old.len) ∙ name in
        (a, here, e, at, subst (IsKept names e) last.1 k, subst (NamesInside low high) last.1 (inside_kept names low high e f k h))
  ];
}

-- ---- a part

inside_sub : (low high i : ℕ) (op : Op) (told : Option Reply) (f : EventView) → f ≡ events.Sub i op told → NamesInside low high f → IsInside low high op
inside_sub low high i op told f is h = subst (NamesInside low high) is h

outside : (low high i : ℕ) (op : Op) (told : Option Reply) (p : Place) → IsPlaceOf (events.Sub i op told) p → IsApart low high p → IsOutside low high op
outside low high i op told p is (inl before) = inl (omega (arith, before, is.0, is.1))
outside low high i op told p is (inr behind) = inr (omega (arith, behind, is.0))

pub is_part : (log part : LogView) (low high : ℕ) (names : List ℕ) (ps : List Place) → ArePlaces log.events ps → AreNames names ps low high (length ps) → AreKept log.events names low high part.events (length names)
    → part.extent.block ≡ log.extent.block → Holds log.extent low high → Holds part.extent low high → IsPart log part low high names
is_part log part low high names ps places are kept block of_log of_part = record {
  block = block;
  of_log = of_log;
  of_part = of_part;
  len = sym kept.len;
  rises = are.rises;
  kept = λ j a f name at.
      let (b, here, e, there, k, h) = kept.at j f at in
      let same : b ≡ a = same_Some b a (sym here ∙ name) in
      (e, subst (λ z. slice_get log.events z ≡ Some e) same there, k);
  inside = λ j i op told at. (kept.at j (events.Sub i op told) at).5;
  others = λ a i op told at.
      let l : a < length ps = let w = slice_get_within log.events a (events.Sub i op told) at in let n = places.len in omega (arith, w, n) in
      let (p, there) = some_at ps a l in
      elim (are.all a p l there) [
        | inl apart ↦ inl (outside low high i op told p (places.at a (events.Sub i op told) p at there) apart)
        | inr named ↦ inr named
      ];
}
