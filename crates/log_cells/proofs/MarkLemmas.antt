-- Words that are joined, and the addresses where cells begin.
use Rattle.std.proofs.Common.{◌≡◌, ◌∙◌, ◌++◌, ℕ, zero, suc, ◌+◌, ◌*◌, ◌/◌, ◌^◌, ◌<◌, ◌≤◌, min, ◌-◌, true, false, leb, leb-true, leb-false, get_or, inl, inr, List, [], ◌∷◌, length, Some, refl, sym, ap, subst, arith}
use Rattle.std.specs.Prelude.{slice_get, slice_set}
use Rattle.std.proofs.lemmas.Bool.{cases_eq, cases_lt}
use Rattle.std.specs.List.{All}
use Rattle.std.specs.List.Sorted.{IsNonDecreasingBy, IsPartitionPoint}
use Rattle.std.proofs.lemmas.List.Sorted.{IsNonDecreasingBy-from_all_adjacent}
use Rattle.std.proofs.lemmas.List.Elements.{All-get_or, All-head, All-tail, All-push, All-weaker}
use Rattle.std.proofs.lemmas.Option.{same_Some, slice_get_within, get_or_from_slice_get, slice_get-get_or}
use Rattle.tlp_core.specs.Operation.{address_of, count_of}
use Rattle.seq_memory.specs.Limits.{Extent}
use Rattle.log_runs.specs.EventView.{EventView}
use Rattle.log_runs.specs.EventView as events
use Rattle.log_runs.specs.LogView.{LogView}
use Rattle.log_cells.specs.declared.cells.Word.{Word}
use Rattle.log_cells.specs.declared.cells.Word.TheVariants as words
use Rattle.log_cells.specs.declared.places.Place.{Place}
use Rattle.log_cells.specs.Places.{ArePlaces}
use Rattle.log_cells.specs.Cells.{IsUncut, IsRising, IsEnd, IsDivided, AreCells}
use Rattle.log_cells.specs.Marks.{IsCut, Keeps, AreJoined, IsBeginning, IsBound, IsSplit}
use Rattle.log_cells.proofs.Tables.{some_at}

-- ---- a word is set

set_length : (ws : List Word) (i : ℕ) (w : Word) → length (slice_set ws i w) ≡ length ws
set_length [] i w = refl
set_length (v ∷ vs) zero w = refl
set_length (v ∷ vs) (suc i) w = ap suc (set_length vs i w)

set_here : (ws : List Word) (i : ℕ) (w : Word) → i < length ws → slice_get (slice_set ws i w) i ≡ Some w
set_here [] i w l = absurd (omega arith)
set_here (v ∷ vs) zero w l = refl
set_here (v ∷ vs) (suc i) w l = set_here vs i w (omega arith)

set_there : (ws : List Word) (i k : ℕ) (w : Word) → (i ≡ k → ⊥) → slice_get (slice_set ws i w) k ≡ slice_get ws k
set_there [] i k w n = refl
set_there (v ∷ vs) zero zero w n = absurd (n refl)
set_there (v ∷ vs) zero (suc k) w n = refl
set_there (v ∷ vs) (suc i) zero w n = refl
set_there (v ∷ vs) (suc i) (suc k) w n = set_there vs i k w (λ e. n (ap suc e))

pub keeps_same : (ws : List Word) → Keeps ws ws
keeps_same ws = record { len = refl; joined = λ k at. at }

pub keeps_then : (us vs ws : List Word) → Keeps us vs → Keeps vs ws → Keeps us ws
keeps_then us vs ws one two = record { len = two.len ∙ one.len; joined = λ k at. two.joined k (one.joined k at) }

-- a word that isn't joined is set
pub keeps_named : (ws : List Word) (i : ℕ) (w : Word) → slice_get ws i ≡ Some words.Unused → Keeps ws (slice_set ws i w)
keeps_named ws i w was = record {
  len = set_length ws i w;
  joined = λ k at. elim (cases_eq i k) [
    | inl same ↦ absurd (let e : words.Unused ≡ words.Joined = same_Some words.Unused words.Joined (sym was ∙ ap (slice_get ws) same ∙ at) in cc)
    | inr other ↦ set_there ws i k w other ∙ at
  ];
}

keeps_joined : (ws : List Word) (i : ℕ) → Keeps ws (slice_set ws i words.Joined)
keeps_joined ws i = record {
  len = set_length ws i words.Joined;
  joined = λ k at. elim (cases_eq i k) [
    | inl same ↦ subst (λ j. slice_get (slice_set ws i words.Joined) j ≡ Some words.Joined) same (set_here ws i words.Joined (let l = slice_get_within ws k words.Joined at in omega (arith, same, l)))
    | inr other ↦ set_there ws i k words.Joined other ∙ at
  ];
}

-- words from one on are joined
pub record Joins (ws vs : List Word) (first end : ℕ) : Type 0 where
  pub keeps : Keeps ws vs
  pub joined : (k : ℕ) → first ≤ k → k < end → k < length ws → slice_get vs k ≡ Some words.Joined

pub joins_none : (ws : List Word) (first : ℕ) → Joins ws ws first first
joins_none ws first = record { keeps = keeps_same ws; joined = λ k low high l. absurd (omega (arith, low, high)) }

pub joins_more : (ws vs us : List Word) (first end : ℕ) → us ≡ slice_set vs end words.Joined → Joins ws vs first end → Joins ws us first (end + 1)
joins_more ws vs us first end is j = record {
  keeps = subst (Keeps ws) (sym is) (keeps_then ws vs (slice_set vs end words.Joined) j.keeps (keeps_joined vs end));
  joined = λ k low high l. subst (λ zs. slice_get zs k ≡ Some words.Joined) (sym is) (elim (cases_eq end k) [
    | inl same ↦ subst (λ i. slice_get (slice_set vs end words.Joined) i ≡ Some words.Joined) same (set_here vs end words.Joined (let n = j.keeps.len in omega (arith, same, l, n)))
    | inr other ↦ set_there vs end k words.Joined other ∙ j.joined k low (omega (arith, high, other)) l
  ]);
}

-- ---- the places, one after the other

pub joined_none : (x : Extent) (ps : List Place) (ws : List Word) → AreJoined x ps ws 0
joined_none x ps ws = λ a k p l at cut. absurd (omega (arith, l))

pub joined_more : (x : Extent) (ps : List Place) (ws vs : List Word) (n : ℕ) (q : Place) → slice_get ps n ≡ Some q → Keeps ws vs
    → ((k : ℕ) → IsCut x (x.base + 4 * (k + 1)) q → slice_get vs k ≡ Some words.Joined) → AreJoined x ps ws n → AreJoined x ps vs (n + 1)
joined_more x ps ws vs n q there keeps new old = λ a k p l at cut. elim (cases_eq a n) [
  | inl same ↦ new k (subst (IsCut x (x.base + 4 * (k + 1))) (same_Some p q (sym at ∙ ap (slice_get ps) same ∙ there)) cut)
  | inr other ↦ keeps.joined k (old a k p (omega (arith, l, other)) at cut)
]

-- ---- no place lies on both sides of a bound

pub not_cut : (x : Extent) (ps : List Place) (ws : List Word) (bs : List ℕ) (v : ℕ) → AreJoined x ps ws (length ps) → ((j b : ℕ) → slice_get bs j ≡ Some b → IsBeginning ws b) → IsBound x bs v → v + 1 < x.base + x.size
    → (a : ℕ) (p : Place) → slice_get ps a ≡ Some p → IsCut x v p → ⊥
not_cut x ps ws bs v joined begin (inl first) inner a p at cut = let low = cut.0 in let from = cut.2 in omega (arith, first, low, from)
not_cut x ps ws bs v joined begin (inr (inl end)) inner a p at cut = omega (arith, end, inner)
not_cut x ps ws bs v joined begin (inr (inr (j, b, there, is))) inner a p at cut = by b (begin j b there) is
  where
    by : (b : ℕ) → IsBeginning ws b → v ≡ x.base + 4 * b → ⊥
    by zero begins e = let low = cut.0 in let from = cut.2 in omega (arith, e, low, from)
    by (suc k) begins e =
        let same : v ≡ x.base + 4 * (k + 1) = omega (arith, e) in
        begins.apart k (omega arith) (joined a k p (slice_get_within ps a p at) at (subst (λ u. IsCut x u p) same cut))

pub uncut_by : (log : LogView) (ps : List Place) (v : ℕ) → ArePlaces log.events ps → ((a : ℕ) (p : Place) → slice_get ps a ≡ Some p → IsCut log.extent v p → ⊥) → IsUncut log v
uncut_by log ps v places none = λ a i op told at low high.
    let (p, there) = some_at ps a (let n = places.len in let l = slice_get_within log.events a (events.Sub i op told) at in omega (arith, n, l)) in
    let is = places.at a (events.Sub i op told) p at there in
    let from = is.0 in
    let count = is.1 in
    elim (cases_lt (address_of op) v) [
      | inr behind ↦ inr behind
      | inl begins ↦ elim (cases_lt v (address_of op + count_of op)) [
        | inr before ↦ inl before
        | inl reaches ↦ absurd (none a p there (omega (arith, from, low), omega (arith, from, count, high), omega (arith, from, begins), omega (arith, from, count, reaches)))
      ]
    ]

-- ---- bounds rise

at_of : {X : Type 0} (P : X → Type 0) (xs : List X) → All P xs → (j : ℕ) (x : X) → slice_get xs j ≡ Some x → P x
at_of P xs all j x at = subst P (get_or_from_slice_get xs j x x at) (All-get_or P xs j x (slice_get_within xs j x at) all)

next : (i : ℕ) → suc (i + 1) ≡ suc i + 1
next i = omega arith

pub rising_push : (us : List ℕ) (x : ℕ) → IsRising us → All (λ u. u < x) us → IsRising (us ++ (x ∷ []))
rising_push us x rising below = λ j v w a b. by us j v w rising below a b
  where
    by : (us : List ℕ) (j v w : ℕ) → IsRising us → All (λ u. u < x) us → slice_get (us ++ (x ∷ [])) j ≡ Some v → slice_get (us ++ (x ∷ [])) (j + 1) ≡ Some w → v < w
    by [] j v w rising below a b = absurd (let l = slice_get_within (x ∷ []) (j + 1) w b in omega (arith, l))
    by (u ∷ []) zero v w rising below a b = let one = same_Some u v a in let other = same_Some x w b in let l = All-head (λ y. y < x) u [] below in omega (arith, one, other, l)
    by (u ∷ t ∷ ts) zero v w rising below a b = rising 0 v w a b
    by (u ∷ us) (suc j) v w rising below a b = by us j v w (λ i p q c d. rising (suc i) p q c (subst (λ k. slice_get (u ∷ us) k ≡ Some q) (next i) d)) (All-tail (λ y. y < x) u us below) a (subst (λ k. slice_get ((u ∷ us) ++ (x ∷ [])) k ≡ Some w) (sym (next j)) b)

pub first_push : (us : List ℕ) (u x : ℕ) → slice_get us 0 ≡ Some u → slice_get (us ++ (x ∷ [])) 0 ≡ Some u
first_push [] u x at = absurd (let l = slice_get_within [] 0 u at in omega (arith, l))
first_push (t ∷ ts) u x at = at

pub last_push : (us : List ℕ) (x n v : ℕ) → length (us ++ (x ∷ [])) ≡ n + 1 → slice_get (us ++ (x ∷ [])) n ≡ Some v → v ≡ x
last_push [] x zero v len at = sym (same_Some x v at)
last_push [] x (suc n) v len at = absurd (omega (arith, len))
last_push (u ∷ us) x zero v len at = absurd (more us x (omega (arith, len)))
  where
    more : (us : List ℕ) (x : ℕ) → length (us ++ (x ∷ [])) ≡ 0 → ⊥
    more [] x e = omega (arith, e)
    more (t ∷ ts) x e = omega (arith, e)
last_push (u ∷ us) x (suc n) v len at = last_push us x n v (omega (arith, len)) at

-- bounds from the memory's base on that rise, each at least a word before its end, and before each beginning from one on
pub record AreBounds (x : Extent) (bs : List ℕ) (n : ℕ) (vs : List ℕ) : Type 0 where
  pub bound : All (IsBound x bs) vs
  pub first : slice_get vs 0 ≡ Some x.base
  pub rising : IsRising vs
  pub inner : All (λ v. v + 4 ≤ x.base + x.size) vs
  pub before : (b : ℕ) → slice_get bs n ≡ Some b → All (λ v. v < x.base + 4 * b) vs

-- one beginning on, without a bound
pub bounds_same : (x : Extent) (bs : List ℕ) (n b : ℕ) (vs : List ℕ) → IsRising bs → slice_get bs n ≡ Some b → AreBounds x bs n vs → AreBounds x bs (n + 1) vs
bounds_same x bs n b vs rising there are = record {
  bound = are.bound;
  first = are.first;
  rising = are.rising;
  inner = are.inner;
  before = λ d at. let l = rising n b d there at in All-weaker (λ v. v < x.base + 4 * b) (λ v. v < x.base + 4 * d) (λ v h. omega (arith, h, l)) vs (are.before b there);
}

-- with a bound
pub bounds_more : (x : Extent) (bs : List ℕ) (n b v : ℕ) (vs : List ℕ) → IsRising bs → All (λ d. d < x.size / 4) bs → slice_get bs n ≡ Some b → v ≡ x.base + 4 * b → AreBounds x bs n vs → AreBounds x bs (n + 1) (vs ++ (v ∷ []))
bounds_more x bs n b v vs rising all there is are =
    let within = at_of (λ d. d < x.size / 4) bs all n b there in
    record {
      bound = All-push (IsBound x bs) vs v are.bound (inr (inr (n, b, there, is)));
      first = first_push vs x.base v are.first;
      rising = rising_push vs v are.rising (subst (λ w. All (λ u. u < w) vs) (sym is) (are.before b there));
      inner = All-push (λ u. u + 4 ≤ x.base + x.size) vs v are.inner (omega (arith, is, within));
      before = λ d at.
          let l = rising n b d there at in
          All-push (λ u. u < x.base + 4 * d) vs v (All-weaker (λ u. u < x.base + 4 * b) (λ u. u < x.base + 4 * d) (λ u h. omega (arith, h, l)) vs (are.before b there)) (omega (arith, is, l));
    }

is_end : (x : Extent) (v : ℕ) → x.base + x.size ≤ 2 ^ 64 → v ≡ min (x.base + x.size) 18446744073709551615 → IsEnd x v
is_end x v most is = elim (cases_lt (x.base + x.size) (2 ^ 64)) [
  | inl low ↦ inl (low, omega (arith, is, low))
  | inr high ↦ inr (omega (arith, most, high), omega (arith, is, most, high))
]

-- the memory's end is put behind them
pub bounds_end : (x : Extent) (bs : List ℕ) (n v : ℕ) (vs : List ℕ) → x.base + x.size ≤ 2 ^ 64 → v ≡ min (x.base + x.size) 18446744073709551615 → AreBounds x bs n vs → IsDivided x (vs ++ (v ∷ []))
bounds_end x bs n v vs most is are = record {
  first = first_push vs x.base v are.first;
  last = λ k w len at. subst (IsEnd x) (sym (last_push vs v k w len at)) (is_end x v most is);
  rising = rising_push vs v are.rising (All-weaker (λ u. u + 4 ≤ x.base + x.size) (λ u. u < v) (λ u h. omega (arith, h, is, most)) vs are.inner);
}

-- ---- the range around an address

pub rising_order : (vs : List ℕ) → IsRising vs → IsNonDecreasingBy (λ v. v) vs
rising_order vs rising = IsNonDecreasingBy-from_all_adjacent (λ v. v) vs (λ k d l. let r = rising k (get_or vs k d) (get_or vs (k + 1) d) (slice_get-get_or vs k d (omega (arith, l))) (slice_get-get_or vs (k + 1) d l) in omega (arith, r))

pub split_by : (vs : List ℕ) (a n : ℕ) → IsPartitionPoint (λ v. leb v a ≡ true) (λ v. leb v a ≡ false) vs n → IsSplit vs a n
split_by vs a n point = record {
  below = λ j v l at. subst (λ u. u ≤ a) (get_or_from_slice_get vs j v 0 at) (leb-true (get_or vs j 0) a (point.0 j 0 (omega arith) l));
  above = λ j v l at. subst (λ u. a < u) (get_or_from_slice_get vs j v 0 at) (leb-false (get_or vs j 0) a (point.1 j 0 l (slice_get_within vs j v at)));
}

-- an address of the memory has a bound up to it and one behind it
pub split_within : (x : Extent) (vs : List ℕ) (a n : ℕ) → IsDivided x vs → IsSplit vs a n → x.base ≤ a → a < x.base + x.size → a + 1 < 2 ^ 64 → (0 < n) × (n < length vs)
split_within x vs a n divided split low high top = (begins, ends)
  where
    begins : 0 < n
    begins = elim (cases_lt 0 n) [
      | inl l ↦ l
      | inr l ↦ absurd (let above = split.above 0 x.base l divided.first in omega (arith, above, low))
    ]

    ends : n < length vs
    ends = elim (cases_lt n (length vs)) [
      | inl l ↦ l
      | inr l ↦ absurd (
          let some = slice_get_within vs 0 x.base divided.first in
          let m = length vs - 1 in
          let there = slice_get-get_or vs m 0 (omega (arith, some)) in
          let below = split.below m (get_or vs m 0) (omega (arith, some, l)) there in
          elim (divided.last m (get_or vs m 0) (omega (arith, some)) there) [
            | inl e ↦ let is = e.1 in omega (arith, is, below, high)
            | inr e ↦ let is = e.1 in omega (arith, is, below, top)
          ])
    ]

-- ---- all of it

pub are_cells : (log : LogView) (ps : List Place) (ws : List Word) (beginnings bounds : List ℕ) → ArePlaces log.events ps → AreJoined log.extent ps ws (length ps) → All (IsBeginning ws) beginnings
    → All (IsBound log.extent beginnings) bounds → IsDivided log.extent bounds → AreCells log (record { places = ps; bounds = bounds })
are_cells log ps ws beginnings bounds places joined begin bound divided = record {
  places = places;
  divided = divided;
  uncut = λ j v at inner. uncut_by log ps v places
      (not_cut log.extent ps ws beginnings v joined (at_of (IsBeginning ws) beginnings begin) (at_of (IsBound log.extent beginnings) bounds bound j v at) inner);
}
