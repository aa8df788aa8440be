-- What the lists of pending requests say of who has acted.
use Rattle.std.proofs.Common.{◌≡◌, ◌∙◌, ℕ, ◌<◌, ◌≤◌, Bool, true, false, List, [], length, Some, refl, sym, ap, inl, inr, arith}
use Rattle.std.specs.Prelude.{◌&&◌, not, nat_lt, slice_get, replicate}
use Rattle.std.proofs.lemmas.Bool.{cases_Bool, lt-ltb, le-ltb, ltb-true, and_parts, and_from, and_left, not-true, not_from_false}
use Rattle.std.proofs.lemmas.Option.{same_Some, slice_get_within}
use Rattle.log_runs.specs.LogView.{LogView}
use Rattle.search_places.specs.Pending.{has, submits, is_done, IsTable}
use Rattle.search_places.specs.PlaceView.{PlaceView}
use Rattle.search_places.specs.Places.{IsPlace}
use Rattle.search_places.proofs.Lists.{clash, get_replicate, length_replicate, same_list}

module _ (log : LogView) where
  pub done_is : (e : ℕ) (p : List ℕ) (b : ℕ) → is_done log e p b ≡ true → (b < e) × (submits (slice_get log.events b) ≡ true) × (has p b ≡ false)
  done_is e p b h =
      let (early, gone) = and_parts (nat_lt b e && submits (slice_get log.events b)) (not (has p b)) h in
      let (passed, sub) = and_parts (nat_lt b e) (submits (slice_get log.events b)) early in
      (ltb-true b e passed, sub, not-true (has p b) gone)

  pub done_from : (e : ℕ) (p : List ℕ) (b : ℕ) → b < e → submits (slice_get log.events b) ≡ true → has p b ≡ false → is_done log e p b ≡ true
  done_from e p b l sub gone =
      and_from (nat_lt b e && submits (slice_get log.events b)) (not (has p b))
      (and_from (nat_lt b e) (submits (slice_get log.events b)) (lt-ltb b e l) sub) (not_from_false (has p b) gone)

  pub undone_later : (e : ℕ) (p : List ℕ) (b : ℕ) → e ≤ b → is_done log e p b ≡ false
  undone_later e p b l =
      and_left (nat_lt b e && submits (slice_get log.events b)) (not (has p b))
      (and_left (nat_lt b e) (submits (slice_get log.events b)) (le-ltb b e l))

  -- where nothing was passed
  pub table_start : (n : ℕ) → n ≡ length log.events → IsTable log 0 [] (replicate n false)
  table_start n e = record {
    len = length_replicate n false ∙ e;
    at = λ b l. get_replicate n b false (omega (arith, e, l)) ∙ ap (λ (x : Bool). Some x) (sym (undone_later 0 [] b (omega arith)));
  }

  pub place_start : (r : PlaceView) (n : ℕ) → n ≡ length log.events → r.state.event ≡ 0 → r.state.acted ≡ replicate n false → r.pending ≡ [] → r.posts ≡ [] → IsPlace log r
  place_start r n e event acted pending posts =
      let t : IsTable log r.state.event r.pending r.state.acted = rw (event, acted, pending) (table_start n e) in
      record { table = t; posts = rw (pending, posts) (λ c. refl) }

  -- the list says all
  pub table_unique : (e : ℕ) (p : List ℕ) (xs ys : List Bool) → IsTable log e p xs → IsTable log e p ys → xs ≡ ys
  table_unique e p xs ys s t =
      same_list xs ys (s.len ∙ sym t.len) (λ i l. let k : i < length log.events = omega (arith, l, s.len) in s.at i k ∙ sym (t.at i k))

  -- what hasn't been passed hasn't acted
  pub table_fresh : (e : ℕ) (p : List ℕ) (xs : List Bool) → IsTable log e p xs → (b : ℕ) → e ≤ b → slice_get xs b ≡ Some true → ⊥
  table_fresh e p xs t b l at =
      let inside : b < length log.events = omega (arith, slice_get_within xs b true at, t.len) in
      clash (same_Some (is_done log e p b) true (sym (t.at b inside) ∙ at)) (undone_later e p b l)

  -- what was passed and hasn't acted is pending
  pub left_pending : (p : PlaceView) (b : ℕ) → IsPlace log p → b < p.state.event → submits (slice_get log.events b) ≡ true → slice_get p.state.acted b ≡ Some false → has p.pending b ≡ true
  left_pending p b place early sub left = elim (cases_Bool (has p.pending b)) as (λ w. has p.pending b ≡ true) [
    | inl there ↦ there
    | inr gone ↦
        let inside : b < length log.events = omega (arith, slice_get_within p.state.acted b false left, place.table.len) in
        absurd (clash (done_from p.state.event p.pending b early sub gone) (same_Some (is_done log p.state.event p.pending b) false (sym (place.table.at b inside) ∙ left)))
  ]
