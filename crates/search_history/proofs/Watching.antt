-- What a watch saw of a search, part after part, and what the watch behind another one saw.
use Rattle.std.proofs.Common.{ℕ, zero, suc, ◌≡◌, ◌∙◌, ◌+◌, ◌-◌, ◌≤◌, List, length, refl, sym, ap, subst, inl, inr, arith}
use Rattle.std.proofs.Math.Nat.{add-zero, add-suc}
use Rattle.log_runs.specs.LogView.{LogView}
use Rattle.log_runs.specs.Runs.{State}
use Rattle.log_cells.specs.Parts.{AreKept}
use Rattle.search_run.specs.Watched.{Is, Saw, SeesOne, Spends}
use Rattle.search_history.specs.Looks.{IsOn, IsPartOf, IsUnder}
use Rattle.search_history.specs.declared.within.Within.{Within}

module _ {A : Type 0} (sees : LogView → State → A → A → Type 0) (Of : LogView → Type 0) where
  pub saw_more : (m n : ℕ) (x y z : A) → Saw sees Of m x y → Saw sees Of n y z → Saw sees Of (m + n) x z
  saw_more m zero x y z before more = subst (λ (k : ℕ). Saw sees Of k x z) (sym (add-zero m)) (subst (Saw sees Of m x) more before)
  saw_more m (suc n) x y z before more =
      subst (λ (k : ℕ). Saw sees Of k x z) (sym (add-suc m n)) (more.0, saw_more m n x y more.0 before more.1, more.2)

  pub spends_none : (allowed : ℕ) (x : A) → Spends sees Of allowed allowed x x
  spends_none allowed x = record { count = 0; sum = add-zero allowed; saw = refl }

  pub spends_more : (allowed left n : ℕ) (x y z : A) → n ≤ left → Spends sees Of allowed left x y → Saw sees Of n y z → Spends sees Of allowed (left - n) x z
  spends_more allowed left n x y z few before more =
      let e = before.sum in
      record { count = before.count + n; sum = omega (arith, few, e); saw = saw_more before.count n x y z before.saw more }

  pub spends_then : (allowed left rest : ℕ) (x y z : A) → Spends sees Of allowed left x y → Spends sees Of left rest y z → Spends sees Of allowed rest x z
  spends_then allowed left rest x y z before more =
      let e = before.sum in
      let f = more.sum in
      record { count = before.count + more.count; sum = omega (arith, e, f); saw = saw_more before.count more.count x y z before.saw more.saw }

  pub spent : (allowed left : ℕ) (x y : A) → Spends sees Of allowed left x y → Saw sees Of (allowed - left) x y
  spent allowed left x y spends =
      let e = spends.sum in
      let same : spends.count ≡ allowed - left = omega (arith, e) in
      subst (λ (k : ℕ). Saw sees Of k x y) same spends.saw

  -- of more logs
  pub saw_wider : (Also : LogView → Type 0) → ((log : LogView) → Of log → Also log) → (n : ℕ) (x y : A) → Saw sees Of n x y → Saw sees Also n x y
  saw_wider Also wider zero x y saw = saw
  saw_wider Also wider (suc n) x y saw =
      let one = saw.2 in (
        saw.0,
        saw_wider Also wider n x saw.0 saw.1,
        record { log = one.log; of = wider one.log one.of; place = one.place; reached = one.reached; saw = one.saw },
      )

  pub spends_wider : (Also : LogView → Type 0) → ((log : LogView) → Of log → Also log) → (allowed left : ℕ) (x y : A) → Spends sees Of allowed left x y → Spends sees Also allowed left x y
  spends_wider Also wider allowed left x y spends =
      record { count = spends.count; sum = spends.sum; saw = saw_wider Also wider spends.count x y spends.saw }

-- ---- parts of a log

pub itself : (log part : LogView) → Is log part → IsPartOf log part
itself log part same = inl same

pub on_part : (log part : LogView) (low high : ℕ) (names : List ℕ) → AreKept log.events names low high part.events (length names) → IsOn log part
on_part log part low high names kept = record { low = low; high = high; names = names; kept = kept }

pub only : (log part : LogView) → IsOn log part → (other : LogView) → Is part other → IsOn log other
only log part on other same = subst (IsOn log) (sym same) on

pub under : (whole log : LogView) → IsUnder whole log → (part : LogView) → IsOn log part → IsPartOf whole part
under whole log (inl same) part on = inr (inl (subst (λ l. IsOn l part) same on))
under whole log (inr group) part on = inr (inr (log, group, on))

-- ---- a watch within another

abbrev pub Behind : {A : Type 0} → (LogView → State → A → A → Type 0) → LogView → State → Within A → Within A → Type 0
Behind sees log s x y = (y.watch.ghost_name ≡ x.watch.ghost_name) × sees log s x.watch.now y.watch.now

pub saw_behind : {A : Type 0} (sees : LogView → State → A → A → Type 0) (Of : LogView → Type 0) (n : ℕ) (x y : Within A) → Saw (Behind sees) Of n x y
    → (y.watch.ghost_name ≡ x.watch.ghost_name) × Saw sees Of n x.watch.now y.watch.now
saw_behind {A = A} sees Of zero x y saw = (ap (λ (w : Within A). w.watch.ghost_name) (sym saw), ap (λ (w : Within A). w.watch.now) saw)
saw_behind sees Of (suc n) x y saw =
    let before = saw_behind sees Of n x saw.0 saw.1 in
    let one = saw.2 in
    (one.saw.0 ∙ before.0, (saw.0.watch.now, before.1, record { log = one.log; of = one.of; place = one.place; reached = one.reached; saw = one.saw.1 }))

pub spends_behind : {A : Type 0} (sees : LogView → State → A → A → Type 0) (Of : LogView → Type 0) (allowed left : ℕ) (x y : Within A)
    → Spends (Behind sees) Of allowed left x y → (y.watch.ghost_name ≡ x.watch.ghost_name) × Spends sees Of allowed left x.watch.now y.watch.now
spends_behind sees Of allowed left x y spends =
    let seen = saw_behind sees Of spends.count x y spends.saw in
    (seen.0, record { count = spends.count; sum = spends.sum; saw = seen.1 })
