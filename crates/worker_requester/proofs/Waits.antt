-- What waits for an answer.
use Rattle.std.proofs.Common.{◌≡◌, ◌≢◌, ℕ, suc, ◌<◌, ◌⊎◌, ◌||◌, Bool, true, false, true≢false, not, cond, eqb, eq-eqb, ne_eqb, List, [], ◌∷◌, ◌++◌, length, inl, inr, ⊎_elim, refl, sym, ap, ◌∙◌, subst, arith}
use Rattle.std.specs.List.{list_any, AllByRecursion as Each}
use Rattle.std.proofs.lemmas.List.Folds.{list_any-append}
use Rattle.hall_laws.specs.Tells.{Has}
use Rattle.hall_laws.specs.Waiting.{without}
use Rattle.worker_requester.specs.Following.{is_number, AreApart}

pub or_true : (b : Bool) → (b || true) ≡ true
or_true true = refl
or_true false = refl

or_cases : (a b : Bool) → (a || b) ≡ true → (a ≡ true) ⊎ (b ≡ true)
or_cases true b h = inl refl
or_cases false b h = inr h

pub any_left : {A : Type 0} (p : A → Bool) (xs ys : List A) → list_any p xs ≡ true → list_any p (xs ++ ys) ≡ true
any_left p xs ys h = list_any-append p xs ys ∙ ap (λ b. b || list_any p ys) h

pub any_right : {A : Type 0} (p : A → Bool) (xs ys : List A) → list_any p ys ≡ true → list_any p (xs ++ ys) ≡ true
any_right p xs ys h = list_any-append p xs ys ∙ ap (λ b. list_any p xs || b) h ∙ or_true (list_any p xs)

pub each_map : {A : Type 0} (P Q : A → Type 0) → ((x : A) → P x → Q x) → (xs : List A) → Each P xs → Each Q xs
each_map P Q f [] h = tt
each_map P Q f (x ∷ xs) h = (f x h.0, each_map P Q f xs h.1)

pub each_snoc : {A : Type 0} (P : A → Type 0) (xs : List A) (x : A) → Each P xs → P x → Each P (xs ++ x ∷ [])
each_snoc P [] x h k = (k, tt)
each_snoc P (y ∷ ys) x h k = (h.0, each_snoc P ys x h.1 k)

has_each : {A : Type 0} (P : A → Type 0) (x : A) (xs : List A) → Has x xs → Each P xs → P x
has_each P x [] h e = absurd h
has_each P x (y ∷ ys) h e = ⊎_elim (λ (is : y ≡ x). subst P is e.0) (λ (there : Has x ys). has_each P x ys there e.1) h

-- ---- a number that waits no more

abbrev kept : Bool → ℕ × ℕ → List (ℕ × ℕ) → List (ℕ × ℕ)
kept b p ps = cond (not b) (p ∷ ps) ps

each_kept : (P : ℕ × ℕ → Type 0) (b : Bool) (p : ℕ × ℕ) (ps : List (ℕ × ℕ)) → P p → Each P ps → Each P (kept b p ps)
each_kept P true p ps h hs = hs
each_kept P false p ps h hs = (h, hs)

pub each_without : (P : ℕ × ℕ → Type 0) (k : ℕ) (ps : List (ℕ × ℕ)) → Each P ps → Each P (without k ps)
each_without P k [] h = tt
each_without P k (p ∷ ps) h = each_kept P (eqb p.0 k) p (without k ps) h.0 (each_without P k ps h.1)

apart_kept : (b : Bool) (p : ℕ × ℕ) (ps : List (ℕ × ℕ)) → Each (λ (v : ℕ × ℕ). v.0 ≢ p.0) ps → AreApart ps → AreApart (kept b p ps)
apart_kept true p ps h a = a
apart_kept false p ps h a = (h, a)

pub apart_without : (k : ℕ) (ps : List (ℕ × ℕ)) → AreApart ps → AreApart (without k ps)
apart_without k [] a = tt
apart_without k (p ∷ ps) a = apart_kept (eqb p.0 k) p (without k ps) (each_without (λ (v : ℕ × ℕ). v.0 ≢ p.0) k ps a.0) (apart_without k ps a.1)

pub apart_more : (m n : ℕ) (ps : List (ℕ × ℕ)) → AreApart ps → Each (λ (w : ℕ × ℕ). w.0 < m) ps → AreApart (ps ++ (m, n) ∷ [])
apart_more m n [] a b = (tt, tt)
apart_more m n (p ∷ ps) a b = let under : p.0 < m = b.0 in (each_snoc (λ (v : ℕ × ℕ). v.0 ≢ p.0) ps (m, n) a.0 (λ e. omega arith), apart_more m n ps a.1 b.1)

without_absent : (k : ℕ) (ps : List (ℕ × ℕ)) → Each (λ (v : ℕ × ℕ). v.0 ≢ k) ps → without k ps ≡ ps
without_absent k [] h = refl
without_absent k (p ∷ ps) h = ap (λ b. kept b p (without k ps)) (ne_eqb p.0 k h.0) ∙ ap (λ l. p ∷ l) (without_absent k ps h.1)

pub without_count : (k n : ℕ) (ps : List (ℕ × ℕ)) → Has (k, n) ps → AreApart ps → suc (length (without k ps)) ≡ length ps
without_count k n [] h a = absurd h
without_count k n (p ∷ ps) h a = ⊎_elim
    (λ (e : p ≡ (k, n)).
    let here : p.0 ≡ k = ap (λ (q : ℕ × ℕ). q.0) e in
    ap (λ b. suc (length (kept b p (without k ps)))) (eq-eqb p.0 k here) ∙ ap (λ l. suc (length l)) (without_absent k ps (subst (λ j. Each (λ (v : ℕ × ℕ). v.0 ≢ j) ps) here a.0)))
    (λ (there : Has (k, n) ps).
    let other : k ≢ p.0 = has_each (λ (v : ℕ × ℕ). v.0 ≢ p.0) (k, n) ps there a.0 in
    ap (λ b. suc (length (kept b p (without k ps)))) (ne_eqb p.0 k (λ e. other (sym e))) ∙ ap suc (without_count k n ps there a.1)) h

any_kept : (q : ℕ × ℕ → Bool) (b : Bool) (p : ℕ × ℕ) (ps : List (ℕ × ℕ)) → list_any q ps ≡ true → list_any q (kept b p ps) ≡ true
any_kept q true p ps h = h
any_kept q false p ps h = ap (λ b. q p || b) h ∙ or_true (q p)

-- the others wait still
pub any_without : (j k : ℕ) (ps : List (ℕ × ℕ)) → j ≢ k → list_any (is_number j) ps ≡ true → list_any (is_number j) (without k ps) ≡ true
any_without j k [] n h = h
any_without j k (p ∷ ps) n h = ⊎_elim
    (λ (e : eqb j p.0 ≡ true).
    let stays : p.0 ≢ k = λ x. true≢false (sym e ∙ ap (eqb j) x ∙ ne_eqb j k n) in
    ap (λ b. list_any (is_number j) (kept b p (without k ps))) (ne_eqb p.0 k stays) ∙ ap (λ b. b || list_any (is_number j) (without k ps)) e)
    (λ (e : list_any (is_number j) ps ≡ true). any_kept (is_number j) (eqb p.0 k) p (without k ps) (any_without j k ps n e)) (or_cases (eqb j p.0) (list_any (is_number j) ps) h)
