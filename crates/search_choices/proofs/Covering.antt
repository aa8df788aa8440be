-- Which steps are enough.
use Rattle.std.proofs.Common.{◌≡◌, ◌∙◌, ℕ, zero, suc, ◌+◌, ◌<◌, ◌≤◌, true, false, List, Some, None, Option, [], ◌∷◌, ◌++◌, take, length, get_or, refl, sym, ap, subst, inl, inr, arith, add-one, ◌⊎◌, Bool}
use Rattle.std.specs.Prelude.{slice_get, ◌==◌, not, IfSome, is_some}
use Rattle.std.specs.List.{Contains, All}
use Rattle.std.specs.List.Sorted.{IsPermutation}
use Rattle.std.proofs.Math.Seq.{take-suc}
use Rattle.std.proofs.lemmas.Bool.{or_cases, eqb-true}
use Rattle.std.proofs.lemmas.List.{take_all}
use Rattle.std.proofs.lemmas.List.Folds.{list_any-append}
use Rattle.std.proofs.lemmas.List.Elements.{All-contains, All-cons, All-nil, Contains-append_left, Contains-append_right}
use Rattle.std.proofs.lemmas.List.Sorted.{All-permutation, Contains-permutation, IsPermutation-sym, IsPermutation-to_front}
use Rattle.log_runs.specs.LogView.{LogView}
use Rattle.log_runs.specs.declared.Step.{Step}
use Rattle.log_runs.specs.declared.Step.TheVariants as steps
use Rattle.log_runs.specs.Runs.{State, Allowed, MayAct, Live, Dead, Covers, IsForced, next}
use Rattle.search_places.specs.Pending.{has, submits}
use Rattle.search_rules.specs.Alike.{GoesFirst}
use Rattle.search_rules.specs.Idle.{IsIdle, GoesOrIdles}
use Rattle.search_choices.specs.Turns.{turn}
use Rattle.search_choices.specs.Offered.{Offers, IsOnly, NeedNotAct}
use Rattle.search_places.specs.PlaceView.{PlaceView}
use Rattle.search_places.specs.Places.{IsPlace}

pub clash : {b : Bool} → b ≡ true → b ≡ false → ⊥
clash t f = let e : true ≡ false = sym t ∙ f in cc

pub not_false : (x : Bool) → not x ≡ false → x ≡ true
not_false true e = refl
not_false false e = sym e

-- where a run leads on after c, one does after b, which goes first
abbrev pub FirstLeads : LogView → State → Type 0
FirstLeads log s = (b c : ℕ) → GoesFirst log s b c → MayAct log s c → Live log (next log s (steps.Act c)) → Live log (next log s (steps.Act b))

-- what is like a request that is idle is idle
abbrev pub IdleAlike : LogView → State → Type 0
IdleAlike log s = (p b : ℕ) → GoesFirst log s p b → MayAct log s b → IsIdle log s p → IsIdle log s b

-- if no step leads on but by a request that is idle, none does; and if each other is as good as one, so is that
abbrev pub DeadIdle : LogView → State → Type 0
DeadIdle log s = ((x : Step) → Allowed log s x → GoesOrIdles log s ⊥ x) → Dead log s

abbrev pub LiveIdle : LogView → State → Type 0
LiveIdle log s = (t : State) → ((x : Step) → Allowed log s x → GoesOrIdles log s (Live log t) x) → Live log s → Live log t

-- ---- all of them

module _ (log : LogView) (s : State) (due : List ℕ) where
  kept : (xs : List Step) (x y : Step) → Contains xs y → Contains (xs ++ x ∷ []) y
  kept xs x y h = Contains-append_left xs (x ∷ []) y h

  put : (xs : List Step) (x : Step) → Contains (xs ++ x ∷ []) x
  put xs x = Contains-append_right xs (x ∷ []) x (0, omega arith, refl)

  all_put : (xs : List Step) (x : Step) → All (Allowed log s) xs → Allowed log s x → All (Allowed log s) (xs ++ x ∷ [])
  all_put xs x h one = All-permutation (Allowed log s) (x ∷ xs) (xs ++ x ∷ []) (IsPermutation-sym (xs ++ x ∷ []) (x ∷ xs) (IsPermutation-to_front xs x)) (All-cons (Allowed log s) x xs one h)

  -- nothing was looked at
  pub offers_nothing : (xs : List Step) → xs ≡ [] → (Allowed log s steps.Pass → ⊥) → Offers log s due xs []
  offers_nothing xs e shut = subst (λ (zs : List Step). Offers log s due zs []) (sym e) (record {
    allowed = All-nil (Allowed log s);
    pass = λ p. absurd (shut p);
    each = λ b l may. cc;
  })

  pub offers_pass : (xs ys : List Step) → xs ≡ [] → ys ≡ xs ++ steps.Pass ∷ [] → Allowed log s steps.Pass → Offers log s due ys []
  offers_pass xs ys none e one = subst (λ (zs : List Step). Offers log s due zs []) (sym (e ∙ ap (λ zs. zs ++ steps.Pass ∷ []) none)) (record {
    allowed = all_put [] steps.Pass (All-nil (Allowed log s)) one;
    pass = λ q. put [] steps.Pass;
    each = λ c l may. cc;
  })

  -- one more was looked at
  more_looked : (p : List ℕ) (c b : ℕ) → has (p ++ c ∷ []) b ≡ true → (has p b ≡ true) ⊎ (c ≡ b)
  more_looked p c b h = elim (or_cases (has p b) (has (c ∷ []) b) (sym (list_any-append (λ x. x == b) p (c ∷ [])) ∙ h)) [
    | inl before ↦ inl before
    | inr now ↦ elim (or_cases (c == b) false now) [
      | inl same ↦ inr (eqb-true c b same)
      | inr never ↦ cc
    ]
  ]

  pub offers_act : (xs ys : List Step) (p : List ℕ) (c : ℕ) → ys ≡ xs ++ steps.Act c ∷ [] → MayAct log s c → Offers log s due xs p → Offers log s due ys (p ++ c ∷ [])
  offers_act xs ys p c e may h = subst (λ (zs : List Step). Offers log s due zs (p ++ c ∷ [])) (sym e) (record {
    allowed = all_put xs (steps.Act c) h.allowed may;
    pass = λ r. kept xs (steps.Act c) steps.Pass (h.pass r);
    each = λ k look m. elim (more_looked p c k look) as (λ z. Contains (xs ++ steps.Act c ∷ []) (steps.Act k) ⊎ NeedNotAct log s due k) [
      | inl before ↦ elim (h.each k before m) [
        | inl there ↦ inl (kept xs (steps.Act c) (steps.Act k) there)
        | inr preceded ↦ inr preceded
      ]
      | inr now ↦ inl (subst (λ w. Contains (xs ++ steps.Act c ∷ []) (steps.Act w)) now (put xs (steps.Act c)))
    ];
  })

  pub offers_preceded : (xs : List Step) (p : List ℕ) (c : ℕ) → NeedNotAct log s due c → Offers log s due xs p → Offers log s due xs (p ++ c ∷ [])
  offers_preceded xs p c preceded h = record {
    allowed = h.allowed;
    pass = h.pass;
    each = λ k look m. elim (more_looked p c k look) [
      | inl before ↦ h.each k before m
      | inr now ↦ inr (subst (NeedNotAct log s due) now preceded)
    ];
  }

  pub offers_none : (xs : List Step) (p : List ℕ) (c : ℕ) → (MayAct log s c → ⊥) → Offers log s due xs p → Offers log s due xs (p ++ c ∷ [])
  offers_none xs p c shut h = record {
    allowed = h.allowed;
    pass = h.pass;
    each = λ k look m. elim (more_looked p c k look) [
      | inl before ↦ h.each k before m
      | inr now ↦ absurd (shut (subst (MayAct log s) (sym now) m))
    ];
  }

  pub offers_next : (xs : List Step) (p q : List ℕ) (i : ℕ) → q ≡ p → i < length q → Offers log s due xs (take i p ++ get_or q i 0 ∷ []) → Offers log s due xs (take (i + 1) p)
  offers_next xs p q i e l h =
      let at : take (i + 1) q ≡ take i q ++ get_or q i 0 ∷ [] = ap (λ k. take k q) (add-one i) ∙ take-suc q i 0 l in
      subst (λ r. Offers log s due xs (take (i + 1) r)) e
      (subst (Offers log s due xs) (sym at) (subst (λ r. Offers log s due xs (take i r ++ get_or q i 0 ∷ [])) (sym e) h))

  -- in another order
  pub offers_permuted : (xs ys : List Step) (p : List ℕ) → IsPermutation xs ys → Offers log s due xs p → Offers log s due ys p
  offers_permuted xs ys p moved h = record {
    allowed = All-permutation (Allowed log s) xs ys moved h.allowed;
    pass = λ a. Contains-permutation xs ys steps.Pass moved (h.pass a);
    each = λ b look m. elim (h.each b look m) [
      | inl there ↦ inl (Contains-permutation xs ys (steps.Act b) moved there)
      | inr preceded ↦ inr preceded
    ];
  }

  pub offers_end : (xs : List Step) (p q : List ℕ) (i : ℕ) → q ≡ p → length q ≤ i → Offers log s due xs (take i p) → Offers log s due xs p
  offers_end xs p q i e l h = subst (Offers log s due xs) (take_all i p (subst (λ (r : List ℕ). length r ≤ i) e l)) h

  -- ---- the only one that may act

  -- o is the only one of those that were looked at that may act and isn't preceded, if it is some; else there is none
  abbrev pub OnlySo : Option ℕ → List ℕ → Type 0
  OnlySo o p = ((q : ℕ) → o ≡ Some q → MayAct log s q) × ((b : ℕ) → has p b ≡ true → MayAct log s b → (o ≡ Some b) ⊎ NeedNotAct log s due b)

  pub only_nothing : (o : Option ℕ) → o ≡ None → OnlySo o []
  only_nothing o e = (λ q f. let g : None ≡ Some q = sym e ∙ f in cc, λ b look may. cc)

  pub only_found : (o : Option ℕ) (p : List ℕ) (c : ℕ) → o ≡ None → MayAct log s c → OnlySo o p → OnlySo (Some c) (p ++ c ∷ [])
  only_found o p c none may h = (
    λ q e. let same : c ≡ q = cc in subst (MayAct log s) same may,
    λ k look m. elim (more_looked p c k look) as (λ z. (Some c ≡ Some k) ⊎ NeedNotAct log s due k) [
      | inl before ↦ elim (h.1 k before m) [
        | inl found ↦ let e : None ≡ Some k = sym none ∙ found in absurd (cc)
        | inr preceded ↦ inr preceded
      ]
      | inr now ↦ inl (ap Some now)
    ],
  )

  pub only_passed : (o : Option ℕ) (p : List ℕ) (c : ℕ) → (MayAct log s c → NeedNotAct log s due c) → OnlySo o p → OnlySo o (p ++ c ∷ [])
  only_passed o p c shut h = (
    h.0,
    λ k look m. elim (more_looked p c k look) [
      | inl before ↦ h.1 k before m
      | inr now ↦ inr (subst (NeedNotAct log s due) now (shut (subst (MayAct log s) (sym now) m)))
    ],
  )

  pub only_next : (o : Option ℕ) (p q : List ℕ) (i : ℕ) → q ≡ p → i < length q → OnlySo o (take i p ++ get_or q i 0 ∷ []) → OnlySo o (take (i + 1) p)
  only_next o p q i e l h =
      let at : take (i + 1) q ≡ take i q ++ get_or q i 0 ∷ [] = ap (λ k. take k q) (add-one i) ∙ take-suc q i 0 l in
      subst (λ r. OnlySo o (take (i + 1) r)) e
      (subst (OnlySo o) (sym at) (subst (λ r. OnlySo o (take i r ++ get_or q i 0 ∷ [])) (sym e) h))

  pub only_end : (o : Option ℕ) (p q : List ℕ) (i : ℕ) → q ≡ p → length q ≤ i → OnlySo o (take i p) → IfSome o (IsOnly log s due p)
  only_end o p q i e l h = told o (subst (OnlySo o) (take_all i p (subst (λ (r : List ℕ). length r ≤ i) e l)) h)
    where
      told : (o : Option ℕ) → OnlySo o p → IfSome o (IsOnly log s due p)
      told None h = tt
      told (Some q) h = record {
        may = h.0 q refl;
        none = λ b look m. elim (h.1 b look m) as (λ z. (q ≡ b) ⊎ NeedNotAct log s due b) [
          | inl found ↦ let f : Some q ≡ Some b = found in inl cc
          | inr preceded ↦ inr preceded
        ];
      }

-- ---- those that need not act

module _ (log : LogView) (s : State) (due : List ℕ) (leads : FirstLeads log s) (alike : IdleAlike log s) where
  -- if G follows where a request of the list leads on, it does where any does that isn't idle
  goes_each : (G : Type 0) (Told : ℕ → Type 0) → ((b : ℕ) → Told b → MayAct log s b → Live log (next log s (steps.Act b)) → G)
      → ((b : ℕ) → MayAct log s b → Told b ⊎ NeedNotAct log s due b)
      → (n b : ℕ) → turn log due b < n → MayAct log s b → (Live log (next log s (steps.Act b)) → G) ⊎ IsIdle log s b
  goes_each G Told goes all zero b l may = absurd (omega (arith, l))
  goes_each G Told goes all (suc n) b l may = elim (all b may) [
    | inl told ↦ inl (goes b told may)
    | inr (inl (p, h)) ↦ elim (goes_each G Told goes all n p (omega (arith, h.before, l)) h.first.may) [
      | inl leads_p ↦ inl (λ live. leads_p (leads p b h.first may live))
      | inr idle ↦ inr (alike p b h.first may idle)
    ]
    | inr (inr idle) ↦ inr idle
  ]

  idle_step : (G : Type 0) (b : ℕ) → (Live log (next log s (steps.Act b)) → G) ⊎ IsIdle log s b → GoesOrIdles log s G (steps.Act b)
  idle_step G b (inl goes) = inl goes
  idle_step G b (inr idle) = inr (b, refl, idle)

  pub covers_all : (xs : List Step) → DeadIdle log s → (Allowed log s steps.Pass → Contains xs steps.Pass)
      → ((b : ℕ) → MayAct log s b → Contains xs (steps.Act b) ⊎ NeedNotAct log s due b) → Covers log s xs
  covers_all xs dead_idle pass all dead = dead_idle each
    where
      lost : (x : Step) → Contains xs x → Allowed log s x → Dead log (next log s x)
      lost x there a = All-contains (λ y. Allowed log s y → Dead log (next log s y)) xs x dead there a

      each : (x : Step) → Allowed log s x → GoesOrIdles log s ⊥ x
      each steps.Pass a = inl (lost steps.Pass (pass a) a)
      each (steps.Act b) a = idle_step ⊥ b (goes_each ⊥ (λ c. Contains xs (steps.Act c)) (λ c there may. lost (steps.Act c) there may) all (turn log due b + 1) b (omega arith) a)

  -- the only step acts at once
  pub only_is_forced : (q : ℕ) → LiveIdle log s → MayAct log s q → (Allowed log s steps.Pass → ⊥)
      → ((b : ℕ) → MayAct log s b → (q ≡ b) ⊎ NeedNotAct log s due b) → IsForced log s (steps.Act q)
  only_is_forced q live_idle may shut only = record { allowed = may; live = live_idle (next log s (steps.Act q)) each }
    where
      each : (x : Step) → Allowed log s x → GoesOrIdles log s (Live log (next log s (steps.Act q))) x
      each steps.Pass a = absurd (shut a)
      each (steps.Act b) a = idle_step (Live log (next log s (steps.Act q))) b
          (goes_each (Live log (next log s (steps.Act q))) (λ c. q ≡ c) (λ c same m live. subst (λ d. Live log (next log s (steps.Act d))) (sym same) live) only (turn log due b + 1) b (omega arith) a)

module _ (who_is_left : (log : LogView) (p : PlaceView) (b : ℕ) → IsPlace log p → b < p.state.event → submits (slice_get log.events b) ≡ true → slice_get p.state.acted b ≡ Some false → has p.pending b ≡ true) where
  -- who may act is pending
  acts_pending : (log : LogView) (p : PlaceView) (b : ℕ) → IsPlace log p → MayAct log p.state b → has p.pending b ≡ true
  acts_pending log p b place m = who_is_left log p b place m.since (ap submits m.submitted) m.once

  pub only_forced : (log : LogView) (p : PlaceView) (due : List ℕ) (q : ℕ) → FirstLeads log p.state → IdleAlike log p.state → LiveIdle log p.state → IsOnly log p.state due p.pending q → IsPlace log p
      → (Allowed log p.state steps.Pass → ⊥) → IsForced log p.state (steps.Act q)
  only_forced log p due q leads alike live only place shut =
      only_is_forced log p.state due leads alike q live only.may shut (λ b a. only.none b (acts_pending log p b place a) a)

  pub offers_all : (log : LogView) (p : PlaceView) (due : List ℕ) (xs : List Step) → FirstLeads log p.state → IdleAlike log p.state → DeadIdle log p.state → Offers log p.state due xs p.pending → IsPlace log p
      → Covers log p.state xs
  offers_all log p due xs leads alike dead h place = covers_all log p.state due leads alike xs dead h.pass (λ b a. h.each b (acts_pending log p b place a) a)

pub none_of : (o : Option ℕ) → is_some o ≡ false → o ≡ None
none_of None e = refl
none_of (Some x) e = cc
