-- Runs, and what acts at once.
use Rattle.std.proofs.Common.{◌≡◌, ◌∙◌, ℕ, zero, suc, ◌+◌, Bool, true, false, List, [], ◌∷◌, Some, None, Option, length, refl, sym, ap, subst, inl, inr, arith}
use Rattle.std.specs.Prelude.{slice_get, slice_set}
use Rattle.std.proofs.lemmas.Bool.{cases_eq}
use Rattle.std.proofs.lemmas.Option.{same_Some}
use Rattle.log_runs.specs.EventView.{EventView}
use Rattle.log_runs.specs.EventView as events
use Rattle.log_runs.specs.declared.Step.{Step}
use Rattle.log_runs.specs.declared.Step.TheVariants as steps
use Rattle.log_runs.specs.LogView.{LogView}
use Rattle.log_runs.specs.Runs.{State, MayPass, MayAct, Allowed, Leads, Live, IsForced, next, acted_on, bytes_after}
use Rattle.tlp_core.specs.Ops.{Op}
use Rattle.seq_memory.specs.Step.{after}
use Rattle.seq_memory.specs.Limits.{Extent}
use Rattle.search_rules.specs.Rules.{Suits, ChangesNothing}

abbrev pub Sizes : Type 0
Sizes = (base block : ℕ) (m : List ℕ) (op : Op) → length (after base block m op) ≡ length m

-- an event leaves as many bytes
pub length_after : Sizes → (x : Extent) (m : List ℕ) (o : Option EventView) → length (acted_on x m o) ≡ length m
unfolding acted_on bytes_after
length_after sizes x m (Some (events.Sub i op told)) = sizes x.base x.block m op
length_after sizes x m (Some (events.Due b)) = refl
length_after sizes x m (Some events.Free) = refl
length_after sizes x m None = refl

pub clash : {b : Bool} → b ≡ true → b ≡ false → ⊥
clash t f = let e : true ≡ false = sym t ∙ f in cc

pub set_here : {X : Type 0} → (xs : List X) (i : ℕ) (v w : X) → slice_get xs i ≡ Some w → slice_get (slice_set xs i v) i ≡ Some v
set_here [] i v w e = cc
set_here (x ∷ xs) zero v w e = refl
set_here (x ∷ xs) (suc i) v w e = set_here xs i v w e

pub set_there : {X : Type 0} → (xs : List X) (i j : ℕ) (v : X) → (i ≡ j → ⊥) → slice_get (slice_set xs i v) j ≡ slice_get xs j
set_there [] i j v n = refl
set_there (x ∷ xs) zero zero v n = absurd (n refl)
set_there (x ∷ xs) zero (suc j) v n = refl
set_there (x ∷ xs) (suc i) zero v n = refl
set_there (x ∷ xs) (suc i) (suc j) v n = set_there xs i j v (λ e. n (ap suc e))

pub set_swap : {X : Type 0} → (xs : List X) (i j : ℕ) (v w : X) → (i ≡ j → ⊥) → slice_set (slice_set xs i v) j w ≡ slice_set (slice_set xs j w) i v
set_swap [] i j v w n = refl
set_swap (x ∷ xs) zero zero v w n = absurd (n refl)
set_swap (x ∷ xs) zero (suc j) v w n = refl
set_swap (x ∷ xs) (suc i) zero v w n = refl
set_swap (x ∷ xs) (suc i) (suc j) v w n = ap (λ ys. x ∷ ys) (set_swap xs i j v w (λ e. n (ap suc e)))

-- what has acted still has when another acts
pub acted_kept : (xs : List Bool) (b c : ℕ) → slice_get xs c ≡ Some true → slice_get (slice_set xs b true) c ≡ Some true
acted_kept xs b c e = elim (cases_eq b c) [
  | inl same ↦ rw same (set_here xs c true true e)
  | inr other ↦ set_there xs b c true other ∙ e
]

-- who has acted isn't left
pub gone_by : (xs : List Bool) (b c : ℕ) → slice_get xs b ≡ Some false → slice_get (slice_set xs b true) c ≡ Some false → (b ≡ c → ⊥) × (slice_get xs c ≡ Some false)
gone_by xs b c was e = elim (cases_eq b c) [
  | inl same ↦ absurd (clash refl (same_Some true false (sym (set_here xs b true false was) ∙ ap (slice_get (slice_set xs b true)) same ∙ e)))
  | inr other ↦ (other, sym (set_there xs b c true other) ∙ e)
]

pub same_state : (p q : State) → p.event ≡ q.event → p.acted ≡ q.acted → p.bytes ≡ q.bytes → p ≡ q
same_state p q event acted bytes = rw (← event, ← acted, ← bytes) refl

-- a request that may act is suited
pub suits : (log : LogView) (s : State) (b : ℕ) → MayAct log s b → Suits log.extent s.bytes (slice_get log.events b)
suits log s b m = subst (Suits log.extent s.bytes) (sym m.submitted) m.replied

module _ (log : LogView) where
  pub run : (s t : State) (xs : List Step) → Leads log s xs t → t.event ≡ length log.events → Live log s
  run s t xs leads over = record { steps = xs; last = t; leads = leads; over = over }

  -- one step in front of a run
  pub before : (s : State) (x : Step) → Allowed log s x → Live log (next log s x) → Live log s
  before s x a l = run s l.last (x ∷ l.steps) (a, l.leads) l.over

  -- ---- what changes nothing acts at once

  -- t is s after q
  record Marked (q : ℕ) (s t : State) : Type 0 where
    pub event : t.event ≡ s.event
    pub left : slice_get s.acted q ≡ Some false
    pub acted : t.acted ≡ slice_set s.acted q true
    pub bytes : t.bytes ≡ s.bytes
    pub size : length s.bytes ≡ log.extent.size

  pub may_later : (q : ℕ) (s t : State) (b : ℕ) → t.event ≡ s.event → t.acted ≡ slice_set s.acted q true → (q ≡ b → ⊥) → (m : MayAct log s b) → Suits log.extent t.bytes (slice_get log.events b) → MayAct log t b
  may_later q s t b event acted other m there = record {
    requester = m.requester;
    op = m.op;
    told = m.told;
    submitted = m.submitted;
    since = omega (arith, m.since, event);
    once = ap (λ xs. slice_get xs b) acted ∙ set_there s.acted q b true other ∙ m.once;
    ordered = λ c w r l at posted. ap (λ xs. slice_get xs c) acted ∙ acted_kept s.acted q c (m.ordered c w r l at posted);
    replied = subst (Suits log.extent t.bytes) m.submitted there;
  }

  pub pass_later : (q : ℕ) (s t : State) → t.acted ≡ slice_set s.acted q true → (o : Option EventView) → MayPass s o → MayPass t o
  pass_later q s t acted (Some (events.Sub i op told)) a = tt
  pass_later q s t acted (Some (events.Due b)) a = ap (λ xs. slice_get xs b) acted ∙ acted_kept s.acted q b a
  pass_later q s t acted (Some events.Free) a = tt
  pass_later q s t acted None a = absurd a

  module _ (sizes : Sizes) (q : ℕ) (quiet : ChangesNothing log q) where
    quiet_live : (xs : List Step) (s t u : State) → Leads log s xs u → u.event ≡ length log.events → Marked q s t → Live log t
    quiet_live [] s t u leads over h = run t t [] refl (h.event ∙ ap (λ (w : State). w.event) leads ∙ over)
    quiet_live (steps.Pass ∷ xs) s t u leads over h =
        before t steps.Pass (subst (λ e. MayPass t (slice_get log.events e)) (sym h.event) (pass_later q s t h.acted (slice_get log.events s.event) leads.0))
        (quiet_live xs (next log s steps.Pass) (next log t steps.Pass) u leads.1 over
        (record { event = ap (λ e. e + 1) h.event; left = h.left; acted = h.acted; bytes = h.bytes; size = h.size }))
    quiet_live (steps.Act b ∷ xs) s t u leads over h = elim (cases_eq q b) [
      | inl same ↦
          let m : MayAct log s q = subst (MayAct log s) (sym same) leads.0 in
          let e : next log s (steps.Act q) ≡ t =
          same_state (next log s (steps.Act q)) t (sym h.event) (sym h.acted) (quiet s.bytes h.size (suits log s q m) ∙ sym h.bytes) in
          subst (Live log) (ap (λ c. next log s (steps.Act c)) (sym same) ∙ e) (run (next log s (steps.Act b)) u xs leads.1 over)
      | inr other ↦
          let m : MayAct log s b = leads.0 in
          before t (steps.Act b) (may_later q s t b h.event h.acted other m (subst (λ k. Suits log.extent k (slice_get log.events b)) (sym h.bytes) (suits log s b m)))
          (quiet_live xs (next log s (steps.Act b)) (next log t (steps.Act b)) u leads.1 over (record {
            event = h.event;
            left = set_there s.acted b q true (λ e. other (sym e)) ∙ h.left;
            acted = ap (λ ys. slice_set ys b true) h.acted ∙ set_swap s.acted q b true true other;
            bytes = ap (λ k. acted_on log.extent k (slice_get log.events b)) h.bytes;
            size = length_after sizes log.extent s.bytes (slice_get log.events b) ∙ h.size;
          }))
    ]

    quiet_next : (s : State) → length s.bytes ≡ log.extent.size → MayAct log s q → Marked q s (next log s (steps.Act q))
    quiet_next s size a = record { event = refl; left = a.once; acted = refl; bytes = quiet s.bytes size (suits log s q a); size = size }

pub quiet_is_forced : Sizes → (log : LogView) (s : State) (q : ℕ) → length s.bytes ≡ log.extent.size → ChangesNothing log q → MayAct log s q → IsForced log s (steps.Act q)
quiet_is_forced sizes log s q size quiet a =
    record {
      allowed = a;
      live = λ l. quiet_live log sizes q quiet l.steps s (next log s (steps.Act q)) l.last l.leads l.over (quiet_next log sizes q quiet s size a);
    }
