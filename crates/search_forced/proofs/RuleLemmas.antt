-- Steps that may be taken at once.
use Rattle.std.proofs.Common.{◌≡◌, ◌∙◌, ℕ, Bool, true, List, [], ◌∷◌, Some, None, Option, length, ap, subst, inl, inr, arith}
use Rattle.std.specs.Prelude.{slice_get, slice_set}
use Rattle.std.proofs.lemmas.Bool.{cases_eq}
use Rattle.std.proofs.lemmas.Option.{slice_get_past}
use Rattle.log_runs.specs.EventView.{EventView}
use Rattle.log_runs.specs.EventView as events
use Rattle.log_runs.specs.declared.Step.{Step}
use Rattle.log_runs.specs.declared.Step.TheVariants as steps
use Rattle.log_runs.specs.LogView.{LogView}
use Rattle.log_runs.specs.Runs.{State, MayPass, Allowed, Leads, Live, IsForced, next, acted_on}
use Rattle.search_forced.proofs.Lists.{set_here, set_there}

-- what has acted still has when another acts
pub acted_kept : (xs : List Bool) (b c : ℕ) → slice_get xs c ≡ Some true → slice_get (slice_set xs b true) c ≡ Some true
acted_kept xs b c e = elim (cases_eq b c) [
  | inl same ↦ rw same (set_here xs c true true e)
  | inr other ↦ set_there xs b c true other ∙ e
]

pub pass_kept : (s : State) (q : ℕ) (m : List ℕ) (o : Option EventView) → MayPass s o → MayPass (record { event = s.event; acted = slice_set s.acted q true; bytes = m }) o
pass_kept s q m (Some (events.Sub i op told)) a = tt
pass_kept s q m (Some (events.Due b)) a = acted_kept s.acted q b a
pass_kept s q m (Some events.Free) a = tt
pass_kept s q m None a = absurd a

module _ (log : LogView) where
  -- a run to the end
  pub run : (s t : State) (xs : List Step) → Leads log s xs t → t.event ≡ length log.events → Live log s
  run s t xs leads over = record { steps = xs; last = t; leads = leads; over = over }

  -- one step in front of a run
  pub before : (s : State) (x : Step) → Allowed log s x → Live log (next log s x) → Live log s
  before s x a l = run s l.last (x ∷ l.steps) (a, l.leads) l.over

  -- ---- what may be passed is passed at once

  pass_first : (xs : List Step) (s t : State) → Leads log s xs t → t.event ≡ length log.events → Allowed log s steps.Pass → Live log (next log s steps.Pass)
  pass_first [] s t leads over a =
      let past = slice_get_past log.events s.event (omega (arith, ap (λ (u : State). u.event) leads, over)) in
      absurd (subst (MayPass s) past a)
  pass_first (steps.Pass ∷ xs) s t leads over a = run (next log s steps.Pass) t xs leads.1 over
  pass_first (steps.Act b ∷ xs) s t leads over a =
      let m = leads.0 in
      before (next log s steps.Pass) (steps.Act b)
      (record { requester = m.requester; op = m.op; told = m.told; submitted = m.submitted; since = omega (arith, m.since); once = m.once; ordered = m.ordered; replied = m.replied })
      (pass_first xs (next log s (steps.Act b)) t leads.1 over (pass_kept s b (acted_on log.extent s.bytes (slice_get log.events b)) (slice_get log.events s.event) a))

  pub pass_is_forced : (s : State) → Allowed log s steps.Pass → IsForced log s steps.Pass
  pass_is_forced s a = record { allowed = a; live = λ l. pass_first l.steps s l.last l.leads l.over a }
