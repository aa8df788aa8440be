-- A step that is taken back leaves what was there before it.
use Rattle.std.proofs.Common.{◌≡◌, ◌∙◌, ℕ, true, false, List, refl, ap, subst}
use Rattle.std.specs.Prelude.{slice_get, slice_set}
use Rattle.log_runs.specs.LogView.{LogView}
use Rattle.log_runs.specs.declared.Step.TheVariants as steps
use Rattle.log_runs.specs.Runs.{State, MayAct, Allowed, next, acted_on}
use Rattle.search_places.specs.declared.steps.Done.{Done}
use Rattle.search_places.specs.Undo.{old_at, old_of, CameBy}
use Rattle.search_places.proofs.Lists.{set_back}

-- an act, taken back
pub act_undone : (log : LogView) (m t u : State) (d : Done) (b : ℕ) → CameBy log m t d → d.step ≡ steps.Act b → u.event ≡ t.event → u.acted ≡ slice_set t.acted b false
    → ((k : List ℕ) → t.bytes ≡ acted_on log.extent k (slice_get log.events b) → d.old.items ≡ old_at log.extent k (slice_get log.events b) → u.bytes ≡ k) → u ≡ m
act_undone log m t u d b c e same marked restored =
    let a : MayAct log m b = subst (Allowed log m) e c.may.allowed in
    let led : t ≡ next log m (steps.Act b) = c.led ∙ ap (next log m) e in
    let old : d.old.items ≡ old_at log.extent m.bytes (slice_get log.events b) = c.may.old ∙ ap (old_of log m) e in
    let event : u.event ≡ m.event = same ∙ ap (λ (s : State). s.event) led in
    let acted : u.acted ≡ m.acted = marked ∙ ap (λ (s : State). slice_set s.acted b false) led ∙ set_back m.acted b true false a.once in
    let bytes : u.bytes ≡ m.bytes = restored m.bytes (ap (λ (s : State). s.bytes) led) old in
    rw (← event, ← acted, ← bytes) refl
