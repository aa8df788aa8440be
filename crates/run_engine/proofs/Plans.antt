-- The plan of a counting, and how its run ends.
use Rattle.std.proofs.Common.{◌≤◌, ℕ, Vec, Global, List, length, map, ⊎_elim, ◌∙◌, ap, sym, subst, rules, arith}
use Rattle.std.specs.Prelude.{Result, Ok, Err, IfOk, IfErr}
use Rattle.std.proofs.lemmas.List.{length-map, length-replicate}
use Rattle.tlp_core.specs.Ops.{Op}
use Rattle.fabric_core.specs.declared.config.Config.{Config}
use Rattle.fabric_core.specs.Config.{IsConfig}
use Rattle.hall_laws.specs.Rule.{HasConfig}
use Rattle.worker_report.specs.declared.halt.RunHalt.{RunHalt}
use Rattle.worker_report.specs.declared.plan.RunPlan.{RunPlan}
use Rattle.worker_report.specs.declared.report.Report.{Report}
use Rattle.worker_report.specs.Halts.{IsPlan, IsOfMemory, IsEndBy, IsCause}
use Rattle.workers.specs.Running.{AreDone}
use Rattle.parameters.specs.declared.counting.Counting.{Counting}
use Rattle.run_engine.specs.Counting.{script_of, scripts_of, config_of, IsPlanOf}

abbrev pub items_of : Vec Op Global → List Op
items_of v = v.items

right : (requesters : ℕ) → 1 ≤ requesters → requesters ≤ 7 → IsConfig (config_of requesters)
right requesters some few = record {
  requesters = (some, few);
  size = search rules;
  base = search rules;
  credits = search rules;
  block = search rules;
}

pub is_plan : (c : Counting) (p : RunPlan) → IsPlanOf c p → 1 ≤ c.requesters → c.requesters ≤ 7 → 1 ≤ c.turns → IsPlan p
is_plan c p is some few moves =
    let turns = is.turns in (
      subst IsConfig (sym is.config) (right c.requesters some few),
      sym (length-map p.scripts.items items_of) ∙ ap length is.scripts ∙ length-replicate c.requesters (script_of c.each) ∙ sym (ap (λ (d : Config). d.requesters) is.config),
      omega arith,
    )

pub done : (c : Counting) (p : RunPlan) (r : Result Report RunHalt) → IsPlanOf c p → IfOk r (λ x. AreDone x.trace.records 1 (map items_of p.scripts.items)) → IfOk r (λ x. AreDone x.trace.records 1 (scripts_of c.requesters c.each))
done c p (Ok x) is h = subst (AreDone x.trace.records 1) is.scripts h
done c p (Err e) is h = tt

pub memory : (c : Counting) (p : RunPlan) (r : Result Report RunHalt) → IsPlanOf c p → IfOk r (λ x. IsOfMemory p.config x.trace) → IfOk r (λ x. IsOfMemory (config_of c.requesters) x.trace)
memory c p (Ok x) is h = subst (λ d. IsOfMemory d x.trace) is.config h
memory c p (Err e) is h = tt

pub configured : (c : Counting) (p : RunPlan) (r : Result Report RunHalt) → IsPlanOf c p → IfOk r (λ x. IsPlan p × HasConfig x.fabric p.config) → IfOk r (λ x. HasConfig x.fabric (config_of c.requesters))
configured c p (Ok x) is h = subst (HasConfig x.fabric) is.config h.1
configured c p (Err e) is h = tt

pub ended : (p : RunPlan) (r : Result Report RunHalt) → IsPlan p → IfErr r (λ h. IsCause p h) → IfErr r (λ h. IsEndBy h)
ended p (Ok x) plan h = tt
ended p (Err e) plan h = ⊎_elim (λ (x : IsPlan p × IsEndBy e). x.1) (λ x. absurd (x.0 plan)) h
