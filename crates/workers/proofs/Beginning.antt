-- How a run begins, and why it ends.
use Rattle.std.proofs.Common.{◌≡◌, ℕ, List, get_or, inl, sym, ap, subst, ◌∙◌}
use Rattle.std.specs.Prelude.{Result, Ok, Err, IfOk, IfErr}
use Rattle.std.proofs.lemmas.Option.{slice_get-get_or}
use Rattle.seq_memory.specs.History.{MemoryView}
use Rattle.fabric_steps.specs.Fabric.{Fabric}
use Rattle.fabric_core.specs.declared.config.Config.{Config}
use Rattle.fabric_core.specs.Config.{IsNewWith}
use Rattle.hall_laws.specs.Rule.{HasConfig}
use Rattle.hall_core.specs.Views.{SeatView, HallView, AreNewSeats}
use Rattle.worker_report.specs.declared.halt.RunHalt.{RunHalt}
use Rattle.worker_report.specs.declared.plan.RunPlan.{RunPlan}
use Rattle.worker_report.specs.declared.report.Report.{Report}
use Rattle.tlp_core.specs.Ops.{Op}
use Rattle.history_words.specs.Records.{Record}
use Rattle.worker_report.specs.Halts.{IsPlan, IsOfMemory, IsEndBy, IsCause, halt_of}
use Rattle.worker_report.specs.OneRun.{IsOfOneRun, IsRunOf}
use Rattle.worker_turns.specs.declared.stop.Stop.{Stop}
use Rattle.worker_turns.specs.declared.stop.Stop.TheVariants as stops
use Rattle.workers.specs.Running.{AreUnusedSeats, AreWorkSeats, AreDone}
use Rattle.workers.proofs.Rows.{new_seats}

pub first_seats : (hall : HallView) (ss : List SeatView) → AreNewSeats hall 0 hall.config.requesters ss → AreUnusedSeats hall 1 ss
first_seats hall ss new = new_seats hall 0 ss new.each

pub work_seats : (hall : HallView) (first count : ℕ) (ss : List SeatView) → AreNewSeats hall first count ss → AreWorkSeats hall ss
work_seats hall first count ss new k d below =
    let one = new.each k (get_or ss k d) (slice_get-get_or ss k d below) in (one.0, ap (λ w. w.config) one.1, ap (λ w. w.opened) one.1, ap (λ w. w.seats) one.1)

pub same_config : (c d : Config) (f g : Fabric) → IsNewWith c f → HasConfig f d → HasConfig g d → HasConfig g c
same_config c d f g n h k = record {
  requesters = k.requesters ∙ sym h.requesters ∙ n.requesters.number;
  base = k.base ∙ sym h.base ∙ ap (λ (m : MemoryView). m.base) n.memory;
  size = k.size ∙ sym h.size ∙ ap (λ (m : MemoryView). m.size) n.memory;
  block = k.block ∙ sym h.block ∙ ap (λ (m : MemoryView). m.block) n.memory;
  credits = k.credits ∙ sym h.credits ∙ n.credits;
}

-- ---- the end

-- the plan of a run that a worker ended is one that can be run
pub stopped : (p : RunPlan) (s : Stop) (h : RunHalt) → IsPlan p → h ≡ halt_of s → IsCause p h
stopped p s h plan is = subst (IsCause p) (sym is) (caused s)
  where
    caused : (s : Stop) → IsCause p (halt_of s)
    caused stops.Turns = inl (plan, tt)
    caused stops.Gated = inl (plan, tt)
    caused stops.Memory = inl (plan, tt)
    caused (stops.Core r) = inl (plan, tt)

pub ends : (p : RunPlan) (r : Result Report RunHalt) → IsPlan p → IfErr r (λ h. IsEndBy h) → IfErr r (λ h. IsCause p h)
ends p (Ok x) plan e = tt
ends p (Err h) plan e = inl (plan, e)

pub ran : (p : RunPlan) (opened f : Fabric) (r : Result Report RunHalt) → IsNewWith p.config f → opened ≡ f → IfOk r (λ x. IsOfOneRun opened x.trace.records x.fabric) → IfOk r (λ x. IsRunOf p.config x.trace.records x.fabric)
ran p opened f (Ok x) new is e = (opened, subst (IsNewWith p.config) (sym is) new, e)
ran p opened f (Err h) new is e = tt

pub remembered : (p : RunPlan) (d : Config) (f : Fabric) (r : Result Report RunHalt) → IsNewWith p.config f → HasConfig f d → IfOk r (λ x. IsOfMemory d x.trace) → IfOk r (λ x. IsOfMemory p.config x.trace)
remembered p d f (Ok x) new has e =
    (e.0 ∙ sym has.base ∙ ap (λ (m : MemoryView). m.base) new.memory, e.1 ∙ sym has.size ∙ ap (λ (m : MemoryView). m.size) new.memory, e.2 ∙ sym has.block ∙ ap (λ (m : MemoryView). m.block) new.memory)
remembered p d f (Err h) new has e = tt

pub configured : (p : RunPlan) (d : Config) (f : Fabric) (r : Result Report RunHalt) → IsPlan p → IsNewWith p.config f → HasConfig f d → IfOk r (λ x. HasConfig x.fabric d) → IfOk r (λ x. IsPlan p × HasConfig x.fabric p.config)
configured p d f (Ok x) plan new has e = (plan, same_config p.config d f x.fabric new has e)
configured p d f (Err h) plan new has e = tt

pub all_done : (ss : List (List Op)) (rs : List Record) (r : Result Report RunHalt) → AreDone rs 1 ss → IfOk r (λ x. x.trace.records ≡ rs) → IfOk r (λ x. AreDone x.trace.records 1 ss)
all_done ss rs (Ok x) h e = subst (λ l. AreDone l 1 ss) (sym e) h
all_done ss rs (Err h') h e = tt
