-- Why a run ends.
use Rattle.std.proofs.Common.{◌≡◌, ◌<◌, ◌∙◌, ℕ, List, [], ◌∷◌, ◌++◌, length, refl, sym, subst, arith}
use Rattle.std.specs.Prelude.{Option, None}
use Rattle.history_words.specs.Records.{Record}
use Rattle.history_words.specs.TraceView.{TraceView}
use Rattle.history_words.specs.declared.flaws.FlawKind.{FlawKind}
use Rattle.fabric_steps.specs.Fabric.{Fabric}
use Rattle.fabric_steps.specs.Lists.{Each}
use Rattle.hall_core.specs.Opens.{Leaves}
use Rattle.hall_laws.specs.Rule.{HasConfig}
use Rattle.hall_core.specs.Views.{SeatView, HallView, AreSeatsOf, RanBy}
use Rattle.worker_report.specs.declared.halt.RunHalt.{RunHalt}
use Rattle.worker_report.specs.declared.halt.RunHalt.TheVariants as halts
use Rattle.worker_report.specs.declared.report.Gathered.{Gathered}
use Rattle.worker_report.specs.Halts.{IsOfMemory, IsFlaw, IsEndBy}
use Rattle.worker_report.specs.OneRun.{IsOfOneRun, AreOfSeats, IsGathered}

-- where there is no flaw, the check ends a run for want of memory alone
pub no_flaw_ends : (first : Option (FlawKind × ℕ)) (halt : RunHalt) → first ≡ None → IsFlaw first halt → IsEndBy halt
no_flaw_ends first (halts.Flaw f) none h = let no : ⊥ = cc in no
no_flaw_ends first halts.Memory none h = tt
no_flaw_ends first halts.Plan none h = absurd h
no_flaw_ends first halts.Turns none h = absurd h
no_flaw_ends first halts.Gated none h = absurd h
no_flaw_ends first (halts.Held held) none h = absurd h
no_flaw_ends first (halts.Core r) none h = absurd h
no_flaw_ends first halts.Missing none h = absurd h

-- what some seats of a hall leave has its configuration
configured : (h : HallView) (requesters work : List SeatView) (f : Fabric) → 0 < length requesters → AreSeatsOf h requesters → Each (λ (s : SeatView). Leaves s.knows f) (requesters ++ work) → HasConfig f h.config
configured h [] work f some of leaves = absurd (omega arith)
configured h (s ∷ ss) work f some of leaves = subst (HasConfig f) (of 0 s refl).1 leaves.0.config

-- what a hall that all its seats close is left with
pub record IsClosed (h : HallView) (f : Fabric) (trace : TraceView) : Type 0 where
  pub ran : IsOfOneRun h.opened trace.records f
  pub config : HasConfig f h.config
  pub memory : IsOfMemory h.config trace

abbrev pub SeatsLaw : Type 0
SeatsLaw = (h : HallView) (requesters work : List SeatView) (f : Fabric) (rs : List Record) → RanBy h (requesters ++ work) f → HasConfig f h.config → length requesters ≡ h.config.requesters → AreOfSeats rs 1 requesters → IsOfOneRun h.opened rs f

pub closed : SeatsLaw → (h : HallView) (g : Gathered) (f : Fabric) (trace : TraceView) → IsGathered h g → Each (λ (s : SeatView). Leaves s.knows f) (g.requesters.items ++ g.work.items) → RanBy h (g.requesters.items ++ g.work.items) f
    → trace.records ≡ g.records.items → trace.base ≡ f.memory.base → trace.size ≡ f.memory.size → trace.block ≡ f.memory.block → IsClosed h f trace
closed law h g f trace all leaves by records base size block =
    let some = all.some in
    let count = all.count in
    let config : HasConfig f h.config = configured h g.requesters.items g.work.items f (omega arith) all.requesters leaves in record {
      ran = subst (λ rs. IsOfOneRun h.opened rs f) (sym records) (law h g.requesters.items g.work.items f g.records.items by config all.count all.records);
      config = config;
      memory = (base ∙ config.base, size ∙ config.size, block ∙ config.block);
    }
