-- The records of one run have no flaw.
use Rattle.std.proofs.Common.{◌≡◌, ℕ, List, sym, ◌∙◌, subst, refl}
use Rattle.std.specs.Prelude.{Some, slice_get}
use Rattle.history_words.specs.Records.{Record}
use Rattle.history_words.specs.TraceView.{TraceView}
use Rattle.history_words.specs.Claim.{claim_of}
use Rattle.history_words.specs.Lookup.{requester_of}
use Rattle.history_words.specs.Trace.{Explains}
use Rattle.fabric_steps.specs.Whole.{Whole, memory_of}
use Rattle.fabric_steps.specs.Sound.{Sound}
use Rattle.fabric_steps.specs.Fabric.{Fabric, whole_of}
use Rattle.fabric_steps.specs.Trace.{Belongs}
use Rattle.fabric_core.specs.declared.config.Config.{Config}
use Rattle.hall_laws.specs.Rule.{HasConfig}
use Rattle.worker_report.specs.Halts.{IsOfMemory}
use Rattle.worker_report.specs.OneRun.{IsOfOneRun}
use Rattle.worker_report.proofs.Reordered.{moved, explains}

abbrev pub ExplainsLaw : Type 0
ExplainsLaw = (p : Whole) (rs : List Record) → Sound p → Belongs p rs → Explains (record { memory = memory_of p; records = rs })

pub explained : ExplainsLaw → (opened f : Fabric) (rs : List Record) → IsOfOneRun opened rs f → Explains (record { memory = f.memory; records = rs })
explained law opened f rs run = explains f.memory rs run.told run.own (law (whole_of f) run.told run.sound.sound run.belongs)

same_claim : (c : Config) (f : Fabric) (trace : TraceView) → HasConfig f c → IsOfMemory c trace → claim_of trace f.memory.entries ≡ record { memory = f.memory; records = trace.records }
same_claim c f trace has of = λ i. record {
  memory = record { base = (of.0 ∙ sym has.base) i; size = (of.1 ∙ sym has.size) i; block = (of.2 ∙ sym has.block) i; entries = f.memory.entries };
  records = trace.records;
}

pub explained_claim : ExplainsLaw → (c : Config) (opened f : Fabric) (trace : TraceView) → IsOfOneRun opened trace.records f → HasConfig f c → IsOfMemory c trace → Explains (claim_of trace f.memory.entries)
explained_claim law c opened f trace run has of = subst Explains (sym (same_claim c f trace has of)) (explained law opened f trace.records run)

pub stands : (opened f : Fabric) (rs : List Record) (run : IsOfOneRun opened rs f) (a : ℕ) (r : Record) → slice_get rs a ≡ Some r → (b : ℕ) × (slice_get run.told b ≡ Some r)
stands opened f rs run a r at = let h = moved (requester_of r) rs run.told a r (run.own (requester_of r)) at refl in (h.place, h.at)
