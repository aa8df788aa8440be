-- Why a run ends without a report: numbers, names and causes.
use Rattle.std.specs.Prelude.{◌≡◌, ◌≢◌, ◌⊎◌, ℕ, ◌<◌, List, codes, length, Option, Some}
use Rattle.history_words.specs.TraceView.{TraceView}
use Rattle.history_words.specs.declared.flaws.FlawKind.{FlawKind}
use Rattle.fabric_core.specs.declared.config.Config.{Config}
use Rattle.fabric_core.specs.Config.{IsConfig}
use Rattle.worker_report.specs.declared.halt.RunHalt.{RunHalt}
use Rattle.worker_report.specs.declared.halt.RunHalt.TheVariants as halts
use Rattle.worker_turns.specs.declared.stop.Stop.{Stop}
use Rattle.worker_turns.specs.declared.stop.Stop.TheVariants as stops
use Rattle.worker_report.specs.declared.plan.RunPlan.{RunPlan}

abbrev pub halt_number : RunHalt → ℕ
halt_number halts.Plan = 1
halt_number halts.Turns = 2
halt_number halts.Gated = 3
halt_number (halts.Flaw f) = 4
halt_number halts.Memory = 5
halt_number (halts.Held h) = 6
halt_number (halts.Core r) = 7
halt_number halts.Missing = 8

abbrev pub halt_name : RunHalt → List ℕ
halt_name halts.Plan = codes "Plan"
halt_name halts.Turns = codes "Turns"
halt_name halts.Gated = codes "Gated"
halt_name (halts.Flaw f) = codes "Flaw"
halt_name halts.Memory = codes "Memory"
halt_name (halts.Held h) = codes "Held"
halt_name (halts.Core r) = codes "Core"
halt_name halts.Missing = codes "Missing"

abbrev pub halt_of : Stop → RunHalt
halt_of stops.Turns = halts.Turns
halt_of stops.Gated = halts.Gated
halt_of stops.Memory = halts.Memory
halt_of (stops.Core r) = halts.Core r

-- a fabric has the configuration, each requester has a script, and each worker a turn
abbrev pub IsPlan : RunPlan → Type 0
IsPlan p = IsConfig p.config × (length p.scripts.items ≡ p.config.requesters) × (0 < p.turns)

-- what the check of a trace ends a run with: its first flaw, or being out of memory
abbrev pub IsFlaw : Option (FlawKind × ℕ) → RunHalt → Type 0
IsFlaw first (halts.Flaw f) = first ≡ Some (f.kind, f.place)
IsFlaw first halts.Memory = Unit {0}
IsFlaw first _ = ⊥

-- a trace of the memory of this configuration
abbrev pub IsOfMemory : Config → TraceView → Type 0
IsOfMemory c trace = (trace.base ≡ c.base) × (trace.size ≡ c.size) × (trace.block ≡ c.block)

-- what the halt of a run that began shows: it isn't that of the plan; no flaw is found, and nothing is missing; a part that
-- was held has a word
abbrev pub IsEndBy : RunHalt → Type 0
IsEndBy halts.Plan = ⊥
IsEndBy (halts.Flaw f) = ⊥
IsEndBy (halts.Held h) = h.word ≢ 0
IsEndBy halts.Turns = Unit {0}
IsEndBy halts.Gated = Unit {0}
IsEndBy halts.Memory = Unit {0}
IsEndBy (halts.Core r) = Unit {0}
IsEndBy halts.Missing = ⊥

-- no run begins by another plan, which is told by Plan alone
abbrev pub IsCause : RunPlan → RunHalt → Type 0
IsCause p h = (IsPlan p × IsEndBy h) ⊎ ((¬ IsPlan p) × (h ≡ halts.Plan))
