-- What a counting asks for.
use Rattle.std.specs.Prelude.{◌≡◌, ℕ, List, map, replicate}
use Rattle.tlp_core.specs.Ops.{Op}
use Rattle.tlp_core.specs.declared.operation.OpOf.TheVariants.{FetchAdd}
use Rattle.tlp_core.specs.declared.operation.Width.TheVariants.{Four}
use Rattle.fabric_core.specs.declared.config.Config.{Config}
use Rattle.worker_report.specs.declared.plan.RunPlan.{RunPlan}
use Rattle.parameters.specs.declared.counting.Counting.{Counting}

-- 1 is added to the first word
abbrev pub addition : Op
addition = FetchAdd 0 Four 1

-- so many additions
abbrev pub script_of : ℕ → List Op
script_of each = replicate each addition

-- for each of so many requesters
abbrev pub scripts_of : ℕ → ℕ → List (List Op)
scripts_of requesters each = replicate requesters (script_of each)

-- a memory of 4096 bytes at 0 with blocks of 64, and the credits that lanes have unless told otherwise
abbrev pub config_of : ℕ → Config
config_of requesters = record { requesters = requesters; base = 0; size = 4096; credits = record { ph = 16; pd = 64; nph = 16; npd = 16; cplh = 16; cpld = 64 }; block = 64 }

pub record IsPlanOf (c : Counting) (p : RunPlan) : Type 0 where
  pub config : p.config ≡ config_of c.requesters
  pub scripts : map (λ s. s.items) p.scripts.items ≡ scripts_of c.requesters c.each
  pub loses : p.plan.lose_every ≡ c.lose
  pub corrupts : p.plan.corrupt_every ≡ c.corrupt
  pub turns : p.turns ≡ c.turns
