-- The ranges of what `run` and `generate` are asked for.
use Rattle.std.specs.Prelude.{◌≤◌, IfSome}
use Rattle.seq_memory.specs.Limits.{IsBlock}
use Rattle.tlp_core.specs.declared.packet.TheConstants.{REQUESTERS}
use Rattle.parameters.specs.declared.plan.TheConstants.{MOST}
use Rattle.parameters.specs.declared.counting.TheConstants.{MOST_ADDITIONS, MOST_TURNS, MOST_WORKERS}
use Rattle.parameters.specs.declared.counting.Counting.{Counting}
use Rattle.parameters.specs.declared.storm.TheConstants.{MOST_EVENTS}
use Rattle.parameters.specs.declared.storm.Storm.{Storm}

pub record IsCounting (c : Counting) : Type 0 where
  pub requesters : (1 ≤ c.requesters) × (c.requesters ≤ REQUESTERS)
  pub each : c.each ≤ MOST_ADDITIONS
  pub lose : c.lose ≤ MOST
  pub corrupt : c.corrupt ≤ MOST
  pub turns : (1 ≤ c.turns) × (c.turns ≤ MOST_TURNS)
  pub workers : IfSome c.workers (λ n. (1 ≤ n) × (n ≤ MOST_WORKERS))

pub record IsStorm (s : Storm) : Type 0 where
  pub events : s.events ≤ MOST_EVENTS
  pub requesters : (1 ≤ s.requesters) × (s.requesters ≤ REQUESTERS)
  pub lose : s.lose ≤ MOST
  pub corrupt : s.corrupt ≤ MOST
  pub block : IsBlock s.block
