-- The ranges of what is asked of a sweep.
use Rattle.std.specs.Prelude.{◌≤◌, IfSome}
use Rattle.parameters.specs.Ranges.{IsStorm}
use Rattle.parameters.specs.declared.counting.TheConstants.{MOST_WORKERS}
use Rattle.sweep_engine.specs.declared.options.Sweep.{Sweep}

pub record IsSweep (o : Sweep) : Type 0 where
  pub storm : IsStorm o.storm
  pub ordered : o.storm.seed ≤ o.last
  pub workers : IfSome o.workers (λ n. (1 ≤ n) × (n ≤ MOST_WORKERS))
