use Rattle.std.proofs.Common.{◌≡◌, ◌≤◌}
use Rattle.script_text.specs.Spelled.{IsInRange}
use Rattle.generate_engine.proofs.chooser.Chooser.happen_next.Given as goal

abbrev pub invariant-loop-try : goal.invariant-loop-try
invariant-loop-try g l = (l.fabric ≡ l.fn.fabric) × (l.listener ≡ l.fn.listener) × (l.self-inside.tries.arrivals ≡ l.fn.self.arrived)
    × (1 ≤ l.self-inside.requesters) × (l.self-inside.requesters ≤ 7) × IsInRange l.self-inside.operation
