use Rattle.std.proofs.Common.{◌≤◌, ◌-◌, ℕ, List, []}
use Rattle.std.specs.Io.KnownBytes.{Appends}
use Rattle.sweep_engine.specs.Sweep.{Stands}
use Rattle.sweep_engine.proofs.sweeper.Sweeper.put_batches.Given as goal

abbrev pub invariant-loop-next : goal.invariant-loop-next
invariant-loop-next g l = record {
  least : l.sweep.storm.seed ≤ l.next;
  most : l.next ≤ l.last;
  told : (text : List ℕ) × Appends (g.W.Write.contents l.fn.writer) (g.W.Write.contents l.writer) text
      × (Stands l.sweep 0 [] l.fn.self → Stands l.sweep (l.next - l.sweep.storm.seed) text l.self);
}

abbrev pub decreases-loop-next : goal.decreases-loop-next
decreases-loop-next g l = l.last - l.next
