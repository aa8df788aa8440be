use Rattle.std.proofs.Common.{◌≡◌}
use Rattle.recorder.proofs.laws.Recorder.drain.Given as goal

abbrev pub invariant-loop : goal.invariant-loop
invariant-loop g l =
    (l.taker.queue ≡ l.self) × (l.taker.queue ≡ l.fn.taker.queue) × (l.taker.taken.known ≡ l.fn.taker.taken.known) × (l.taker.taken.records ≡ l.records.items)
