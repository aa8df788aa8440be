use Rattle.std.proofs.Common.{◌≡◌, ◌+◌, ◌-◌, map, take, vec_len, length}
use Rattle.recorder.specs.Rule.{unbegun}
use Rattle.workers.specs.Running.{AreUnusedSeats, AreHandles}
use Rattle.workers.proofs.threads.start_all.Given as goal

abbrev pub invariant-loop-script : goal.invariant-loop-script
invariant-loop-script g l =
    let i = l.script-index in
    (l.number ≡ i) × (vec_len l.seats + i ≡ length l.run.plan.scripts.items) × AreUnusedSeats l.run.hall (i + 1) l.seats.items
    × (l.taker.queue ≡ l.run.recorder) × (l.taker.taken.records ≡ l.fn.taker.taken.records) × (l.taker.taken.known ≡ unbegun (7 - i) (i + 1))
    × AreHandles l.run.hall l.run.recorder 1 (map (λ s. s.items) (take i l.run.plan.scripts.items)) l.handles.items
