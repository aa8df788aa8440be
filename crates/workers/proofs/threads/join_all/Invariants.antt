use Rattle.std.proofs.Common.{◌≡◌, ◌+◌, List, ◌++◌, map, take, drop, vec_len, length}
use Rattle.recorder.specs.declared.laws.Pushed.{Pushed}
use Rattle.workers.specs.Running.{AreSeats, AreHandles, AreFinished, AreRecorded}
use Rattle.workers.proofs.threads.join_all.Given as goal

abbrev pub invariant-loop-script : goal.invariant-loop-script
invariant-loop-script g l =
    let i = l._script-index in
    (l.taker.queue ≡ l.run.recorder) × (l.taker.queue ≡ l.fn.taker.queue) × (l.taker.taken.records ≡ l.fn.taker.taken.records)
    × (vec_len l.handles + i ≡ length l.run.plan.scripts.items) × AreHandles l.run.hall l.run.recorder (i + 1) (map (λ s. s.items) (drop i l.run.plan.scripts.items)) l.handles.items
    × (vec_len l.seats ≡ i) × AreSeats l.run.hall l.seats.items
    × ((pushed : List Pushed) × (l.taker.taken.known ≡ l.fn.taker.taken.known ++ pushed) × AreFinished 1 (map (λ s. s.items) (take i l.run.plan.scripts.items)) pushed × AreRecorded 1 l.seats.items pushed)
