-- Seats, threads and records in the order of their requesters.
use Rattle.std.specs.Prelude.{◌≡◌, ℕ, suc, ◌+◌, List, [], ◌∷◌}
use Rattle.std.specs.List.{All, AllByRecursion as Each}
use Rattle.std.specs.declared.thread.PromisedHandle.{PromisedHandle}
use Rattle.std.specs.declared.vec.Vec.{Vec}
use Rattle.std.specs.Global.{Global}
use Rattle.atomic_table.specs.Seated.{TableId}
use Rattle.tlp_core.specs.Ops.{Op}
use Rattle.history_words.specs.Records.{Record}
use Rattle.history_words.specs.Trace.{submissions}
use Rattle.recorder.specs.declared.laws.Pushed.{Pushed}
use Rattle.hall_core.specs.Views.{SeatView, HallView, IsSeatOf}
use Rattle.worker_requester.specs.declared.requester.Ended.{Ended}
use Rattle.workers.specs.declared.threads.Keeps.{Keeps}
use Rattle.workers.specs.declared.threads.Share.{Share}
use Rattle.workers.specs.Tasks.{TaskView}
use Rattle.worker_requester.specs.Following.{IsUnusedSeat, IsAnswered, Finishes}
use Rattle.worker_report.specs.OneRun.{AreBelow}

-- the unused seats of that hall for the requesters from that number on
abbrev pub AreUnusedSeats : HallView → ℕ → List SeatView → Type 0
AreUnusedSeats hall i [] = Unit {0}
AreUnusedSeats hall i (s ∷ ss) = IsUnusedSeat hall i s × AreUnusedSeats hall (i + 1) ss

-- seats of requesters of that hall
abbrev pub AreSeats : HallView → List SeatView → Type 0
AreSeats hall [] = Unit {0}
AreSeats hall (s ∷ ss) = IsSeatOf hall s × AreSeats hall ss

-- work seats of that hall
abbrev pub AreWorkSeats : HallView → List SeatView → Type 0
AreWorkSeats hall ss = All (IsSeatOf hall) ss

-- the threads of the requesters from that number on, with these scripts
abbrev pub AreHandles : HallView → TableId → ℕ → List (List Op) → List (PromisedHandle Ended Keeps) → Type 0
AreHandles hall queue i [] [] = Unit {0}
AreHandles hall queue i [] (h ∷ hs) = ⊥
AreHandles hall queue i (s ∷ ss) [] = ⊥
AreHandles hall queue i (s ∷ ss) (h ∷ hs) =
    (h.promise.hall.now ≡ hall) × (h.promise.recorder.now ≡ queue) × (h.promise.script.now ≡ s) × (h.promise.requester ≡ i) × AreHandles hall queue (i + 1) ss hs

-- the threads of workers with seats of that hall
abbrev pub AreOfHall : HallView → List (PromisedHandle (Vec TaskView Global) Share) → Type 0
AreOfHall hall hs = Each (λ h. h.promise.hall.now ≡ hall) hs

-- what the requesters from that number on pushed for these scripts
abbrev pub AreFinished : ℕ → List (List Op) → List Pushed → Type 0
AreFinished i [] [] = Unit {0}
AreFinished i [] (p ∷ ps) = ⊥
AreFinished i (s ∷ ss) [] = ⊥
AreFinished i (s ∷ ss) (p ∷ ps) = (p.requester ≡ i) × Finishes s p × AreFinished (i + 1) ss ps

-- what the requesters from that number on pushed are the records of their seats' calls
abbrev pub AreRecorded : ℕ → List SeatView → List Pushed → Type 0
AreRecorded i [] [] = Unit {0}
AreRecorded i [] (p ∷ ps) = ⊥
AreRecorded i (v ∷ vs) [] = ⊥
AreRecorded i (v ∷ vs) (p ∷ ps) = (p.requester ≡ i) × (suc v.knows.number ≡ i) × (p.records ≡ v.knows.records) × AreRecorded (i + 1) vs ps

-- the records' submissions of the requesters from that number on are these scripts, each operation of theirs that isn't
-- posted is answered, and no record is of a requester behind them
abbrev pub AreDone : List Record → ℕ → List (List Op) → Type 0
AreDone rs i [] = AreBelow i rs
AreDone rs i (s ∷ ss) = (submissions rs i ≡ s) × IsAnswered i s rs × AreDone rs (i + 1) ss
