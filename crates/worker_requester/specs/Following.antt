-- What a requester's records say, step by step.
use Rattle.std.specs.Prelude.{◌≡◌, ◌≢◌, ℕ, suc, ◌<◌, ◌≤◌, ◌⊎◌, ◌==◌, Bool, true, false, List, [], ◌∷◌, ◌++◌, length, take, slice_get, Option, Some, None}
use Rattle.std.specs.List.{list_any, AllByRecursion as Each}
use Rattle.tlp_core.specs.Ops.{Op}
use Rattle.tlp_core.specs.Operation.{is_posted}
use Rattle.history_words.specs.Records.{Record}
use Rattle.history_words.specs.Lookup.{requester_of}
use Rattle.history_words.specs.Trace.{submissions, answers_to}
use Rattle.recorder.specs.declared.laws.Pushed.{Pushed}
use Rattle.hall_core.specs.Views.{SeatView, HallView, IsSeatOf}
use Rattle.worker_requester.specs.declared.requester.Requester.{Requester}

-- the seat of requester i, by which nothing was submitted or collected
pub record IsUnusedSeat (hall : HallView) (i : ℕ) (s : SeatView) : Type 0 where
  pub seat : IsSeatOf hall s
  pub number : suc s.knows.number ≡ i
  pub made : s.knows.made ≡ []
  pub pending : s.knows.pending ≡ []
  pub records : s.knows.records ≡ []

abbrev pub is_number : ℕ → ℕ × ℕ → Bool
is_number k w = k == w.0

abbrev pub waiting_of : Option Record → List Record
waiting_of None = []
waiting_of (Some r) = r ∷ []

-- each operation of requester i that isn't posted is answered
abbrev pub IsAnswered : ℕ → List Op → List Record → Type 0
IsAnswered i made log = (k : ℕ) (op : Op) → slice_get made k ≡ Some op → is_posted op ≡ false → list_any (answers_to i k) log ≡ true

-- each of them waits for its answer or is answered
abbrev pub IsCovered : ℕ → List Op → List (ℕ × ℕ) → List Record → Type 0
IsCovered i made pending log =
    (k : ℕ) (op : Op) → slice_get made k ≡ Some op → is_posted op ≡ false → (list_any (is_number k) pending ≡ true) ⊎ (list_any (answers_to i k) log ≡ true)

-- no number waits twice
abbrev pub AreApart : List (ℕ × ℕ) → Type 0
AreApart [] = Unit {0}
AreApart (w ∷ ws) = Each (λ (v : ℕ × ℕ). v.0 ≢ w.0) ws × AreApart ws

-- what requester i pushed and what it is about to push are the submissions and answers of its seat, which follows the
-- script
pub record Keeps (i : ℕ) (script made : List Op) (pending : List (ℕ × ℕ)) (log : List Record) (next due : ℕ) : Type 0 where
  pub submitted : submissions log i ≡ made
  pub begun : made ≡ take next script
  pub inside : next ≤ length script
  pub waits : due ≡ length pending
  pub few : due ≤ next
  pub apart : AreApart pending
  pub below : Each (λ (w : ℕ × ℕ). w.0 < length made) pending
  pub covered : IsCovered i made pending log

pub record Follows (q : Requester) : Type 0 where
  pub hall : IsSeatOf q.hall.now q.seat
  pub queue : q.pusher.queue ≡ q.recorder.now
  pub seat : suc q.seat.knows.number ≡ q.number
  pub pusher : q.pusher.pushed.requester ≡ q.number
  pub own : (r : Record) → q.waiting ≡ Some r → requester_of r ≡ q.number
  pub keeps : Keeps q.number q.script.now q.seat.knows.made q.seat.knows.pending (q.pusher.pushed.records ++ waiting_of q.waiting) q.next q.due
  -- they are the records of its seat's calls
  pub recorded : q.pusher.pushed.records ++ waiting_of q.waiting ≡ q.seat.knows.records

-- the requester is the same
pub record IsSame (p q : Requester) : Type 0 where
  pub hall : q.hall.now ≡ p.hall.now
  pub recorder : q.recorder.now ≡ p.recorder.now
  pub script : q.script.now ≡ p.script.now
  pub number : q.number ≡ p.number

-- the script was submitted, and each operation of it that isn't posted was answered
pub record Finishes (script : List Op) (pushed : Pushed) : Type 0 where
  pub submitted : submissions pushed.records pushed.requester ≡ script
  pub answered : IsAnswered pushed.requester script pushed.records
