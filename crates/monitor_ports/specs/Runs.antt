-- Any list of calls on a new monitor: what it records, and the form of the records.
use Rattle.std.specs.Prelude.{ℕ, ◌≡◌, ◌<◌, Bool, false, List, [], ◌∷◌, ◌++◌, take, slice_get, Some, Result, Ok, Err}
use Rattle.std.specs.List.{list_any}
use Rattle.tlp_core.specs.Ops.{Op}
use Rattle.tlp_core.specs.Operation.{is_posted}
use Rattle.seq_memory.specs.Entries.{Reply}
use Rattle.history_words.specs.Records.{Record}
use Rattle.history_words.specs.declared.record.RecordOf.TheVariants as records
use Rattle.history_words.specs.Trace.{IsNumbered, answers_to}
use Rattle.monitor_ports.specs.declared.fault.MonitorFault.{MonitorFault}
use Rattle.monitor_ports.specs.Monitoring.{Monitor, Outcome, request, completion, given_up, acted}

-- a port carries a request or a completion, with its bytes; a tag is given up; or a request acts. A call that is refused for memory changes
-- nothing, and counts as none
pub data Call : Type 0 where
  Requests : ℕ → List ℕ → Call
  Completes : ℕ → List ℕ → Call
  GivesUp : ℕ → ℕ → Call
  Acts : ℕ → ℕ → Call

abbrev pub after_call : Monitor → Call → Monitor
after_call m (Requests i bytes) = (request m i bytes).monitor
after_call m (Completes i bytes) = (completion m i bytes).monitor
after_call m (GivesUp i tag) = (given_up m i tag).monitor
after_call m (Acts i number) = (acted m i number).monitor

-- the record of a call that isn't refused
abbrev pub record_if : Result Record MonitorFault → List Record
record_if (Ok r) = r ∷ []
record_if (Err f) = []

abbrev pub recorded_by : Monitor → Call → List Record
recorded_by m (Requests i bytes) = record_if (request m i bytes).answer
recorded_by m (Completes i bytes) = record_if (completion m i bytes).answer
recorded_by m (GivesUp i tag) = []
recorded_by m (Acts i number) = []

-- the records of all calls, in order
abbrev pub recorded : Monitor → List Call → List Record
recorded m [] = []
recorded m (call ∷ calls) = recorded_by m call ++ recorded (after_call m call) calls

-- request k of requester i was submitted before, is non-posted, and wasn't answered before
pub record IsAsked (before : List Record) (i k : ℕ) : Type 0 where
  pub place : ℕ
  pub op : Op
  pub since : ℕ
  pub asked : slice_get before place ≡ Some (records.Sub i k op since)
  pub not_posted : is_posted op ≡ false
  pub unanswered : list_any (answers_to i k) before ≡ false

-- the numbers of each requester are 0, 1, 2, and so on, and each answer is to a request that was asked
pub record IsWellFormed (rs : List Record) : Type 0 where
  pub numbered : IsNumbered rs
  pub answers : (a i k n : ℕ) (reply : Reply) → slice_get rs a ≡ Some (records.Ans i k reply n) → IsAsked (take a rs) i k
