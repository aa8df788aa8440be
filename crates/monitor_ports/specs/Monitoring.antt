-- A monitor: what it knows, and what each call records and changes.
use Rattle.std.specs.Prelude.{ℕ, ⊤, ◌≡◌, ◌+◌, ◌==◌, ◌&&◌, nat_le, Bool, true, false, if◌then◌else◌, List, [], ◌∷◌, ◌++◌, length, replicate, slice_set, slice_get, get_or, remove, position, sum_by, is_some, Option, Some, None, Result, Ok, Err}
use Rattle.tlp_core.specs.Limits.{most_requesters}
use Rattle.tlp_core.specs.Ops.{Op}
use Rattle.tlp_core.specs.declared.fault.TlpFault.{TlpFault}
use Rattle.tlp_core.specs.TlpView.{TlpView}
use Rattle.tlp_core.specs.Operation.{op_of, is_completion}
use Rattle.tlp_core.specs.Faults.{reading}
use Rattle.seq_memory.specs.Entries.{Entry}
use Rattle.seq_memory.specs.Entries.{Reply}
use Rattle.history_words.specs.Records.{Record}
use Rattle.history_words.specs.declared.record.RecordOf.TheVariants as records
use Rattle.history_words.specs.Trace.{is_request}
use Rattle.monitor_ports.specs.declared.watched.Watched.{Watched}
use Rattle.monitor_ports.specs.declared.fault.MonitorFault.{MonitorFault}
use Rattle.monitor_ports.specs.declared.fault.MonitorFault.TheVariants as faults
use Rattle.monitor_ports.specs.Watched.{fresh, open_at, open_count, request_fault, after_request, answered, closed}

-- a monitor as contracts see it
pub record Monitor : Type 0 where
  -- of a trace, or else of a log
  pub is_trace : Bool
  -- how many requests have acted
  pub acted : ℕ
  -- by requester, 1 to 7; the watched of 0 isn't used
  pub requesters : List Watched
  -- in a trace the requests that haven't acted, oldest first
  pub waiting : List Entry

abbrev pub IsMonitor : Monitor → Type 0
IsMonitor m = length m.requesters ≡ most_requesters + 1

-- a monitor that has seen nothing
abbrev pub new : Bool → Monitor
new is_trace = record { is_trace = is_trace; acted = 0; requesters = replicate (most_requesters + 1) fresh; waiting = [] }

abbrev pub watched : Monitor → ℕ → Watched
watched m i = get_or m.requesters i fresh

-- how many requests wait for their completions
abbrev pub open_requests : Monitor → ℕ
open_requests m = sum_by open_count m.requesters

-- ---- what comes of a call: a record or an entry, or a fault, and the monitor after it

pub record Outcome (X : Type 0) : Type 0 where
  pub answer : Result X MonitorFault
  pub monitor : Monitor

-- a refused call changes nothing
abbrev pub refused : {X : Type 0} → Monitor → MonitorFault → Outcome X
refused m f = record { answer = Err f; monitor = m }

-- ---- the packet of a call

-- requesters are 1 to 7
abbrev pub is_requester : ℕ → Bool
is_requester i = nat_le 1 i && nat_le i most_requesters

abbrev pub packet_by : Result TlpView TlpFault → Result TlpView MonitorFault
packet_by (Ok t) = Ok t
packet_by (Err f) = Err (faults.Packet f)

-- the packet that the bytes spell
abbrev pub packet_from : ℕ → List ℕ → Result TlpView MonitorFault
packet_from i bytes = if is_requester i then packet_by (reading bytes) else Err faults.NoRequester

-- ---- requests

-- in a trace, the request waits to act
abbrev pub with_waiting : Monitor → ℕ → ℕ → Op → Monitor
with_waiting m i number op = record {
  is_trace = m.is_trace;
  acted = m.acted;
  requesters = m.requesters;
  waiting = if m.is_trace then m.waiting ++ record { requester = i; number = number; op = op } ∷ [] else m.waiting;
}

abbrev pub with_requester : Monitor → ℕ → Watched → Monitor
with_requester m i s = record { is_trace = m.is_trace; acted = m.acted; requesters = slice_set m.requesters i s; waiting = m.waiting }

abbrev pub opening_by : Monitor → ℕ → TlpView → Op → Option MonitorFault → Outcome Record
opening_by m i t op (Some f) = refused m f
opening_by m i t op None = record {
  answer = Ok (records.Sub i (watched m i).next op m.acted);
  monitor = with_requester (with_waiting m i (watched m i).next op) i (after_request (watched m i) t);
}

-- a request that asks for the operation, under the requester's next number
abbrev pub opening : Monitor → ℕ → TlpView → Op → Outcome Record
opening m i t op = opening_by m i t op (request_fault (watched m i) t)

abbrev pub asking : Monitor → ℕ → TlpView → Option Op → Outcome Record
asking m i t None = refused m faults.NoRequest
asking m i t (Some op) = opening m i t op

abbrev pub request_by : Monitor → ℕ → Result TlpView MonitorFault → Outcome Record
request_by m i (Err f) = refused m f
request_by m i (Ok t) = asking m i t (op_of t)

-- a port carried a request
abbrev pub request : Monitor → ℕ → List ℕ → Outcome Record
request m i bytes = request_by m i (packet_from i bytes)

-- ---- completions

abbrev pub completing_by : Monitor → ℕ → ℕ → Result (ℕ × Reply) MonitorFault → Outcome Record
completing_by m i tag (Err f) = refused m f
completing_by m i tag (Ok a) = record {
  answer = Ok (records.Ans i a.0 a.1 m.acted);
  monitor = with_requester m i (closed (watched m i) tag);
}

-- the completion answers the request that is open under its tag
abbrev pub completing : Monitor → ℕ → TlpView → Outcome Record
completing m i t = completing_by m i t.tag (answered (watched m i) t)

abbrev pub completion_by : Monitor → ℕ → Result TlpView MonitorFault → Outcome Record
completion_by m i (Err f) = refused m f
completion_by m i (Ok t) = if is_completion t.kind then completing m i t else refused m faults.NoCompletion

-- a port carried a completion
abbrev pub completion : Monitor → ℕ → List ℕ → Outcome Record
completion m i bytes = completion_by m i (packet_from i bytes)

-- ---- tags that are given up

-- the request that is open under the tag gets no answer, and the tag is free
abbrev pub giving_up : Monitor → ℕ → ℕ → Outcome ⊤
giving_up m i tag =
    if is_some (open_at (watched m i) tag) then record { answer = Ok tt; monitor = with_requester m i (closed (watched m i) tag) }
    else refused m faults.Unexpected

-- a requester's completion under a tag is waited for no longer
abbrev pub given_up : Monitor → ℕ → ℕ → Outcome ⊤
given_up m i tag = if is_requester i then giving_up m i tag else refused m faults.NoRequester

-- ---- requests that act

abbrev pub acting_by : Monitor → ℕ → Option Entry → Outcome Entry
acting_by m place None = refused m faults.Unexpected
acting_by m place (Some e) =
    if m.acted == 18446744073709551615 then refused m faults.NumbersUsed
    else record {
      answer = Ok e;
      monitor = record { is_trace = m.is_trace; acted = m.acted + 1; requesters = m.requesters; waiting = remove m.waiting place };
    }

abbrev pub acting : Monitor → Option ℕ → Outcome Entry
acting m None = refused m faults.Unexpected
acting m (Some place) = acting_by m place (slice_get m.waiting place)

-- a request that waits to act acts
abbrev pub acted : Monitor → ℕ → ℕ → Outcome Entry
acted m i number =
    if is_requester i then acting m (position (is_request i number) m.waiting)
    else refused m faults.NoRequester
