-- The numbers of 32 bits that stand for what the calls of an endpoint behind its link return.
use Rattle.std.specs.Prelude.{ℕ, ⊤, ◌+◌, Bool, Result, Ok, Err}
use Rattle.port_core.specs.declared.fault.DllpRefusal.{DllpRefusal}
use Rattle.port_core.specs.Refusals.{dllp_number}
use Rattle.port_core.specs.declared.port.DllpReceived.{DllpReceived}
use Rattle.port_core.specs.declared.port.DllpReceived.TheVariants.{Took, Gone}
use Rattle.linked_endpoint.specs.declared.linked.Arrived.{Arrived}
use Rattle.linked_endpoint.specs.declared.linked.Arrived.TheVariants as arrivals
use Rattle.c_buffer.specs.declared.outcome.Failure.{Failure}
use Rattle.c_linked.specs.declared.setup.NewFailure.{NewFailure}
use Rattle.c_linked.specs.declared.setup.NewFailure.TheVariants as news
use Rattle.c_linked.specs.declared.calls.Sent.{Sent}
use Rattle.c_linked.specs.declared.timers.LinkStatus.{LinkStatus}
use Rattle.c_linked.specs.declared.timers.LinkStatus.TheVariants as statuses
use Rattle.pciex_c.specs.Codes.{failure_code, handled_code}

abbrev pub made_code : Result ⊤ NewFailure → ℕ
made_code (Ok _) = 0
made_code (Err news.WrongSize) = 2004
made_code (Err news.WrongCredits) = 2013
made_code (Err news.NoMemory) = 2003

-- what became of a packet, and of the TLP of one that was accepted
abbrev pub arrived_code : Arrived → ℕ
arrived_code (arrivals.Accepted h) = handled_code h
arrived_code arrivals.Overflow = 5
arrived_code arrivals.Duplicate = 6
arrived_code arrivals.NakNow = 7
arrived_code arrivals.Quiet = 8
arrived_code arrivals.Dropped = 9

abbrev pub arrived_of : Result Arrived Failure → ℕ
arrived_of (Ok a) = arrived_code a
arrived_of (Err f) = failure_code f

abbrev pub dllp_code : Result DllpReceived DllpRefusal → ℕ
dllp_code (Ok Took) = 0
dllp_code (Ok Gone) = 1
dllp_code (Err r) = 1000 + dllp_number r

-- the length of what is sent
abbrev pub sent_code : Result Sent Failure → ℕ
sent_code (Ok s) = s.length
sent_code (Err f) = failure_code f

-- whether it is a DLLP; with a failure the caller's flag stays
abbrev pub flag_after : Bool → Result Sent Failure → Bool
flag_after flag (Ok s) = s.is_dllp
flag_after flag (Err f) = flag

abbrev pub condition_code : LinkStatus → ℕ
condition_code statuses.Inactive = 0
condition_code statuses.Init1 = 1
condition_code statuses.Init2 = 2
condition_code statuses.Active = 3
condition_code statuses.Stopped = 4
