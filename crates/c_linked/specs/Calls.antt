-- The calls of an endpoint behind its link: what it and the caller's buffer hold after them, and what they return.
use Rattle.std.specs.Prelude.{◌≡◌, ℕ, Bool, true, false, nat_lt, if◌then◌else◌, List, [], ◌∷◌, length, Result, Ok, Err}
use Rattle.port_core.specs.declared.init.LinkState.{LinkState}
use Rattle.port_core.specs.declared.init.LinkState.TheVariants.{Inactive, Init1, Init2, Active}
use Rattle.port_core.specs.declared.port.Outgoing.{Outgoing}
use Rattle.port_core.specs.declared.port.Outgoing.TheVariants as sends
use Rattle.port_core.specs.Port.{PortView, outgoing_of, outgoing_bytes, after_next}
use Rattle.linked_endpoint.specs.LinkedView.{LinkedView}
use Rattle.linked_endpoint.specs.Linked.{with_port}
use Rattle.linked_endpoint.specs.Runs.{Call}
use Rattle.c_buffer.specs.declared.outcome.Failure.{Failure}
use Rattle.c_buffer.specs.declared.outcome.Failure.TheVariants.{SmallBuffer}
use Rattle.c_buffer.specs.Buffer.{filled}
use Rattle.c_linked.specs.SessionView.{SessionView, IsDone}
use Rattle.c_linked.specs.declared.calls.Sent.{Sent}
use Rattle.c_linked.specs.declared.timers.LinkStatus.{LinkStatus}
use Rattle.c_linked.specs.declared.timers.LinkStatus.TheVariants as statuses

-- the call is done, then requests act and completions enter; or with an error nothing has changed
abbrev pub IsAfter : {A B : Type 0} → Result A B → SessionView → Call → SessionView → Type 0
IsAfter (Ok answer) old call new = IsDone old (call ∷ []) new
IsAfter (Err failure) old call new = new ≡ old

pub record NextCall : Type 0 where
  pub outcome : Result Sent Failure
  pub linked : LinkedView
  pub buffer : List ℕ

abbrev pub is_dllp : Outgoing → Bool
is_dllp (sends.Dllp d) = true
is_dllp (sends.Packet number) = false
is_dllp sends.Nothing = false

abbrev pub sent : PortView → Sent
sent p = record { length = length (outgoing_bytes p); is_dllp = is_dllp (outgoing_of p) }

-- what the port sends stands in the buffer, unless the buffer is too small
abbrev pub next_call : LinkedView → List ℕ → NextCall
next_call l buffer =
    if nat_lt (length buffer) 146 then record { outcome = Err SmallBuffer; linked = l; buffer = buffer }
    else record { outcome = Ok (sent l.port); linked = with_port l (after_next l.port); buffer = filled buffer (outgoing_bytes l.port) }

abbrev pub status_in : LinkState → Bool → LinkStatus
status_in Inactive stopped = statuses.Inactive
status_in Init1 stopped = statuses.Init1
status_in Init2 stopped = statuses.Init2
status_in Active stopped = if stopped then statuses.Stopped else statuses.Active

-- the state of the link, and whether its sender waits to be retrained
abbrev pub condition_of : LinkedView → LinkStatus
condition_of l = status_in l.port.state l.port.sender.sending.stopped
