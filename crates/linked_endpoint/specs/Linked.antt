-- What each call does to a device and its end of a link.
use Rattle.std.specs.Prelude.{ℕ, suc, ◌≡◌, ◌⊎◌, ◌&&◌, Bool, true, false, nat_lt, if◌then◌else◌, List, [], ◌∷◌, ◌++◌, length, drop, sum_by, Option, Some, None, is_some, is_none}
use Rattle.tlp_core.specs.TlpView.{TlpView}
use Rattle.flow_control.specs.declared.needs.Need.{Need}
use Rattle.flow_control.specs.declared.limits.LaneCredits.{LaneCredits}
use Rattle.flow_control.specs.Needs.{need_of}
use Rattle.link_crc.specs.declared.check.Check.{Check}
use Rattle.port_core.specs.declared.fault.EnterRefusal.{EnterRefusal}
use Rattle.port_core.specs.declared.incoming.Received.{Received}
use Rattle.port_core.specs.declared.incoming.Received.TheVariants as arrivals
use Rattle.port_core.specs.Incoming.{tlp_in}
use Rattle.port_core.specs.Port as port
use Rattle.port_core.specs.Port.{PortView}
use Rattle.config_core.specs.SetupView.{SetupView}
use Rattle.endpoint_core.specs.declared.endpoint.Handled.{Handled}
use Rattle.endpoint_core.specs.declared.endpoint.Handled.TheVariants as handles
use Rattle.endpoint_core.specs.declared.waiting.Waiting.{Waiting}
use Rattle.endpoint_core.specs.declared.waiting.Waiting.TheVariants as waits
use Rattle.endpoint_core.specs.EndpointView.{EndpointView}
use Rattle.endpoint_core.specs.Steps as device
use Rattle.linked_endpoint.specs.declared.linked.Arrived.{Arrived}
use Rattle.linked_endpoint.specs.declared.linked.Arrived.TheVariants as answers
use Rattle.linked_endpoint.specs.LinkedView.{LinkedView}

abbrev pub new_linked : SetupView → LaneCredits → LinkedView
new_linked setup ours = record { port = port.new_port ours; endpoint = device.new_endpoint setup; needs = []; held = None }

abbrev pub with_port : LinkedView → PortView → LinkedView
with_port l p = record l { port = p }

-- the device is reset, and nothing waits
abbrev pub cleared : LinkedView → LinkedView
cleared l = record l { endpoint = device.after_reset_of l.endpoint; needs = []; held = None }

abbrev pub after_down : LinkedView → LinkedView
after_down l = cleared (with_port l (port.new_port l.port.ours))

abbrev pub after_up : LinkedView → LinkedView
after_up l = cleared (with_port l (port.risen l.port.ours))

-- ---- a packet arrives

abbrev pub freed : PortView → Option Need → PortView
freed p None = p
freed p (Some need) = port.after_free p need

abbrev pub is_waiting : Handled → Bool
is_waiting handles.Waits = true
is_waiting handles.Done = false
is_waiting handles.Ignored = false
is_waiting handles.Unsupported = false
is_waiting handles.Unexpected = false
is_waiting (handles.Malformed f) = false

-- the device takes the TLP; a request that waits has its credits, and all else gives them back at once
abbrev pub taken_if : Bool → LinkedView → PortView → Option Need → List ℕ → LinkedView
taken_if waits l p need tlp =
    record {
      port = if waits then p else freed p need;
      endpoint = device.taken l.endpoint tlp;
      needs = if waits then l.needs ++ need ∷ [] else l.needs;
      held = l.held;
    }

abbrev pub taken : LinkedView → PortView → Option Need → List ℕ → LinkedView
taken l p need tlp = taken_if (is_waiting (device.handled l.endpoint tlp)) l p need tlp

-- what a packet takes of the credits, if it is accepted
abbrev pub need_in : Received → Option Need
need_in (arrivals.Accepted need overflows) = need
need_in _ = None

-- accepted, and within its credits
abbrev pub is_taken : Received → Bool
is_taken (arrivals.Accepted need overflows) = if overflows then false else true
is_taken arrivals.Dropped = false
is_taken arrivals.Duplicate = false
is_taken arrivals.NakNow = false
is_taken arrivals.Quiet = false

abbrev pub discarded : Received → Arrived
discarded (arrivals.Accepted need overflows) = answers.Overflow
discarded arrivals.Dropped = answers.Dropped
discarded arrivals.Duplicate = answers.Duplicate
discarded arrivals.NakNow = answers.NakNow
discarded arrivals.Quiet = answers.Quiet

abbrev pub after_arrival : Received → LinkedView → PortView → List ℕ → LinkedView
after_arrival (arrivals.Accepted need overflows) l p tlp = if overflows then with_port l p else taken l p need tlp
after_arrival arrivals.Dropped l p tlp = with_port l p
after_arrival arrivals.Duplicate l p tlp = with_port l p
after_arrival arrivals.NakNow l p tlp = with_port l p
after_arrival arrivals.Quiet l p tlp = with_port l p

abbrev pub after_receive : LinkedView → List ℕ → Check → LinkedView
after_receive l packet check = after_arrival (port.received l.port packet check) l (port.after_receive l.port packet check) (tlp_in packet)

abbrev pub arrived : LinkedView → List ℕ → Check → Arrived
arrived l packet check =
    if is_taken (port.received l.port packet check) then answers.Accepted (device.handled l.endpoint (tlp_in packet))
    else discarded (port.received l.port packet check)

-- ---- a request acts

abbrev pub may_go : PortView → Option Need → Bool
may_go p None = false
may_go p (Some need) = is_none (port.refusal_of p need)

-- no completion is held, a request waits, and its next completion may enter
abbrev pub may_act : LinkedView → Bool
may_act l = is_none l.held && may_go l.port (device.next_need l.endpoint)

-- the credits of the oldest request go back
abbrev pub freed_front : PortView → List (Option Need) → PortView
freed_front p [] = p
freed_front p (need ∷ needs) = freed p need

abbrev pub given_back : LinkedView → LinkedView
given_back l = record l { port = freed_front l.port l.needs; needs = drop 1 l.needs }

-- it is the last completion of the request: fewer wait
abbrev pub is_last : EndpointView → Bool
is_last e = nat_lt (length (device.acted e).waiting) (length e.waiting)

abbrev pub acted : LinkedView → LinkedView
acted l =
    let now = record l { endpoint = device.acted l.endpoint; held = device.next_completion l.endpoint } in
    if is_last l.endpoint then given_back now else now

abbrev pub after_act : LinkedView → LinkedView
after_act l = if may_act l then acted l else l

-- at most so many turns are left of a request, in each of which it acts: a read acts by one DW at least
abbrev pub turns_of : Waiting → ℕ
turns_of (waits.Memory t) = suc t.length
turns_of (waits.Configuration r) = 1
turns_of (waits.Poisoned t) = 1
turns_of (waits.Refused d n) = 1

abbrev pub turns_left : LinkedView → ℕ
turns_left l = sum_by turns_of l.endpoint.waiting

-- ---- the completion that is held enters

abbrev pub refusal_for : PortView → Option TlpView → Option EnterRefusal
refusal_for p None = None
refusal_for p (Some t) = port.refusal_of p (need_of t)

abbrev pub refusal_of : LinkedView → Option EnterRefusal
refusal_of l = refusal_for l.port l.held

-- the completion that is held may enter
abbrev pub may_enter : LinkedView → Bool
may_enter l = is_some l.held && is_none (refusal_of l)

abbrev pub entered_with : LinkedView → Option TlpView → LinkedView
entered_with l None = l
entered_with l (Some t) = record l { port = port.after_enter l.port t; held = None }

abbrev pub entered : LinkedView → LinkedView
entered l = entered_with l l.held

abbrev pub with_held : LinkedView → Option TlpView → LinkedView
with_held l c = record l { held = c }

-- the completion that is held has entered, unless it was refused
abbrev pub IsHeldOrEntered : LinkedView → LinkedView → Type 0
IsHeldOrEntered l new = (new ≡ l) ⊎ ((refusal_of l ≡ None) × (new ≡ entered l))
