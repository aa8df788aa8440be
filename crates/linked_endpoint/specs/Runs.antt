-- Lists of calls of a device behind its end of a link, and what they did since the link came up last.
use Rattle.std.specs.Prelude.{◌≡◌, ℕ, ◌&&◌, Bool, if◌then◌else◌, List, [], ◌∷◌, ◌++◌, map, filter_map, flat_map, length, Option, Some, None}
use Rattle.tlp_core.specs.TlpView.{TlpView}
use Rattle.flow_control.specs.declared.needs.Need.{Need}
use Rattle.flow_control.specs.declared.limits.LaneCredits.{LaneCredits}
use Rattle.link_replay.specs.CargoView.{CargoView}
use Rattle.lane_core.specs.Content.{cargo_of}
use Rattle.link_crc.specs.declared.check.Check.{Check}
use Rattle.port_core.specs.declared.fault.EnterRefusal.{EnterRefusal}
use Rattle.port_core.specs.declared.incoming.Received.{Received}
use Rattle.port_core.specs.declared.incoming.Received.TheVariants as arrivals
use Rattle.port_core.specs.Incoming.{number_in, tlp_in}
use Rattle.port_core.specs.Port as port
use Rattle.port_core.specs.Runs as ports
use Rattle.port_core.specs.Runs.{AreBytes, Story, story_in}
use Rattle.config_core.specs.SetupView.{SetupView}
use Rattle.endpoint_core.specs.EndpointView.{EndpointView}
use Rattle.endpoint_core.specs.Steps as device
use Rattle.endpoint_core.specs.Runs as devices
use Rattle.linked_endpoint.specs.LinkedView.{LinkedView}
use Rattle.linked_endpoint.specs.Linked.{new_linked, with_port, after_down, after_up, is_waiting, is_taken, after_receive, may_act, is_last, after_act, refusal_of, entered}

-- a call; one that is refused for being out of memory changes nothing and is left out
pub data Call : Type 0 where
  Up : Call
  Down : Call
  -- the bytes of a packet, and its check
  Receive : List ℕ → Check → Call
  ReceiveDllp : List ℕ → Check → Call
  Act : Call
  Enter : Call
  Next : Call
  Refresh : Call
  Replay : Call
  Retrained : Call

-- what arrives is bytes, of any number and value
abbrev pub IsCall : Call → Type 0
IsCall (Receive packet check) = AreBytes packet
IsCall (ReceiveDllp bytes check) = AreBytes bytes
IsCall _ = Unit {0}

abbrev pub AreCalls : List Call → Type 0
AreCalls [] = Unit {0}
AreCalls (call ∷ calls) = IsCall call × AreCalls calls

abbrev pub entered_unless : Option EnterRefusal → LinkedView → LinkedView
entered_unless None l = entered l
entered_unless (Some refusal) l = l

abbrev pub after_call : LinkedView → Call → LinkedView
after_call l Up = after_up l
after_call l Down = after_down l
after_call l (Receive packet check) = after_receive l packet check
after_call l (ReceiveDllp bytes check) = with_port l (port.after_dllp_received l.port bytes check)
after_call l Act = after_act l
after_call l Enter = entered_unless (refusal_of l) l
after_call l Next = with_port l (port.after_next l.port)
after_call l Refresh = with_port l (port.refreshed l.port)
after_call l Replay = with_port l (port.after_replay l.port)
after_call l Retrained = with_port l (port.after_retrained l.port)

abbrev pub after_calls : LinkedView → List Call → LinkedView
after_calls l [] = l
after_calls l (call ∷ calls) = after_calls (after_call l call) calls

-- only requests act, and completions enter
abbrev pub IsTurn : Call → Type 0
IsTurn Act = Unit {0}
IsTurn Enter = Unit {0}
IsTurn _ = ⊥

abbrev pub AreTurns : List Call → Type 0
AreTurns [] = Unit {0}
AreTurns (call ∷ calls) = IsTurn call × AreTurns calls

-- requests that acted and completions that entered lead from one to the other
pub record GoesOn (old new : LinkedView) : Type 0 where
  pub turns : List Call
  pub are : AreTurns turns
  pub leads : after_calls old turns ≡ new

-- ---- the calls of the port and of the device that a call makes

-- the needs of requests that wait
abbrev pub somes : List (Option Need) → List Need
somes needs = filter_map (λ need. need) needs

-- what held credits at this place gives them back
abbrev pub frees : ℕ → Option Need → List ports.Call
frees place None = []
frees place (Some need) = ports.Free place ∷ []

-- a TLP that doesn't wait gives its credits back behind those that do
abbrev pub frees_last : LinkedView → Received → List ℕ → List ports.Call
frees_last l (arrivals.Accepted need overflows) tlp =
    if overflows then [] else (if is_waiting (device.handled l.endpoint tlp) then [] else frees (length (somes l.needs)) need)
frees_last l arrivals.Dropped tlp = []
frees_last l arrivals.Duplicate tlp = []
frees_last l arrivals.NakNow tlp = []
frees_last l arrivals.Quiet tlp = []

abbrev pub frees_first : List (Option Need) → List ports.Call
frees_first [] = []
frees_first (need ∷ needs) = frees 0 need

abbrev pub enters : Option TlpView → List ports.Call
enters None = []
enters (Some t) = ports.Enter t ∷ []

abbrev pub calls_of_port : LinkedView → Call → List ports.Call
calls_of_port l Up = ports.Up ∷ []
calls_of_port l Down = ports.Down ∷ []
calls_of_port l (Receive packet check) = ports.Receive packet check ∷ frees_last l (port.received l.port packet check) (tlp_in packet)
calls_of_port l (ReceiveDllp bytes check) = ports.ReceiveDllp bytes check ∷ []
calls_of_port l Act = if may_act l && is_last l.endpoint then frees_first l.needs else []
calls_of_port l Enter = enters l.held
calls_of_port l Next = ports.Next ∷ []
calls_of_port l Refresh = ports.Refresh ∷ []
calls_of_port l Replay = ports.Replay ∷ []
calls_of_port l Retrained = ports.Retrained ∷ []

-- ---- what happened

-- an accepted packet: its number, its TLP, and whether it needs more than was advertised
pub record AcceptedPacket : Type 0 where
  pub number : ℕ
  pub tlp : List ℕ
  pub overflows : Bool

pub record Run : Type 0 where
  pub linked : LinkedView
  -- the calls of the port, since it was new
  pub port_calls : List ports.Call
  -- the device when the link came up or went down last, after its reset, and its calls since
  pub start : EndpointView
  pub device_calls : List devices.Call
  -- the packets that were accepted since, oldest first
  pub accepted : List AcceptedPacket
  -- the completions of what acted since, oldest first
  pub completed : List TlpView

abbrev pub new_run : SetupView → LaneCredits → Run
new_run setup ours =
    record { linked = new_linked setup ours; port_calls = []; start = device.new_endpoint setup; device_calls = []; accepted = []; completed = [] }

abbrev pub accepted_in : Received → List ℕ → List AcceptedPacket
accepted_in (arrivals.Accepted need overflows) packet = record { number = number_in packet; tlp = tlp_in packet; overflows = overflows } ∷ []
accepted_in arrivals.Dropped packet = []
accepted_in arrivals.Duplicate packet = []
accepted_in arrivals.NakNow packet = []
accepted_in arrivals.Quiet packet = []

abbrev pub takes_if : Bool → List ℕ → List devices.Call
takes_if taken tlp = if taken then devices.Take tlp ∷ [] else []

abbrev pub list_of : Option TlpView → List TlpView
list_of None = []
list_of (Some t) = t ∷ []

-- the device's calls
abbrev pub calls_of_device : LinkedView → Call → List devices.Call
calls_of_device l (Receive packet check) = takes_if (is_taken (port.received l.port packet check)) (tlp_in packet)
calls_of_device l Act = if may_act l then devices.Act ∷ [] else []
calls_of_device l _ = []

abbrev pub accepted_by : LinkedView → Call → List AcceptedPacket
accepted_by l (Receive packet check) = accepted_in (port.received l.port packet check) packet
accepted_by l _ = []

abbrev pub completed_by : LinkedView → Call → List TlpView
completed_by l Act = if may_act l then list_of (device.next_completion l.endpoint) else []
completed_by l _ = []

-- the link begins anew, and the device is what it is after its reset
abbrev pub anew : Run → LinkedView → List ports.Call → Run
anew r l calls = record { linked = l; port_calls = r.port_calls ++ calls; start = l.endpoint; device_calls = []; accepted = []; completed = [] }

abbrev pub goes_on : Run → Call → Run
goes_on r call =
    record {
      linked = after_call r.linked call;
      port_calls = r.port_calls ++ calls_of_port r.linked call;
      start = r.start;
      device_calls = r.device_calls ++ calls_of_device r.linked call;
      accepted = r.accepted ++ accepted_by r.linked call;
      completed = r.completed ++ completed_by r.linked call;
    }

abbrev pub run_by : Run → Call → Run
run_by r Up = anew r (after_up r.linked) (ports.Up ∷ [])
run_by r Down = anew r (after_down r.linked) (ports.Down ∷ [])
run_by r call = goes_on r call

abbrev pub runs_by : Run → List Call → Run
runs_by r [] = r
runs_by r (call ∷ calls) = runs_by (run_by r call) calls

-- a new device and port, and these calls
abbrev pub run_in : SetupView → LaneCredits → List Call → Run
run_in setup ours calls = runs_by (new_run setup ours) calls

-- what the port did in a run
abbrev pub story : LaneCredits → Run → Story
story ours r = story_in ours r.port_calls

-- the TLPs of the packets that were accepted within their credits
abbrev pub tlp_within : AcceptedPacket → List (List ℕ)
tlp_within a = if a.overflows then [] else a.tlp ∷ []

abbrev pub tlps_within : List AcceptedPacket → List (List ℕ)
tlps_within accepted = flat_map tlp_within accepted

-- the TLPs that the device took
abbrev pub taken_by : devices.Call → List (List ℕ)
taken_by (devices.Take tlp) = tlp ∷ []
taken_by _ = []

abbrev pub taken_in : List devices.Call → List (List ℕ)
taken_in calls = flat_map taken_by calls

abbrev pub cargos_of : List TlpView → List CargoView
cargos_of ts = map (λ t. cargo_of t 0) ts
