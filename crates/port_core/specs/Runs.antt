-- Lists of calls of a port, and what they did since the link came up last.
use Rattle.std.specs.Prelude.{ℕ, ◌≡◌, ◌+◌, ◌-◌, ◌%◌, ◌<◌, ◌≤◌, Bool, true, false, if◌then◌else◌, List, [], ◌∷◌, ◌++◌, length, fold, slice_index, slice_get, remove, sum_by, Option, Some, None, Result, Ok, Err}
use Rattle.dllp_core.specs.declared.packet.Class.{Class}
use Rattle.dllp_core.specs.declared.packet.Dllp.{Dllp}
use Rattle.dllp_core.specs.declared.packet.Dllp.TheVariants.{Ack, Nak, Update}
use Rattle.dllp_core.specs.declared.fault.DllpFault.{DllpFault}
use Rattle.tlp_core.specs.TlpView.{TlpView}
use Rattle.flow_control.specs.declared.needs.Need.{Need}
use Rattle.flow_control.specs.declared.limits.LaneCredits.{LaneCredits}
use Rattle.flow_control.specs.Limits.{least_units}
use Rattle.flow_control.specs.Needs.{need_of}
use Rattle.flow_control.specs.Credits.{same, gate_of, ledger_of}
use Rattle.link_crc.specs.declared.check.Check.{Check}
use Rattle.link_replay.specs.CargoView.{CargoView}
use Rattle.lane_core.specs.Content.{cargo_of, wire_bytes}
use Rattle.port_core.specs.declared.init.Advertised.{Advertised}
use Rattle.port_core.specs.declared.init.FirstCredits.{FirstCredits}
use Rattle.port_core.specs.declared.dllp.LinkDllp.{LinkDllp}
use Rattle.port_core.specs.declared.dllp.LinkDllp.TheVariants.{Init, Other}
use Rattle.port_core.specs.declared.fault.EnterRefusal.{EnterRefusal}
use Rattle.port_core.specs.declared.fault.DllpRefusal.{DllpRefusal}
use Rattle.port_core.specs.declared.incoming.Received.{Received}
use Rattle.port_core.specs.declared.incoming.Received.TheVariants as arrivals
use Rattle.port_core.specs.declared.port.DllpReceived.{DllpReceived}
use Rattle.port_core.specs.declared.port.DllpReceived.TheVariants.{Took, Gone}
use Rattle.port_core.specs.declared.port.Choice.{Choice}
use Rattle.port_core.specs.declared.port.Choice.TheVariants as choices
use Rattle.port_core.specs.Init.{nothing_advertised, advertised_with, credits_of, first_of}
use Rattle.port_core.specs.Dllps.{link_reading}
use Rattle.port_core.specs.Incoming.{number_in, tlp_in}
use Rattle.port_core.specs.Port.{PortView, new_port, risen, received, after_receive, dllp_answer, after_dllp_received, after_free, refusal_of, after_enter, greater, choice_of, after_packet_sent, after_next, refreshed, after_replay, after_retrained}

-- a call of a port; one that is refused for being out of memory changes nothing and is left out
pub data Call : Type 0 where
  Up : Call
  Down : Call
  -- the bytes of a packet, and its check
  Receive : List ℕ → Check → Call
  ReceiveDllp : List ℕ → Check → Call
  -- the owner gives back the credits of the packet at this place of those that hold some
  Free : ℕ → Call
  Enter : TlpView → Call
  Next : Call
  Refresh : Call
  Replay : Call
  Retrained : Call

-- the numbers are those of bytes
abbrev pub AreBytes : List ℕ → Type 0
AreBytes bytes = (k : ℕ) → slice_index bytes k < 256

-- what arrives is bytes, of any number and value
abbrev pub IsCall : Call → Type 0
IsCall (Receive packet check) = AreBytes packet
IsCall (ReceiveDllp bytes check) = AreBytes bytes
IsCall _ = Unit {0}

abbrev pub AreCalls : List Call → Type 0
AreCalls [] = Unit {0}
AreCalls (call ∷ calls) = IsCall call × AreCalls calls

-- a port, and what happened since its link came up last
pub record Story : Type 0 where
  pub port : PortView
  -- the packets that were handed up, their numbers and their TLPs, oldest first
  pub accepted : List (ℕ × List ℕ)
  -- what those of them take whose credits are not yet back
  pub held : List Need
  -- what those took whose credits are back: the owner gave them back, or the packet overflowed
  pub freed : List Need
  -- the packets that were entered, oldest first
  pub entered : List CargoView
  -- what those take of the peer's credits
  pub used : List Need
  -- the DLLPs that took effect, oldest first
  pub heard : List LinkDllp

-- nothing happened
abbrev pub story_of : PortView → Story
story_of p = record { port = p; accepted = []; held = []; freed = []; entered = []; used = []; heard = [] }

abbrev pub accepted_if : Received → List ℕ → List (ℕ × List ℕ)
accepted_if arrivals.Dropped packet = []
accepted_if (arrivals.Accepted need overflows) packet = (number_in packet, tlp_in packet) ∷ []
accepted_if arrivals.Duplicate packet = []
accepted_if arrivals.NakNow packet = []
accepted_if arrivals.Quiet packet = []

abbrev pub list_if : Bool → Need → List Need
list_if true need = need ∷ []
list_if false need = []

-- what an accepted packet takes, if it overflows, and if it doesn't
abbrev pub overflowing_in : Received → List Need
overflowing_in (arrivals.Accepted (Some need) overflows) = list_if overflows need
overflowing_in (arrivals.Accepted None overflows) = []
overflowing_in arrivals.Dropped = []
overflowing_in arrivals.Duplicate = []
overflowing_in arrivals.NakNow = []
overflowing_in arrivals.Quiet = []

abbrev pub list_unless : Bool → Need → List Need
list_unless true need = []
list_unless false need = need ∷ []

abbrev pub holding_in : Received → List Need
holding_in (arrivals.Accepted (Some need) overflows) = list_unless overflows need
holding_in (arrivals.Accepted None overflows) = []
holding_in arrivals.Dropped = []
holding_in arrivals.Duplicate = []
holding_in arrivals.NakNow = []
holding_in arrivals.Quiet = []

abbrev pub with_port : Story → PortView → Story
with_port s p = record s { port = p }

abbrev pub with_packet : Story → List ℕ → Check → Story
with_packet s packet check =
    record {
      port = after_receive s.port packet check;
      accepted = s.accepted ++ accepted_if (received s.port packet check) packet;
      held = s.held ++ holding_in (received s.port packet check);
      freed = s.freed ++ overflowing_in (received s.port packet check);
      entered = s.entered;
      used = s.used;
      heard = s.heard;
    }

abbrev pub without_held : Story → ℕ → Option Need → Story
without_held s place None = s
without_held s place (Some need) =
    record s { port = after_free s.port need; held = remove s.held place; freed = s.freed ++ need ∷ [] }

abbrev pub with_entered : Story → TlpView → Option EnterRefusal → Story
with_entered s t (Some refusal) = s
with_entered s t None =
    record s { port = after_enter s.port t; entered = s.entered ++ cargo_of t 0 ∷ []; used = s.used ++ need_of t ∷ [] }

-- the DLLP that these bytes spell, if it took effect
abbrev pub heard_if : Result DllpReceived DllpRefusal → Result LinkDllp DllpFault → List LinkDllp
heard_if (Ok Took) (Ok d) = d ∷ []
heard_if (Ok Took) (Err fault) = []
heard_if (Ok Gone) r = []
heard_if (Err refusal) r = []

abbrev pub with_dllp : Story → List ℕ → Check → Story
with_dllp s bytes check =
    record s { port = after_dllp_received s.port bytes check; heard = s.heard ++ heard_if (dllp_answer s.port bytes check) (link_reading bytes) }

abbrev pub after_call : Story → Call → Story
after_call s Up = story_of (risen s.port.ours)
after_call s Down = story_of (new_port s.port.ours)
after_call s (Receive packet check) = with_packet s packet check
after_call s (ReceiveDllp bytes check) = with_dllp s bytes check
after_call s (Free place) = without_held s place (slice_get s.held place)
after_call s (Enter t) = with_entered s t (refusal_of s.port (need_of t))
after_call s Next = with_port s (after_next s.port)
after_call s Refresh = with_port s (refreshed s.port)
after_call s Replay = with_port s (after_replay s.port)
after_call s Retrained = with_port s (after_retrained s.port)

abbrev pub after_calls : Story → List Call → Story
after_calls s [] = s
after_calls s (call ∷ calls) = after_calls (after_call s call) calls

-- a new port with these credits, and these calls
abbrev pub story_in : LaneCredits → List Call → Story
story_in ours calls = after_calls (story_of (new_port ours)) calls

-- ---- credits in whole numbers

-- what a need takes of the headers and of the data units of a class
abbrev pub header_of : Class → Need → ℕ
header_of class need = if same class need.class then need.header else 0

abbrev pub units_of : Class → Need → ℕ
units_of class need = if same class need.class then need.units else 0

abbrev pub headers_in : Class → List Need → ℕ
headers_in class needs = sum_by (header_of class) needs

abbrev pub units_in : Class → List Need → ℕ
units_in class needs = sum_by (units_of class) needs

-- CREDITS_ALLOCATED of a class: the first value and all that was freed
abbrev pub allocated_headers : Class → Story → ℕ
allocated_headers class s =
    let c = ledger_of class s.port.incoming.ledger in
    (c.header.first + c.header.freed) % 256

abbrev pub allocated_units : Class → Story → ℕ
allocated_units class s =
    let c = ledger_of class s.port.incoming.ledger in
    (c.units.first + c.units.freed) % 4096

-- ---- what is sent

-- one of the last 2047 packets that were entered, byte by byte, under its number: its place among all that were, modulo
-- 4096
pub record IsEntered (entered : List CargoView) (number : ℕ) (bytes : List ℕ) : Type 0 where
  pub place : ℕ
  pub cargo : CargoView
  pub is_there : slice_get entered place ≡ Some cargo
  pub number_is : number ≡ place % 4096
  pub is_late : length entered ≤ place + 2047
  pub bytes_are : bytes ≡ wire_bytes (record { number = number; cargo = cargo })

-- ---- what the peer said of its credits

-- the credits that InitFCs advertise: the first of each class counts
abbrev pub advertised_by : Advertised → LinkDllp → Advertised
advertised_by a (Init stage class first) = advertised_with a class first
advertised_by a (Other d) = a

abbrev pub advertised_in : List LinkDllp → Advertised
advertised_in dllps = fold advertised_by nothing_advertised dllps

-- CREDIT_LIMIT of a class: what the last UpdateFC says, or, without one, the first value
abbrev pub updated_by : Class → FirstCredits → Dllp → FirstCredits
updated_by class last (Update c header units) = if same class c then record { header = header; units = units } else last
updated_by class last (Ack number) = last
updated_by class last (Nak number) = last

abbrev pub limited_by : Class → FirstCredits → LinkDllp → FirstCredits
limited_by class last (Init stage c first) = last
limited_by class last (Other d) = updated_by class last d

abbrev pub first_from_peer : Class → Story → FirstCredits
first_from_peer class s = first_of (credits_of (advertised_in s.heard)) class

abbrev pub limit_from_peer : Class → Story → FirstCredits
limit_from_peer class s = fold (limited_by class) (first_from_peer class s) s.heard

-- a counter modulo m in whole numbers: all that was used lies within what is known to be given, of which no more than
-- `most` is unused
pub record IsCovered (most m limit consumed used : ℕ) : Type 0 where
  pub known : ℕ
  pub limit_is : limit ≡ known % m
  pub consumed_is : consumed ≡ used % m
  pub used_known : used ≤ known
  pub unused : known ≤ used + most

-- a counter of a gate, where a peer advertised `first`, and said `last` last; 0 is infinite
pub record IsAllowance (most m first last start limit consumed used : ℕ) : Type 0 where
  pub start_is : start ≡ first
  pub limit_is : 0 < first → limit ≡ last
  pub covered : 0 < first → IsCovered most m limit consumed used

abbrev pub CoversHeaders : Class → Story → Type 0
CoversHeaders class s =
    let c = gate_of class s.port.sender.gate in
    IsAllowance 127 256 (first_from_peer class s).header (limit_from_peer class s).header c.header.first c.header.limit c.header.consumed (headers_in class s.used)

abbrev pub CoversUnits : Class → Story → Type 0
CoversUnits class s =
    let c = gate_of class s.port.sender.gate in
    IsAllowance 2047 4096 (first_from_peer class s).units (limit_from_peer class s).units c.units.first c.units.limit c.units.consumed (units_in class s.used)

-- what is entered takes no more data units than a packet of its class can
abbrev pub IsOfFewUnits : Call → Type 0
IsOfFewUnits (Enter t) = (need_of t).units ≤ least_units (need_of t).class
IsOfFewUnits _ = Unit {0}

abbrev pub AreOfFewUnits : List Call → Type 0
AreOfFewUnits [] = Unit {0}
AreOfFewUnits (call ∷ calls) = IsOfFewUnits call × AreOfFewUnits calls

-- ---- what was given out

-- how many of the packets that were entered stand before the place of the sender
abbrev pub count_before : Story → ℕ → ℕ
count_before s place = length s.entered - length s.port.sender.sending.kept + place

-- how many of them were given out at least once, of which there were n before
abbrev pub given_by : Choice → Story → ℕ → ℕ
given_by choices.Nothing s n = n
given_by choices.Answer s n = n
given_by (choices.Init class) s n = n
given_by (choices.Update class) s n = n
given_by choices.Packet s n = greater n (count_before s (after_packet_sent s.port).sender.sending.place)

abbrev pub given_after : Story → ℕ → Call → ℕ
given_after s n Up = 0
given_after s n Down = 0
given_after s n Next = given_by (choice_of s.port) s n
given_after s n _ = n

abbrev pub given_calls : Story → ℕ → List Call → ℕ
given_calls s n [] = n
given_calls s n (call ∷ calls) = given_calls (after_call s call) (given_after s n call) calls

-- since the link came up last
abbrev pub given_in : LaneCredits → List Call → ℕ
given_in ours calls = given_calls (story_of (new_port ours)) 0 calls
