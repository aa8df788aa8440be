-- One end of a link, and its calls.
use Rattle.std.specs.Prelude.{ℕ, ◌-◌, ◌||◌, Bool, true, false, not, nat_le, is_some, if◌then◌else◌, List, [], Option, Some, None, Result, Ok, Err}
use Rattle.dllp_core.specs.declared.packet.Class.{Class}
use Rattle.dllp_core.specs.declared.packet.Class.TheVariants.{Posted, NonPosted, Completion}
use Rattle.dllp_core.specs.declared.packet.Dllp.{Dllp}
use Rattle.dllp_core.specs.declared.packet.Dllp.TheVariants.{Ack, Nak, Update}
use Rattle.dllp_core.specs.declared.fault.DllpFault.{DllpFault}
use Rattle.dllp_core.specs.declared.fault.DllpFault.TheVariants as faults
use Rattle.tlp_core.specs.TlpView.{TlpView}
use Rattle.seq12.specs.Numbers.{distance_of}
use Rattle.flow_control.specs.declared.needs.Need.{Need}
use Rattle.flow_control.specs.declared.limits.LaneCredits.{LaneCredits}
use Rattle.flow_control.specs.Credits.{after_freed, update_of}
use Rattle.link_crc.specs.declared.check.Check.{Check}
use Rattle.link_crc.specs.Checks.{passed}
use Rattle.link_replay.specs.ReceiverView.{acknowledgment_of}
use Rattle.link_replay.specs.SenderView.{next_item}
use Rattle.lane_core.specs.declared.packet.Fate.TheVariants.{Good}
use Rattle.lane_core.specs.Steps.{SenderEndView, entered, after_timer, after_retraining, after_transmission, after_dllp}
use Rattle.port_core.specs.declared.init.LinkState.{LinkState}
use Rattle.port_core.specs.declared.init.LinkState.TheVariants.{Inactive, Init1, Init2, Active}
use Rattle.port_core.specs.declared.init.Advertised.{Advertised}
use Rattle.port_core.specs.declared.init.FirstCredits.{FirstCredits}
use Rattle.port_core.specs.declared.due.Due.{Due}
use Rattle.port_core.specs.declared.dllp.InitStage.{InitStage}
use Rattle.port_core.specs.declared.dllp.InitStage.TheVariants.{First, Second}
use Rattle.port_core.specs.declared.dllp.LinkDllp.{LinkDllp}
use Rattle.port_core.specs.declared.dllp.LinkDllp.TheVariants.{Init, Other}
use Rattle.port_core.specs.declared.fault.EnterRefusal.{EnterRefusal}
use Rattle.port_core.specs.declared.fault.EnterRefusal.TheVariants.{NotActive}
use Rattle.port_core.specs.declared.fault.DllpRefusal.{DllpRefusal}
use Rattle.port_core.specs.declared.fault.DllpRefusal.TheVariants as wrong
use Rattle.port_core.specs.declared.incoming.Received.{Received}
use Rattle.port_core.specs.declared.incoming.Received.TheVariants as arrivals
use Rattle.port_core.specs.declared.port.DllpReceived.{DllpReceived}
use Rattle.port_core.specs.declared.port.DllpReceived.TheVariants.{Took, Gone}
use Rattle.port_core.specs.declared.port.Outgoing.{Outgoing}
use Rattle.port_core.specs.declared.port.Outgoing.TheVariants as sends
use Rattle.port_core.specs.declared.port.Choice.{Choice}
use Rattle.port_core.specs.declared.port.Choice.TheVariants as choices
use Rattle.port_core.specs.Init.{nothing_advertised, advertised_with, fi1, is_allowed, credits_of, first_of, is_up, activated}
use Rattle.port_core.specs.Dues.{with_flag, first_flag, nothing_due, due_all_init, due_ack, due_freed, due_received}
use Rattle.port_core.specs.Dllps.{link_reading, link_bytes}
use Rattle.port_core.specs.declared.port.Judged.{Judged}
use Rattle.port_core.specs.Incoming as incoming
use Rattle.port_core.specs.Incoming.{IncomingView}
use Rattle.port_core.specs.Outgoing as outgoing

pub record PortView : Type 0 where
  -- the credits that the port advertises
  pub ours : LaneCredits
  pub state : LinkState
  -- what the peer advertised
  pub peer : Advertised
  pub sender : SenderEndView
  -- how many of the unacknowledged packets were given out at least once, the oldest ones
  pub given : ℕ
  pub incoming : IncomingView
  pub due : Due

-- a port in DL_Inactive
abbrev pub new_port : LaneCredits → PortView
new_port ours =
    record { ours = ours; state = Inactive; peer = nothing_advertised; sender = outgoing.new_outgoing; given = 0; incoming = incoming.new_incoming ours; due = nothing_due }

-- LinkUp: initialization begins, with new counters
abbrev pub risen : LaneCredits → PortView
risen ours = record (new_port ours) { state = Init1; due = due_all_init nothing_due }

-- ---- packets that arrive

abbrev pub received : PortView → List ℕ → Check → Received
received p packet check = if is_up p.state then incoming.received_on p.incoming packet check else arrivals.Dropped

-- a good packet sets Flag FI2
abbrev pub state_after : LinkState → Bool → LinkState
state_after state good = if good then activated state else state

abbrev pub after_receive : PortView → List ℕ → Check → PortView
after_receive p packet check =
    if is_up p.state then
    record {
      ours = p.ours;
      state = state_after p.state (incoming.is_good packet check);
      peer = p.peer;
      sender = p.sender;
      given = p.given;
      incoming = incoming.after_packet p.incoming packet check;
      due = due_received p.ours p.due (incoming.received_on p.incoming packet check);
    }
    else p

-- a packet arrives that was judged
abbrev pub noted : PortView → Judged → PortView
noted p judged =
    record {
      ours = p.ours;
      state = judged.state;
      peer = p.peer;
      sender = p.sender;
      given = p.given;
      incoming = judged.incoming;
      due = due_received p.ours p.due judged.received;
    }

-- the owner gives credits back
abbrev pub after_free : PortView → Need → PortView
after_free p need =
    record p { incoming = record { receiving = p.incoming.receiving; ledger = after_freed p.incoming.ledger need }; due = due_freed p.ours p.due need.class }

-- ---- DLLPs that arrive

-- the first credits of a class are recorded; with the last of them, Flag FI1, FC_INIT2 begins
abbrev pub recorded_as : PortView → Advertised → PortView
recorded_as p peer =
    if fi1 peer then record p { state = Init2; peer = peer; sender = outgoing.begun p.sender (credits_of peer); due = due_all_init p.due }
    else record p { peer = peer }

abbrev pub recorded : PortView → Class → FirstCredits → PortView
recorded p class first = recorded_as p (advertised_with p.peer class first)

-- an InitFC: counts in FC_INIT1; in FC_INIT2 an InitFC2 sets Flag FI2
abbrev pub init_answer : LinkState → InitStage → FirstCredits → Result DllpReceived DllpRefusal
init_answer Inactive stage first = Ok Gone
init_answer Init1 stage first = if is_allowed first then Ok Took else Err wrong.CreditLimit
init_answer Init2 First first = Ok Gone
init_answer Init2 Second first = Ok Took
init_answer Active stage first = Ok Gone

abbrev pub after_init_in : LinkState → PortView → InitStage → Class → FirstCredits → PortView
after_init_in Inactive p stage class first = p
after_init_in Init1 p stage class first = if is_allowed first then recorded p class first else p
after_init_in Init2 p First class first = p
after_init_in Init2 p Second class first = record p { state = Active }
after_init_in Active p stage class first = p

abbrev pub after_init : PortView → InitStage → Class → FirstCredits → PortView
after_init p stage class first = after_init_in p.state p stage class first

-- how many unacknowledged packets an Ack or Nak of this number acknowledges
abbrev pub count_to : PortView → ℕ → ℕ
count_to p number = distance_of number p.sender.sending.acked

-- it is ACKD_SEQ, or the number of an unacknowledged packet that was given out
abbrev pub is_given : PortView → ℕ → Bool
is_given p number = nat_le (count_to p number) p.given

-- an Ack or Nak
abbrev pub ack_answer : PortView → ℕ → Result DllpReceived DllpRefusal
ack_answer p number = if is_given p number then Ok Took else Err wrong.NotOutstanding

abbrev pub after_ack : PortView → ℕ → Bool → PortView
after_ack p number is_nak =
    if is_given p number then record p { sender = after_dllp p.sender (outgoing.ack_or_nak number is_nak) Good; given = p.given - count_to p number } else p

-- an UpdateFC: it sets Flag FI2
abbrev pub update_answer : PortView → Class → ℕ → ℕ → Result DllpReceived DllpRefusal
update_answer p class header units = if outgoing.may_learn p.sender.gate class header units then Ok Took else Err wrong.CreditLimit

abbrev pub after_update : PortView → Class → ℕ → ℕ → PortView
after_update p class header units =
    if outgoing.may_learn p.sender.gate class header units then record p { state = activated p.state; sender = after_dllp p.sender (Update class header units) Good } else p

abbrev pub up_answer : PortView → Dllp → Result DllpReceived DllpRefusal
up_answer p (Ack number) = ack_answer p number
up_answer p (Nak number) = ack_answer p number
up_answer p (Update class header units) = update_answer p class header units

abbrev pub after_up : PortView → Dllp → PortView
after_up p (Ack number) = after_ack p number false
after_up p (Nak number) = after_ack p number true
after_up p (Update class header units) = after_update p class header units

-- a DLLP that is no InitFC counts in DL_Up
abbrev pub other_answer : PortView → Dllp → Result DllpReceived DllpRefusal
other_answer p d = if is_up p.state then up_answer p d else Ok Gone

abbrev pub after_other : PortView → Dllp → PortView
after_other p d = if is_up p.state then after_up p d else p

-- bytes that aren't read: a DLLP of another type is dropped silently (section 3.5.1)
abbrev pub unread_answer : DllpFault → Result DllpReceived DllpRefusal
unread_answer faults.Short = Err (wrong.Bytes faults.Short)
unread_answer faults.Kind = Ok Gone
unread_answer faults.Scaled = Err (wrong.Bytes faults.Scaled)

abbrev pub read_answer : PortView → Result LinkDllp DllpFault → Result DllpReceived DllpRefusal
read_answer p (Ok (Init stage class first)) = init_answer p.state stage first
read_answer p (Ok (Other d)) = other_answer p d
read_answer p (Err fault) = unread_answer fault

abbrev pub after_read : PortView → Result LinkDllp DllpFault → PortView
after_read p (Ok (Init stage class first)) = after_init p stage class first
after_read p (Ok (Other d)) = after_other p d
after_read p (Err fault) = p

abbrev pub is_inactive : LinkState → Bool
is_inactive Inactive = true
is_inactive Init1 = false
is_inactive Init2 = false
is_inactive Active = false

abbrev pub dllp_answer : PortView → List ℕ → Check → Result DllpReceived DllpRefusal
dllp_answer p bytes check = if not (passed check) || is_inactive p.state then Ok Gone else read_answer p (link_reading bytes)

abbrev pub after_dllp_received : PortView → List ℕ → Check → PortView
after_dllp_received p bytes check = if not (passed check) || is_inactive p.state then p else after_read p (link_reading bytes)

-- ---- packets to send

abbrev pub refusal_in : LinkState → SenderEndView → Need → Option EnterRefusal
refusal_in Active s need = outgoing.refusal_on s need
refusal_in Inactive s need = Some NotActive
refusal_in Init1 s need = Some NotActive
refusal_in Init2 s need = Some NotActive

-- the first refusal, if memory can be allocated
abbrev pub refusal_of : PortView → Need → Option EnterRefusal
refusal_of p need = refusal_in p.state p.sender need

abbrev pub after_enter : PortView → TlpView → PortView
after_enter p t = record p { sender = entered p.sender t 0 }

-- ---- what is sent: the Nak that is due or the Ack, InitFCs, UpdateFCs, a packet

abbrev pub or_else : (Class → Choice) → Option Class → Choice → Choice
or_else choose (Some class) other = choose class
or_else choose None other = other

abbrev pub answer_or : PortView → Choice → Choice
answer_or p other = if p.due.ack || incoming.nak_is_due p.incoming.receiving.nak then choices.Answer else other

abbrev pub init_or : PortView → Choice → Choice
init_or p other = or_else choices.Init (first_flag p.due.init) other

abbrev pub update_or : PortView → Choice → Choice
update_or p other = or_else choices.Update (first_flag p.due.update) other

abbrev pub packet_or_nothing : PortView → Choice
packet_or_nothing p = if is_some (next_item p.sender.sending) then choices.Packet else choices.Nothing

abbrev pub choice_in : LinkState → PortView → Choice
choice_in Inactive p = choices.Nothing
choice_in Init1 p = init_or p choices.Nothing
choice_in Init2 p = answer_or p (init_or p choices.Nothing)
choice_in Active p = answer_or p (init_or p (update_or p (packet_or_nothing p)))

abbrev pub choice_of : PortView → Choice
choice_of p = choice_in p.state p

abbrev pub answer_of : PortView → Dllp
answer_of p = acknowledgment_of p.incoming.receiving

-- InitFC1 in FC_INIT1, InitFC2 afterwards
abbrev pub stage_in : LinkState → InitStage
stage_in Inactive = First
stage_in Init1 = First
stage_in Init2 = Second
stage_in Active = Second

abbrev pub init_dllp : PortView → Class → LinkDllp
init_dllp p class = Init (stage_in p.state) class (first_of p.ours class)

abbrev pub update_dllp : PortView → Class → Dllp
update_dllp p class = update_of p.incoming.ledger class

abbrev pub outgoing_number : Option ℕ → Outgoing
outgoing_number None = sends.Nothing
outgoing_number (Some number) = sends.Packet number

abbrev pub packet_outgoing : PortView → Outgoing
packet_outgoing p = outgoing_number (outgoing.transmitted p.sender)

abbrev pub packet_bytes : PortView → List ℕ
packet_bytes p = outgoing.packet_bytes p.sender

-- the Nak or Ack was sent: neither is due
abbrev pub after_answer : PortView → PortView
after_answer p = record p { incoming = incoming.after_answer p.incoming; due = record { ack = false; init = p.due.init; update = p.due.update } }

abbrev pub after_init_sent : PortView → Class → PortView
after_init_sent p class = record p { due = record { ack = p.due.ack; init = with_flag p.due.init class false; update = p.due.update } }

abbrev pub after_update_sent : PortView → Class → PortView
after_update_sent p class = record p { due = record { ack = p.due.ack; init = p.due.init; update = with_flag p.due.update class false } }

-- the packet was given out, perhaps for the first time
abbrev pub greater : ℕ → ℕ → ℕ
greater m n = if nat_le m n then n else m

abbrev pub after_packet_sent : PortView → PortView
after_packet_sent p = record p { sender = after_transmission p.sender; given = greater p.given (after_transmission p.sender).sending.place }

abbrev pub outgoing_by : PortView → Choice → Outgoing
outgoing_by p choices.Nothing = sends.Nothing
outgoing_by p choices.Answer = sends.Dllp (Other (answer_of p))
outgoing_by p (choices.Init class) = sends.Dllp (init_dllp p class)
outgoing_by p (choices.Update class) = sends.Dllp (Other (update_dllp p class))
outgoing_by p choices.Packet = packet_outgoing p

abbrev pub bytes_by : PortView → Choice → List ℕ
bytes_by p choices.Nothing = []
bytes_by p choices.Answer = link_bytes (Other (answer_of p))
bytes_by p (choices.Init class) = link_bytes (init_dllp p class)
bytes_by p (choices.Update class) = link_bytes (Other (update_dllp p class))
bytes_by p choices.Packet = packet_bytes p

abbrev pub after_choice : PortView → Choice → PortView
after_choice p choices.Nothing = p
after_choice p choices.Answer = after_answer p
after_choice p (choices.Init class) = after_init_sent p class
after_choice p (choices.Update class) = after_update_sent p class
after_choice p choices.Packet = after_packet_sent p

abbrev pub outgoing_of : PortView → Outgoing
outgoing_of p = outgoing_by p (choice_of p)

abbrev pub outgoing_bytes : PortView → List ℕ
outgoing_bytes p = bytes_by p (choice_of p)

abbrev pub after_next : PortView → PortView
after_next p = after_choice p (choice_of p)

-- ---- timers

-- the timer for InitFCs during initialization; then that for Acks and UpdateFCs
abbrev pub refreshed_in : LinkState → PortView → PortView
refreshed_in Inactive p = p
refreshed_in Init1 p = record p { due = due_all_init p.due }
refreshed_in Init2 p = record p { due = due_all_init p.due }
refreshed_in Active p = record p { due = due_freed p.ours (due_freed p.ours (due_freed p.ours (due_ack p.due) Posted) NonPosted) Completion }

abbrev pub refreshed : PortView → PortView
refreshed p = refreshed_in p.state p

abbrev pub after_replay : PortView → PortView
after_replay p = record p { sender = after_timer p.sender }

abbrev pub after_retrained : PortView → PortView
after_retrained p = record p { sender = after_retraining p.sender }
