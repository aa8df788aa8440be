-- The calls of the ends of a lane, on their values.
use Rattle.std.specs.Prelude.{◌≡◌, ◌<◌, ◌^◌, ℕ, Bool, true, false, nat_lt, ◌&&◌, if◌then◌else◌, List, [], ◌∷◌, ◌++◌, length, Option, Some, None, slice_get, remove, Result, Ok, Err}
use Rattle.std.specs.Option.{option_map}
use Rattle.dllp_core.specs.declared.packet.Dllp.{Dllp}
use Rattle.dllp_core.specs.declared.packet.Dllp.TheVariants.{Ack, Nak, Update}
use Rattle.tlp_core.specs.TlpView.{TlpView}
use Rattle.link_replay.specs.CargoView.{CargoView}
use Rattle.link_replay.specs.SenderView.{SenderView, fresh as fresh_sender, next_item, next_number, number_at, with_accepted, with_reserved, released, after_transmit, after_ack, after_nak, from_oldest, trained, is_outstanding}
use Rattle.link_replay.specs.declared.fault.AckFault.{AckFault}
use Rattle.link_replay.specs.declared.fault.AckFault.TheVariants.{NotOutstanding}
use Rattle.link_replay.specs.declared.receiver.Reception.{Reception}
use Rattle.link_replay.specs.declared.receiver.Reception.TheVariants.{Accept, Duplicate, NakNow, Quiet}
use Rattle.link_replay.specs.ReceiverView.{ReceiverView, fresh as fresh_receiver, reception_of, after_reception, acknowledgment_of, after_acknowledge}
use Rattle.flow_control.specs.declared.needs.Need.{Need}
use Rattle.flow_control.specs.declared.limits.LaneCredits.{LaneCredits}
use Rattle.flow_control.specs.declared.ledger.CreditLedger.{CreditLedger}
use Rattle.flow_control.specs.Needs.{need_of}
use Rattle.flow_control.specs.Credits.{CreditGateView, gate_covers, after_consume, after_received, after_freed, update_of, first_gate, first_ledger}
use Rattle.flow_control.specs.Account.{gate_told}
use Rattle.flow_control.specs.Queue.{Item}
use Rattle.lane_core.specs.declared.packet.WirePacket.{WirePacket}
use Rattle.lane_core.specs.declared.packet.Fate.{Fate}
use Rattle.lane_core.specs.declared.packet.Fate.TheVariants.{Good, Failed, Lost}
use Rattle.lane_core.specs.declared.packet.Arrival.{Arrival}
use Rattle.lane_core.specs.declared.packet.Arrival.TheVariants.{Answered, Gone}
use Rattle.lane_core.specs.declared.packet.DllpKind.{DllpKind}
use Rattle.lane_core.specs.declared.packet.DllpKind.TheVariants as kinds
use Rattle.lane_core.specs.declared.packet.DllpSeen.{DllpSeen}
use Rattle.lane_core.specs.declared.packet.DllpSeen.TheVariants as seen
use Rattle.lane_core.specs.Content.{cargo_of, item_spelled}

-- what the sender's end has: the unacknowledged packets, and the credits that it knows of
pub record SenderEndView : Type 0 where
  pub sending : SenderView
  pub gate : CreditGateView

-- what the receiver's end has: its numbers, the credits that it gave, and the accepted packets, oldest first
pub record ReceiverEndView : Type 0 where
  pub receiving : ReceiverView
  pub ledger : CreditLedger
  pub queue : List Item

-- the four ends of a lane; the wires have their oldest first
pub record LaneEndsView : Type 0 where
  pub sender : SenderEndView
  pub forward : List WirePacket
  pub back : List Dllp
  pub receiver : ReceiverEndView

abbrev pub all_but_first : {X : Type 0} → List X → List X
all_but_first [] = []
all_but_first (x ∷ xs) = xs

-- new ends

abbrev pub new_sender : LaneCredits → SenderEndView
new_sender credits = record { sending = fresh_sender; gate = first_gate credits }

abbrev pub new_receiver : LaneCredits → ReceiverEndView
new_receiver credits = record { receiving = fresh_receiver; ledger = first_ledger credits; queue = [] }

abbrev pub new_lane : LaneCredits → LaneEndsView
new_lane credits = record { sender = new_sender credits; forward = []; back = []; receiver = new_receiver credits }

-- ---- over the sender's end

-- the credits cover the need, and the window isn't full
abbrev pub may_enter : SenderEndView → Need → Bool
may_enter s need = gate_covers s.gate need && nat_lt (length s.sending.kept) 2047

-- a packet is taken as the last
abbrev pub entered : SenderEndView → TlpView → ℕ → SenderEndView
entered s t mark =
    record { sending = with_accepted s.sending (cargo_of t mark); gate = after_consume s.gate (need_of t) }

-- there is room in memory for the next packet
abbrev pub with_room : SenderEndView → SenderEndView
with_room s = record { sending = with_reserved s.sending; gate = s.gate }

-- no room is kept
abbrev pub without_room : SenderEndView → SenderEndView
without_room s = record { sending = released s.sending; gate = s.gate }

-- the replay timer expired
abbrev pub after_timer : SenderEndView → SenderEndView
after_timer s = record { sending = from_oldest s.sending; gate = s.gate }

-- the link was retrained
abbrev pub after_retraining : SenderEndView → SenderEndView
after_retraining s = record { sending = trained s.sending; gate = s.gate }

-- ---- transmit, over the sender's end and the forward wire

abbrev pub packets_sent : SenderView → Option CargoView → List WirePacket
packets_sent s None = []
packets_sent s (Some cargo) = record { number = number_at s s.place; cargo = cargo } ∷ []

abbrev pub transmitted : SenderEndView → Option ℕ
transmitted s = option_map (λ cargo. number_at s.sending s.sending.place) (next_item s.sending)

abbrev pub after_transmission : SenderEndView → SenderEndView
after_transmission s = record { sending = after_transmit s.sending; gate = s.gate }

abbrev pub wire_after_transmit : SenderEndView → List WirePacket → List WirePacket
wire_after_transmit s forward = forward ++ packets_sent s.sending (next_item s.sending)

-- ---- deliver, over the forward wire and the receiver's end

-- the receiver's answer to a packet of this number, or none where it is lost
abbrev pub arrival_of : ReceiverView → ℕ → Fate → Arrival
arrival_of r number Good = Answered (reception_of r number true)
arrival_of r number Failed = Answered (reception_of r number false)
arrival_of r number Lost = Gone

-- the packet that is taken under this answer
abbrev pub taken_under : Reception → CargoView → Option Item
taken_under Accept cargo = item_spelled cargo
taken_under Duplicate cargo = None
taken_under NakNow cargo = None
taken_under Quiet cargo = None

abbrev pub taken_on : Arrival → CargoView → Option Item
taken_on (Answered answer) cargo = taken_under answer cargo
taken_on Gone cargo = None

abbrev pub receiving_on : ReceiverView → Arrival → ReceiverView
receiving_on r (Answered answer) = after_reception r answer
receiving_on r Gone = r

abbrev pub ledger_with : CreditLedger → Option Item → CreditLedger
ledger_with ledger None = ledger
ledger_with ledger (Some item) = after_received ledger (need_of item.0)

abbrev pub queue_with : List Item → Option Item → List Item
queue_with queue None = queue
queue_with queue (Some item) = queue ++ item ∷ []

abbrev pub after_arrival : ReceiverEndView → CargoView → Arrival → ReceiverEndView
after_arrival r cargo arrival =
    record { receiving = receiving_on r.receiving arrival; ledger = ledger_with r.ledger (taken_on arrival cargo); queue = queue_with r.queue (taken_on arrival cargo) }

-- the oldest packet of the wire, if there is one
abbrev pub delivered : List WirePacket → ReceiverEndView → Fate → Option Arrival
delivered [] r fate = None
delivered (p ∷ ps) r fate = Some (arrival_of r.receiving p.number fate)

abbrev pub after_deliver : List WirePacket → ReceiverEndView → Fate → ReceiverEndView
after_deliver [] r fate = r
after_deliver (p ∷ ps) r fate = after_arrival r p.cargo (arrival_of r.receiving p.number fate)

-- ---- send_dllp, over the receiver's end and the back wire

abbrev pub dllp_of : ReceiverEndView → DllpKind → Dllp
dllp_of r kinds.Answer = acknowledgment_of r.receiving
dllp_of r (kinds.Update class) = update_of r.ledger class

abbrev pub receiving_after : ReceiverView → DllpKind → ReceiverView
receiving_after r kinds.Answer = after_acknowledge r
receiving_after r (kinds.Update class) = r

abbrev pub after_send : ReceiverEndView → DllpKind → ReceiverEndView
after_send r kind = record { receiving = receiving_after r.receiving kind; ledger = r.ledger; queue = r.queue }

abbrev pub wire_after_send : ReceiverEndView → DllpKind → List Dllp → List Dllp
wire_after_send r kind back = back ++ dllp_of r kind ∷ []

-- ---- deliver_dllp, over the back wire and the sender's end

-- an update is for the gate alone
abbrev pub sending_told : SenderView → Dllp → SenderView
sending_told s (Ack number) = after_ack s number
sending_told s (Nak number) = after_nak s number
sending_told s (Update class header units) = s

abbrev pub after_dllp : SenderEndView → Dllp → Fate → SenderEndView
after_dllp s d Good = record { sending = sending_told s.sending d; gate = gate_told s.gate d }
after_dllp s d Failed = s
after_dllp s d Lost = s

abbrev pub sender_after : List Dllp → SenderEndView → Fate → SenderEndView
sender_after [] s fate = s
sender_after (d ∷ ds) s fate = after_dllp s d fate

-- an Ack or Nak names an unacknowledged packet or the last acknowledged one
abbrev pub is_expected : SenderView → Dllp → Bool
is_expected s (Ack number) = is_outstanding s number
is_expected s (Nak number) = is_outstanding s number
is_expected s (Update class header units) = true

abbrev pub seen_by : Dllp → Bool → Fate → Result (Option DllpSeen) AckFault
seen_by d expected Good = if expected then Ok (Some (seen.Took d)) else Err NotOutstanding
seen_by d expected Failed = Ok (Some seen.Gone)
seen_by d expected Lost = Ok (Some seen.Gone)

-- the oldest DLLP of the wire, if there is one
abbrev pub dllp_seen : List Dllp → SenderEndView → Fate → Result (Option DllpSeen) AckFault
dllp_seen [] s fate = Ok None
dllp_seen (d ∷ ds) s fate = seen_by d (is_expected s.sending d) fate

-- ---- take, over the receiver's end

abbrev pub ledger_freed : CreditLedger → Option Item → CreditLedger
ledger_freed ledger None = ledger
ledger_freed ledger (Some item) = after_freed ledger (need_of item.0)

-- the packet of the place leaves the queue, and its credits are given back
abbrev pub after_take : ReceiverEndView → ℕ → ReceiverEndView
after_take r place =
    record { receiving = r.receiving; ledger = ledger_freed r.ledger (slice_get r.queue place); queue = remove r.queue place }

-- ---- all four

-- no accepted packet waits, and the receiver waits for the number that the sender gives next
abbrev pub IsStill : LaneEndsView → Type 0
IsStill e = (e.receiver.queue ≡ []) × (e.receiver.receiving.next ≡ next_number e.sender.sending)

-- fewer than 2 ^ 63 packets and as few DLLPs are under way
pub record IsShort (e : LaneEndsView) : Type 0 where
  pub packets : length e.forward < 2 ^ 63
  pub dllps : length e.back < 2 ^ 63
