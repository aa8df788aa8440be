-- The receiving end of a port.
use Rattle.std.specs.Prelude.{ℕ, ◌+◌, ◌-◌, ◌*◌, ◌/◌, ◌%◌, ◌==◌, ◌&&◌, ◌||◌, Bool, true, false, not, nat_le, nat_lt, if◌then◌else◌, List, length, drop, slice_index, Option, Some, None}
use Rattle.flow_control.specs.declared.needs.Need.{Need}
use Rattle.flow_control.specs.declared.limits.LaneCredits.{LaneCredits}
use Rattle.flow_control.specs.declared.ledger.CreditLedger.{CreditLedger}
use Rattle.flow_control.specs.Credits.{first_ledger, after_received, after_freed, ledger_of}
use Rattle.link_crc.specs.declared.check.Check.{Check}
use Rattle.link_crc.specs.Checks.{passed}
use Rattle.link_replay.specs.declared.receiver.NakScheduled.{NakScheduled}
use Rattle.link_replay.specs.declared.receiver.NakScheduled.TheVariants as naks
use Rattle.link_replay.specs.declared.receiver.Reception.{Reception}
use Rattle.link_replay.specs.declared.receiver.Reception.TheVariants as receptions
use Rattle.link_replay.specs.ReceiverView.{ReceiverView, fresh, reception_of, after_receive, after_acknowledge}
use Rattle.port_core.specs.declared.incoming.Received.{Received}
use Rattle.port_core.specs.declared.incoming.Received.TheVariants.{Accepted, Duplicate, NakNow, Quiet}
use Rattle.port_core.specs.Needs.{need_at}

-- NEXT_RCV_SEQ and NAK_SCHEDULED, and the credits that were given
pub record IncomingView : Type 0 where
  pub receiving : ReceiverView
  pub ledger : CreditLedger

abbrev pub new_incoming : LaneCredits → IncomingView
new_incoming credits = record { receiving = fresh; ledger = first_ledger credits }

-- ---- Receiver Overflow (section 2.6.1.2)

-- of a counter modulo m: finite, and (CREDITS_ALLOCATED - CREDITS_RECEIVED) mod m is at least half of m
abbrev pub is_over : ℕ → ℕ → ℕ → ℕ → Bool
is_over m first freed received =
    not (first == 0) && nat_le (m / 2) (((first + freed) % m + m - received % m) % m)

-- more than was given, if a packet of this need came
abbrev pub would_overflow : CreditLedger → Need → Bool
would_overflow l need =
    let c = ledger_of need.class (after_received l need) in
    is_over 256 c.header.first c.header.freed c.header.received || is_over 4096 c.units.first c.units.freed c.units.received

abbrev pub overflow_of : CreditLedger → Option Need → Bool
overflow_of l None = false
overflow_of l (Some need) = would_overflow l need

-- the ledger after an accepted packet: one that overflows is counted, and given back at once
abbrev pub counted : CreditLedger → Option Need → CreditLedger
counted l None = l
counted l (Some need) = if would_overflow l need then after_freed (after_received l need) need else after_received l need

-- ---- a packet: two bytes with its number, and a TLP (section 3.6.1)

-- the sequence number, 12 bits behind four that are ignored
abbrev pub number_in : List ℕ → ℕ
number_in packet = if nat_lt (length packet) 2 then 0 else slice_index packet 0 % 16 * 256 + slice_index packet 1

abbrev pub tlp_in : List ℕ → List ℕ
tlp_in packet = drop 2 packet

abbrev pub need_in : List ℕ → Option Need
need_in packet = if nat_lt (length packet) 2 then None else need_at (tlp_in packet)

-- fewer than two bytes count as a failed check
abbrev pub is_good : List ℕ → Check → Bool
is_good packet check = passed check && nat_le 2 (length packet)

-- the receiver's answer
abbrev pub reception_on : IncomingView → List ℕ → Check → Reception
reception_on e packet check = reception_of e.receiving (number_in packet) (is_good packet check)

-- what becomes of the packet under this answer, and of the ledger
abbrev pub received_under : Reception → CreditLedger → List ℕ → Received
received_under receptions.Accept l packet = Accepted (need_in packet) (overflow_of l (need_in packet))
received_under receptions.Duplicate l packet = Duplicate
received_under receptions.NakNow l packet = NakNow
received_under receptions.Quiet l packet = Quiet

abbrev pub ledger_under : Reception → CreditLedger → List ℕ → CreditLedger
ledger_under receptions.Accept l packet = counted l (need_in packet)
ledger_under receptions.Duplicate l packet = l
ledger_under receptions.NakNow l packet = l
ledger_under receptions.Quiet l packet = l

abbrev pub received_on : IncomingView → List ℕ → Check → Received
received_on e packet check = received_under (reception_on e packet check) e.ledger packet

abbrev pub after_packet : IncomingView → List ℕ → Check → IncomingView
after_packet e packet check =
    record { receiving = after_receive e.receiving (number_in packet) (is_good packet check); ledger = ledger_under (reception_on e packet check) e.ledger packet }

-- ---- what is sent back

abbrev pub nak_is_due : NakScheduled → Bool
nak_is_due naks.Clear = false
nak_is_due naks.Due = true
nak_is_due naks.Sent = false

abbrev pub after_answer : IncomingView → IncomingView
after_answer e = record { receiving = after_acknowledge e.receiving; ledger = e.ledger }
