-- The sending end of a port: the sender's end of a lane.
use Rattle.std.specs.Prelude.{◌≡◌, ℕ, ◌+◌, ◌-◌, ◌%◌, ◌==◌, ◌&&◌, ◌||◌, Bool, nat_le, if◌then◌else◌, List, [], length, Option, Some, None}
use Rattle.dllp_core.specs.declared.packet.Class.{Class}
use Rattle.dllp_core.specs.declared.packet.Dllp.{Dllp}
use Rattle.dllp_core.specs.declared.packet.Dllp.TheVariants.{Ack, Nak}
use Rattle.flow_control.specs.declared.needs.Need.{Need}
use Rattle.flow_control.specs.declared.limits.LaneCredits.{LaneCredits}
use Rattle.flow_control.specs.Credits.{CreditGateView, gate_of, gate_covers, after_limit, first_gate}
use Rattle.link_replay.specs.CargoView.{CargoView}
use Rattle.link_replay.specs.SenderView.{fresh, sent_from}
use Rattle.lane_core.specs.Content.{wire_bytes}
use Rattle.lane_core.specs.Steps.{SenderEndView}
use Rattle.port_core.specs.declared.fault.EnterRefusal.{EnterRefusal}
use Rattle.port_core.specs.declared.fault.EnterRefusal.TheVariants.{NoCredits, WindowFull, Memory}
use Rattle.port_core.specs.Init.{credits_of, nothing_advertised}

abbrev pub new_outgoing : SenderEndView
new_outgoing = record { sending = fresh; gate = first_gate (credits_of nothing_advertised) }

-- the peer's credits are known, and nothing of them is used
abbrev pub begun : SenderEndView → LaneCredits → SenderEndView
begun s credits = record { sending = s.sending; gate = first_gate credits }

-- ---- entering

-- the first refusal, if memory can be allocated
abbrev pub refusal_on : SenderEndView → Need → Option EnterRefusal
refusal_on s need =
    if gate_covers s.gate need then (if nat_le 2047 (length s.sending.kept) then Some WindowFull else None)
    else Some (NoCredits need.class)

-- the refusals that there can be: this one, or, without one, that memory can't be allocated
abbrev pub Refuses : Option EnterRefusal → EnterRefusal → Type 0
Refuses (Some refusal) r = r ≡ refusal
Refuses None r = r ≡ Memory

-- ---- sending

abbrev pub number_sent : Option (ℕ × CargoView) → Option ℕ
number_sent None = None
number_sent (Some packet) = Some packet.0

abbrev pub bytes_sent : Option (ℕ × CargoView) → List ℕ
bytes_sent None = []
bytes_sent (Some packet) = wire_bytes (record { number = packet.0; cargo = packet.1 })

-- the number and the bytes of the next packet
abbrev pub transmitted : SenderEndView → Option ℕ
transmitted s = number_sent (sent_from s.sending)

abbrev pub packet_bytes : SenderEndView → List ℕ
packet_bytes s = bytes_sent (sent_from s.sending)

-- ---- what the peer says

abbrev pub ack_or_nak : ℕ → Bool → Dllp
ack_or_nak number is_nak = if is_nak then Nak number else Ack number

-- of a counter modulo m: infinite, or at most so many are unused
abbrev pub leaves_at_most : ℕ → ℕ → ℕ → ℕ → ℕ → Bool
leaves_at_most most m first limit consumed = (first == 0) || nat_le ((limit + m - consumed) % m) most

-- no more than 127 headers and 2047 data units would be unused after an UpdateFC
abbrev pub may_learn : CreditGateView → Class → ℕ → ℕ → Bool
may_learn g class header units =
    let c = gate_of class (after_limit g class header units) in
    leaves_at_most 127 256 c.header.first c.header.limit c.header.consumed && leaves_at_most 2047 4096 c.units.first c.units.limit c.units.consumed
