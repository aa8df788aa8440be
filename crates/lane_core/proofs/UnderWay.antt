-- What may be on the two wires of a lane. Nothing here speaks of true numbers: a packet's is known from its own number
-- and the receiver's, since it is at most 2047 behind and 2046 before it.
use Rattle.std.specs.Prelude.{◌≡◌, ℕ, ◌+◌, ◌-◌, ◌%◌, ◌<◌, ◌≤◌, max, List, [], ◌∷◌, length, Some, slice_get}
use Rattle.seq12.specs.Numbers.{distance_of}
use Rattle.link_replay.specs.CargoView.{CargoView}
use Rattle.link_replay.specs.SenderView.{SenderView}
use Rattle.lane_core.specs.declared.packet.WirePacket.{WirePacket}
use Rattle.lane_core.specs.Content.{received_of, unaccepted_of}

-- how far a number lies ahead of the receiver's next, with 2048 for that one itself
abbrev pub ahead_of : ℕ → ℕ → ℕ
ahead_of number next = (number + 6144 - next) % 4096

-- a packet that comes after others, the farthest of which is one short of `most`
pub record MayArrive (next : ℕ) (rest : List CargoView) (most : ℕ) (p : WirePacket) : Type 0 where
  pub in_range : p.number < 4096
  pub near : most ≤ ahead_of p.number next + 2047
  pub cargo : 2048 ≤ ahead_of p.number next → slice_get rest (ahead_of p.number next - 2048) ≡ Some p.cargo

abbrev pub IsForward : ℕ → List CargoView → ℕ → List WirePacket → Type 0
IsForward next rest most [] = Unit {0}
IsForward next rest most (p ∷ ps) = MayArrive next rest most p × IsForward next rest (max most (ahead_of p.number next + 1)) ps

pub record MayReturn (acked : ℕ) (least : ℕ) (number : ℕ) : Type 0 where
  pub in_range : number < 4096
  pub later : least ≤ distance_of number acked

-- the numbers of Acks and Naks never fall, and none is past what was received
abbrev pub IsBackward : ℕ → ℕ → ℕ → List ℕ → Type 0
IsBackward acked least received [] = least ≤ received
IsBackward acked least received (d ∷ ds) = MayReturn acked least d × IsBackward acked (distance_of d acked) received ds

-- a sender, the packets on the forward wire, the numbers of the Acks and Naks on the back wire, and NEXT_RCV_SEQ
pub record AreNumbered (s : SenderView) (forward : List WirePacket) (answers : List ℕ) (next : ℕ) : Type 0 where
  pub acked_in_range : s.acked < 4096
  pub next_in_range : next < 4096
  pub window : length s.kept ≤ 2047
  pub place : s.place ≤ length s.kept
  pub received : received_of s next ≤ length s.kept
  pub packets : IsForward next (unaccepted_of s next) 2048 forward
  pub dllps : IsBackward s.acked 0 (received_of s next) answers
