-- A lane with nothing on its way but what stands in the receive queue, and the turn that leaves it so.
use Rattle.std.specs.Prelude.{◌≡◌, ℕ, zero, suc, ◌+◌, ◌<◌, ◌≤◌, List, [], ◌∷◌, length}
use Rattle.dllp_core.specs.declared.packet.Class.{Class}
use Rattle.dllp_core.specs.declared.packet.Class.TheVariants.{Posted, NonPosted, Completion}
use Rattle.flow_control.specs.Credits.{allowance, grant, allocated}
use Rattle.lane_core.specs.declared.packet.Fate.TheVariants.{Good}
use Rattle.lane_core.specs.declared.packet.DllpKind.TheVariants as kinds
use Rattle.lane_core.specs.Steps.{LaneEndsView}
use Rattle.lane_core.specs.Calls.{Call, Transmit, Deliver, SendDllp, DeliverDllp, Timer, Retrained, after_call, after_calls}

-- nothing is on the wires, nothing is unacknowledged, and the sender knows all credit that the receiver gave
pub record IsFlushed (e : LaneEndsView) : Type 0 where
  pub forward : e.forward ≡ []
  pub back : e.back ≡ []
  pub kept : e.sender.sending.kept ≡ []
  -- CREDIT_LIMIT of each finite counter is CREDITS_ALLOCATED
  pub known : (c : Class) (p : _) → 0 < (allowance c p e.sender.gate).first → (allowance c p e.sender.gate).limit ≡ allocated p (grant c p e.receiver.ledger)

-- ---- a turn

-- the lane after so many of one call
unfoldable pub times : ℕ → LaneEndsView → Call → LaneEndsView
times zero e call = e
times (suc n) e call = times n (after_call e call) call

-- the replay timer expires, so that all packets that are kept go again, and a link that was stopped is up again
abbrev pub replayed : LaneEndsView → LaneEndsView
replayed e = after_calls e (Timer ∷ Retrained ∷ [])

-- n packets go, and n of the wire arrive
abbrev pub with_packets : ℕ → LaneEndsView → LaneEndsView
with_packets n e = times n (times n e Transmit) (Deliver Good)

-- an Ack or Nak goes, and an update of each class
abbrev pub sends : List Call
sends = SendDllp kinds.Answer ∷ SendDllp (kinds.Update Posted) ∷ SendDllp (kinds.Update NonPosted) ∷ SendDllp (kinds.Update Completion) ∷ []

abbrev pub with_sent : LaneEndsView → LaneEndsView
with_sent e = after_calls e sends

-- and n of that wire arrive
abbrev pub with_dllps : ℕ → LaneEndsView → LaneEndsView
with_dllps n e = times n (with_sent e) (DeliverDllp Good)

-- a turn of a lane, in which nothing is lost
unfoldable pub turned : ℕ → LaneEndsView → LaneEndsView
turned n e = with_dllps n (with_packets n (replayed e))

-- n is enough for what the wires hold and the turn adds: a full window, and four DLLPs
pub record IsEnough (n : ℕ) (e : LaneEndsView) : Type 0 where
  pub packets : length e.forward + 2047 ≤ n
  pub dllps : length e.back + 4 ≤ n
