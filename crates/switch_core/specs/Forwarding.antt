-- A packet moves from one lane's queue into another lane.
use Rattle.std.specs.Prelude.{◌≡◌, ℕ, true, Some, slice_get}
use Rattle.tlp_core.specs.TlpView.{TlpView}
use Rattle.tlp_core.specs.Layout.{Spells, canonical}
use Rattle.flow_control.specs.Needs.{need_of}
use Rattle.flow_control.specs.Queue.{is_takeable}
use Rattle.lane_core.specs.Steps.{ReceiverEndView, SenderEndView, may_enter, entered, after_take}

-- the packet of the place, which may pass each earlier one, was taken from the first end and entered into the second
-- unchanged, with its mark, where there was room for it
pub record Forwards (from from_after : ReceiverEndView) (place : ℕ) (to to_after : SenderEndView) : Type 0 where
  pub packet : TlpView
  pub mark : ℕ
  pub takeable : is_takeable from.queue place ≡ true
  pub there : slice_get from.queue place ≡ Some (packet, mark)
  pub may : may_enter to (need_of packet) ≡ true
  pub spelled : Spells (canonical packet) packet
  pub sent : to_after ≡ entered to packet mark
  pub left : from_after ≡ after_take from place
