-- True numbers: packets counted from 0 in the order in which they were entered. They never wrap, and no part stores
-- them.
use Rattle.std.specs.Prelude.{ℕ, ◌+◌, ◌-◌, List, [], ◌∷◌, length}
use Rattle.flow_control.specs.declared.limits.LaneCredits.{LaneCredits}
use Rattle.lane_core.specs.Steps.{new_lane}
use Rattle.lane_core.specs.Calls.{Call, Deliver, after_calls, entered_in, accepted_in}

-- the true number of the packet that is entered next
abbrev pub next_entered : LaneCredits → List Call → ℕ
next_entered credits calls = length (entered_in (new_lane credits) calls)

-- that of the oldest unacknowledged packet; where there is none, of the packet that is entered next
abbrev pub oldest_unacknowledged : LaneCredits → List Call → ℕ
oldest_unacknowledged credits calls =
    next_entered credits calls - length (after_calls (new_lane credits) calls).sender.sending.kept

-- that of the packet which the receiver waits for
abbrev pub next_accepted : LaneCredits → List Call → ℕ
next_accepted credits calls = length (accepted_in (new_lane credits) calls)

abbrev pub delivers : Call → ℕ
delivers (Deliver fate) = 1
delivers _ = 0

-- how many of the calls deliver a packet
abbrev pub deliveries : List Call → ℕ
deliveries [] = 0
deliveries (call ∷ calls) = delivers call + deliveries calls
