-- The laws of packets and of credits on which those of a lane rest, as their public clauses tell them.
use Rattle.std.proofs.Common.{◌≡◌, ◌↔◌, ℕ, ◌+◌, ◌<◌, ◌≤◌, IsTrue, List, Ok}
use Rattle.tlp_core.specs.TlpView.{TlpView, IsPacket}
use Rattle.tlp_core.specs.Layout.{Spells}
use Rattle.tlp_core.specs.Faults.{reading}
use Rattle.dllp_core.specs.declared.packet.Class.{Class}
use Rattle.flow_control.specs.declared.needs.Need.{Need}
use Rattle.flow_control.specs.declared.limits.LaneCredits.{LaneCredits}
use Rattle.flow_control.specs.Limits.{IsInLimits, least_units}
use Rattle.flow_control.specs.Needs.{need_of}
use Rattle.flow_control.specs.Credits.{pick, gate_covers, first_of, allowance, grant}
use Rattle.flow_control.specs.Account.{Event, HasCredit, IsRight, demand, new_direction, first_numbers, after_events, numbers_in}

-- what spells a packet is read as that packet
abbrev pub IsRead : Type 0
IsRead = (b : List ℕ) (t : TlpView) → Spells b t → reading b ≡ Ok t

pub record Below : Type 0 where
  pub read : IsRead
  pub header : (t : TlpView) → (need_of t).header ≡ 1
  pub units : (t : TlpView) → IsPacket t → (need_of t).units ≤ least_units (need_of t).class
  pub account : (credits : LaneCredits) (events : List Event) → IsInLimits credits →
      HasCredit credits (after_events (new_direction credits) events).gate (after_events (new_direction credits) events).ledger
      (numbers_in (new_direction credits) (first_numbers credits) events)
      (after_events (new_direction credits) events).queue (after_events (new_direction credits) events).on_the_way (after_events (new_direction credits) events).wire
  pub right : (credits : LaneCredits) (events : List Event) (c : Class) (p : _) → IsInLimits credits → 0 < first_of c p credits →
      IsRight p (first_of c p credits) (allowance c p (after_events (new_direction credits) events).gate) (grant c p (after_events (new_direction credits) events).ledger)
      (numbers_in (new_direction credits) (first_numbers credits) events c p)
      (demand c p (after_events (new_direction credits) events).queue) (demand c p (after_events (new_direction credits) events).on_the_way)
  pub room : (credits : LaneCredits) (events : List Event) (need : Need) → IsInLimits credits → need.header ≤ 127 → need.units ≤ 2047 →
      IsTrue (gate_covers (after_events (new_direction credits) events).gate need) ↔ ((p : _) → 0 < first_of need.class p credits →
      (numbers_in (new_direction credits) (first_numbers credits) events need.class p).used + pick p need.header need.units ≤ (numbers_in (new_direction credits) (first_numbers credits) events need.class p).known)
