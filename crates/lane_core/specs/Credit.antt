-- Credits of a lane in whole numbers, which it doesn't store.
use Rattle.std.specs.Prelude.{◌+◌, ◌<◌, ◌≤◌, Bool, true, false, if◌then◌else◌, List, [], ◌∷◌, ◌++◌, map, filter}
use Rattle.dllp_core.specs.declared.packet.Dllp.{Dllp}
use Rattle.dllp_core.specs.declared.packet.Dllp.TheVariants.{Ack, Nak, Update}
use Rattle.flow_control.specs.declared.needs.Need.{Need}
use Rattle.flow_control.specs.declared.limits.LaneCredits.{LaneCredits}
use Rattle.flow_control.specs.Needs.{need_of}
use Rattle.flow_control.specs.Credits.{pick, first_of}
use Rattle.flow_control.specs.Account.{Accounts, Direction, Event, Consume, Receive, Free, Tell, Learn, Lose, new_direction, first_numbers, numbers_in}
use Rattle.flow_control.specs.Queue.{Item, is_takeable}
use Rattle.lane_core.specs.declared.packet.Fate.{Fate}
use Rattle.lane_core.specs.declared.packet.Fate.TheVariants.{Good, Failed, Lost}
use Rattle.lane_core.specs.declared.packet.DllpKind.{DllpKind}
use Rattle.lane_core.specs.declared.packet.DllpKind.TheVariants as kinds
use Rattle.lane_core.specs.Steps.{LaneEndsView, new_lane, may_enter}
use Rattle.lane_core.specs.Calls.{Call, Enter, Deliver, SendDllp, DeliverDllp, Take, after_call, on_the_way, accepted_by}

abbrev pub needs_of : List Item → List Need
needs_of items = map (λ item. need_of item.0) items

abbrev pub is_update : Dllp → Bool
is_update (Update class header units) = true
is_update (Ack number) = false
is_update (Nak number) = false

-- what the credits of a lane are about: Acks and Naks aren't
abbrev pub direction_of : LaneEndsView → Direction
direction_of e =
    record { gate = e.sender.gate; ledger = e.receiver.ledger; on_the_way = needs_of (on_the_way e); queue = needs_of e.receiver.queue; wire = filter is_update e.back }

-- what a call does to the credits

abbrev pub learns : Fate → Event
learns Good = Learn
learns Failed = Lose
learns Lost = Lose

abbrev pub dllp_events : List Dllp → Fate → List Event
dllp_events [] fate = []
dllp_events (Update class header units ∷ ds) fate = learns fate ∷ []
dllp_events (Ack number ∷ ds) fate = []
dllp_events (Nak number ∷ ds) fate = []

abbrev pub sent_events : DllpKind → List Event
sent_events kinds.Answer = []
sent_events (kinds.Update class) = Tell class ∷ []

abbrev pub events_of : LaneEndsView → Call → List Event
events_of e (Enter t mark) = if may_enter e.sender (need_of t) then Consume (need_of t) ∷ [] else []
events_of e (Deliver fate) = map (λ item. Receive) (accepted_by e (Deliver fate))
events_of e (SendDllp kind) = sent_events kind
events_of e (DeliverDllp fate) = dllp_events e.back fate
events_of e (Take place) = if is_takeable e.receiver.queue place then Free place ∷ [] else []
events_of e _ = []

abbrev pub events_in : LaneEndsView → List Call → List Event
events_in e [] = []
events_in e (call ∷ calls) = events_of e call ++ events_in (after_call e call) calls

-- the whole numbers of a lane after these calls: given, known and used of each class and part
abbrev pub numbers_of : LaneCredits → List Call → Accounts
numbers_of credits calls =
    numbers_in (new_direction credits) (first_numbers credits) (events_in (new_lane credits) calls)

-- the room, known less used, covers the need; an infinite counter has room for all
abbrev pub HasRoom : LaneCredits → Accounts → Need → Type 0
HasRoom credits numbers need =
    (p : _) → 0 < first_of need.class p credits →
    (numbers need.class p).used + pick p need.header need.units ≤ (numbers need.class p).known
