-- The calls of a lane as one machine, and what any list of calls enters, accepts and takes.
use Rattle.std.specs.Prelude.{◌≡◌, ℕ, if◌then◌else◌, Option, Some, None, List, [], ◌∷◌, ◌++◌, slice_get, remove}
use Rattle.tlp_core.specs.TlpView.{TlpView}
use Rattle.tlp_core.specs.Layout.{Spells, canonical}
use Rattle.flow_control.specs.declared.needs.Need.{Need}
use Rattle.flow_control.specs.declared.limits.LaneCredits.{LaneCredits}
use Rattle.flow_control.specs.Limits.{IsInLimits}
use Rattle.flow_control.specs.Needs.{need_of}
use Rattle.flow_control.specs.Queue.{Item, is_takeable}
use Rattle.lane_core.specs.declared.packet.WirePacket.{WirePacket}
use Rattle.lane_core.specs.declared.packet.Fate.{Fate}
use Rattle.lane_core.specs.declared.packet.DllpKind.{DllpKind}
use Rattle.lane_core.specs.Content.{items_of, unaccepted_of}
use Rattle.lane_core.specs.Steps.{LaneEndsView, ReceiverEndView, new_lane, may_enter, entered, with_room, without_room, after_timer, after_retraining, after_transmission, wire_after_transmit, all_but_first, arrival_of, taken_on, after_deliver, after_send, wire_after_send, sender_after, after_take}

-- a call of a lane; one that is refused for being out of memory changes nothing and is left out
pub data Call : Type 0 where
  MakeRoom : Need → Call
  Release : Call
  Enter : TlpView → ℕ → Call
  Transmit : Call
  Deliver : Fate → Call
  SendDllp : DllpKind → Call
  DeliverDllp : Fate → Call
  Timer : Call
  Retrained : Call
  -- takes nothing where the place isn't takeable
  Take : ℕ → Call

-- what is entered is a packet whose numbers fit their fields: its canonical bytes spell it
abbrev pub IsCall : Call → Type 0
IsCall (Enter t mark) = Spells (canonical t) t
IsCall _ = Unit {0}

abbrev pub AreCalls : List Call → Type 0
AreCalls [] = Unit {0}
AreCalls (call ∷ calls) = IsCall call × AreCalls calls

-- the lane after a call: each changes the ends that it is of, and leaves the others
abbrev pub after_call : LaneEndsView → Call → LaneEndsView
after_call e (MakeRoom need) = if may_enter e.sender need then record e { sender = with_room e.sender } else e
after_call e Release = record e { sender = without_room e.sender }
after_call e (Enter t mark) = if may_enter e.sender (need_of t) then record e { sender = entered e.sender t mark } else e
after_call e Transmit =
    record e { sender = after_transmission e.sender; forward = wire_after_transmit e.sender e.forward }
after_call e (Deliver fate) =
    record e { forward = all_but_first e.forward; receiver = after_deliver e.forward e.receiver fate }
after_call e (SendDllp kind) =
    record e { back = wire_after_send e.receiver kind e.back; receiver = after_send e.receiver kind }
after_call e (DeliverDllp fate) =
    record e { sender = sender_after e.back e.sender fate; back = all_but_first e.back }
after_call e Timer = record e { sender = after_timer e.sender }
after_call e Retrained = record e { sender = after_retraining e.sender }
after_call e (Take place) = if is_takeable e.receiver.queue place then record e { receiver = after_take e.receiver place } else e

-- what a call enters, accepts and takes

abbrev pub list_of : Option Item → List Item
list_of None = []
list_of (Some item) = item ∷ []

abbrev pub entered_by : LaneEndsView → Call → List Item
entered_by e (Enter t mark) = if may_enter e.sender (need_of t) then (t, mark) ∷ [] else []
entered_by e _ = []

abbrev pub accepted_from : List WirePacket → ReceiverEndView → Fate → List Item
accepted_from [] r fate = []
accepted_from (p ∷ ps) r fate = list_of (taken_on (arrival_of r.receiving p.number fate) p.cargo)

abbrev pub accepted_by : LaneEndsView → Call → List Item
accepted_by e (Deliver fate) = accepted_from e.forward e.receiver fate
accepted_by e _ = []

abbrev pub taken_by : LaneEndsView → Call → List Item
taken_by e (Take place) = if is_takeable e.receiver.queue place then list_of (slice_get e.receiver.queue place) else []
taken_by e _ = []

-- whole lists of calls

abbrev pub after_calls : LaneEndsView → List Call → LaneEndsView
after_calls e [] = e
after_calls e (call ∷ calls) = after_calls (after_call e call) calls

abbrev pub entered_in : LaneEndsView → List Call → List Item
entered_in e [] = []
entered_in e (call ∷ calls) = entered_by e call ++ entered_in (after_call e call) calls

abbrev pub accepted_in : LaneEndsView → List Call → List Item
accepted_in e [] = []
accepted_in e (call ∷ calls) = accepted_by e call ++ accepted_in (after_call e call) calls

abbrev pub taken_in : LaneEndsView → List Call → List Item
taken_in e [] = []
taken_in e (call ∷ calls) = taken_by e call ++ taken_in (after_call e call) calls

abbrev pub IsPrefixOf : List Item → List Item → Type 0
IsPrefixOf xs ys = (rest : List Item) × (xs ++ rest ≡ ys)

-- ---- four ends as they stand

-- what was entered and is not yet accepted
abbrev pub on_the_way : LaneEndsView → List Item
on_the_way e = items_of (unaccepted_of e.sender.sending e.receiver.receiving.next)

-- what was entered and is not yet taken
abbrev pub content : LaneEndsView → List Item
content e = e.receiver.queue ++ on_the_way e

-- the content after a call: `Enter` adds to its end, `Take` removes the packet of its place, every other call leaves it
abbrev pub content_after : LaneEndsView → Call → List Item
content_after e (Enter t mark) = content e ++ entered_by e (Enter t mark)
content_after e (Take place) = if is_takeable e.receiver.queue place then remove (content e) place else content e
content_after e _ = content e

-- four ends are right together, with these credits: some list of calls on a new lane leaves them
pub record IsRightWith (credits : LaneCredits) (e : LaneEndsView) : Type 0 where
  pub limits : IsInLimits credits
  pub calls : List Call
  pub are_calls : AreCalls calls
  pub leads : after_calls (new_lane credits) calls ≡ e

pub record IsRight (e : LaneEndsView) : Type 0 where
  pub credits : LaneCredits
  pub right : IsRightWith credits e

-- the first packet that was not yet accepted now stands last in the queue
pub record AcceptsFirst (old new : LaneEndsView) : Type 0 where
  pub item : Item
  pub was_first : on_the_way old ≡ item ∷ on_the_way new
  pub is_last : new.receiver.queue ≡ old.receiver.queue ++ item ∷ []
