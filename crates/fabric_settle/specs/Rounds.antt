-- Running a fabric by rounds of events until one moves nothing.
use Rattle.std.specs.Prelude.{ℕ, zero, suc, ◌-◌, ◌^◌, ◌||◌, Bool, true, false, if◌then◌else◌, List, [], ◌∷◌, ◌++◌, fold, Result, Ok, Err, is_ok}
use Rattle.dllp_core.specs.declared.packet.Class.TheVariants.{Posted, NonPosted, Completion}
use Rattle.lane_core.specs.declared.packet.Fate.TheVariants.{Good}
use Rattle.lane_core.specs.declared.packet.DllpKind.TheVariants as kinds
use Rattle.fabric_steps.specs.Fabric.{Fabric}
use Rattle.fabric_steps.specs.Event.{Event, Seen}
use Rattle.fabric_steps.specs.declared.event.EventOf.TheVariants as events
use Rattle.fabric_steps.specs.declared.event.LaneName.{LaneName}
use Rattle.fabric_steps.specs.declared.event.LaneName.TheVariants as lanes
use Rattle.fabric_steps.specs.declared.fault.Refusal.{Refusal}
use Rattle.fabric_core.specs.Answers.{answer}
use Rattle.fabric_settle.specs.declared.attempt.Attempt.{Attempt}
use Rattle.fabric_settle.specs.declared.attempt.Attempt.TheVariants as attempts
use Rattle.fabric_settle.specs.Happenings.{Happening, happening}

-- a fabric that is being settled, what happened to it, oldest first, and whether the round moved something
pub record Settling : Type 0 where
  pub fabric : Fabric
  pub happened : List Happening
  pub moved : Bool

abbrev pub at : Fabric → List Happening → Bool → Settling
at f happened moved = record { fabric = f; happened = happened; moved = moved }

-- ---- events

-- a DLLP can always be sent, and a link that is up again has moved nothing yet
abbrev pub is_move : Event → Bool
is_move (events.SendDllp lane kind) = false
is_move (events.DeliverDllp lane fate) = false
is_move (events.Retrained lane) = false
is_move _ = true

-- an event that happens is one step of the fabric, and one that is refused changes nothing
abbrev pub answered : Settling → Event → Result (Seen × Fabric) Refusal → Settling
answered s event (Ok p) = at p.1 (s.happened ++ happening s.fabric event p.0 p.1 ∷ []) (s.moved || is_move event)
answered s event (Err r) = s

unfoldable pub tried : Settling → Event → Settling
tried s event = answered s event (answer s.fabric event)

-- whether the event happens
unfoldable pub goes : Fabric → Event → Bool
goes f event = is_ok (answer f event)

unfoldable pub times : ℕ → Settling → Event → Settling
times zero s event = s
times (suc n) s event = times n (tried s event) event

-- the event until it is refused
abbrev pub all : Settling → Event → Settling
all s event = times (2 ^ 64 - 1) s event

-- one of the two
abbrev pub attempted : Settling → Attempt → Settling
attempted s (attempts.Once event) = tried s event
attempted s (attempts.All event) = all s event

-- ---- the turn of a lane

-- what is tried of a lane: the replay timer expires, so that all packets that are kept go again, also those that a Nak
-- left that arrived last, and a link that was stopped is up again; all packets go, and they arrive; an answer and the
-- updates of each class go, and arrive
abbrev pub lane_attempts : LaneName → List Attempt
lane_attempts lane =
    attempts.Once (events.Timer lane) ∷ attempts.Once (events.Retrained lane)
    ∷ attempts.All (events.Transmit lane) ∷ attempts.All (events.Deliver lane Good) ∷ attempts.Once (events.SendDllp lane kinds.Answer)
    ∷ attempts.Once (events.SendDllp lane (kinds.Update Posted)) ∷ attempts.Once (events.SendDllp lane (kinds.Update NonPosted))
    ∷ attempts.Once (events.SendDllp lane (kinds.Update Completion)) ∷ attempts.All (events.DeliverDllp lane Good) ∷ []

unfoldable pub lane_turn : Settling → LaneName → Settling
lane_turn s lane = fold attempted s (lane_attempts lane)

-- ---- a round

-- a fabric with fewer requesters refuses what is tried of the lanes that it hasn't
abbrev pub all_lanes : List LaneName
all_lanes =
    lanes.Up 1 ∷ lanes.Up 2 ∷ lanes.Up 3 ∷ lanes.Up 4 ∷ lanes.Up 5 ∷ lanes.Up 6 ∷ lanes.Up 7 ∷ lanes.Inward ∷ lanes.Outward
    ∷ lanes.Down 1 ∷ lanes.Down 2 ∷ lanes.Down 3 ∷ lanes.Down 4 ∷ lanes.Down 5 ∷ lanes.Down 6 ∷ lanes.Down 7 ∷ []

-- the packets at the places 0 and 1 go on to their ports, the requests there act on the memory, and the completions that
-- wait are collected
abbrev pub after_lanes : List Attempt
after_lanes =
    attempts.Once (events.Forward (lanes.Up 1) 0) ∷ attempts.Once (events.Forward (lanes.Up 1) 1)
    ∷ attempts.Once (events.Forward (lanes.Up 2) 0) ∷ attempts.Once (events.Forward (lanes.Up 2) 1)
    ∷ attempts.Once (events.Forward (lanes.Up 3) 0) ∷ attempts.Once (events.Forward (lanes.Up 3) 1)
    ∷ attempts.Once (events.Forward (lanes.Up 4) 0) ∷ attempts.Once (events.Forward (lanes.Up 4) 1)
    ∷ attempts.Once (events.Forward (lanes.Up 5) 0) ∷ attempts.Once (events.Forward (lanes.Up 5) 1)
    ∷ attempts.Once (events.Forward (lanes.Up 6) 0) ∷ attempts.Once (events.Forward (lanes.Up 6) 1)
    ∷ attempts.Once (events.Forward (lanes.Up 7) 0) ∷ attempts.Once (events.Forward (lanes.Up 7) 1)
    ∷ attempts.Once (events.Forward lanes.Outward 0) ∷ attempts.Once (events.Forward lanes.Outward 1)
    ∷ attempts.Once (events.Serve 0) ∷ attempts.Once (events.Serve 1)
    ∷ attempts.All (events.Collect 1) ∷ attempts.All (events.Collect 2) ∷ attempts.All (events.Collect 3) ∷ attempts.All (events.Collect 4) ∷ attempts.All (events.Collect 5) ∷ attempts.All (events.Collect 6) ∷ attempts.All (events.Collect 7) ∷ []

-- the links, the switch, the memory, the requesters
unfoldable pub round : Settling → Settling
round s = fold attempted (fold lane_turn (at s.fabric s.happened false) all_lanes) after_lanes

-- ---- all rounds

abbrev pub if_moved : (Settling → Settling) → Settling → Settling
if_moved more s = if s.moved then more s else s

-- a round, and others after one that moved something, at most so many
unfoldable pub rounds : ℕ → Settling → Settling
rounds zero s = s
rounds (suc n) s = if_moved (rounds n) (round s)

-- the fabric after all rounds, and what happened to it
abbrev pub settlement : Fabric → Settling
settlement f = rounds 10000 (at f [] false)

-- so many rounds, one after the other
unfoldable pub after_rounds : ℕ → Settling → Settling
after_rounds zero s = s
after_rounds (suc n) s = after_rounds n (round s)
