-- What is on a lane, as far as its events tell.
use Rattle.std.specs.Prelude.{ℕ, ◌+◌, ◌-◌, ◌==◌, nat_lt, Bool, true, false, if◌then◌else◌, List, [], ◌∷◌, ◌++◌, length, drop, remove, Option, Some, None, slice_get}
use Rattle.seq12.specs.Numbers.{distance_of}
use Rattle.dllp_core.specs.declared.packet.Class.{Class}
use Rattle.dllp_core.specs.declared.packet.Class.TheVariants as classes
use Rattle.dllp_core.specs.declared.packet.Dllp.{Dllp}
use Rattle.dllp_core.specs.declared.packet.Dllp.TheVariants as dllps
use Rattle.lane_core.specs.declared.packet.DllpSeen.{DllpSeen}
use Rattle.lane_core.specs.declared.packet.DllpSeen.TheVariants as dllps_seen
use Rattle.chart_rows.specs.declared.row.Carried.{Carried}
use Rattle.chart_rows.specs.declared.row.PacketSent.{PacketSent}
use Rattle.chart_rows.specs.declared.row.DllpSent.{DllpSent}
use Rattle.chart_rows.specs.declared.row.Replay.{Replay}
use Rattle.chart_rows.specs.declared.row.Replay.TheVariants as replays
use Rattle.chart_links.specs.declared.limits.Limit.{Limit}
use Rattle.chart_links.specs.declared.limits.Limits.{Limits}

-- ---- the limits of credits (section 2.6.1), of each class

abbrev pub no_limits : Limits
no_limits = record { posted = None; non_posted = None; completion = None }

abbrev pub limit : ℕ → ℕ → Limit
limit headers units = record { headers = headers; units = units }

abbrev pub limit_of : Limits → Class → Option Limit
limit_of l classes.Posted = l.posted
limit_of l classes.NonPosted = l.non_posted
limit_of l classes.Completion = l.completion

abbrev pub with_limit : Limits → Class → Limit → Limits
with_limit l classes.Posted now = record l { posted = Some now }
with_limit l classes.NonPosted now = record l { non_posted = Some now }
with_limit l classes.Completion now = record l { completion = Some now }

-- ---- a lane

pub record CourseView : Type 0 where
  -- ACKD_SEQ, the number that was acknowledged last
  pub acked : ℕ
  -- what the unacknowledged packets carry, oldest first
  pub kept : List (Option Carried)
  -- how many of them were sent since the last replay
  pub place : ℕ
  -- REPLAY_NUM, the replays since a packet was acknowledged
  pub replays : ℕ
  -- the packets on the wire, oldest first
  pub wire : List PacketSent
  -- the DLLPs on the wire back, oldest first
  pub back : List DllpSent
  -- what the packets carry that were accepted and not yet taken, oldest first
  pub queue : List (Option Carried)
  -- whether one was taken
  pub has_taken : Bool
  -- the limits that the sender was told by updates, if it was told any
  pub limits : Limits

abbrev pub quiet : CourseView
quiet = record { acked = 4095; kept = []; place = 0; replays = 0; wire = []; back = []; queue = []; has_taken = false; limits = no_limits }

-- what is there, if anything is
abbrev pub known : {X : Type 0} → Option (Option X) → Option X
known None = None
known (Some o) = o

-- ---- packets

abbrev pub entered : Option Carried → CourseView → CourseView
entered c s = record s { kept = s.kept ++ c ∷ [] }

-- what the packet carries that is sent next
abbrev pub next_carried : CourseView → Option Carried
next_carried s = known (slice_get s.kept s.place)

abbrev pub next_packet : ℕ → Option ℕ → CourseView → PacketSent
next_packet number row s = record { number = number; carried = next_carried s; row = row }

abbrev pub sent : ℕ → Option ℕ → CourseView → CourseView
sent number row s = record s {
  wire = s.wire ++ next_packet number row s ∷ [];
  place = if nat_lt s.place (length s.kept) then s.place + 1 else s.place;
}

-- the oldest packet on the wire
abbrev pub oldest : CourseView → Option PacketSent
oldest s = slice_get s.wire 0

-- the oldest packet leaves the wire, and is accepted or not
abbrev pub queued : Option PacketSent → List (Option Carried) → List (Option Carried)
queued None queue = queue
queued (Some p) queue = queue ++ p.carried ∷ []

abbrev pub arrived : Bool → CourseView → CourseView
arrived is_accepted s = record s {
  wire = drop 1 s.wire;
  queue = if is_accepted then queued (slice_get s.wire 0) s.queue else s.queue;
}

-- what the packet carries at a place of the queue
abbrev pub taken : ℕ → CourseView → Option Carried
taken place s = known (slice_get s.queue place)

abbrev pub without : ℕ → CourseView → CourseView
without place s = record s { queue = remove s.queue place; has_taken = true }

-- ---- DLLPs

abbrev pub sent_back : Dllp → Option ℕ → CourseView → CourseView
sent_back dllp row s = record s { back = s.back ++ record { dllp = dllp; row = row } ∷ [] }

abbrev pub oldest_back : CourseView → Option DllpSent
oldest_back s = slice_get s.back 0

abbrev pub without_back : CourseView → CourseView
without_back s = record s { back = drop 1 s.back }

-- the packets through that number are acknowledged
abbrev pub acknowledged : ℕ → CourseView → CourseView
acknowledged number s = record s {
  acked = number;
  kept = drop (distance_of number s.acked) s.kept;
  place = s.place - distance_of number s.acked;
  replays = if distance_of number s.acked == 0 then s.replays else 0;
}

-- ---- replays

-- all that was sent and isn't acknowledged goes once more; REPLAY_NUM has 2 bits, and the replay that finds 3 stops
-- the sender
abbrev pub replay_of : CourseView → Replay
replay_of s = if s.place == 0 then replays.Nothing else (if s.replays == 3 then replays.Stopped s.place else replays.Again s.place)

abbrev pub replayed : CourseView → CourseView
replayed s = record s {
  place = 0;
  replays = if s.place == 0 then s.replays else (if s.replays == 3 then 0 else s.replays + 1);
}

-- what a DLLP does to the sender
abbrev pub after_dllp : Dllp → CourseView → CourseView
after_dllp (dllps.Ack number) s = acknowledged number s
after_dllp (dllps.Nak number) s = replayed (acknowledged number s)
after_dllp (dllps.Update class headers units) s = record s { limits = with_limit s.limits class (limit headers units) }

abbrev pub dllp_replay : Dllp → CourseView → Replay
dllp_replay (dllps.Ack number) s = replays.Nothing
dllp_replay (dllps.Nak number) s = replay_of (acknowledged number s)
dllp_replay (dllps.Update class headers units) s = replays.Nothing

-- the oldest DLLP leaves the wire back, and takes effect or is gone
abbrev pub told : DllpSeen → CourseView → CourseView
told (dllps_seen.Took dllp) s = after_dllp dllp s
told dllps_seen.Gone s = s

abbrev pub told_replay : DllpSeen → CourseView → Replay
told_replay (dllps_seen.Took dllp) s = dllp_replay dllp s
told_replay dllps_seen.Gone s = replays.Nothing
