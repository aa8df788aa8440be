-- What the transmitter of a link keeps, and how its calls change it (section 3.6.2).
use Rattle.std.specs.Prelude.{ℕ, ◌+◌, ◌-◌, ◌%◌, Bool, true, false, ◌==◌, nat_le, nat_lt, if◌then◌else◌, List, [], ◌∷◌, ◌++◌, length, drop, Option, None, Result, Ok, Err, slice_get}
use Rattle.std.specs.Option.{option_map}
use Rattle.seq12.specs.Numbers.{distance_of}
use Rattle.link_replay.specs.declared.fault.AckFault.{AckFault}
use Rattle.link_replay.specs.declared.fault.AckFault.TheVariants.{NotOutstanding}
use Rattle.link_replay.specs.CargoView.{CargoView}

pub record SenderView : Type 0 where
  -- ACKD_SEQ, the number that was acknowledged last
  pub acked : ℕ
  -- the unacknowledged packets, oldest first
  pub kept : List CargoView
  -- how many of them were sent since the last replay
  pub place : ℕ
  -- REPLAY_NUM, the replays since a packet was acknowledged
  pub replays : ℕ
  -- the link waits to be retrained
  pub stopped : Bool
  -- there is room in memory for one more packet
  pub reserved : Bool

-- a sender that has taken nothing
abbrev pub fresh : SenderView
fresh = record { acked = 4095; kept = []; place = 0; replays = 0; stopped = false; reserved = false }

-- the number of the kept packet at a place
abbrev pub number_at : SenderView → ℕ → ℕ
number_at s i = (s.acked + 1 + i) % 4096

-- NEXT_TRANSMIT_SEQ, the number of the packet that is accepted next
abbrev pub next_number : SenderView → ℕ
next_number s = number_at s (length s.kept)

-- a packet is taken as the last
abbrev pub with_accepted : SenderView → CargoView → SenderView
with_accepted s cargo =
    record { acked = s.acked; kept = s.kept ++ cargo ∷ []; place = s.place; replays = s.replays; stopped = s.stopped; reserved = false }

-- room is kept for one more packet
abbrev pub with_reserved : SenderView → SenderView
with_reserved s =
    record { acked = s.acked; kept = s.kept; place = s.place; replays = s.replays; stopped = s.stopped; reserved = true }

-- room is no longer kept
abbrev pub released : SenderView → SenderView
released s =
    record { acked = s.acked; kept = s.kept; place = s.place; replays = s.replays; stopped = s.stopped; reserved = false }

-- the packet at the place, unless the link waits to be retrained
abbrev pub next_item : SenderView → Option CargoView
next_item s = if s.stopped then None else slice_get s.kept s.place

-- what is sent next, under its own number
abbrev pub sent_from : SenderView → Option (ℕ × CargoView)
sent_from s = option_map (λ cargo. (number_at s s.place, cargo)) (next_item s)

-- the place moves on by what was sent
abbrev pub after_transmit : SenderView → SenderView
after_transmit s =
    record {
      acked = s.acked;
      kept = s.kept;
      place = if s.stopped then s.place else (if nat_lt s.place (length s.kept) then s.place + 1 else s.place);
      replays = s.replays;
      stopped = s.stopped;
      reserved = s.reserved;
    }

-- the number of an unacknowledged packet, or ACKD_SEQ
abbrev pub is_outstanding : SenderView → ℕ → Bool
is_outstanding s number = nat_le (distance_of number s.acked) (length s.kept)

-- how many packets an Ack or Nak of this number drops
abbrev pub ack_answer : SenderView → ℕ → Result ℕ AckFault
ack_answer s number = if is_outstanding s number then Ok (distance_of number s.acked) else Err NotOutstanding

-- all packets through that number are dropped
abbrev pub acknowledged : SenderView → ℕ → SenderView
acknowledged s number =
    record {
      acked = number;
      kept = drop (distance_of number s.acked) s.kept;
      place = s.place - distance_of number s.acked;
      replays = if distance_of number s.acked == 0 then s.replays else 0;
      stopped = s.stopped;
      reserved = s.reserved;
    }

-- a replay is a move back by at least one place; REPLAY_NUM has 2 bits, and the replay that finds 3 stops the sender
abbrev pub replays_after : SenderView → ℕ
replays_after s = if s.place == 0 then s.replays else (if s.replays == 3 then 0 else s.replays + 1)

abbrev pub stopped_after : SenderView → Bool
stopped_after s = if s.place == 0 then s.stopped else (if s.replays == 3 then true else s.stopped)

-- the place moves back to the oldest packet
abbrev pub from_oldest : SenderView → SenderView
from_oldest s =
    record { acked = s.acked; kept = s.kept; place = 0; replays = replays_after s; stopped = stopped_after s; reserved = s.reserved }

-- the link was retrained
abbrev pub trained : SenderView → SenderView
trained s =
    record { acked = s.acked; kept = s.kept; place = s.place; replays = s.replays; stopped = false; reserved = s.reserved }

abbrev pub after_ack : SenderView → ℕ → SenderView
after_ack s number = if is_outstanding s number then acknowledged s number else s

-- a Nak is an Ack, and then a replay from the oldest
abbrev pub after_nak : SenderView → ℕ → SenderView
after_nak s number = if is_outstanding s number then from_oldest (acknowledged s number) else s
