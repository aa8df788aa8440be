-- Lists of calls of a sender, and what holds of every one.
use Rattle.std.specs.Prelude.{◌≡◌, ℕ, ◌+◌, ◌%◌, ◌<◌, ◌≤◌, nat_lt, if◌then◌else◌, List, [], ◌∷◌, ◌++◌, length}
use Rattle.link_replay.specs.CargoView.{CargoView}
use Rattle.link_replay.specs.SenderView.{SenderView, with_accepted, with_reserved, released, after_transmit, after_ack, after_nak, from_oldest, trained}

-- a call of a sender; one that is refused for being out of memory changes nothing and is left out
pub data Call : Type 0 where
  Accept : CargoView → Call
  Reserve : Call
  Release : Call
  Transmit : Call
  Ack : ℕ → Call
  Nak : ℕ → Call
  Timer : Call
  Retrained : Call

-- the number of an Ack or Nak has 12 bits
abbrev pub IsCall : Call → Type 0
IsCall (Ack number) = number < 4096
IsCall (Nak number) = number < 4096
IsCall _ = Unit {0}

abbrev pub AreCalls : List Call → Type 0
AreCalls [] = Unit {0}
AreCalls (call ∷ calls) = IsCall call × AreCalls calls

-- the sender after a call
abbrev pub after_call : SenderView → Call → SenderView
after_call s (Accept cargo) = if nat_lt (length s.kept) 2047 then with_accepted s cargo else s
after_call s Reserve = if nat_lt (length s.kept) 2047 then with_reserved s else s
after_call s Release = released s
after_call s Transmit = after_transmit s
after_call s (Ack number) = after_ack s number
after_call s (Nak number) = after_nak s number
after_call s Timer = from_oldest s
after_call s Retrained = trained s

-- the packet that a call took
abbrev pub accepted_by : SenderView → Call → List CargoView
accepted_by s (Accept cargo) = if nat_lt (length s.kept) 2047 then cargo ∷ [] else []
accepted_by s _ = []

-- the sender after all these calls
abbrev pub after_calls : SenderView → List Call → SenderView
after_calls s [] = s
after_calls s (call ∷ calls) = after_calls (after_call s call) calls

-- the packets that these calls took, oldest first
abbrev pub accepted_in : SenderView → List Call → List CargoView
accepted_in s [] = []
accepted_in s (call ∷ calls) = accepted_by s call ++ accepted_in (after_call s call) calls

-- The kept packets are the last ones accepted, oldest first, each once and at most 2047. Packet i of those accepted,
-- counted from 0, has the number i modulo 4096.
pub record KeepsTheLast (accepted : List CargoView) (s : SenderView) : Type 0 where
  -- those that were acknowledged
  pub dropped : List CargoView
  pub kept : accepted ≡ dropped ++ s.kept
  pub acked : s.acked ≡ (length dropped + 4095) % 4096
  pub window : length s.kept ≤ 2047
  pub place : s.place ≤ length s.kept
  pub replays : s.replays ≤ 3
