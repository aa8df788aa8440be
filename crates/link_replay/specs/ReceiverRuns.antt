-- Lists of calls of a receiver, and what they hand up.
use Rattle.std.specs.Prelude.{◌≡◌, ℕ, ◌+◌, Bool, List, [], ◌∷◌, ◌++◌}
use Rattle.seq12.specs.Numbers.{next_of}
use Rattle.link_replay.specs.declared.receiver.Reception.{Reception}
use Rattle.link_replay.specs.declared.receiver.Reception.TheVariants.{Accept, Duplicate, NakNow, Quiet}
use Rattle.link_replay.specs.ReceiverView.{ReceiverView, reception_of, after_receive, after_acknowledge}

-- a call of a receiver: a packet's number, whose check was good or failed; or what is sent back
pub data Call : Type 0 where
  Receive : ℕ → Bool → Call
  Acknowledge : Call

abbrev pub after_call : ReceiverView → Call → ReceiverView
after_call r (Receive got good) = after_receive r got good
after_call r Acknowledge = after_acknowledge r

-- the number of a packet that is handed up under this answer
abbrev pub handed_up_if : Reception → ℕ → List ℕ
handed_up_if Accept got = got ∷ []
handed_up_if Duplicate got = []
handed_up_if NakNow got = []
handed_up_if Quiet got = []

abbrev pub handed_up_by : ReceiverView → Call → List ℕ
handed_up_by r (Receive got good) = handed_up_if (reception_of r got good) got
handed_up_by r Acknowledge = []

-- how many Naks become due under this answer
abbrev pub naks_if : Reception → ℕ
naks_if Accept = 0
naks_if Duplicate = 0
naks_if NakNow = 1
naks_if Quiet = 0

abbrev pub naks_by : ReceiverView → Call → ℕ
naks_by r (Receive got good) = naks_if (reception_of r got good)
naks_by r Acknowledge = 0

-- the receiver after all these calls
abbrev pub after_calls : ReceiverView → List Call → ReceiverView
after_calls r [] = r
after_calls r (call ∷ calls) = after_calls (after_call r call) calls

-- the numbers of the packets that these calls hand up, in order
abbrev pub handed_up_in : ReceiverView → List Call → List ℕ
handed_up_in r [] = []
handed_up_in r (call ∷ calls) = handed_up_by r call ++ handed_up_in (after_call r call) calls

-- how many Naks become due in these calls
abbrev pub naks_in : ReceiverView → List Call → ℕ
naks_in r [] = 0
naks_in r (call ∷ calls) = naks_by r call + naks_in (after_call r call) calls

-- each number is the one after the last, from this one on
abbrev pub AreConsecutive : ℕ → List ℕ → Type 0
AreConsecutive first [] = Unit {0}
AreConsecutive first (number ∷ numbers) = (number ≡ first) × AreConsecutive (next_of first) numbers
