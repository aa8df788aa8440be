-- The receiver of a link: what it does with a packet, and what it sends back (section 3.6.3).
use Rattle.std.specs.Prelude.{ℕ, Bool, if◌then◌else◌}
use Rattle.seq12.specs.Numbers.{next_of, previous_of, class_of}
use Rattle.seq12.specs.declared.class.SequenceClass.{SequenceClass}
use Rattle.seq12.specs.declared.class.SequenceClass.TheVariants as classes
use Rattle.dllp_core.specs.declared.packet.Dllp.{Dllp}
use Rattle.dllp_core.specs.declared.packet.Dllp.TheVariants.{Ack, Nak}
use Rattle.link_replay.specs.declared.receiver.NakScheduled.{NakScheduled}
use Rattle.link_replay.specs.declared.receiver.NakScheduled.TheVariants.{Clear, Due, Sent}
use Rattle.link_replay.specs.declared.receiver.Reception.{Reception}
use Rattle.link_replay.specs.declared.receiver.Reception.TheVariants.{Accept, Duplicate, NakNow, Quiet}

pub record ReceiverView : Type 0 where
  -- NEXT_RCV_SEQ, the number that is waited for
  pub next : ℕ
  -- NAK_SCHEDULED, and whether the Nak was sent
  pub nak : NakScheduled

-- a receiver that has accepted nothing
abbrev pub fresh : ReceiverView
fresh = record { next = 0; nak = Clear }

-- a packet that can't be used asks for a Nak, unless one is scheduled
abbrev pub discard_answer : NakScheduled → Reception
discard_answer Clear = NakNow
discard_answer Due = Quiet
discard_answer Sent = Quiet

-- the answer to a good packet
abbrev pub answer_by : SequenceClass → NakScheduled → Reception
answer_by classes.Expected nak = Accept
answer_by classes.Duplicate nak = Duplicate
answer_by classes.Ahead nak = discard_answer nak

-- the answer to a packet of this number, whose check was good or failed
abbrev pub reception_of : ReceiverView → ℕ → Bool → Reception
reception_of r got good = if good then answer_by (class_of r.next got) r.nak else discard_answer r.nak

-- NEXT_RCV_SEQ after this answer: it advances where a packet was accepted
abbrev pub next_after : ℕ → Reception → ℕ
next_after next Accept = next_of next
next_after next Duplicate = next
next_after next NakNow = next
next_after next Quiet = next

-- an accepted packet clears NAK_SCHEDULED, and a Nak that is asked for is due
abbrev pub nak_after : NakScheduled → Reception → NakScheduled
nak_after nak Accept = Clear
nak_after nak Duplicate = nak
nak_after nak NakNow = Due
nak_after nak Quiet = nak

abbrev pub after_reception : ReceiverView → Reception → ReceiverView
after_reception r answer = record { next = next_after r.next answer; nak = nak_after r.nak answer }

abbrev pub after_receive : ReceiverView → ℕ → Bool → ReceiverView
after_receive r got good = after_reception r (reception_of r got good)

-- a Nak where one is due, and else an Ack
abbrev pub dllp_by : NakScheduled → ℕ → Dllp
dllp_by Clear number = Ack number
dllp_by Due number = Nak number
dllp_by Sent number = Ack number

-- what is sent back, with the number of the packet that was accepted last
abbrev pub acknowledgment_of : ReceiverView → Dllp
acknowledgment_of r = dllp_by r.nak (previous_of r.next)

-- a Nak that was sent is no longer due, and stays scheduled
abbrev pub nak_sent : NakScheduled → NakScheduled
nak_sent Clear = Clear
nak_sent Due = Sent
nak_sent Sent = Sent

abbrev pub after_acknowledge : ReceiverView → ReceiverView
after_acknowledge r = record { next = r.next; nak = nak_sent r.nak }
