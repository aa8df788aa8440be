-- The events of a link over the ends that they use: what is seen, and the ends after it, or the refusal.
use Rattle.std.specs.Prelude.{◌≡◌, [], None, Result, Ok, Err}
use Rattle.lane_core.specs.Steps.{transmitted}
use Rattle.fabric_steps.specs.declared.event.LinkEvent.{LinkEvent}
use Rattle.fabric_steps.specs.declared.event.LinkEvent.TheVariants as links
use Rattle.fabric_steps.specs.Event.{Seen}
use Rattle.fabric_steps.specs.declared.event.SeenOf.TheVariants as seen
use Rattle.fabric_steps.specs.declared.fault.Refusal.{Refusal}
use Rattle.fabric_steps.specs.declared.fault.Refusal.TheVariants.{NoSuchPart}
use Rattle.fabric_core.specs.Answers.{map_ok, transmit_on, deliver_on, send_dllp_on, deliver_dllp_on, timer_on, retrained_on}
use Rattle.hall_laws.specs.declared.part.PartValue.{PartValue}
use Rattle.hall_laws.specs.declared.part.PartValue.TheVariants.{Sender, Forward, Back, Receiver}
use Rattle.hall_laws.specs.Parts.{IsSender, IsForward, IsBack, IsReceiver}

-- an event of a link over the two ends that it uses
abbrev pub acts : LinkEvent → PartValue → PartValue → Result (Seen × PartValue × PartValue) Refusal
acts links.Transmit (Sender s) (Forward w) = map_ok (transmit_on s w) (λ x. (seen.Sent x.0, Sender x.1, Forward x.2))
acts (links.Deliver fate) (Forward w) (Receiver r) = map_ok (deliver_on w r fate) (λ x. (seen.Delivered x.0, Forward x.1, Receiver x.2))
acts (links.SendDllp kind) (Receiver r) (Back b) = map_ok (send_dllp_on r b kind) (λ x. (seen.SentDllp x.0, Receiver x.1, Back x.2))
acts (links.DeliverDllp fate) (Back b) (Sender s) = map_ok (deliver_dllp_on b s fate) (λ x. (seen.SeenDllp x.0, Back x.1, Sender x.2))
acts _ _ _ = Err NoSuchPart

-- over the sender's end alone
abbrev pub acts_alone : LinkEvent → PartValue → Result (Seen × PartValue) Refusal
acts_alone links.Timer (Sender s) = map_ok (timer_on s) (λ x. (seen.Back x.0, Sender x.1))
acts_alone links.Retrained (Sender s) = map_ok (retrained_on s) (λ s'. (seen.Retrained, Sender s'))
acts_alone _ _ = Err NoSuchPart

-- two ends of the kinds that the event uses
abbrev pub AreEnds : LinkEvent → PartValue → PartValue → Type 0
AreEnds links.Transmit one two = IsSender one × IsForward two
AreEnds (links.Deliver fate) one two = IsForward one × IsReceiver two
AreEnds (links.SendDllp kind) one two = IsReceiver one × IsBack two
AreEnds (links.DeliverDllp fate) one two = IsBack one × IsSender two
AreEnds _ one two = ⊥

-- the end that was taken first shows that there is nothing to do
abbrev pub HasNothing : LinkEvent → PartValue → Type 0
HasNothing links.Transmit (Sender s) = transmitted s ≡ None
HasNothing (links.Deliver fate) (Forward w) = w ≡ []
HasNothing (links.DeliverDllp fate) (Back b) = b ≡ []
HasNothing _ _ = ⊥
