-- A part that is lent: it becomes what is written behind the loan.
use denote.RattleType.{RattleType}
use Rattle.std.specs.Borrow.{Lends, MutBor, Fml}
use Rattle.seq_memory.specs.contracts.memory.Memory as memory
use Rattle.seq_memory.specs.contracts.history.Kept as kept
use Rattle.seq_memory.specs.contracts.history.KeptKeeper.TheImpl.{ghosts}
use Rattle.requester_core.specs.contracts.requester.Requester as requester
use Rattle.lane_core.specs.contracts.sender_end.SenderEnd as sender
use Rattle.lane_core.specs.contracts.wires.ForwardWire as forward
use Rattle.lane_core.specs.contracts.wires.BackWire as back
use Rattle.lane_core.specs.contracts.receiver_end.ReceiverEnd as receiver
use Rattle.hall_laws.specs.declared.part.PartValue.{PartValue}
use Rattle.hall_laws.specs.declared.part.PartValue.TheVariants.{Memory, Requester, Sender, Forward, Back, Receiver}
use Rattle.hall_laws.specs.contracts.part.PartValue.{the_row}

-- a memory that keeps its history
abbrev pub memory_row : RattleType
memory_row = memory.the_row kept.the_row ghosts

abbrev pub LendsMemory : MutBor PartValue → MutBor memory_row.Denot → Fml
LendsMemory part loan = Lends the_row memory_row part loan (λ m. Memory m)

abbrev pub LendsRequester : MutBor PartValue → MutBor requester.the_row.Denot → Fml
LendsRequester part loan = Lends the_row requester.the_row part loan (λ q. Requester q)

abbrev pub LendsSender : MutBor PartValue → MutBor sender.the_row.Denot → Fml
LendsSender part loan = Lends the_row sender.the_row part loan (λ s. Sender s)

abbrev pub LendsForward : MutBor PartValue → MutBor forward.the_row.Denot → Fml
LendsForward part loan = Lends the_row forward.the_row part loan (λ w. Forward w)

abbrev pub LendsBack : MutBor PartValue → MutBor back.the_row.Denot → Fml
LendsBack part loan = Lends the_row back.the_row part loan (λ b. Back b)

abbrev pub LendsReceiver : MutBor PartValue → MutBor receiver.the_row.Denot → Fml
LendsReceiver part loan = Lends the_row receiver.the_row part loan (λ r. Receiver r)
