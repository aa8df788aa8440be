-- The names of refusals, and their numbers in the order in which they are looked for.
use Rattle.std.specs.Prelude.{ℕ, List, codes}
use Rattle.link_replay.specs.declared.fault.SendRefusal.{SendRefusal}
use Rattle.link_replay.specs.declared.fault.SendRefusal.TheVariants.{WindowFull, Memory}
use Rattle.link_replay.specs.declared.fault.AckFault.{AckFault}
use Rattle.link_replay.specs.declared.fault.AckFault.TheVariants.{NotOutstanding}

abbrev pub refusal_number : SendRefusal → ℕ
refusal_number WindowFull = 1
refusal_number Memory = 2

abbrev pub refusal_name : SendRefusal → List ℕ
refusal_name WindowFull = codes "WindowFull"
refusal_name Memory = codes "Memory"

abbrev pub ack_fault_number : AckFault → ℕ
ack_fault_number NotOutstanding = 1

abbrev pub ack_fault_name : AckFault → List ℕ
ack_fault_name NotOutstanding = codes "NotOutstanding"
