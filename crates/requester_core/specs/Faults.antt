-- The numbers and names under which refusals and faults are told.
use Rattle.std.specs.Prelude.{ℕ, List, codes}
use Rattle.requester_core.specs.declared.fault.SubmitRefusal.{SubmitRefusal}
use Rattle.requester_core.specs.declared.fault.SubmitRefusal.TheVariants as refusals
use Rattle.requester_core.specs.declared.fault.CompletionFault.{CompletionFault}
use Rattle.requester_core.specs.declared.fault.CompletionFault.TheVariants as faults

abbrev pub refusal_number : SubmitRefusal → ℕ
refusal_number (refusals.Profile f) = 1
refusal_number refusals.TagsUsed = 2
refusal_number refusals.NumbersUsed = 3

abbrev pub refusal_name : SubmitRefusal → List ℕ
refusal_name (refusals.Profile f) = codes "Profile"
refusal_name refusals.TagsUsed = codes "TagsUsed"
refusal_name refusals.NumbersUsed = codes "NumbersUsed"

abbrev pub fault_number : CompletionFault → ℕ
fault_number faults.Unexpected = 1
fault_number faults.Mismatch = 2

abbrev pub fault_name : CompletionFault → List ℕ
fault_name faults.Unexpected = codes "Unexpected"
fault_name faults.Mismatch = codes "Mismatch"
