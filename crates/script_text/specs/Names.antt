-- How faults and refusals are told: by their names, with what they were refused for.
use Rattle.std.specs.Prelude.{ℕ, List, ◌++◌, codes}
use Rattle.tlp_core.specs.Fault.{name_of}
use Rattle.dllp_core.specs.declared.packet.Class.{Class}
use Rattle.dllp_core.specs.declared.packet.Class.TheVariants as classes
use Rattle.requester_core.specs.declared.fault.SubmitRefusal.{SubmitRefusal}
use Rattle.requester_core.specs.declared.fault.SubmitRefusal.TheVariants as submits
use Rattle.lane_core.specs.declared.packet.LaneRefusal.{LaneRefusal}
use Rattle.lane_core.specs.declared.packet.LaneRefusal.TheVariants as lane_refusals
use Rattle.fabric_steps.specs.declared.fault.Refusal.{Refusal}
use Rattle.fabric_steps.specs.declared.fault.Refusal.TheVariants as refusals

-- a class of credits, in the standard's letters
abbrev pub class_name : Class → List ℕ
class_name classes.Posted = codes "P"
class_name classes.NonPosted = codes "NP"
class_name classes.Completion = codes "Cpl"

abbrev pub submit_refusal_text : SubmitRefusal → List ℕ
submit_refusal_text (submits.Profile f) = codes "Profile " ++ name_of f
submit_refusal_text submits.TagsUsed = codes "TagsUsed"
submit_refusal_text submits.NumbersUsed = codes "NumbersUsed"

abbrev pub lane_refusal_text : LaneRefusal → List ℕ
lane_refusal_text (lane_refusals.NoCredits c) = codes "NoCredits " ++ class_name c
lane_refusal_text lane_refusals.WindowFull = codes "WindowFull"
lane_refusal_text lane_refusals.Memory = codes "Memory"

-- the last three are told of no event of a fabric
abbrev pub refusal_text : Refusal → List ℕ
refusal_text refusals.NoSuchPart = codes "NoSuchPart"
refusal_text refusals.Idle = codes "Idle"
refusal_text refusals.NotTakeable = codes "NotTakeable"
refusal_text (refusals.Submit r) = submit_refusal_text r
refusal_text (refusals.Lane r) = lane_refusal_text r
refusal_text refusals.Memory = codes "Memory"
refusal_text (refusals.Protocol f) = codes "Protocol"
refusal_text (refusals.Strange f) = codes "Strange"
refusal_text (refusals.Route f) = codes "Route"
