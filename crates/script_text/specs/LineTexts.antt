-- The text of a script's lines.
use Rattle.std.specs.Prelude.{ℕ, List, [], ◌∷◌, ◌++◌, codes}
use Rattle.std.specs.Fmt.{decimal}
use Rattle.dllp_core.specs.declared.packet.Class.TheVariants as classes
use Rattle.flow_control.specs.declared.limits.LaneCredits.{LaneCredits}
use Rattle.lane_core.specs.declared.packet.Fate.{Fate}
use Rattle.lane_core.specs.declared.packet.Fate.TheVariants as fates
use Rattle.lane_core.specs.declared.packet.DllpKind.{DllpKind}
use Rattle.lane_core.specs.declared.packet.DllpKind.TheVariants as kinds
use Rattle.fabric_core.specs.declared.config.Config.{Config}
use Rattle.fabric_steps.specs.declared.event.LaneName.{LaneName}
use Rattle.fabric_steps.specs.declared.event.LaneName.TheVariants as lanes
use Rattle.fabric_steps.specs.Event.{Event}
use Rattle.fabric_steps.specs.declared.event.EventOf.TheVariants as events
use Rattle.operation_text.specs.Texts.{hexadecimal, op_text}
use Rattle.script_text.specs.Texts.{spaced}

-- ---- events

abbrev pub lane_text : LaneName → List ℕ
lane_text (lanes.Up port) = codes "up" ++ decimal port
lane_text (lanes.Down port) = codes "down" ++ decimal port
lane_text lanes.Inward = codes "in"
lane_text lanes.Outward = codes "out"

abbrev pub fate_text : Fate → List ℕ
fate_text fates.Good = codes "good"
fate_text fates.Failed = codes "failed"
fate_text fates.Lost = codes "lost"

-- an Ack, or the Nak that is due; an UpdateFC of a class
abbrev pub kind_text : DllpKind → List ℕ
kind_text kinds.Answer = codes "ack"
kind_text (kinds.Update classes.Posted) = codes "p"
kind_text (kinds.Update classes.NonPosted) = codes "np"
kind_text (kinds.Update classes.Completion) = codes "cpl"

abbrev pub event_line : Event → List ℕ
event_line (events.Submit port op) = spaced (codes "submit" ∷ decimal port ∷ op_text op ∷ [])
event_line (events.Transmit lane) = spaced (codes "transmit" ∷ lane_text lane ∷ [])
event_line (events.Deliver lane fate) = spaced (codes "deliver" ∷ lane_text lane ∷ fate_text fate ∷ [])
event_line (events.SendDllp lane kind) = spaced (codes "dllp" ∷ lane_text lane ∷ kind_text kind ∷ [])
event_line (events.DeliverDllp lane fate) = spaced (codes "deliver-dllp" ∷ lane_text lane ∷ fate_text fate ∷ [])
event_line (events.Timer lane) = spaced (codes "timer" ∷ lane_text lane ∷ [])
event_line (events.Retrained lane) = spaced (codes "retrained" ∷ lane_text lane ∷ [])
event_line (events.Forward lane place) = spaced (codes "forward" ∷ lane_text lane ∷ decimal place ∷ [])
event_line (events.Serve place) = spaced (codes "serve" ∷ decimal place ∷ [])
event_line (events.Collect port) = spaced (codes "collect" ∷ decimal port ∷ [])

-- ---- the fabric

-- P, NP and Cpl, of each the header credits and then the data credits
abbrev pub credits_text : LaneCredits → List ℕ
credits_text c = spaced (decimal c.ph ∷ decimal c.pd ∷ decimal c.nph ∷ decimal c.npd ∷ decimal c.cplh ∷ decimal c.cpld ∷ [])

-- the base is hexadecimal
abbrev pub fabric_line : Config → List ℕ
fabric_line c = spaced (codes "fabric" ∷ decimal c.requesters ∷ hexadecimal c.base ∷ decimal c.size ∷ credits_text c.credits ∷ codes "block" ∷ decimal c.block ∷ [])
