-- The forms of a script's lines.
use Rattle.std.specs.Prelude.{ℕ, ◌-◌, ◌&&◌, nat_le, if◌then◌else◌, List, [], ◌∷◌, Option, Some, None, option_map, take, drop, codes, bytes_eq}
use Rattle.dllp_core.specs.declared.packet.Class.TheVariants as classes
use Rattle.flow_control.specs.declared.limits.LaneCredits.{LaneCredits}
use Rattle.lane_core.specs.declared.packet.Fate.{Fate}
use Rattle.lane_core.specs.declared.packet.Fate.TheVariants as fates
use Rattle.lane_core.specs.declared.packet.DllpKind.{DllpKind}
use Rattle.lane_core.specs.declared.packet.DllpKind.TheVariants as kinds
use Rattle.fabric_steps.specs.declared.event.LaneName.{LaneName}
use Rattle.fabric_steps.specs.declared.event.LaneName.TheVariants as lanes
use Rattle.fabric_steps.specs.Event.{Event}
use Rattle.fabric_steps.specs.declared.event.EventOf.TheVariants as events
use Rattle.operation_text.specs.Words.{then_with, field, ended}
use Rattle.operation_text.specs.Numbers.{numeral}
use Rattle.operation_text.specs.Operations.{address, op_spelled}
use Rattle.script_text.specs.declared.line.Line.{Line}
use Rattle.script_text.specs.declared.line.Line.TheVariants as lines

-- ---- fields

-- of 8 bits: ports, how many requesters there are, header credits
abbrev pub octet : List ℕ → Option ℕ
octet w = numeral 10 255 w

-- of 16 bits: data credits, the bytes of a block
abbrev pub short : List ℕ → Option ℕ
short w = numeral 10 65535 w

-- of 64 bits: places, the bytes of a memory
abbrev pub count : List ℕ → Option ℕ
count w = numeral 10 18446744073709551615 w

-- the digit of a port, from `1` to `7`
abbrev pub port_digit : List ℕ → Option ℕ
port_digit (c ∷ []) = if nat_le 49 c && nat_le c 55 then Some (c - 48) else None
port_digit _ = None

-- `in`, `out`, `up` and `down` with a port
abbrev pub lane : List ℕ → Option LaneName
lane w =
    if bytes_eq w (codes "in") then Some lanes.Inward
    else (if bytes_eq w (codes "out") then Some lanes.Outward
    else (if bytes_eq (take 2 w) (codes "up") then option_map lanes.Up (port_digit (drop 2 w))
    else (if bytes_eq (take 4 w) (codes "down") then option_map lanes.Down (port_digit (drop 4 w)) else None)))

abbrev pub fate : List ℕ → Option Fate
fate w =
    if bytes_eq w (codes "good") then Some fates.Good
    else (if bytes_eq w (codes "failed") then Some fates.Failed
    else (if bytes_eq w (codes "lost") then Some fates.Lost else None))

-- an Ack, or the Nak that is due; an UpdateFC of a class
abbrev pub kind : List ℕ → Option DllpKind
kind w =
    if bytes_eq w (codes "ack") then Some kinds.Answer
    else (if bytes_eq w (codes "p") then Some (kinds.Update classes.Posted)
    else (if bytes_eq w (codes "np") then Some (kinds.Update classes.NonPosted)
    else (if bytes_eq w (codes "cpl") then Some (kinds.Update classes.Completion) else None)))

-- ---- the fabric

-- what a lane has where the line doesn't tell it
abbrev pub default_credits : LaneCredits
default_credits = record { ph = 16; pd = 64; nph = 16; npd = 16; cplh = 16; cpld = 64 }

-- the six credits, and the words behind them
abbrev pub six_credits : List (List ℕ) → Option (LaneCredits × List (List ℕ))
six_credits ws =
    field octet (λ ph. field short (λ pd. field octet (λ nph. field short (λ npd. field octet (λ cplh. field short (λ cpld rest.
    Some (record { ph = ph; pd = pd; nph = nph; npd = npd; cplh = cplh; cpld = cpld }, rest))))))) ws

-- the credits, if they are there
abbrev pub credits_of : List (List ℕ) → Option (LaneCredits × List (List ℕ))
credits_of [] = Some (default_credits, [])
credits_of (w ∷ ws) = if bytes_eq w (codes "block") then Some (default_credits, w ∷ ws) else six_credits (w ∷ ws)

-- `block` and its bytes at the end of the line, if they are there; a block has 64 bytes otherwise
abbrev pub block_of : List (List ℕ) → Option ℕ
block_of [] = Some 64
block_of (w ∷ ws) = if bytes_eq w (codes "block") then field short ended ws else None

abbrev pub fabric_with : ℕ → ℕ → ℕ → List (List ℕ) → Option Line
fabric_with requesters base size ws =
    then_with (credits_of ws) (λ c. then_with (block_of c.1) (λ b.
    Some (lines.Fabric (record { requesters = requesters; base = base; size = size; credits = c.0; block = b }))))

abbrev pub fabric_of : List (List ℕ) → Option Line
fabric_of ws = field octet (λ requesters. field address (λ base. field count (λ size. fabric_with requesters base size))) ws

-- ---- events

abbrev pub submit_of : List (List ℕ) → Option Event
submit_of ws = field octet (λ i rest. then_with (op_spelled rest) (λ op. Some (events.Submit i op))) ws

abbrev pub transmit_of : List (List ℕ) → Option Event
transmit_of ws = field lane (λ l. ended (events.Transmit l)) ws

abbrev pub deliver_of : List (List ℕ) → Option Event
deliver_of ws = field lane (λ l. field fate (λ f. ended (events.Deliver l f))) ws

abbrev pub dllp_of : List (List ℕ) → Option Event
dllp_of ws = field lane (λ l. field kind (λ k. ended (events.SendDllp l k))) ws

abbrev pub deliver_dllp_of : List (List ℕ) → Option Event
deliver_dllp_of ws = field lane (λ l. field fate (λ f. ended (events.DeliverDllp l f))) ws

abbrev pub timer_of : List (List ℕ) → Option Event
timer_of ws = field lane (λ l. ended (events.Timer l)) ws

abbrev pub retrained_of : List (List ℕ) → Option Event
retrained_of ws = field lane (λ l. ended (events.Retrained l)) ws

abbrev pub forward_of : List (List ℕ) → Option Event
forward_of ws = field lane (λ l. field count (λ place. ended (events.Forward l place))) ws

abbrev pub serve_of : List (List ℕ) → Option Event
serve_of ws = field count (λ place. ended (events.Serve place)) ws

abbrev pub collect_of : List (List ℕ) → Option Event
collect_of ws = field octet (λ i. ended (events.Collect i)) ws

-- an event, by its first word
abbrev pub event_by : List ℕ → List (List ℕ) → Option Event
event_by k ws =
    if bytes_eq k (codes "submit") then submit_of ws
    else (if bytes_eq k (codes "transmit") then transmit_of ws
    else (if bytes_eq k (codes "deliver") then deliver_of ws
    else (if bytes_eq k (codes "dllp") then dllp_of ws
    else (if bytes_eq k (codes "deliver-dllp") then deliver_dllp_of ws
    else (if bytes_eq k (codes "timer") then timer_of ws
    else (if bytes_eq k (codes "retrained") then retrained_of ws
    else (if bytes_eq k (codes "forward") then forward_of ws
    else (if bytes_eq k (codes "serve") then serve_of ws
    else (if bytes_eq k (codes "collect") then collect_of ws else None)))))))))

-- ---- lines

-- `settle` alone runs the fabric until nothing moves
abbrev pub settle_of : List (List ℕ) → Option Line
settle_of ws = ended lines.Settle ws

-- a line, by its first word
abbrev pub line_by : List ℕ → List (List ℕ) → Option Line
line_by k ws =
    if bytes_eq k (codes "fabric") then fabric_of ws
    else (if bytes_eq k (codes "settle") then settle_of ws else option_map lines.Event (event_by k ws))

-- the line that the words spell
abbrev pub line_of : List (List ℕ) → Option Line
line_of [] = None
line_of (k ∷ ws) = line_by k ws
