-- The words on a chart.
use Rattle.std.specs.Prelude.{ℕ, ◌+◌, ◌-◌, ◌^◌, ◌==◌, min, nat_le, Bool, true, false, if◌then◌else◌, List, [], ◌∷◌, ◌++◌, length, take, codes, Option, Some, None, Result, Ok, Err}
use Rattle.std.specs.Fmt.{decimal}
use Rattle.hex.specs.Hex.{encode_upper}
use Rattle.tlp_core.specs.Ops.{Op}
use Rattle.seq_memory.specs.Entries.{Reply}
use Rattle.seq_memory.specs.declared.reply.ReplyOf.TheVariants as replies
use Rattle.requester_core.specs.Answers.{Answer}
use Rattle.tlp_core.specs.declared.operation.OpOf.TheVariants as ops
use Rattle.dllp_core.specs.declared.packet.Dllp.{Dllp}
use Rattle.dllp_core.specs.declared.packet.Dllp.TheVariants as dllps
use Rattle.lane_core.specs.declared.packet.Fate.{Fate}
use Rattle.lane_core.specs.declared.packet.Fate.TheVariants as fates
use Rattle.lane_core.specs.declared.packet.Arrival.{Arrival}
use Rattle.lane_core.specs.declared.packet.Arrival.TheVariants as arrivals
use Rattle.link_replay.specs.declared.receiver.Reception.TheVariants as receptions
use Rattle.fabric_steps.specs.Event.{Event, Seen}
use Rattle.fabric_steps.specs.declared.event.SeenOf.TheVariants as seen
use Rattle.fabric_steps.specs.declared.event.LaneName.{LaneName}
use Rattle.fabric_steps.specs.declared.fault.Refusal.{Refusal}
use Rattle.operation_text.specs.Texts.{sequence_text}
use Rattle.script_text.specs.Names.{class_name, refusal_text}
use Rattle.script_text.specs.Texts.{port_of, seen_text}
use Rattle.script_text.specs.LineTexts.{event_line, lane_text}
use Rattle.chart_rows.specs.declared.row.Kind.{Kind}
use Rattle.chart_rows.specs.declared.row.Kind.TheVariants as requests
use Rattle.chart_rows.specs.declared.row.Carried.{Carried}
use Rattle.chart_rows.specs.declared.row.Replay.{Replay}
use Rattle.chart_rows.specs.declared.row.Replay.TheVariants as replays
use Rattle.chart_rows.specs.declared.row.Said.{Said}
use Rattle.chart_rows.specs.declared.row.Said.TheVariants as saids
use Rattle.chart_rows.specs.declared.row.Row.{Row}
use Rattle.chart_rows.specs.declared.row.Shown.{Shown}

-- ---- packets

abbrev pub kind_of : Op → Kind
kind_of (ops.Read a dw f l) = requests.Read
kind_of (ops.Write a f l bytes) = requests.Write
kind_of (ops.FetchAdd a w x) = requests.Add
kind_of (ops.Swap a w x) = requests.Swap
kind_of (ops.Cas a w x y) = requests.Cas

abbrev pub kind_name : Kind → List ℕ
kind_name requests.Read = codes "read"
kind_name requests.Write = codes "write"
kind_name requests.Add = codes "add"
kind_name requests.Swap = codes "swap"
kind_name requests.Cas = codes "cas"

-- a request, as its kind, its requester and its number, or the completion of one
abbrev pub cpl_words : Bool → List ℕ
cpl_words is_completion = if is_completion then codes "cpl of " else []

abbrev pub carried_words : Carried → List ℕ
carried_words c = cpl_words c.is_completion ++ (kind_name c.kind ++ (32 ∷ (decimal c.requester ++ (58 ∷ decimal c.number))))

-- after a space, where it is known
abbrev pub known_words : Option Carried → List ℕ
known_words None = []
known_words (Some c) = 32 ∷ carried_words c

abbrev pub sent_words : ℕ → Option Carried → List ℕ
sent_words number c = sequence_text number ++ known_words c

-- ---- what is said of an arrow

-- nothing of a packet that is accepted
abbrev pub arrival_words : Fate → Arrival → List ℕ
arrival_words fates.Lost arrival = codes "lost"
arrival_words fates.Failed (arrivals.Answered receptions.NakNow) = codes "failed, Nak due"
arrival_words fates.Failed _ = codes "failed"
arrival_words fates.Good (arrivals.Answered receptions.Duplicate) = codes "duplicate, dropped"
arrival_words fates.Good (arrivals.Answered receptions.NakNow) = codes "out of order, Nak due"
arrival_words fates.Good (arrivals.Answered receptions.Quiet) = codes "out of order, dropped"
arrival_words fates.Good _ = []

-- ---- DLLPs and replays

abbrev pub dllp_words : Dllp → List ℕ
dllp_words (dllps.Ack n) = codes "Ack " ++ sequence_text n
dllp_words (dllps.Nak n) = codes "Nak " ++ sequence_text n
dllp_words (dllps.Update class headers units) = codes "UpdateFC " ++ (class_name class ++ (32 ∷ (decimal headers ++ (32 ∷ decimal units))))

-- how many packets go once more
abbrev pub again_words : ℕ → List ℕ
again_words places = codes "replay " ++ decimal places

abbrev pub replay_words : Replay → List ℕ
replay_words replays.Nothing = []
replay_words (replays.Again places) = again_words places
replay_words (replays.Stopped places) = again_words places ++ codes ", link stops"

-- what is said of a DLLP that arrived or was lost
abbrev pub dllp_arrival_words : Fate → Replay → List ℕ
dllp_arrival_words fates.Good r = replay_words r
dllp_arrival_words fates.Failed r = codes "failed"
dllp_arrival_words fates.Lost r = codes "lost"

-- ---- replies

-- data of more than 16 bytes is cut to eight, with its length
abbrev pub data_words : List ℕ → List ℕ
data_words bytes =
    if nat_le (length bytes) 16 then codes "data " ++ encode_upper bytes
    else codes "data " ++ (encode_upper (take 8 bytes) ++ (codes ".. (" ++ (decimal (length bytes) ++ codes ")")))

abbrev pub brief_reply : Reply → List ℕ
brief_reply replies.Done = codes "done"
brief_reply (replies.Data bytes) = data_words bytes.items
brief_reply replies.Unsupported = codes "ur"
brief_reply replies.Aborted = codes "ca"

-- ---- what happened at a part

abbrev pub submitted_words : Carried → List ℕ
submitted_words c = codes "submit " ++ carried_words c

abbrev pub expired_words : Replay → List ℕ
expired_words r = codes "timer: " ++ replay_words r

abbrev pub forwarded_words : Option Carried → List ℕ
forwarded_words c = codes "forward" ++ known_words c

abbrev pub served_words : Option Carried → ℕ → List ℕ
served_words c index = codes "serve" ++ (known_words c ++ (codes ", history " ++ decimal index))

-- the reply that the event of a row brought
abbrev pub seen_reply : Seen → List ℕ
seen_reply (seen.Collected a) = codes ": " ++ brief_reply a.reply
seen_reply _ = []

abbrev pub reply_in : Said → List ℕ
reply_in (saids.Event event (Ok what)) = seen_reply what
reply_in (saids.Event event (Err r)) = []
reply_in saids.Settle = []

abbrev pub collected_words : Option Carried → Said → List ℕ
collected_words c row = codes "collect" ++ (known_words c ++ reply_in row)

-- ---- rows

-- at most so many letters: the last two are dots where a text has more
abbrev pub shortened : ℕ → List ℕ → List ℕ
shortened most text = if nat_le (length text) most then text else take (most - 2) text ++ codes ".."

-- what a row is of
abbrev pub event_words : Said → List ℕ
event_words saids.Settle = codes "settle"
event_words (saids.Event event outcome) = event_line event

abbrev pub answer_words : ℕ → Answer → List ℕ
answer_words port a = codes "ans " ++ (decimal port ++ (32 ∷ (decimal a.number ++ (32 ∷ brief_reply a.reply))))

-- what was seen of an event, with its data cut where there is much
abbrev pub brief_seen : Event → Seen → List ℕ
brief_seen event (seen.Collected a) = answer_words (port_of event) a
brief_seen event what = seen_text event what

abbrev pub refused_words : Refusal → List ℕ
refused_words r = codes "refused " ++ refusal_text r

-- so it stands at the left of a row, or why the event was refused
abbrev pub result_words : Said → List ℕ
result_words saids.Settle = []
result_words (saids.Event event (Ok what)) = brief_seen event what
result_words (saids.Event event (Err r)) = refused_words r

-- in so many letters
abbrev pub letters_of : Said → ℕ
letters_of row = min (length (result_words row)) 44

-- what was seen of the event, or why it was refused, with all its data
abbrev pub outcome_words : Event → Result Seen Refusal → List ℕ
outcome_words event (Ok what) = seen_text event what
outcome_words event (Err r) = refused_words r

abbrev pub becomes_words : Said → List ℕ
becomes_words saids.Settle = []
becomes_words (saids.Event event outcome) = codes " -> " ++ shortened 60 (outcome_words event outcome)

-- what is shown where one points at a row
abbrev pub row_words : Row → List ℕ
row_words r = (codes "line " ++ (decimal r.line ++ codes ": ")) ++ (shortened 60 (event_words r.said) ++ becomes_words r.said)

-- ---- the heading

-- what is said of a lane that the fabric doesn't have
abbrev pub absent_words : LaneName → List ℕ
absent_words lane = codes "; the fabric lacks " ++ lane_text lane

abbrev pub requester_words : ℕ → List ℕ
requester_words port = codes "requester " ++ decimal port

-- a number of 64 bits
abbrev pub capped : ℕ → ℕ
capped n = min n (2 ^ 64 - 1)

-- which rows are shown, if so many come before these, and so many after them
abbrev pub shown_of : ℕ → ℕ → ℕ → Shown
shown_of before rows after = record { first = capped (before + 1); last = capped (before + rows); all = capped (capped (before + rows) + after) }

abbrev pub rows_words : Shown → List ℕ
rows_words s = codes "rows " ++ (decimal s.first ++ (codes " to " ++ decimal s.last))

abbrev pub shown_words : Shown → List ℕ
shown_words s = rows_words s ++ (codes " of " ++ (decimal s.all ++ codes "; --from and --to choose others"))

abbrev pub omitted_words : ℕ → List ℕ
omitted_words count =
    if count == 1 then codes "1 Ack or credit update that tells nothing new is left out; --all shows it"
    else decimal count ++ codes " Acks and credit updates that tell nothing new are left out; --all shows them"
