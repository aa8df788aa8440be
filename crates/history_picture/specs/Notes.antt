-- What is wrong, in words.
use Rattle.std.specs.Prelude.{ℕ, ◌+◌, Bool, if◌then◌else◌, List, [], ◌∷◌, ◌++◌, take, codes, slice_get, Option, Some, None}
use Rattle.std.specs.Fmt.{decimal}
use Rattle.seq_memory.specs.Entries.{Reply}
use Rattle.history_words.specs.Records.{Record}
use Rattle.history_words.specs.declared.record.RecordOf.TheVariants as records
use Rattle.history_words.specs.declared.flaws.Flaw.{Flaw}
use Rattle.history_words.specs.declared.flaws.FlawKind.{FlawKind}
use Rattle.history_words.specs.declared.flaws.FlawKind.TheVariants as flaws
use Rattle.flaw_places.specs.Places.{flaw_line}
use Rattle.operation_text.specs.Texts.{reply_text}
use Rattle.svg_text.specs.Shapes.{Shape}
use Rattle.history_bars.specs.declared.marks.View.{View}
use Rattle.history_picture.specs.declared.flaws.Finding.{Finding}
use Rattle.history_bars.specs.Marks.{plain_label}

-- what a flaw says of a request
abbrev pub meaning : FlawKind → List ℕ
meaning flaws.Numbering = codes " has another number than the requester's next one"
meaning flaws.Stranger = codes " is in the history, and was not submitted so"
meaning flaws.Twice = codes " is in the history a second time"
meaning flaws.Order = codes " is in the history before an earlier write of its requester"
meaning flaws.Unasked = codes " is answered, and has asked for no answer before"
meaning flaws.Again = codes " is answered a second time"
meaning flaws.Absent = codes " is answered, and is not in the history"
meaning flaws.Early = codes " is in the history before it was submitted"
meaning flaws.Late = codes " is in the history after its answer"
meaning flaws.Reply = codes " is answered otherwise than the memory replies"
meaning flaws.Stale = codes " is in the history before what was answered when it was submitted"
meaning flaws.Clock = codes " has a count that the history had not"
meaning flaws.Memory = []

abbrev pub reply_words : Reply → List ℕ
reply_words reply = reply_text reply

-- the reply that a record tells
abbrev pub told_by : Option Record → List ℕ
told_by (Some (records.Ans i k reply n)) = reply_text reply
told_by _ = []

abbrev pub instead : Reply → List ℕ
instead other = codes " where " ++ (reply_text other ++ codes " is expected")

abbrev pub replies : Option Record → Reply → List ℕ
replies o other = codes ": " ++ (told_by o ++ instead other)

-- where a reply is expected, the one that came in its place, and it
abbrev pub why : Option Reply → List Record → Flaw → List ℕ
why None rs f = meaning f.kind
why (Some other) rs f = replies (slice_get rs f.place) other

abbrev pub request_said : ℕ × ℕ → List ℕ
request_said q = codes "request " ++ (decimal q.1 ++ (codes " of requester " ++ decimal q.0))

abbrev pub words_of : Option (ℕ × ℕ) → List ℕ → List ℕ
words_of None why = []
words_of (Some q) why = request_said q ++ why

-- the request that the flaw names, and what is wrong with it
abbrev pub note_words : View → List Record → Flaw → List ℕ
note_words v rs f = words_of v.flawed (why v.expected rs f)

abbrev pub note_line : List ℕ → List Shape
note_line words = Shape.Written (plain_label 10 42) (take 110 words) ∷ []

abbrev pub note_shapes : View → List Record → Option Finding → List Shape
note_shapes v rs None = []
note_shapes v rs (Some f) = note_line (note_words v rs f.flaw)

-- ---- the first line

-- the flaw as `check` tells it, and its line; or that there is none
abbrev pub flaw_words : Option Finding → List ℕ
flaw_words None = codes "ok"
flaw_words (Some f) = flaw_line f.flaw.kind f.flaw.place

abbrev pub line_words : Option Finding → List ℕ
line_words None = []
line_words (Some f) = codes " (line " ++ (decimal f.line ++ codes ")")

abbrev pub verdict_words : Option Finding → List ℕ
verdict_words f = flaw_words f ++ line_words f

-- where points are left out, the options that choose them
abbrev pub others_words : Bool → List ℕ
others_words is_cut = if is_cut then codes "; --from and --to choose others" else []

-- which points of how many are shown
abbrev pub window_words : View → ℕ → List ℕ
window_words v count =
    codes "points " ++ (decimal v.scale.from ++ (codes " to " ++ (decimal (v.scale.from + v.scale.span)
    ++ (codes " of " ++ (decimal count ++ others_words v.is_cut)))))
