-- The words in a picture.
use Rattle.std.specs.Prelude.{ℕ, ◌-◌, List, ◌∷◌, ◌++◌, codes, slice_get, Option, Some, None}
use Rattle.std.specs.Fmt.{decimal}
use Rattle.tlp_core.specs.Ops.{Op}
use Rattle.tlp_core.specs.declared.operation.OpOf.TheVariants as ops
use Rattle.seq_memory.specs.Entries.{Reply}
use Rattle.history_words.specs.Records.{Record}
use Rattle.history_words.specs.declared.record.RecordOf.TheVariants as records
use Rattle.history_words.specs.Flaws.{moment}
use Rattle.operation_text.specs.Texts.{op_text, reply_text}
use Rattle.svg_text.specs.declared.colour.Colour.{Colour}
use Rattle.svg_text.specs.declared.colour.Colour.TheVariants as colours
use Rattle.history_bars.specs.declared.words.Request.{Request}

abbrev pub kind_colour : Op → Colour
kind_colour (ops.Read a dw f l) = colours.SkyBlue
kind_colour (ops.Write a f l bytes) = colours.Orange
kind_colour (ops.FetchAdd a w x) = colours.Green
kind_colour (ops.Swap a w x) = colours.Yellow
kind_colour (ops.Cas a w x y) = colours.Purple

-- request k of requester i
abbrev pub pair_words : ℕ → ℕ → List ℕ
pair_words i k = decimal i ++ (58 ∷ decimal k)

abbrev pub request_words : ℕ → ℕ → Op → List ℕ
request_words i k op = codes "request " ++ (pair_words i k ++ (32 ∷ op_text op))

abbrev pub acted_words : Option ℕ → List ℕ
acted_words None = codes "; no entry"
acted_words (Some acted) = codes "; entry " ++ decimal (acted - 1)

abbrev pub reply_words : ℕ → Reply → List ℕ
reply_words n reply = codes "; answered at " ++ (decimal n ++ (codes ": " ++ reply_text reply))

abbrev pub answered_words : Option Record → List ℕ
answered_words (Some (records.Ans i k reply n)) = reply_words n reply
answered_words _ = codes "; no answer"

-- which request acted, and where it stands in the history
abbrev pub dot_words : Request → List ℕ
dot_words q = codes "request " ++ (pair_words q.requester q.number ++ acted_words q.acted)

abbrev pub point_words : ℕ → List ℕ
point_words p = codes "point " ++ decimal p

-- the answer at a place of the records
abbrev pub answer_at : List Record → Option ℕ → Option Record
answer_at rs None = None
answer_at rs (Some place) = slice_get rs place

abbrev pub moment_of : Option Record → Option ℕ
moment_of None = None
moment_of (Some r) = Some (moment r)

-- what became of a request
abbrev pub course_words : List Record → Request → List ℕ
course_words rs q = codes "; submitted at " ++ (decimal q.n ++ (acted_words q.acted ++ answered_words (answer_at rs q.answer)))

abbrev pub tooltip_words : List Record → Op → Request → List ℕ
tooltip_words rs op q = request_words q.requester q.number op ++ course_words rs q

abbrev pub entry_words : ℕ → ℕ → ℕ → Op → List ℕ
entry_words p i k op = codes "entry " ++ (decimal p ++ (codes ": " ++ request_words i k op))

abbrev pub requester_words : ℕ → List ℕ
requester_words i = codes "requester " ++ decimal i
