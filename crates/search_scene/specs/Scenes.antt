-- What a scene shows of a log that has no history. Records are those of the log as it was read, and each has a line.
use Rattle.std.specs.Prelude.{ℕ, ◌≡◌, ◌≢◌, ◌<◌, ◌≤◌, ◌+◌, ◌-◌, ◌⊎◌, Bool, true, false, if◌then◌else◌, List, [], ◌++◌, length, drop, codes, slice_get, Option, Some, None, IfSome, All}
use Rattle.std.specs.List.{list_any}
use Rattle.std.specs.Fmt.{decimal}
use Rattle.tlp_core.specs.Ops.{Op}
use Rattle.tlp_core.specs.Operation.{is_posted}
use Rattle.seq_memory.specs.Entries.{Entry}
use Rattle.hex.specs.Hex.{encode_upper}
use Rattle.seq_memory.specs.Entries.{Reply}
use Rattle.seq_memory.specs.declared.reply.ReplyOf.TheVariants as replies
use Rattle.history_words.specs.declared.record.RecordOf.TheVariants as records
use Rattle.history_words.specs.TraceView.{TraceView}
use Rattle.history_words.specs.Claim.{claim_of}
use Rattle.history_words.specs.Trace.{Explains, answers_to}
use Rattle.log_runs.specs.Explainable.{SeenAlike, prefix}
use Rattle.search_history.specs.Expected.{IsExpected}
use Rattle.operation_text.specs.Texts.{op_text, reply_text}
use Rattle.trace_diagnostics.specs.Told.{TraceLinesView, record_line}
use Rattle.search_picture.specs.declared.scene.Arrow.{Arrow}
use Rattle.search_picture.specs.declared.scene.PictureRequest.{PictureRequest}
use Rattle.search_picture.specs.declared.scene.Scene.{Scene}

-- ---- words

-- the title: what the search answers
abbrev pub title_of : ℕ → List ℕ
title_of place = codes "none " ++ decimal place

-- what is said of an answer: the reply, and one that is expected in its place, if that is known: its data, if it has some
abbrev pub briefly : Reply → List ℕ
briefly (replies.Data bytes) = encode_upper bytes.items
briefly replies.Done = reply_text replies.Done
briefly replies.Unsupported = reply_text replies.Unsupported
briefly replies.Aborted = reply_text replies.Aborted

-- and of one of which is known that the request was done, and no more
abbrev pub told_of : Reply → List ℕ
told_of (replies.Data bytes) = reply_text (replies.Data bytes)
told_of replies.Done = codes "done, reply not known"
told_of replies.Unsupported = reply_text replies.Unsupported
told_of replies.Aborted = reply_text replies.Aborted

abbrev pub answered : Reply → Option Reply → List ℕ
answered reply None = told_of reply
answered reply (Some other) = told_of reply ++ codes ", expected " ++ briefly other

-- what the places in a history are: it explains the records before that one
abbrev pub places_of : TraceLinesView → ℕ → List ℕ
places_of lines last =
    codes "its place in a history of lines " ++ (decimal (record_line lines 0) ++ (codes " to " ++ decimal (record_line lines (last - 1))))

-- ---- bars

-- a log and its lines, the last record that is shown, the lines that are columns, and a history
pub record Page : Type 0 where
  pub trace : TraceView
  pub lines : TraceLinesView
  pub last : ℕ
  pub columns : List ℕ
  pub history : List Entry

-- what is said of a request without an answer up to the last record that is shown: whether one comes later in the log
abbrev pub unanswered_by : Bool → Bool → ℕ → List ℕ
unanswered_by posted later line =
    if posted then codes "posted" else (if later then codes "not answered by line " ++ decimal line else codes "no answer")

abbrev pub is_answered_later : Page → ℕ → ℕ → Bool
is_answered_later page requester number = list_any (answers_to requester number) (drop (page.last + 1) page.trace.records)

abbrev pub unanswered : Page → ℕ → ℕ → Op → List ℕ
unanswered page requester number op =
    unanswered_by (is_posted op) (is_answered_later page requester number) (record_line page.lines page.last)

-- the column is the line of the record at that place
abbrev pub IsColumnOf : Page → ℕ → ℕ → Type 0
IsColumnOf page column place = slice_get page.columns column ≡ Some (record_line page.lines place)

-- a record answers the request, and this is said of it; a reply that is expected is one with which a history explains the
-- records up to there
pub record IsAnswered (page : Page) (requester number column : ℕ) (said : List ℕ) : Type 0 where
  pub place : ℕ
  pub reply : Reply
  pub until : ℕ
  pub at : slice_get page.trace.records place ≡ Some (records.Ans requester number reply until)
  pub ends : IsColumnOf page column place
  pub expected : Option Reply
  pub is_expected : IfSome expected (IsExpected page.trace place)
  pub says : said ≡ answered reply expected

-- the bar ends at an answer to the request, or is open behind the last column
abbrev pub IsClosed : Page → PictureRequest → ℕ → Type 0
IsClosed page bar number = (bar.is_open ≡ false) × IsAnswered page bar.requester number bar.to bar.answered.items

abbrev pub IsOpen : Page → PictureRequest → ℕ → Op → Type 0
IsOpen page bar number op =
    (bar.is_open ≡ true) × (bar.to ≡ length page.columns) × (bar.answered.items ≡ unanswered page bar.requester number op)

-- the history has the request at that place
abbrev pub IsPlaced : List Entry → ℕ → ℕ → ℕ → Type 0
IsPlaced history requester number place = (op : Op) × (slice_get history place ≡ Some (record { requester = requester; number = number; op = op }))

-- the bar is one of a request that a record submits: it begins at the record's column and says what is asked
pub record IsBar (page : Page) (bar : PictureRequest) : Type 0 where
  pub place : ℕ
  pub number : ℕ
  pub op : Op
  pub since : ℕ
  pub at : slice_get page.trace.records place ≡ Some (records.Sub bar.requester number op since)
  pub begins : IsColumnOf page bar.from place
  pub asks : bar.asked.items ≡ op_text op
  pub ends : IsClosed page bar number ⊎ IsOpen page bar number op
  pub placed : IfSome bar.place (IsPlaced page.history bar.requester number)
  pub titled : bar.title.items ≡ bar.asked.items ++ codes ": " ++ bar.answered.items

-- ---- the whole scene

-- no history is known, or this one explains the first n records
abbrev pub IsHistoryOf : TraceView → ℕ → List Entry → Type 0
IsHistoryOf t n h = (h ≡ []) ⊎ ((u : TraceView) × SeenAlike (prefix n t) u × Explains (claim_of u h))

-- the arrow leads from one of so many bars to another one
pub record Joins (count : ℕ) (arrow : Arrow) : Type 0 where
  pub from : arrow.from < count
  pub to : arrow.to < count
  pub other : arrow.from ≢ arrow.to

-- of a log whose records up to that place have no history the scene shows requests, and their places in a history of the
-- records before it
pub record Shows (t : TraceView) (place : ℕ) (lines : TraceLinesView) (s : Scene) : Type 0 where
  pub title : s.title.items ≡ title_of place
  pub places : s.places.items ≡ places_of lines place
  pub history : List Entry
  pub explained : IsHistoryOf t place history
  pub bars : All (IsBar (record { trace = t; lines = lines; last = place; columns = s.columns.items; history = history })) s.requests.items
  pub few : length s.requests.items ≤ 20
  pub arrows : All (Joins (length s.requests.items)) s.arrows.items
