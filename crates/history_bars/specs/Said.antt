-- What is said at a bar: what was asked, and what was answered, as far as it is shown.
use Rattle.std.specs.Prelude.{ℕ, ◌++◌, ◌==◌, ◌&&◌, Bool, false, if◌then◌else◌, min, max, List, length, take, codes, Option, Some, None, is_some}
use Rattle.hex.specs.Hex.{encode_upper}
use Rattle.tlp_core.specs.Ops.{Op}
use Rattle.tlp_core.specs.Operation.{is_posted}
use Rattle.seq_memory.specs.Entries.{Reply}
use Rattle.seq_memory.specs.declared.reply.ReplyOf.TheVariants as replies
use Rattle.history_words.specs.Records.{Record}
use Rattle.history_words.specs.declared.record.RecordOf.TheVariants as records
use Rattle.operation_text.specs.Texts.{op_text, reply_text}
use Rattle.history_bars.specs.declared.words.Request.{Request}
use Rattle.history_bars.specs.declared.marks.View.{View}
use Rattle.history_bars.specs.Words.{answer_at}

-- the texts of a bar; another reply is expected, or is not
pub record Said : Type 0 where
  pub asked : List ℕ
  pub answered : List ℕ
  pub is_wrong : Bool

-- the first flaw names the request
abbrev pub is_flawed : Option (ℕ × ℕ) → ℕ → ℕ → Bool
is_flawed None i k = false
is_flawed (Some p) i k = (p.0 == i) && (p.1 == k)

-- the reply that is expected in place of the request's, if it is the one that a flaw of a reply names
abbrev pub expected_of : View → Request → Option Reply
expected_of v q = if is_flawed v.flawed q.requester q.number then v.expected else None

-- the data of a reply, or its text, if it has none
abbrev pub briefly : Reply → List ℕ
briefly (replies.Data bytes) = encode_upper bytes.items
briefly replies.Done = reply_text replies.Done
briefly replies.Unsupported = reply_text replies.Unsupported
briefly replies.Aborted = reply_text replies.Aborted

-- a reply, and one that is expected in its place
abbrev pub told : Reply → Option Reply → List ℕ
told reply None = take 48 (reply_text reply)
told reply (Some other) = take 37 (reply_text reply) ++ (codes ", expected " ++ take 32 (briefly other))

-- what is said of a request without an answer
abbrev pub unanswered : Bool → List ℕ
unanswered posted = if posted then codes "posted" else codes "no answer"

abbrev pub answered : Bool → Option Reply → Option Record → List ℕ
answered posted expected (Some (records.Ans i k reply n)) = told reply expected
answered posted expected _ = unanswered posted

abbrev pub said_of : View → List Record → Op → Request → Said
said_of v rs op q = record {
  asked = take 48 (op_text op);
  answered = answered (is_posted op) (expected_of v q) (answer_at rs q.answer);
  is_wrong = is_some (expected_of v q);
}

-- how many characters the longer one of the texts has; there are no more than 80
abbrev pub count_of : Said → ℕ
count_of s = min (max (length s.asked) (length s.answered)) 80
