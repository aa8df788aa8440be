-- A sound fabric.
use Rattle.std.specs.Prelude.{ℕ, ◌≡◌, ◌+◌, ◌<◌, Bool, true, false, ◌&&◌, ◌==◌, nat_lt, List, ◌++◌, take, Option, Some, None, slice_get}
use Rattle.history_words.specs.Trace.{is_request}
use Rattle.dllp_core.specs.declared.packet.Class.TheVariants as classes
use Rattle.fabric_steps.specs.Lists.{Each, Pairs, one_if, count}
use Rattle.fabric_steps.specs.Whole.{Op, is_posted, Entry, MarkedPacket, reply_after, RequesterView, Whole, View, view, open_number, count_of, FitsSize, size_at, path, class_of_op, Extent}

-- how often the request stands there
abbrev pub times : ℕ → ℕ → List Entry → ℕ
times i k es = count (is_request i k) es

abbrev pub is_answer : ℕ → ℕ → MarkedPacket → Bool
is_answer i t c = (i == c.requester) && (t == c.tag)

abbrev pub answers : ℕ → ℕ → List MarkedPacket → ℕ
answers i t cs = count (is_answer i t) cs

-- 1 if what is open is in the history
abbrev pub served : ℕ → Option ℕ → List Entry → ℕ
served i None h = 0
served i (Some k) h = times i k h

-- of two requests of i the later has a greater number if it is posted
abbrev pub InOrder : ℕ → Entry → Entry → Type 0
InOrder i a b = a.requester ≡ i → b.requester ≡ i → is_posted b.op ≡ true → a.number < b.number

abbrev pub IsRequest : MarkedPacket → Type 0
IsRequest x = x.class ≡ class_of_op x.op

abbrev pub IsRequestOf : ℕ → MarkedPacket → Type 0
IsRequestOf i x = (x.requester ≡ i) × IsRequest x

abbrev pub IsCompletion : MarkedPacket → Type 0
IsCompletion x = x.class ≡ classes.Completion

abbrev pub IsCompletionFor : ℕ → MarkedPacket → Type 0
IsCompletionFor i x = (x.requester ≡ i) × IsCompletion x

abbrev pub IsTagged : ℕ → RequesterView → MarkedPacket → Type 0
IsTagged i q x = x.requester ≡ i → is_posted x.op ≡ false → open_number q x.tag ≡ Some x.mark

abbrev pub IsAskedBy : ℕ → ℕ → Entry → Type 0
IsAskedBy i k e = e.requester ≡ i → e.number ≡ k → is_posted e.op ≡ false

abbrev pub IsSized : ℕ → ℕ → ℕ → Entry → Type 0
IsSized i k n e = e.requester ≡ i → e.number ≡ k → count_of e.op ≡ n

-- the completion has the reply at the point of the open request
pub record IsReply (g : Extent) (i : ℕ) (q : RequesterView) (h : List Entry) (c : MarkedPacket) : Type 0 where
  pub number : ℕ
  pub point : ℕ
  pub op : Op
  pub open_tag : open_number q c.tag ≡ Some number
  pub acted : slice_get h point ≡ Some (record { requester = i; number = number; op = op })
  pub sized : FitsSize (count_of op) c.reply
  pub replied : c.reply ≡ reply_after g (take point h) op

abbrev pub IsReplyFor : Extent → ℕ → RequesterView → List Entry → MarkedPacket → Type 0
IsReplyFor g i q h c = c.requester ≡ i → IsReply g i q h c

pub record SoundAt (i : ℕ) (v : View) : Type 0 where
  -- each number below the next stands once on the path, and no other
  pub whole : (k : ℕ) → times i k (path v) ≡ one_if (nat_lt k v.requester.next)
  pub ordered : Pairs (InOrder i) (path v)
  pub requests : Each IsRequest v.inward
  pub own_requests : Each (IsRequestOf i) v.up
  pub completions : Each IsCompletion v.outward
  pub own_completions : Each (IsCompletionFor i) v.down
  -- what has not acted is open under its tag
  pub tagged : Each (IsTagged i v.requester) (v.inward ++ v.up)
  pub open_below : (t k : ℕ) → open_number v.requester t ≡ Some k → k < v.requester.next
  pub open_asked : (t k : ℕ) → open_number v.requester t ≡ Some k → Each (IsAskedBy i k) (path v)
  pub open_sized : (t k : ℕ) → open_number v.requester t ≡ Some k → Each (IsSized i k (size_at v.requester t)) (path v)
  pub open_once : (t s k : ℕ) → open_number v.requester t ≡ Some k → open_number v.requester s ≡ Some k → t ≡ s
  -- one completion for each open number in the history, and no other
  pub under_way : (t : ℕ) → answers i t v.outward + answers i t v.down ≡ served i (open_number v.requester t) v.history
  pub replies : Each (IsReplyFor v.extent i v.requester v.history) (v.outward ++ v.down)

abbrev pub Sound : Whole → Type 0
Sound p = (i : ℕ) → SoundAt i (view p i)
