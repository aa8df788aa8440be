-- What each event does to the contents of the lanes and to the other parts.
use Rattle.std.specs.Prelude.{ℕ, ◌≡◌, ◌≢◌, ◌+◌, ◌<◌, true, false, List, [], ◌∷◌, ◌++◌, length, Some, None, slice_set}
use Rattle.dllp_core.specs.declared.packet.Class.TheVariants as classes
use Rattle.fabric_steps.specs.Lists.{Each}
use Rattle.history_words.specs.Records.{Record}
use Rattle.history_words.specs.declared.record.RecordOf.TheVariants.{Sub, Ans}
use Rattle.fabric_steps.specs.Whole.{Op, is_posted, MarkedPacket, reply_after, RequesterView, Whole, up_of, down_of, requester_of, open_number, count_of, FitsSize, size_at, entry_of, marked_request, completions_for, Reply}

-- the requester after a submission
pub record IsOpened (q : RequesterView) (tag : ℕ) (op : Op) (q' : RequesterView) : Type 0 where
  pub next : q'.next ≡ q.next + 1
  pub posted : is_posted op ≡ true → (t : ℕ) → open_number q' t ≡ open_number q t
  pub free : is_posted op ≡ false → open_number q tag ≡ None
  pub opened : is_posted op ≡ false → open_number q' tag ≡ Some q.next
  pub others : (t : ℕ) → t ≢ tag → open_number q' t ≡ open_number q t
  pub sized : is_posted op ≡ false → size_at q' tag ≡ count_of op
  pub kept : (t k : ℕ) → open_number q t ≡ Some k → size_at q' t ≡ size_at q t

-- the requester after an answer
pub record IsClosed (q : RequesterView) (tag number : ℕ) (q' : RequesterView) : Type 0 where
  pub next : q'.next ≡ q.next
  pub was_open : open_number q tag ≡ Some number
  pub closed : open_number q' tag ≡ None
  pub others : (t : ℕ) → t ≢ tag → open_number q' t ≡ open_number q t
  pub sizes : (t : ℕ) → t ≢ tag → size_at q' t ≡ size_at q t

-- an item leaves, and it passes no posted request
pub record IsTaken (old : List MarkedPacket) (x : MarkedPacket) (new : List MarkedPacket) : Type 0 where
  pub before : List MarkedPacket
  pub behind : List MarkedPacket
  pub was : old ≡ before ++ x ∷ behind
  pub now : new ≡ before ++ behind
  pub passes : Each (λ a. a.class ≢ classes.Posted) before

-- the steps of the whole, each with its record

pub record IsSubmit (p : Whole) (i : ℕ) (op : Op) (p' : Whole) : Type 0 where
  pub known : i < length p.requesters
  pub has_up : i < length p.up
  pub tag : ℕ
  pub requester : RequesterView
  pub opened : IsOpened (requester_of p i) tag op requester
  pub now : p' ≡ record p { up = slice_set p.up i (up_of p i ++ marked_request i tag (requester_of p i).next op ∷ []); requesters = slice_set p.requesters i requester }

pub record IsForward (p : Whole) (i : ℕ) (p' : Whole) : Type 0 where
  pub has_up : i < length p.up
  pub item : MarkedPacket
  pub rest : List MarkedPacket
  pub taken : IsTaken (up_of p i) item rest
  pub now : p' ≡ record p { up = slice_set p.up i rest; inward = p.inward ++ item ∷ [] }

pub record IsServe (p p' : Whole) : Type 0 where
  pub item : MarkedPacket
  pub rest : List MarkedPacket
  pub taken : IsTaken p.inward item rest
  pub sized : FitsSize (count_of item.op) (reply_after p.extent p.history item.op)
  pub now : p' ≡ record p { history = p.history ++ entry_of item ∷ []; inward = rest; outward = p.outward ++ completions_for item (reply_after p.extent p.history item.op) }

pub record IsReturn (p p' : Whole) : Type 0 where
  pub item : MarkedPacket
  pub rest : List MarkedPacket
  pub taken : IsTaken p.outward item rest
  pub has_down : item.requester < length p.down
  pub now : p' ≡ record p { outward = rest; down = slice_set p.down item.requester (down_of p item.requester ++ item ∷ []) }

pub record IsCollect (p : Whole) (i number : ℕ) (reply : Reply) (p' : Whole) : Type 0 where
  pub known : i < length p.requesters
  pub has_down : i < length p.down
  pub item : MarkedPacket
  pub rest : List MarkedPacket
  pub first : down_of p i ≡ item ∷ rest
  pub requester : RequesterView
  pub closed : IsClosed (requester_of p i) item.tag number requester
  pub replied : reply ≡ item.reply
  pub now : p' ≡ record p { down = slice_set p.down i rest; requesters = slice_set p.requesters i requester }

pub data Step (p p' : Whole) (rs : List Record) : Type 0 where
  submits : (i : ℕ) (op : Op) → IsSubmit p i op p' → rs ≡ Sub i (requester_of p i).next op (length p.history) ∷ [] → Step p p' rs
  forwards : (i : ℕ) → IsForward p i p' → rs ≡ [] → Step p p' rs
  serves : IsServe p p' → rs ≡ [] → Step p p' rs
  returns : IsReturn p p' → rs ≡ [] → Step p p' rs
  collects : (i number : ℕ) (reply : Reply) → IsCollect p i number reply p' → rs ≡ Ans i number reply (length p.history) ∷ [] → Step p p' rs
  -- the calls of a link
  links : p' ≡ p → rs ≡ [] → Step p p' rs

-- events in a row
pub data Run (p : Whole) : Whole → List Record → Type 0 where
  stays : Run p p []
  goes : {q r : Whole} {rs ss : List Record} → Run p q rs → Step q r ss → Run p r (rs ++ ss)
