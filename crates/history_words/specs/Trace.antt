-- Traces, the histories that are legal for their submissions, and when a trace is linear in one.
use Rattle.std.specs.Prelude.{ℕ, ◌≡◌, ◌<◌, ◌≤◌, ◌&&◌, ◌==◌, Bool, true, false, if◌then◌else◌, List, length, take, filter_map, slice_get, Option, Some, None}
use Rattle.std.specs.List.{list_any}
use Rattle.tlp_core.specs.Ops.{Op}
use Rattle.tlp_core.specs.Operation.{is_posted}
use Rattle.seq_memory.specs.Entries.{Entry}
use Rattle.seq_memory.specs.Entries.{Reply}
use Rattle.seq_memory.specs.History.{MemoryView, extent_of, reply_at}
use Rattle.history_words.specs.Records.{Record}
use Rattle.history_words.specs.declared.record.RecordOf.TheVariants as records
use Rattle.history_words.specs.Claim.{Claim}

-- ---- submissions and answers

-- what requester i submitted, by a record
abbrev pub submission : ℕ → Record → Option Op
submission i (records.Sub j k op n) = if i == j then Some op else None
submission i (records.Ans j k reply n) = None

-- the operations that requester i submitted, in order
abbrev pub submissions : List Record → ℕ → List Op
submissions rs i = filter_map (submission i) rs

-- the submissions of each requester have the numbers 0, 1, 2, ..
abbrev pub IsNumbered : List Record → Type 0
IsNumbered rs =
    (a i k n : ℕ) (op : Op) → slice_get rs a ≡ Some (records.Sub i k op n) → k ≡ length (submissions (take a rs) i)

-- the record answers request k of requester i
abbrev pub answers_to : ℕ → ℕ → Record → Bool
answers_to i k (records.Sub j m op n) = false
answers_to i k (records.Ans j m reply n) = (i == j) && (k == m)

-- ---- legal histories

abbrev pub is_request : ℕ → ℕ → Entry → Bool
is_request i k e = (i == e.requester) && (k == e.number)

-- request k of requester i is in the history
abbrev pub stands : List Entry → ℕ → ℕ → Bool
stands h i k = list_any (is_request i k) h

-- what must hold of an entry, s being what each requester submitted
pub record IsLawful (s : ℕ → List Op) (before : List Entry) (e : Entry) : Type 0 where
  -- it is as it was submitted
  pub submitted : slice_get (s e.requester) e.number ≡ Some e.op
  -- it does not stand before
  pub once : stands before e.requester e.number ≡ false
  -- each posted write that its requester submitted earlier stands before
  pub ordered : (j : ℕ) (op : Op) → j < e.number → slice_get (s e.requester) j ≡ Some op → is_posted op ≡ true → stands before e.requester j ≡ true

-- each entry keeps the law beside those before it
abbrev pub IsLegal : (ℕ → List Op) → List Entry → Type 0
IsLegal s h = (p : ℕ) (e : Entry) → slice_get h p ≡ Some e → IsLawful s (take p h) e

-- ---- linear traces

-- what must hold of an answer with that reply and n to request k of requester i
pub record IsExplained (m : MemoryView) (before : List Record) (i k : ℕ) (reply : Reply) (n : ℕ) : Type 0 where
  pub place : ℕ
  pub op : Op
  pub since : ℕ
  pub point : ℕ
  -- an earlier submission of a non-posted request
  pub asked : slice_get before place ≡ Some (records.Sub i k op since)
  pub not_posted : is_posted op ≡ false
  -- no earlier answer
  pub unanswered : list_any (answers_to i k) before ≡ false
  -- the request acted at a point at or after n of the submission, and before n of the answer
  pub acted : slice_get m.entries point ≡ Some (record { requester = i; number = k; op = op })
  pub after_submission : since ≤ point
  pub before_answer : point < n
  -- the reply is the sequential memory's at that point
  pub replied : reply_at (extent_of m) m.entries point ≡ Some reply
  -- what the requester had an answer to when it submitted this request acted before that point
  pub above : (c j n : ℕ) (r : Reply) → c < place → slice_get before c ≡ Some (records.Ans i j r n) → stands (take point m.entries) i j ≡ true

-- each answer is explained by the memory's history, beside the records before it
abbrev pub IsLinear : MemoryView → List Record → Type 0
IsLinear m rs =
    (a i k n : ℕ) (reply : Reply) → slice_get rs a ≡ Some (records.Ans i k reply n) → IsExplained m (take a rs) i k reply n

-- the history explains what was recorded
pub record Explains (x : Claim) : Type 0 where
  pub numbered : IsNumbered x.records
  pub legal : IsLegal (submissions x.records) x.memory.entries
  pub linear : IsLinear x.memory x.records
