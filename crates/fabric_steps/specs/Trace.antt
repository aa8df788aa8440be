-- When the records of a trace belong to a fabric.
use Rattle.std.specs.Prelude.{ℕ, ◌≡◌, ◌≤◌, ◌+◌, false, List, [], ◌∷◌, length, take, Some, slice_get}
use Rattle.std.specs.List.{list_any}
use Rattle.tlp_core.specs.Ops.{Op}
use Rattle.tlp_core.specs.Operation.{is_posted}
use Rattle.history_words.specs.Records.{Record}
use Rattle.history_words.specs.declared.record.RecordOf.TheVariants.{Sub, Ans}
pub use Rattle.history_words.specs.Flaws.{moment}
use Rattle.history_words.specs.Trace.{submissions, IsNumbered, answers_to, stands, IsLinear}
use Rattle.fabric_steps.specs.Lists.{Each}
use Rattle.fabric_steps.specs.Whole.{Whole, RequesterView, View, view, memory_of, open_number, requester_of, path}

-- the operations are those that requester i submitted: as many as its next number, and each request on its path is as
-- submitted
pub record IsMade (i : ℕ) (v : View) (ops : List Op) : Type 0 where
  pub spent : length ops ≡ v.requester.next
  pub each : Each (λ e. e.requester ≡ i → slice_get ops e.number ≡ Some e.op) (path v)

-- how many operations these requesters submitted, in all
abbrev pub submitted_by : List RequesterView → ℕ
submitted_by [] = 0
submitted_by (q ∷ qs) = q.next + submitted_by qs

-- how many of the records are submissions
abbrev pub submission_count : List Record → ℕ
submission_count [] = 0
submission_count (Sub i k op n ∷ rs) = 1 + submission_count rs
submission_count (Ans i k reply n ∷ rs) = submission_count rs

abbrev pub IsRising : List Record → Type 0
IsRising rs = (a b : ℕ) (r s : Record) → a ≤ b → slice_get rs a ≡ Some r → slice_get rs b ≡ Some s → moment r ≤ moment s

-- a non-posted request that was submitted and has no answer
pub record IsPending (rs : List Record) (i k : ℕ) : Type 0 where
  pub place : ℕ
  pub op : Op
  pub since : ℕ
  pub asked : slice_get rs place ≡ Some (Sub i k op since)
  pub not_posted : is_posted op ≡ false
  pub unanswered : list_any (answers_to i k) rs ≡ false

-- the number waits for its completion
abbrev pub IsOpen : Whole → ℕ → ℕ → Type 0
IsOpen p i k = (t : ℕ) × (open_number (requester_of p i) t ≡ Some k)

pub record Belongs (p : Whole) (rs : List Record) : Type 0 where
  -- the fabric's history explains each answer
  pub linear : IsLinear (memory_of p) rs
  pub numbered : IsNumbered rs
  -- the lengths of the history never fall, and none is above its length now
  pub rising : IsRising rs
  pub within : (a : ℕ) (r : Record) → slice_get rs a ≡ Some r → moment r ≤ length p.history
  -- what was submitted is what the fabric has
  pub made : (i : ℕ) → IsMade i (view p i) (submissions rs i)
  -- the unanswered non-posted numbers are the open ones
  pub pending : (i t k : ℕ) → open_number (requester_of p i) t ≡ Some k → IsPending rs i k
  pub opened : (a i k n : ℕ) (op : Op) → slice_get rs a ≡ Some (Sub i k op n) → is_posted op ≡ false → list_any (answers_to i k) rs ≡ false → IsOpen p i k
  -- no request acted before its submission
  pub later : (a i k n : ℕ) (op : Op) → slice_get rs a ≡ Some (Sub i k op n) → stands (take n p.history) i k ≡ false
