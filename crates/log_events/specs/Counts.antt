-- Counts of submissions, and marks of those that were answered.
use Rattle.std.specs.Prelude.{ℕ, ◌≡◌, ◌<◌, ◌≤◌, Bool, false, List, length, get_or, take, slice_get, Some}
use Rattle.std.specs.List.{list_any}
use Rattle.tlp_core.specs.Ops.{Op}
use Rattle.seq_memory.specs.Entries.{Reply}
use Rattle.history_words.specs.Records.{Record}
use Rattle.history_words.specs.declared.record.RecordOf.TheVariants as records
use Rattle.history_words.specs.Trace.{submissions, answers_to, IsNumbered}
use Rattle.log_events.specs.Formed.{IsOpen}

-- by requester, how many requests it submitted in those records
pub record AreCounts (counts : List ℕ) (rs : List Record) : Type 0 where
  pub len : length counts ≡ 256
  pub at : (i : ℕ) → i < 256 → get_or counts i 0 ≡ length (submissions rs i)

-- by place, whether the request that is submitted there is answered in those records
abbrev pub AreMarks : List Bool → List Record → Type 0
AreMarks marks rs =
    (b i k n : ℕ) (op : Op) → slice_get rs b ≡ Some (records.Sub i k op n) → get_or marks b false ≡ list_any (answers_to i k) rs

-- each of the first n records that is an answer has the number of a submission before it
abbrev pub AreAsked : List Record → ℕ → Type 0
AreAsked rs n = (a i k m : ℕ) (reply : Reply) → a < n → slice_get rs a ≡ Some (records.Ans i k reply m) → k < length (submissions (take a rs) i)

-- each of them answers a request that isn't posted, once
abbrev pub AreRight : List Record → ℕ → Type 0
AreRight rs n = (a i k m : ℕ) (reply : Reply) → a < n → slice_get rs a ≡ Some (records.Ans i k reply m) → (b : ℕ) × IsOpen (take a rs) i k b

-- what is known of the first n records
pub record IsCounted (totals : List ℕ) (marks : List Bool) (rs : List Record) (n : ℕ) : Type 0 where
  pub counts : AreCounts totals (take n rs)
  pub numbered : IsNumbered (take n rs)
  pub asked : AreAsked rs n
  pub right : AreRight rs n
  pub len : length marks ≡ length rs
  pub marked : AreMarks marks (take n rs)
  pub unmarked : (b : ℕ) → n ≤ b → get_or marks b false ≡ false
