-- Which answer belongs to which submission.
use Rattle.std.specs.Prelude.{ℕ, ◌≡◌, ◌==◌, if◌then◌else◌, List, Option, Some, None, option_and_then, length, take, slice_get}
use Rattle.tlp_core.specs.Ops.{Op}
use Rattle.seq_memory.specs.Entries.{Reply}
use Rattle.history_words.specs.Records.{Record}
use Rattle.history_words.specs.declared.record.RecordOf.TheVariants as records
use Rattle.log_runs.specs.EventView.{EventView}
use Rattle.log_runs.specs.EventView as events
use Rattle.log_runs.specs.Tasks.{known}

-- the place of the record that belongs together with the one there; its own place stands for none
abbrev pub partner : List ℕ → ℕ → Option ℕ
partner places a = option_and_then (λ b. if b == a then None else Some b) (slice_get places a)

-- each answer belongs together with the submission of its request
pub record ArePartners (places : List ℕ) (rs : List Record) : Type 0 where
  pub submission : (a i k n : ℕ) (reply : Reply) → slice_get rs a ≡ Some (records.Ans i k reply n) → (b : ℕ) × (m : ℕ) × (op : Op) × (slice_get rs b ≡ Some (records.Sub i k op m)) × (partner places a ≡ Some b)
  pub answer : (a b i k n m : ℕ) (op : Op) (reply : Reply) → slice_get rs b ≡ Some (records.Sub i k op m) → slice_get rs a ≡ Some (records.Ans i k reply n) → partner places b ≡ Some a

-- the event says all that its record does, if that belongs together with the record at the other place
pub record SaysAll (rs : List Record) (other : Option ℕ) (r : Record) (e : EventView) : Type 0 where
  pub replied : (a i k n m : ℕ) (op : Op) (reply : Reply) → r ≡ records.Sub i k op n → other ≡ Some a → slice_get rs a ≡ Some (records.Ans i k reply m) → e ≡ events.Sub i op (known reply)
  pub due : (b i k n m : ℕ) (op : Op) (reply : Reply) → r ≡ records.Ans i k reply n → other ≡ Some b → slice_get rs b ≡ Some (records.Sub i k op m) → e ≡ events.Due b

-- the same of the first n records
pub record AreJoined (places : List ℕ) (rs : List Record) (n : ℕ) : Type 0 where
  pub len : length places ≡ length rs
  pub partners : ArePartners places (take n rs)
