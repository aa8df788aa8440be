-- When the n's are those of a history that grew, and the order in which requests act.
use Rattle.std.specs.Prelude.{ℕ, ◌≡◌, ◌<◌, ◌≤◌, length, List, slice_get, Some}
use Rattle.tlp_core.specs.Ops.{Op}
use Rattle.seq_memory.specs.Entries.{Entry}
use Rattle.seq_memory.specs.Entries.{Reply}
use Rattle.history_words.specs.Records.{Record}
use Rattle.history_words.specs.declared.record.RecordOf.TheVariants as records
use Rattle.history_words.specs.Claim.{Claim}
use Rattle.history_words.specs.Flaws.{moment}

-- the n's are the lengths of a history that grew while the records were seen
pub record IsClocked (x : Claim) : Type 0 where
  -- n never falls
  pub rises : (a b : ℕ) (r s : Record) → a < b → slice_get x.records a ≡ Some r → slice_get x.records b ≡ Some s → moment r ≤ moment s
  -- none is above the length of the history
  pub bounded : (a : ℕ) (r : Record) → slice_get x.records a ≡ Some r → moment r ≤ length x.memory.entries
  -- each request acted at or after n of its submission
  pub after_submission : (p b n : ℕ) (e : Entry) (op : Op) → slice_get x.memory.entries p ≡ Some e → slice_get x.records b ≡ Some (records.Sub e.requester e.number op n) → n ≤ p

-- request k of requester i was answered before requester j submitted its request m
pub record IsAnsweredBefore (rs : List Record) (i k j m : ℕ) : Type 0 where
  pub answer : ℕ
  pub submission : ℕ
  pub since : ℕ
  pub until : ℕ
  pub reply : Reply
  pub op : Op
  pub before : answer < submission
  pub answered : slice_get rs answer ≡ Some (records.Ans i k reply until)
  pub submitted : slice_get rs submission ≡ Some (records.Sub j m op since)

-- request k of requester i acted at index p
abbrev pub ActsAt : List Entry → ℕ → ℕ → ℕ → Type 0
ActsAt h i k p = (op : Op) × (slice_get h p ≡ Some (record { requester = i; number = k; op = op }))

-- a request that was answered before another was submitted acts before it
abbrev pub KeepsRealTimeOrder : Claim → Type 0
KeepsRealTimeOrder x =
    (i k j m p q : ℕ) → IsAnsweredBefore x.records i k j m → ActsAt x.memory.entries i k p → ActsAt x.memory.entries j m q → p < q
