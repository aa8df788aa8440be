-- What the reasons promise.
use Rattle.std.specs.Prelude.{ℕ, ◌≡◌, ◌⊎◌, Bool, true, List, [], ◌∷◌, ◌++◌, length, slice_get, Some}
use Rattle.tlp_core.specs.Ops.{Op}
use Rattle.seq_memory.specs.Limits.{Extent}
use Rattle.seq_memory.specs.Entries.{Reply}
use Rattle.seq_memory.specs.Step.{answer}
use Rattle.history_words.specs.Records.{Record}
use Rattle.history_words.specs.declared.record.RecordOf.TheVariants as records
use Rattle.history_words.specs.TraceView.{TraceView}
use Rattle.log_runs.specs.Explainable.{IsExplainable}
use Rattle.search_history.specs.Contradictions.{keeping}
use Rattle.search_reasons.specs.declared.causes.Cause.{Cause}
use Rattle.search_reasons.specs.declared.causes.Cause.TheVariants as causes
use Rattle.search_reasons.specs.declared.finding.Why.{Why}
use Rattle.search_reasons.specs.declared.finding.Why.TheVariants as reasons

-- no history explains the last answer and the others together, of n records, where that is proved, and so it is if there
-- are others
abbrev pub AreAgainst : TraceView → ℕ → ℕ → List ℕ → Bool → Type 0
AreAgainst t n last others proved =
    (proved ≡ true → IsExplainable (keeping n (others ++ last ∷ []) t) → ⊥) × ((others ≡ []) ⊎ (proved ≡ true))

-- those records have a request for the operation, and that reply to it
pub record IsAsked (rs : List Record) (op : Op) (reply : Reply) : Type 0 where
  pub requester : ℕ
  pub number : ℕ
  pub submission : ℕ
  pub since : ℕ
  pub place : ℕ
  pub until : ℕ
  pub asked : slice_get rs submission ≡ Some (records.Sub requester number op since)
  pub answered : slice_get rs place ≡ Some (records.Ans requester number reply until)

-- no memory that lies there gives that reply
abbrev pub IsMisreply : Extent → Op → Reply → Type 0
IsMisreply x op reply = (m : List ℕ) → length m ≡ x.size → answer x.base x.block m op ≡ reply → ⊥

-- a request was answered what no memory that lies there gives
abbrev pub IsMisanswered : Extent → List Record → Type 0
IsMisanswered x rs = (op : Op) × (reply : Reply) × IsAsked rs op reply × IsMisreply x op reply

-- where the cause is the form of a reply, some request has one that no memory gives
abbrev pub IsCause : Extent → List Record → Cause → Type 0
IsCause x rs (causes.Misreply m) = IsMisanswered x rs
IsCause x rs (causes.Words w) = Unit {0}

-- answers that are told against another one contradict it, by the log that was searched, and the cause is one of the
-- log that was read
abbrev pub IsTold : TraceView → ℕ → Extent → List Record → Why → Type 0
IsTold t n x rs reasons.Form = Unit {0}
IsTold t n x rs (reasons.Answers last others proved cause cycle) = AreAgainst t n last others.items proved × IsCause x rs cause
