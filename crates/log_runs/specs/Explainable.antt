-- When a history explains a log: what requesters saw, without n's and without a history.
use Rattle.std.specs.Prelude.{ℕ, ◌≡◌, ◌⊎◌, List, [], ◌∷◌, take, remove}
use Rattle.seq_memory.specs.Entries.{Entry}
use Rattle.seq_memory.specs.Entries.{Reply}
use Rattle.seq_memory.specs.declared.reply.ReplyOf.TheVariants as replies
use Rattle.history_words.specs.Records.{Record}
use Rattle.history_words.specs.declared.record.RecordOf.TheVariants as records
use Rattle.history_words.specs.TraceView.{TraceView}
use Rattle.history_words.specs.Claim.{claim_of}
use Rattle.history_words.specs.Clocks.{IsClocked}
use Rattle.history_words.specs.Trace.{Explains}

-- the reply is the one that the log has, or the log has only that the request was done
abbrev pub MayBe : Reply → Reply → Type 0
MayBe told made = (told ≡ replies.Done) ⊎ (told ≡ made)

-- the same record, but for its n, and for the reply where the log doesn't have it
abbrev pub IsSeenAs : Record → Record → Type 0
IsSeenAs (records.Sub i k op n) (records.Sub j l w m) = (i ≡ j) × (k ≡ l) × (op ≡ w)
IsSeenAs (records.Ans i k told n) (records.Ans j l made m) = (i ≡ j) × (k ≡ l) × MayBe told made
IsSeenAs (records.Sub i k op n) (records.Ans j l made m) = ⊥
IsSeenAs (records.Ans i k told n) (records.Sub j l w m) = ⊥

-- record by record
abbrev pub AreSeenAs : List Record → List Record → Type 0
AreSeenAs [] [] = Unit {0}
AreSeenAs (r ∷ rs) (u ∷ us) = IsSeenAs r u × AreSeenAs rs us
AreSeenAs [] (u ∷ us) = ⊥
AreSeenAs (r ∷ rs) [] = ⊥

-- the same memory and the same records, but for the n's and for replies that the log t doesn't have
pub record SeenAlike (t u : TraceView) : Type 0 where
  pub base : t.base ≡ u.base
  pub size : t.size ≡ u.size
  pub block : t.block ≡ u.block
  pub records : AreSeenAs t.records u.records

-- with n's of some choice, and replies where the log doesn't have them, some history explains what was seen
abbrev pub IsExplainable : TraceView → Type 0
IsExplainable t =
    (u : TraceView) × (h : List Entry) × SeenAlike t u × Explains (claim_of u h) × IsClocked (claim_of u h)

-- the first n records
abbrev pub prefix : ℕ → TraceView → TraceView
prefix n t = record { base = t.base; size = t.size; block = t.block; records = take n t.records }

-- all records but the one at place a
abbrev pub without : ℕ → TraceView → TraceView
without a t = record { base = t.base; size = t.size; block = t.block; records = remove t.records a }
