-- A log in pieces: each request is as many requests as it has pieces, numbered anew, which are submitted and answered together.
use Rattle.std.specs.Prelude.{ℕ, suc, ◌+◌, ◌==◌, Bool, true, false, List, [], ◌∷◌, ◌++◌, length, slice_get, Option, Some, None}
use Rattle.tlp_core.specs.Ops.{Op}
use Rattle.seq_memory.specs.Entries.{Reply}
use Rattle.history_words.specs.Records.{Record}
use Rattle.history_words.specs.declared.record.RecordOf.TheVariants as records
use Rattle.history_words.specs.Trace.{submissions}
use Rattle.history_words.specs.TraceView.{TraceView, observed}
use Rattle.log_runs.specs.Explainable.{IsExplainable}
use Rattle.log_pieces.specs.declared.Granularity.{Granularity}
use Rattle.log_pieces.specs.declared.Granularity.TheVariants as sizes
use Rattle.op_pieces.specs.Pieces.{parts}
use Rattle.log_pieces.specs.Pieces.{pieces}

-- how many pieces the operations have, cut by p
abbrev pub width : (Op → List Op) → List Op → ℕ
width p [] = 0
width p (op ∷ ops) = length (p op) + width p ops

-- the operations, each with the number of its first piece, where those before them have n pieces
abbrev pub numbered : (Op → List Op) → ℕ → List Op → List (ℕ × Op)
numbered p n [] = []
numbered p n (op ∷ ops) = (n, op) ∷ numbered p (n + length (p op)) ops

-- submissions of requester i from number k on
abbrev pub subs : ℕ → ℕ → ℕ → List Op → List Record
subs i k n [] = []
subs i k n (op ∷ ops) = records.Sub i k op n ∷ subs i (suc k) n ops

-- answers to them
abbrev pub answers : ℕ → ℕ → ℕ → List Reply → List Record
answers i k n [] = []
answers i k n (reply ∷ replies) = records.Ans i k reply n ∷ answers i (suc k) n replies

-- where a submission hasn't its requester's next number, its first piece hasn't either
abbrev pub next_number : Bool → ℕ → ℕ
next_number true n = n
next_number false n = suc n

-- what answers no submission is kept so, as an answer to a request that is still to come
abbrev pub answers_by : (Op → List Op) → Option (ℕ × Op) → ℕ → ℕ → ℕ → Reply → List Record
answers_by p None i next n reply = records.Ans i next reply n ∷ []
answers_by p (Some (k, op)) i next n reply = answers i k n (parts (p op) reply)

-- the record behind these, in pieces
abbrev pub split : (Op → List Op) → List Record → Record → List Record
split p before (records.Sub i k op n) =
    let ops = submissions before i in
    subs i (next_number (k == length ops) (width p ops)) n (p op)
split p before (records.Ans i k reply n) =
    let ops = submissions before i in
    answers_by p (slice_get (numbered p 0 ops) k) i (width p ops) n reply

-- the records behind these, in pieces
abbrev pub split_all : (Op → List Op) → List Record → List Record → List Record
split_all p before [] = []
split_all p before (r ∷ rs) = split p before r ++ split_all p (before ++ r ∷ []) rs

-- the log with these records behind its own
abbrev pub with_more : TraceView → List Record → TraceView
with_more t rs = record t { records = t.records ++ rs }

-- a log in pieces of so many bytes
abbrev pub cut_log : ℕ → TraceView → TraceView
cut_log bytes t = record t { records = split_all (pieces bytes (observed t)) [] t.records }

-- a log in pieces of that size
unfoldable pub in_pieces : Granularity → TraceView → TraceView
in_pieces sizes.Four t = cut_log 4 t
in_pieces sizes.Eight t = cut_log 8 t
in_pieces sizes.Sixteen t = cut_log 16 t
in_pieces sizes.SixtyFour t = cut_log 64 t
in_pieces sizes.Whole t = t

-- with pieces of that size, some history explains what was seen
abbrev pub IsExplainableIn : Granularity → TraceView → Type 0
IsExplainableIn size t = IsExplainable (in_pieces size t)
