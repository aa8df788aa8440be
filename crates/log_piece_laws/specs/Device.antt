-- A device whose reads and writes act in pieces, and what its requesters see.
use Rattle.std.specs.Prelude.{ℕ, ◌≡◌, ◌<◌, ◌&&◌, ◌==◌, Bool, true, false, List, [], ◌∷◌, ◌++◌, length, replicate, slice_get, Some}
use Rattle.std.specs.List.{list_any}
use Rattle.tlp_core.specs.Ops.{Op}
use Rattle.tlp_core.specs.Operation.{is_posted}
use Rattle.seq_memory.specs.Entries.{Reply}
use Rattle.seq_memory.specs.Limits.{Extent}
use Rattle.seq_memory.specs.Step.{after, answer, data_of}
use Rattle.history_words.specs.Records.{Record}
use Rattle.history_words.specs.declared.record.RecordOf.TheVariants as records
use Rattle.history_words.specs.Trace.{submissions, answers_to}
use Rattle.history_words.specs.TraceView.{TraceView}
use Rattle.op_pieces.specs.Pieces.{returned}

-- a piece of a request acted: the memory did this operation, and answered that
pub record Acted : Type 0 where
  pub requester : ℕ
  pub number : ℕ
  pub index : ℕ
  pub op : Op
  pub reply : Reply

-- the bytes of its memory, the pieces that acted, in order, and the log of what was submitted and answered
pub record Device : Type 0 where
  pub bytes : List ℕ
  pub acts : List Acted
  pub log : List Record

pub data Step : Type 0 where
  -- the requester submits a request
  Submit : ℕ → Op → Step
  -- of the requester's request of that number the piece of that index acts
  Act : ℕ → ℕ → ℕ → Op → Step
  -- that request is answered
  Answer : ℕ → ℕ → Reply → Step

-- zeros, and nothing was submitted
abbrev pub new_device : Extent → Device
new_device x = record { bytes = replicate x.size 0; acts = []; log = [] }

abbrev pub is_piece : ℕ → ℕ → ℕ → Acted → Bool
is_piece i k j a = (i == a.requester) && (k == a.number) && (j == a.index)

abbrev pub has_acted : Device → ℕ → ℕ → ℕ → Bool
has_acted d i k j = list_any (is_piece i k j) d.acts

-- a piece acts once; those of a write in rising order, and all pieces behind the posted writes that its requester submitted
-- before the request
pub record MayAct (p : Op → List Op) (d : Device) (i k j : ℕ) (piece : Op) : Type 0 where
  pub op : Op
  pub submitted : slice_get (submissions d.log i) k ≡ Some op
  pub is : slice_get (p op) j ≡ Some piece
  pub once : has_acted d i k j ≡ false
  pub rising : (m : ℕ) → is_posted op ≡ true → m < j → has_acted d i k m ≡ true
  pub ordered : (l m : ℕ) (w : Op) → l < k → slice_get (submissions d.log i) l ≡ Some w → is_posted w ≡ true → m < length (p w) → has_acted d i l m ≡ true

-- the data of the pieces, in turn
abbrev pub together : List Reply → Reply
together (r ∷ []) = r
together rs = data_of (returned rs)

-- a request that isn't posted is answered once, when all its pieces have acted, what they were answered
pub record MayAnswer (p : Op → List Op) (d : Device) (i k : ℕ) (reply : Reply) : Type 0 where
  pub op : Op
  pub submitted : slice_get (submissions d.log i) k ≡ Some op
  pub not_posted : is_posted op ≡ false
  pub once : list_any (answers_to i k) d.log ≡ false
  pub replies : List Reply
  pub many : length replies ≡ length (p op)
  pub acted : (j : ℕ) (r : Reply) → slice_get replies j ≡ Some r →
      (q : ℕ) × (piece : Op) × (slice_get d.acts q ≡ Some (record { requester = i; number = k; index = j; op = piece; reply = r }))
  pub is : reply ≡ together replies

abbrev pub Allowed : (Op → List Op) → Device → Step → Type 0
Allowed p d (Submit i op) = Unit {0}
Allowed p d (Act i k j piece) = MayAct p d i k j piece
Allowed p d (Answer i k reply) = MayAnswer p d i k reply

-- a request has its requester's next number; a log says nothing by its n's, which are 0
abbrev pub next : Extent → Device → Step → Device
next x d (Submit i op) = record { bytes = d.bytes; acts = d.acts; log = d.log ++ records.Sub i (length (submissions d.log i)) op 0 ∷ [] }
next x d (Act i k j piece) = record {
  bytes = after x.base x.block d.bytes piece;
  acts = d.acts ++ record { requester = i; number = k; index = j; op = piece; reply = answer x.base x.block d.bytes piece } ∷ [];
  log = d.log;
}
next x d (Answer i k reply) = record { bytes = d.bytes; acts = d.acts; log = d.log ++ records.Ans i k reply 0 ∷ [] }

-- the steps lead from one state to another, where requests have these pieces
abbrev pub Leads : (Op → List Op) → Extent → Device → List Step → Device → Type 0
Leads p x d [] e = d ≡ e
Leads p x d (s ∷ steps) e = Allowed p d s × Leads p x (next x d s) steps e

-- the log
abbrev pub seen_of : Extent → Device → TraceView
seen_of x d = record { base = x.base; size = x.size; block = x.block; records = d.log }
