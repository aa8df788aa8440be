-- Lines can tell what a history explains, if they can tell the submissions.
use Rattle.std.proofs.Common.{◌≡◌, ℕ, zero, suc, ◌^◌, ◌<◌, ◌≤◌, List, [], ◌∷◌, length, take, Some, All, refl, sym, ap, subst, arith}
use Rattle.std.specs.Prelude.{slice_get}
use Rattle.std.proofs.lemmas.List.Elements.{All-nil, All-cons, All-head, All-tail}
use Rattle.std.proofs.lemmas.Option.{same_Some}
use Rattle.tlp_core.specs.Ops.{Op}
use Rattle.seq_memory.specs.Limits.{IsWithinLimits}
use Rattle.seq_memory.specs.History.{extent_of}
use Rattle.seq_memory.specs.Entries.{Entry}
use Rattle.seq_memory.specs.Entries.{Reply}
use Rattle.history_words.specs.Records.{Record}
use Rattle.history_words.specs.declared.record.RecordOf.TheVariants as records
use Rattle.history_words.specs.Claim.{Claim}
use Rattle.history_words.specs.Flaws.{moment}
use Rattle.history_words.specs.Trace.{submissions, IsNumbered, Explains}
use Rattle.history_words.specs.Clocks.{IsClocked}
use Rattle.operation_text.specs.Operations.{IsSpelledOp, IsSpelledReply}
use Rattle.trace_text.specs.Tellable.{IsRequest, IsTellableRecord, IsTellableEntry, IsTellable}
use Rattle.log_text.specs.ToldSubmissions.{IsToldSub}
use Rattle.log_text.proofs.Spelled.{Range}
use Rattle.log_text.proofs.Replies.{reply-told}

all_at : {X : Type 0} → (P : X → Type 0) (xs : List X) (i : ℕ) (x : X) → All P xs → slice_get xs i ≡ Some x → P x
all_at P [] i x all at = absurd cc
all_at P (y ∷ ys) zero x all at = subst P (same_Some y x at) (All-head P y ys all)
all_at P (y ∷ ys) (suc i) x all at = all_at P ys i x (All-tail P y ys all) at

from_each : {X : Type 0} → (P : X → Type 0) (xs : List X) → ((i : ℕ) (x : X) → slice_get xs i ≡ Some x → P x) → All P xs
from_each P [] each = All-nil P
from_each P (x ∷ xs) each = All-cons P x xs (each zero x refl) (from_each P xs (λ i y at. each (suc i) y at))

before : {X : Type 0} → (xs : List X) (n p : ℕ) (x : X) → slice_get (take n xs) p ≡ Some x → slice_get xs p ≡ Some x
before [] zero p x at = absurd cc
before [] (suc n) p x at = absurd cc
before (y ∷ xs) zero p x at = absurd cc
before (y ∷ xs) (suc n) zero x at = at
before (y ∷ xs) (suc n) (suc p) x at = before xs n p x at

abbrev pub Named : Type 0
Named = (rs : List Record) (i k : ℕ) (op : Op) → IsNumbered rs → slice_get (submissions rs i) k ≡ Some op → (b : ℕ) × (n : ℕ) × (slice_get rs b ≡ Some (records.Sub i k op n))

entry-told : Named → (c : Claim) → Explains c → All IsToldSub c.records → (p : ℕ) (e : Entry) → slice_get c.memory.entries p ≡ Some e → IsTellableEntry e
entry-told named c x told p e at =
    let (b, n, sub) = named c.records e.requester e.number e.op x.numbered (x.legal p e at).submitted in
    all_at IsToldSub c.records b (records.Sub e.requester e.number e.op n) told sub

record-told : Range → Named → (c : Claim) → Explains c → IsWithinLimits (extent_of c.memory) → All IsToldSub c.records → (a : ℕ) (r : Record) → slice_get c.records a ≡ Some r → moment r < 2 ^ 64 → IsTellableRecord r
record-told range named c x limits told a (records.Sub i k op n) at few =
    let sub : IsToldSub (records.Sub i k op n) = all_at IsToldSub c.records a (records.Sub i k op n) told at in
    (sub.0, few, sub.1)
record-told range named c x limits told a (records.Ans i k reply n) at few =
    let why = x.linear a i k n reply at in
    let sub : IsToldSub (records.Sub i k why.op why.since) =
    all_at IsToldSub c.records why.place (records.Sub i k why.op why.since) told (before c.records a why.place (records.Sub i k why.op why.since) why.asked) in
    let entries : All (λ (e : Entry). IsSpelledOp e.op) c.memory.entries =
    from_each (λ (e : Entry). IsSpelledOp e.op) c.memory.entries (λ p e at. (entry-told named c x told p e at).1) in
    (sub.0, few, reply-told range (extent_of c.memory) c.memory.entries why.point (record { requester = i; number = k; op = why.op }) reply limits.in_block entries why.acted why.not_posted why.replied)

pub tellable : Range → Named → (c : Claim) → Explains c → IsClocked c → length c.memory.entries < 2 ^ 64 → IsWithinLimits (extent_of c.memory) → All IsToldSub c.records → IsTellable c
tellable range named c x clocked few limits told = record {
  limits = limits;
  records_are = from_each IsTellableRecord c.records (λ a r at. let most = clocked.bounded a r at in record-told range named c x limits told a r at (omega (arith, most, few)));
  entries_are = from_each IsTellableEntry c.memory.entries (entry-told named c x told);
}
