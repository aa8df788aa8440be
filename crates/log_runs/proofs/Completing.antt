-- Records with the replies of a history.
use Rattle.std.proofs.Common.{◌≡◌, ◌∙◌, ℕ, zero, suc, Bool, true, false, List, [], ◌∷◌, map, take, fold, Option, Some, None, refl, sym, ap, subst, inl, inr}
use Rattle.std.specs.Prelude.{slice_get, ◌||◌, cond, option_map}
use Rattle.std.proofs.lemmas.Option.{slice_get-map, same_Some}
use Rattle.tlp_core.specs.Ops.{Op}
use Rattle.tlp_core.specs.declared.operation.OpOf.TheVariants as ops
use Rattle.tlp_core.specs.Operation.{is_posted}
use Rattle.seq_memory.specs.Entries.{Entry}
use Rattle.seq_memory.specs.declared.Refusal.{Refusal}
use Rattle.seq_memory.specs.declared.Refusal.TheVariants as refusals
use Rattle.seq_memory.specs.Entries.{Reply}
use Rattle.seq_memory.specs.declared.reply.ReplyOf.TheVariants as replies
use Rattle.seq_memory.specs.Limits.{Extent}
use Rattle.seq_memory.specs.Step.{after, answer, answer_by, read_back}
use Rattle.history_words.specs.Records.{Record}
use Rattle.history_words.specs.declared.record.RecordOf.TheVariants as records
use Rattle.history_words.specs.Flaws.{moment}
use Rattle.history_words.specs.Trace.{is_request, stands}
use Rattle.log_runs.specs.declared.Step.{Step}
use Rattle.log_runs.specs.declared.Step.TheVariants as steps
use Rattle.log_runs.specs.Explainable.{MayBe, IsSeenAs, AreSeenAs}
use Rattle.log_runs.specs.Histories.{timed_from, with_answer, completed}
use Rattle.trace_store.specs.Changes.{with_n}
use Rattle.log_runs.specs.Tasks.{known}
use Rattle.log_runs.proofs.ButN.{without_n}

-- ---- one record

pub of_sub : (x : Extent) (m : List ℕ) (h : List Entry) (i k n : ℕ) (op : Op) → completed x m h (records.Sub i k op n) ≡ records.Sub i k op n
of_sub x m [] i k n op = refl
of_sub x m (e ∷ h) i k n op = of_sub x (after x.base x.block m e.op) h i k n op

same_answer : (e : Entry) (made told : Reply) (i k n : ℕ) → known told ≡ Some told → with_answer e made (records.Ans i k told n) ≡ records.Ans i k told n
same_answer e made replies.Done i k n is = cc
same_answer e made (replies.Data bytes) i k n is = refl
same_answer e made replies.Unsupported i k n is = refl
same_answer e made replies.Aborted i k n is = refl

pub of_known : (x : Extent) (m : List ℕ) (h : List Entry) (i k n : ℕ) (told : Reply) → known told ≡ Some told → completed x m h (records.Ans i k told n) ≡ records.Ans i k told n
of_known x m [] i k n told is = refl
of_known x m (e ∷ h) i k n told is =
    let m' = after x.base x.block m e.op in
    ap (completed x m' h) (same_answer e (answer x.base x.block m e.op) told i k n is) ∙ of_known x m' h i k n told is

-- the record is an answer to the same request, with a reply that there may be
pub record Completed (i k n : ℕ) (told : Reply) (r : Record) : Type 0 where
  pub made : Reply
  pub is : r ≡ records.Ans i k made n
  pub may : MayBe told made

done_may : (x : Extent) (m : List ℕ) (h : List Entry) (i k n : ℕ) (told : Reply) → Completed i k n replies.Done (completed x m h (records.Ans i k told n))
done_may x m [] i k n told = record { made = told; is = refl; may = inl refl }
done_may x m (e ∷ h) i k n replies.Done = done_may x (after x.base x.block m e.op) h i k n (cond (is_request i k e) (answer x.base x.block m e.op) replies.Done)
done_may x m (e ∷ h) i k n (replies.Data bytes) = done_may x (after x.base x.block m e.op) h i k n (replies.Data bytes)
done_may x m (e ∷ h) i k n replies.Unsupported = done_may x (after x.base x.block m e.op) h i k n replies.Unsupported
done_may x m (e ∷ h) i k n replies.Aborted = done_may x (after x.base x.block m e.op) h i k n replies.Aborted

of_known_may : (x : Extent) (m : List ℕ) (h : List Entry) (i k n : ℕ) (told : Reply) → known told ≡ Some told → Completed i k n told (completed x m h (records.Ans i k told n))
of_known_may x m h i k n told is = record { made = told; is = of_known x m h i k n told is; may = inr refl }

pub of_answer : (x : Extent) (m : List ℕ) (h : List Entry) (i k n : ℕ) (told : Reply) → Completed i k n told (completed x m h (records.Ans i k told n))
of_answer x m h i k n replies.Done = done_may x m h i k n replies.Done
of_answer x m h i k n (replies.Data bytes) = of_known_may x m h i k n (replies.Data bytes) refl
of_answer x m h i k n replies.Unsupported = of_known_may x m h i k n replies.Unsupported refl
of_answer x m h i k n replies.Aborted = of_known_may x m h i k n replies.Aborted refl

-- a memory's reply to what isn't posted is known
pub answer_known : (x : Extent) (m : List ℕ) (op : Op) → is_posted op ≡ false → known (answer x.base x.block m op) ≡ Some (answer x.base x.block m op)
answer_known x m op not_posted = by _ _ (back op _ not_posted)
  where
    back : (op : Op) (old : List ℕ) → is_posted op ≡ false → known (read_back op old) ≡ Some (read_back op old)
    back (ops.Read a dw f l) old e = refl
    back (ops.Write a f l bytes) old e = cc
    back (ops.FetchAdd a w y) old e = refl
    back (ops.Swap a w y) old e = refl
    back (ops.Cas a w y z) old e = refl

    by : (o : Option Refusal) (r : Reply) → known r ≡ Some r → known (answer_by o r) ≡ Some (answer_by o r)
    by None r e = e
    by (Some refusals.Aborted) r e = refl
    by (Some refusals.Unsupported) r e = refl

both_false : (a b : Bool) → (a || b) ≡ false → (a ≡ false) × (b ≡ false)
both_false true b e = cc
both_false false b e = (refl, e)

-- an answer that has only that its request was done gets the memory's reply, where the request first stands
pub of_done : (x : Extent) (m : List ℕ) (h : List Entry) (p i k n : ℕ) (e : Entry) → slice_get h p ≡ Some e → is_request i k e ≡ true → stands (take p h) i k ≡ false → is_posted e.op ≡ false
    → completed x m h (records.Ans i k replies.Done n) ≡ records.Ans i k (answer x.base x.block (fold (λ b (f : Entry). after x.base x.block b f.op) m (take p h)) e.op) n
of_done x m [] p i k n e at is none not_posted = cc
of_done x m (f ∷ h) zero i k n e at is none not_posted =
    let same : f ≡ e = same_Some f e at in
    let m' = after x.base x.block m f.op in
    let made = answer x.base x.block m f.op in
    let here : is_request i k f ≡ true = ap (is_request i k) same ∙ is in
    let plain : is_posted f.op ≡ false = ap (λ (g : Entry). is_posted g.op) same ∙ not_posted in
    ap (λ (b : Bool). completed x m' h (records.Ans i k (cond b made replies.Done) n)) here
    ∙ of_known x m' h i k n made (answer_known x m f.op plain)
    ∙ ap (λ (g : Entry). records.Ans i k (answer x.base x.block m g.op) n) same
of_done x m (f ∷ h) (suc p) i k n e at is none not_posted =
    let (other, rest) = both_false (is_request i k f) (stands (take p h) i k) none in
    let m' = after x.base x.block m f.op in
    ap (λ (b : Bool). completed x m' h (records.Ans i k (cond b (answer x.base x.block m f.op) replies.Done) n)) other
    ∙ of_done x m' h p i k n e at is rest not_posted

pub same_moment : (x : Extent) (m : List ℕ) (h : List Entry) (r : Record) → moment (completed x m h r) ≡ moment r
same_moment x m h (records.Sub i k op n) = ap moment (of_sub x m h i k n op)
same_moment x m h (records.Ans i k told n) = ap moment (of_answer x m h i k n told).is

-- ---- many

-- the record is seen as itself with a reply
pub seen_completed : (x : Extent) (m : List ℕ) (h : List Entry) (r u : Record) → without_n r ≡ without_n u → IsSeenAs r (completed x m h u)
seen_completed x m h (records.Sub i k op n) (records.Sub j l w q) e =
    let one : i ≡ j = cc in
    let two : k ≡ l = cc in
    let three : op ≡ w = cc in
    subst (IsSeenAs (records.Sub i k op n)) (sym (of_sub x m h j l q w)) (one, two, three)
seen_completed x m h (records.Sub i k op n) (records.Ans j l w q) e = cc
seen_completed x m h (records.Ans i k told n) (records.Sub j l w q) e = cc
seen_completed x m h (records.Ans i k told n) (records.Ans j l w q) e =
    let one : i ≡ j = cc in
    let two : k ≡ l = cc in
    let three : told ≡ w = cc in
    let c = of_answer x m h j l q w in
    subst (IsSeenAs (records.Ans i k told n)) (sym c.is) (one, two, subst (λ y. MayBe y c.made) (sym three) c.may)

pub all_seen : (x : Extent) (m : List ℕ) (h : List Entry) (rs us : List Record) → map without_n rs ≡ map without_n us → AreSeenAs rs (map (completed x m h) us)
all_seen x m h [] [] e = tt
all_seen x m h [] (u ∷ us) e = cc
all_seen x m h (r ∷ rs) [] e = cc
all_seen x m h (r ∷ rs) (u ∷ us) e =
    let head : without_n r ≡ without_n u = cc in
    let tail : map without_n rs ≡ map without_n us = cc in
    (seen_completed x m h r u head, all_seen x m h rs us tail)

pub with_moment : (x : Extent) (m : List ℕ) (h : List Entry) (n : ℕ) (r : Record) → with_n n (completed x m h r) ≡ completed x m h (with_n n r)
with_moment x m h n (records.Sub i k op q) = ap (with_n n) (of_sub x m h i k q op) ∙ sym (of_sub x m h i k n op)
with_moment x m [] n (records.Ans i k told q) = refl
with_moment x m (e ∷ h) n (records.Ans i k replies.Done q) = with_moment x (after x.base x.block m e.op) h n (records.Ans i k (cond (is_request i k e) (answer x.base x.block m e.op) replies.Done) q)
with_moment x m (e ∷ h) n (records.Ans i k (replies.Data bytes) q) = with_moment x (after x.base x.block m e.op) h n (records.Ans i k (replies.Data bytes) q)
with_moment x m (e ∷ h) n (records.Ans i k replies.Unsupported q) = with_moment x (after x.base x.block m e.op) h n (records.Ans i k replies.Unsupported q)
with_moment x m (e ∷ h) n (records.Ans i k replies.Aborted q) = with_moment x (after x.base x.block m e.op) h n (records.Ans i k replies.Aborted q)

-- n's and replies, in either order
pub timed_completed : (x : Extent) (m : List ℕ) (h : List Entry) (n : ℕ) (xs : List Step) (rs : List Record) → timed_from n xs (map (completed x m h) rs) ≡ map (completed x m h) (timed_from n xs rs)
timed_completed x m h n [] rs = refl
timed_completed x m h n (steps.Act b ∷ xs) rs = timed_completed x m h (suc n) xs rs
timed_completed x m h n (steps.Pass ∷ xs) [] = refl
timed_completed x m h n (steps.Pass ∷ xs) (r ∷ rs) =
    ap (λ y. y ∷ timed_from n xs (map (completed x m h) rs)) (with_moment x m h n r)
    ∙ ap (λ ys. completed x m h (with_n n r) ∷ ys) (timed_completed x m h n xs rs)

-- what was at a place before
pub completed_at : (x : Extent) (m : List ℕ) (h : List Entry) (us : List Record) (a : ℕ) (s : Record) → slice_get (map (completed x m h) us) a ≡ Some s → (r : Record) × (slice_get us a ≡ Some r) × (completed x m h r ≡ s)
completed_at x m h [] a s at = cc
completed_at x m h (u ∷ us) zero s at = (u, refl, same_Some (completed x m h u) s at)
completed_at x m h (u ∷ us) (suc a) s at = completed_at x m h us a s at

pub completed_there : (x : Extent) (m : List ℕ) (h : List Entry) (us : List Record) (a : ℕ) (r : Record) → slice_get us a ≡ Some r → slice_get (map (completed x m h) us) a ≡ Some (completed x m h r)
completed_there x m h us a r at = slice_get-map (completed x m h) us a ∙ ap (option_map (completed x m h)) at
