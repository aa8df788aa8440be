-- The reply to a request has as many bytes of data as the place of its operation.
use Rattle.std.proofs.Common.{◌≡◌, ℕ, ◌-◌, ◌*◌, Bool, true, false, List, length, refl, sym, ap, ◌∙◌, subst, Option, Some, None}
use Rattle.std.specs.Prelude.{IsSomeAnd, option_and_then, is_some, not, ◌||◌, if◌then◌else◌}
use Rattle.tlp_core.specs.declared.fault.TlpFault.{TlpFault}
use Rattle.tlp_core.specs.Ops.{Op}
use Rattle.tlp_core.specs.declared.operation.OpOf.TheVariants as ops
use Rattle.tlp_core.specs.TlpView.{TlpView}
use Rattle.tlp_core.specs.Operation.{op_of, op_fault, is_posted, address_of, count_of}
use Rattle.seq_memory.specs.declared.Refusal.{Refusal}
use Rattle.seq_memory.specs.declared.Refusal.TheVariants as refusals
use Rattle.seq_memory.specs.Entries.{Reply}
use Rattle.seq_memory.specs.declared.reply.ReplyOf.TheVariants as replies
use Rattle.seq_memory.specs.Step.{answer, answer_by, read_back, refusal, bytes_at, is_in_block, is_inside, IsSizedFor}
use Rattle.seq_memory.specs.History.{MemoryView, bytes_of}
use Rattle.completer_core.specs.Completion.{completion_for, completion_of}
use Rattle.completer_core.specs.Serving.{completion_to}
use Rattle.fabric_steps.proofs.Events.{asked}

-- what is served has no fault
no_fault : (f : Option TlpFault) (b c : Bool) → (if is_some f || b then Some refusals.Aborted else (if c then None else Some refusals.Unsupported)) ≡ None → f ≡ None
no_fault None b c e = refl
no_fault (Some f) b c e = absurd (cc)

-- a completion's payload is the data of its reply
carried : (t : TlpView) (op : Op) (r : Reply) → op_of t ≡ Some op → is_posted op ≡ false → IsSomeAnd (completion_of t r) (λ c. (length c.payload ≡ count_of op) × (4 * c.length ≡ length c.payload)) → IsSizedFor op r
carried t op (replies.Data bytes) e p h =
    (subst (λ (o : Option TlpView). IsSomeAnd o (λ c. (length c.payload ≡ count_of op) × (4 * c.length ≡ length c.payload))) (asked t.kind t.body t.length t.payload op (completion_for t (replies.Data bytes)) e p) h).0
carried t op replies.Done e p h = tt
carried t op replies.Unsupported e p h = tt
carried t op replies.Aborted e p h = tt

module _ (law : (s : MemoryView) (t : TlpView) (op : Op) → op_of t ≡ Some op → op_fault op ≡ None → is_posted op ≡ false → refusal s.base s.size s.block op ≡ None → length (bytes_of s) ≡ s.size → IsSomeAnd (completion_to s t) (λ c. (length c.payload ≡ count_of op) × (4 * c.length ≡ length c.payload)))
    (s : MemoryView) (t : TlpView) (op : Op) (e : op_of t ≡ Some op) (whole : length (bytes_of s) ≡ s.size) where
  abbrev old : List ℕ
  old = bytes_at (bytes_of s) (address_of op - s.base) (count_of op)

  made : completion_to s t ≡ completion_of t (answer s.base s.block (bytes_of s) op)
  made = ap (λ (o : Option Op). option_and_then (λ p. completion_of t (answer s.base s.block (bytes_of s) p)) o) e

  served : is_posted op ≡ false → refusal s.base (length (bytes_of s)) s.block op ≡ None → IsSizedFor op (answer s.base s.block (bytes_of s) op)
  served p r = carried t op (answer s.base s.block (bytes_of s) op) e p
      (subst (λ (o : Option TlpView). IsSomeAnd o (λ c. (length c.payload ≡ count_of op) × (4 * c.length ≡ length c.payload))) made
      (law s t op e (no_fault (op_fault op) (not (is_in_block s.block (address_of op) (count_of op))) (is_inside s.base (length (bytes_of s)) (address_of op) (count_of op)) r) p (ap (λ (n : ℕ). refusal s.base n s.block op) (sym whole) ∙ r) whole))

  by_refusal : (r : Option Refusal) → refusal s.base (length (bytes_of s)) s.block op ≡ r → (b : Bool) → is_posted op ≡ b → IsSizedFor op (answer s.base s.block (bytes_of s) op)
  by_refusal None r false p = served p r
  by_refusal None r true p = subst (IsSizedFor op) (sym (ap (λ (x : Option Refusal). answer_by x (read_back op old)) r)) (posted op old p)
    where
      posted : (op : Op) (old : List ℕ) → is_posted op ≡ true → IsSizedFor op (read_back op old)
      posted (ops.Write a f l bytes) old p = tt
      posted (ops.Read a dw f l) old p = absurd (cc)
      posted (ops.FetchAdd a w x) old p = absurd (cc)
      posted (ops.Swap a w x) old p = absurd (cc)
      posted (ops.Cas a w x y) old p = absurd (cc)
  by_refusal (Some refusals.Aborted) r b p = subst (IsSizedFor op) (sym (ap (λ (x : Option Refusal). answer_by x (read_back op old)) r)) tt
  by_refusal (Some refusals.Unsupported) r b p = subst (IsSizedFor op) (sym (ap (λ (x : Option Refusal). answer_by x (read_back op old)) r)) tt

  pub sized : IsSizedFor op (answer s.base s.block (bytes_of s) op)
  sized = by_refusal (refusal s.base (length (bytes_of s)) s.block op) refl (is_posted op) refl
