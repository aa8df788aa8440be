-- What the completion takes of the credits, from the memory's refusal alone.
use Rattle.std.proofs.Common.{◌≡◌, ℕ, suc, ◌+◌, ◌-◌, ◌*◌, ◌/◌, ◌≤◌, Bool, true, false, cond, List, [], ◌∷◌, length, drop, Option, Some, None, refl, sym, ap, ◌∙◌, arith, length-drop, length-take}
use Rattle.std.specs.Prelude.{◌||◌, ◌==◌, nat_lt, replicate, option_map, option_and_then, IsSomeAnd}
use Rattle.std.proofs.lemmas.Bool.Decides.{nat_tests}
use Rattle.std.proofs.lemmas.List.{length-replicate}
use Rattle.tlp_core.specs.Ops.{Op}
use Rattle.tlp_core.specs.declared.operation.OpOf.TheVariants as ops
use Rattle.tlp_core.specs.declared.operation.Width.{Width}
use Rattle.tlp_core.specs.declared.operation.Width.TheVariants as widths
use Rattle.tlp_core.specs.declared.packet.Status.TheVariants as statuses
use Rattle.tlp_core.specs.declared.packet.Kind.{Kind}
use Rattle.tlp_core.specs.declared.packet.Kind.TheVariants as kinds
use Rattle.tlp_core.specs.declared.packet.Body.{Body}
use Rattle.tlp_core.specs.declared.packet.Body.TheVariants as bodies
use Rattle.tlp_core.specs.declared.fault.TlpFault.{TlpFault}
use Rattle.tlp_core.specs.declared.fault.TlpFault.TheVariants as faults
use Rattle.tlp_core.specs.Enables.{enables}
use Rattle.tlp_core.specs.TlpView.{TlpView}
use Rattle.tlp_core.specs.Operation.{op_of, op_at, op_fault, is_posted, address_of, count_of, size_of}
use Rattle.seq_memory.specs.declared.Refusal.{Refusal}
use Rattle.seq_memory.specs.declared.Refusal.TheVariants as refusals
use Rattle.seq_memory.specs.Entries.{Reply}
use Rattle.seq_memory.specs.Step.{is_inside, refusal, answer, answer_by, read_back, merged, bytes_at, data_of}
use Rattle.seq_memory.specs.History.{MemoryView, bytes_of}
use Rattle.completer_core.specs.Completion.{completion, completion_of, completion_for, unless_posted}
use Rattle.completer_core.proofs.Spans.{length_by, one_or_more}
use Rattle.flow_control.specs.Needs.{need_of, completion_need}
use Rattle.completer_core.specs.Serving.{completion_to}

-- only a write's operation is posted
wrote : (a f l : ℕ) (b : List ℕ) (op : Op) → ◌≡◌ {A = Option Op} (Some (ops.Write a f l (record { items = b }))) (Some op) → is_posted op ≡ false → ⊥
wrote a f l b (ops.Write a' f' l' b') e p = cc
wrote a f l b (ops.Read a' dw f' l') e p = cc
wrote a f l b (ops.FetchAdd a' w x) e p = cc
wrote a f l b (ops.Swap a' w x) e p = cc
wrote a f l b (ops.Cas a' w x y) e p = cc

kind_not_write : (k : Kind) (body : Body) (dw : ℕ) (b : List ℕ) (op : Op) (c : Option TlpView) → op_at k body dw b ≡ Some op → is_posted op ≡ false → unless_posted k c ≡ c
kind_not_write kinds.MemoryRead body dw b op c e p = refl
kind_not_write kinds.MemoryWrite (bodies.Request a f l) dw b op c e p = absurd (wrote a f l b op e p)
kind_not_write kinds.MemoryWrite (bodies.Completion i s n lower) dw b op c e p = absurd cc
kind_not_write kinds.FetchAdd body dw b op c e p = refl
kind_not_write kinds.Swap body dw b op c e p = refl
kind_not_write kinds.Cas body dw b op c e p = refl
kind_not_write kinds.Completion body dw b op c e p = refl
kind_not_write kinds.CompletionData body dw b op c e p = refl

length_at : (m : List ℕ) (i n : ℕ) → i + n ≤ length m → length (bytes_at m i n) ≡ n
length_at m i n h = omega (arith, length-take n (drop i m), length-drop i m, h)

length_merged : (es : List Bool) (xs ys : List ℕ) → length xs ≡ length es → length ys ≡ length es → length (merged es xs ys) ≡ length es
length_merged [] xs ys e1 e2 = refl
length_merged (e ∷ es) [] ys e1 e2 = absurd (omega (arith, e1))
length_merged (e ∷ es) (x ∷ xs) [] e1 e2 = absurd (omega (arith, e2))
length_merged (e ∷ es) (x ∷ xs) (y ∷ ys) e1 e2 = ap suc (length_merged es xs ys (omega (arith, e1)) (omega (arith, e2)))

-- a reply with so many bytes of data
pub record IsData (r : Reply) (n : ℕ) : Type 0 where
  pub bytes : List ℕ
  pub is : r ≡ data_of bytes
  pub size : length bytes ≡ n

pub some_dw : (dw : ℕ) (rest : Option TlpFault) → cond ((dw == 0) || nat_lt 1024 dw) (Some faults.LengthMismatch) rest ≡ None → 1 ≤ dw
some_dw dw rest e = grind (arith, nat_tests)

-- what a served operation that is not posted answers
data_read : (op : Op) (old : List ℕ) → op_fault op ≡ None → is_posted op ≡ false → length old ≡ count_of op → IsData (read_back op old) (count_of op)
data_read (ops.Read a dw f l) old sound p e =
    let n = length_by dw f l (one_or_more dw (some_dw dw _ sound)) in
    record { bytes = merged (enables dw f l) old (replicate (4 * dw) 0); is = refl; size = length_merged (enables dw f l) old (replicate (4 * dw) 0) (e ∙ sym n) (length-replicate (4 * dw) 0 ∙ sym n) ∙ n }
data_read (ops.Write a f l bytes) old sound p e = absurd cc
data_read (ops.FetchAdd a w x) old sound p e = record { bytes = old; is = refl; size = e }
data_read (ops.Swap a w x) old sound p e = record { bytes = old; is = refl; size = e }
data_read (ops.Cas a w x y) old sound p e = record { bytes = old; is = refl; size = e }

not_refused : (a b : Bool) → ◌≡◌ {A = Option Refusal} (cond a (Some refusals.Aborted) (cond b None (Some refusals.Unsupported))) None → b ≡ true
not_refused true b e = absurd cc
not_refused false true e = refl
not_refused false false e = absurd cc

bounds : (base size address count : ℕ) → is_inside base size address count ≡ true → (address - base) + count ≤ size
bounds base size address count e = grind (arith, nat_tests)

inside : (base block size : ℕ) (op : Op) → refusal base size block op ≡ None → (address_of op - base) + count_of op ≤ size
inside base block size op e = bounds base size (address_of op) (count_of op) (not_refused _ _ e)

need_carried : (t : TlpView) (r : Reply) (n : ℕ) → ((c : Option TlpView) → unless_posted t.kind c ≡ c) → IsData r n → option_map need_of (completion_of t r) ≡ Some (completion_need n)
need_carried t r n same d = rw d.is (ap (option_map need_of) (same (completion_for t (data_of d.bytes))) ∙ ap (λ n. Some (completion_need n)) d.size)

-- what a served request that is not posted is answered, over any bytes
pub served_bytes : (base block : ℕ) (m : List ℕ) (op : Op) → op_fault op ≡ None → is_posted op ≡ false → refusal base (length m) block op ≡ None → IsData (answer base block m op) (count_of op)
served_bytes base block m op sound p served =
    let old = bytes_at m (address_of op - base) (count_of op) in
    let given : answer base block m op ≡ read_back op old = ap (λ r. answer_by r (read_back op old)) served in
    let fits : length old ≡ count_of op = length_at m (address_of op - base) (count_of op) (inside base block (length m) op served) in
    let d = data_read op old sound p fits in
    record { bytes = d.bytes; is = given ∙ d.is; size = d.size }

served_data : (s : MemoryView) (op : Op) → op_fault op ≡ None → is_posted op ≡ false → refusal s.base s.size s.block op ≡ None → length (bytes_of s) ≡ s.size → IsData (answer s.base s.block (bytes_of s) op) (count_of op)
served_data s op sound p served size = served_bytes s.base s.block (bytes_of s) op sound p (rw size served)

asked : (s : MemoryView) (t : TlpView) (op : Op) → op_of t ≡ Some op → completion_to s t ≡ completion_of t (answer s.base s.block (bytes_of s) op)
asked s t op e = ap (option_and_then (λ op. completion_of t (answer s.base s.block (bytes_of s) op))) e

pub served_need : (s : MemoryView) (t : TlpView) (op : Op) → op_of t ≡ Some op → op_fault op ≡ None → is_posted op ≡ false → refusal s.base s.size s.block op ≡ None → length (bytes_of s) ≡ s.size → option_map need_of (completion_to s t) ≡ Some (completion_need (count_of op))
served_need s t op e sound p served size =
    ap (option_map need_of) (asked s t op e)
    ∙ need_carried t (answer s.base s.block (bytes_of s) op) (count_of op) (λ c. kind_not_write t.kind t.body t.length t.payload op c e p) (served_data s op sound p served size)

whole_size : (w : Width) → 4 * (size_of w / 4) ≡ size_of w
whole_size widths.Four = refl
whole_size widths.Eight = refl
whole_size widths.Sixteen = refl

pub quarters : (op : Op) → is_posted op ≡ false → 4 * (count_of op / 4) ≡ count_of op
quarters (ops.Read a dw f l) p = omega arith
quarters (ops.Write a f l bytes) p = absurd cc
quarters (ops.FetchAdd a w x) p = whole_size w
quarters (ops.Swap a w x) p = whole_size w
quarters (ops.Cas a w x y) p = whole_size w

-- the completion of a served request: its data, and a Length that counts it
pub served_completion : (s : MemoryView) (t : TlpView) (op : Op) → op_of t ≡ Some op → op_fault op ≡ None → is_posted op ≡ false → refusal s.base s.size s.block op ≡ None → length (bytes_of s) ≡ s.size → IsSomeAnd (completion_to s t) (λ c. (length c.payload ≡ count_of op) × (4 * c.length ≡ length c.payload))
served_completion s t op e sound p served size =
    let d = served_data s op sound p served size in
    let is : completion_to s t ≡ Some (completion t kinds.CompletionData statuses.Success d.bytes) =
    asked s t op e ∙ ap (completion_of t) d.is ∙ kind_not_write t.kind t.body t.length t.payload op (completion_for t (data_of d.bytes)) e p in
    let counts : 4 * (length d.bytes / 4) ≡ length d.bytes = rw d.size (quarters op p) in
    rw is (d.size, counts)
