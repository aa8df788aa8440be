-- Completions with another Completer ID, Byte Count and Lower Address.
use Rattle.std.proofs.Common.{◌≡◌, ◌∙◌, ℕ, zero, suc, ◌-◌, ◌<◌, ◌≤◌, Bool, true, false, List, [], length, Option, Some, None, refl, ap, sym, subst, inl, inr, arith}
use Rattle.std.specs.Prelude.{◌||◌, ◌⊎◌, ◌==◌, not, is_some, option_map, option_and_then, if◌then◌else◌}
use Rattle.std.specs.Option.{option_map_or}
use Rattle.std.proofs.lemmas.Bool.Decides.{nat_tests}
use Rattle.tlp_core.specs.Ops.{Op}
use Rattle.tlp_core.specs.declared.operation.OpOf.TheVariants as ops
use Rattle.tlp_core.specs.declared.operation.Width.TheVariants as widths
use Rattle.tlp_core.specs.declared.packet.Kind.{Kind}
use Rattle.tlp_core.specs.declared.packet.Kind.TheVariants as kinds
use Rattle.tlp_core.specs.declared.packet.Body.{Body}
use Rattle.tlp_core.specs.declared.packet.Body.TheVariants as bodies
use Rattle.tlp_core.specs.declared.packet.Status.{Status}
use Rattle.tlp_core.specs.TlpView.{TlpView, IsPacket, FitsKind}
use Rattle.tlp_core.specs.Operation.{op_of, op_fault, address_of, count_of}
use Rattle.seq_memory.specs.declared.Refusal.TheVariants as refusals
use Rattle.seq_memory.specs.Entries.{Reply}
use Rattle.seq_memory.specs.declared.reply.ReplyOf.TheVariants as replies
use Rattle.seq_memory.specs.Step.{after, answer, answer_by, read_back, bytes_at, is_in_block, is_inside}
use Rattle.completer_core.specs.Completion.{byte_count, lower_address, completion_for, completion_of, unless_posted}
use Rattle.completer_core.specs.Serving.{bytes_after, completion_over}
use Rattle.endpoint_core.specs.EndpointView.{DeviceView}
use Rattle.endpoint_core.specs.Steps.{from, body_from, base_of_op, memory_done, done_at, dw_in_front, first_block, memory_completion, completion_at}
use Rattle.endpoint_core.specs.Blocks.{counted, body_counted, in_front, IsCut}
use Rattle.endpoint_core.proofs.Parts.{front_op}
use Rattle.op_pieces.specs.Pieces.{front}

-- ---- a memory of no bytes refuses each request

some_bytes : (op : Op) → op_fault op ≡ None → 1 ≤ count_of op
some_bytes (ops.Read a dw f l) h = grind (arith, nat_tests)
some_bytes (ops.Write a f l bytes) h = grind (arith, nat_tests)
some_bytes (ops.FetchAdd a widths.Four x) h = omega arith
some_bytes (ops.FetchAdd a widths.Eight x) h = omega arith
some_bytes (ops.FetchAdd a widths.Sixteen x) h = omega arith
some_bytes (ops.Swap a widths.Four x) h = omega arith
some_bytes (ops.Swap a widths.Eight x) h = omega arith
some_bytes (ops.Swap a widths.Sixteen x) h = omega arith
some_bytes (ops.Cas a widths.Four x y) h = omega arith
some_bytes (ops.Cas a widths.Eight x y) h = omega arith
some_bytes (ops.Cas a widths.Sixteen x y) h = omega arith

outside : (a c : ℕ) → 1 ≤ c → is_inside 0 0 a c ≡ false
outside a c h = grind (arith, nat_tests)

-- what is answered where the place lies outside
refused_by : (aborts inside : Bool) (t : TlpView) (r : Reply) → inside ≡ false → unless_posted t.kind (completion_for t (answer_by (if aborts then Some refusals.Aborted else (if inside then None else Some refusals.Unsupported)) r)) ≡ None →
    (c : TlpView) × (unless_posted t.kind (Some c) ≡ None)
refused_by true inside t r e h = (_, h)
refused_by false false t r e h = (_, h)
refused_by false true t r e h = absurd cc

unless_none : (k : Kind) (c : TlpView) (d : Option TlpView) → unless_posted k (Some c) ≡ None → unless_posted k d ≡ None
unless_none kinds.MemoryWrite c d h = refl
unless_none kinds.MemoryRead c d h = absurd cc
unless_none kinds.FetchAdd c d h = absurd cc
unless_none kinds.Swap c d h = absurd cc
unless_none kinds.Cas c d h = absurd cc
unless_none kinds.Completion c d h = absurd cc
unless_none kinds.CompletionData c d h = absurd cc

-- a request without a completion there has none at all
pub none_of : (t : TlpView) (op : Op) (r : Reply) → op_of t ≡ Some op → op_fault op ≡ None → completion_over 0 128 [] t ≡ None → completion_of t r ≡ None
none_of t op r e sound none =
    let there : completion_of t (answer 0 128 [] op) ≡ None = sym (ap (λ (o : Option Op). option_and_then (λ op. completion_of t (answer 0 128 [] op)) o) e) ∙ none in
    let p = refused_by (is_some (op_fault op) || not (is_in_block 128 (address_of op) (count_of op))) (is_inside 0 0 (address_of op) (count_of op)) t (read_back op (bytes_at [] (address_of op - 0) (count_of op))) (outside (address_of op) (count_of op) (some_bytes op sound)) there in
    unless_none t.kind p.0 (completion_for t r) p.1

-- ---- Byte Count and Lower Address of what is left of a read

unless_map : (k : Kind) (f : TlpView → TlpView) (c : Option TlpView) → option_map f (unless_posted k c) ≡ unless_posted k (option_map f c)
unless_map kinds.MemoryWrite f c = refl
unless_map kinds.MemoryRead f c = refl
unless_map kinds.FetchAdd f c = refl
unless_map kinds.Swap f c = refl
unless_map kinds.Cas f c = refl
unless_map kinds.Completion f c = refl
unless_map kinds.CompletionData f c = refl

counted_for : (id n : ℕ) (t : TlpView) (r : Reply) →
    option_map (counted id (byte_count t.kind t.body t.length) (lower_address t.kind t.body t.length)) (completion_for (in_front n t) r) ≡ option_map (from id) (completion_for t r)
counted_for id n t replies.Done = refl
counted_for id n t (replies.Data bytes) = refl
counted_for id n t replies.Unsupported = refl
counted_for id n t replies.Aborted = refl

pub counted_from : (id n : ℕ) (t : TlpView) (r : Reply) →
    option_map (counted id (byte_count t.kind t.body t.length) (lower_address t.kind t.body t.length)) (completion_of (in_front n t) r) ≡ option_map (from id) (completion_of t r)
counted_from id n t r =
    unless_map t.kind (counted id (byte_count t.kind t.body t.length) (lower_address t.kind t.body t.length)) (completion_for (in_front n t) r)
    ∙ ap (unless_posted t.kind) (counted_for id n t r)
    ∙ sym (unless_map t.kind (from id) (completion_for t r))

-- ---- what the counts of a completion are

abbrev pub CountsIn : TlpView → Body → Type 0
CountsIn t (bodies.Completion id s n lower) = (n ≡ byte_count t.kind t.body t.length) × (lower ≡ lower_address t.kind t.body t.length)
CountsIn t (bodies.Request a f l) = ⊥

abbrev pub HasCounts : TlpView → Option TlpView → Type 0
HasCounts t None = Unit {0}
HasCounts t (Some c) = CountsIn t c.body

counts_for : (t : TlpView) (r : Reply) → HasCounts t (completion_for t r)
counts_for t replies.Done = tt
counts_for t (replies.Data bytes) = (refl, refl)
counts_for t replies.Unsupported = (refl, refl)
counts_for t replies.Aborted = (refl, refl)

counts_unless : (t : TlpView) (k : Kind) (c : Option TlpView) → HasCounts t c → HasCounts t (unless_posted k c)
counts_unless t kinds.MemoryWrite c h = tt
counts_unless t kinds.MemoryRead c h = h
counts_unless t kinds.FetchAdd c h = h
counts_unless t kinds.Swap c h = h
counts_unless t kinds.Cas c h = h
counts_unless t kinds.Completion c h = h
counts_unless t kinds.CompletionData c h = h

counts_over : (t : TlpView) (o : Option Op) → HasCounts t (option_and_then (λ op. completion_of t (answer 0 128 [] op)) o)
counts_over t None = tt
counts_over t (Some op) = counts_unless t t.kind (completion_for t (answer 0 128 [] op)) (counts_for t (answer 0 128 [] op))

counts_of : (t c : TlpView) (b : Body) → completion_over 0 128 [] t ≡ Some c → c.body ≡ b → CountsIn t b
counts_of t c b e is = subst (λ (x : Body). CountsIn t x) is (subst (λ (o : Option TlpView). HasCounts t o) e (counts_over t (op_of t)))

pub count_is : (t c : TlpView) (id n lower : ℕ) (s : Status) → completion_over 0 128 [] t ≡ Some c → c.body ≡ bodies.Completion id s n lower → n ≡ byte_count t.kind t.body t.length
count_is t c id n lower s e is = (counts_of t c (bodies.Completion id s n lower) e is).0

pub lower_is : (t c : TlpView) (id n lower : ℕ) (s : Status) → completion_over 0 128 [] t ≡ Some c → c.body ≡ bodies.Completion id s n lower → lower ≡ lower_address t.kind t.body t.length
lower_is t c id n lower s e is = (counts_of t c (bodies.Completion id s n lower) e is).1

pub no_request : (t c : TlpView) (a f l : ℕ) → completion_over 0 128 [] t ≡ Some c → c.body ≡ bodies.Request a f l → ⊥
no_request t c a f l e is = counts_of t c (bodies.Request a f l) e is

-- the completion of the first DW of a read
pub front_completion : (id base n : ℕ) (m : List ℕ) (t : TlpView) (op : Op) → IsCut n t → op_of t ≡ Some op →
    option_map (counted id (byte_count t.kind t.body t.length) (lower_address t.kind t.body t.length)) (completion_over base 128 m (in_front n t)) ≡ option_map (from id) (completion_of t (answer base 128 m (front n op)))
front_completion id base n m t op cut is =
    ap (λ (o : Option Op). option_map (counted id (byte_count t.kind t.body t.length) (lower_address t.kind t.body t.length)) (option_and_then (λ op. completion_of (in_front n t) (answer base 128 m op)) o)) (front_op n t op cut is)
    ∙ counted_from id n t (answer base 128 m (front n op))

-- they act as the first of its block requests
first_at : (n : ℕ) (op : Op) → (n ≡ 0 → ⊥) → (if n == 0 then op else front n op) ≡ front n op
first_at zero op some = absurd (some refl)
first_at (suc n) op some =
    let more : (suc n == 0) ≡ false = grind (arith, nat_tests) in
    rw (more) refl

first_is : (n : ℕ) (op : Op) → (n ≡ 0 → ⊥) → dw_in_front op ≡ n → first_block op ≡ front n op
first_is n op some e = subst (λ (x : ℕ). (if x == 0 then op else front x op) ≡ front n op) (sym e) (first_at n op some)

front_acts : (base n : ℕ) (m : List ℕ) (t : TlpView) (op : Op) → IsCut n t → (n ≡ 0 → ⊥) → op_of t ≡ Some op → dw_in_front op ≡ n → bytes_after base 128 m (in_front n t) ≡ after base 128 m (first_block op)
front_acts base n m t op cut some is e =
    ap (λ (o : Option Op). option_map_or (λ op. after base 128 m op) o m) (front_op n t op cut is) ∙ sym (ap (after base 128 m) (first_is n op some e))

pub front_bytes : (base n : ℕ) (m : List ℕ) (t : TlpView) (op : Op) → (n ≡ 0) ⊎ IsCut n t → (n ≡ 0 → ⊥) → op_of t ≡ Some op → dw_in_front op ≡ n → bytes_after base 128 m (in_front n t) ≡ after base 128 m (first_block op)
front_bytes base n m t op (inl none) some is e = absurd (some none)
front_bytes base n m t op (inr cut) some is e = front_acts base n m t op cut some is e

pub none_from : (id : ℕ) (t : TlpView) (r : Reply) → completion_of t r ≡ None → option_map (from id) (completion_of t r) ≡ None
none_from id t r h = ap (λ (o : Option TlpView). option_map (from id) o) h

completes : (k : Kind) (c : TlpView) → k ≡ kinds.MemoryRead → unless_posted k (Some c) ≡ None → ⊥
completes kinds.MemoryRead c is h = cc
completes kinds.MemoryWrite c is h = cc
completes kinds.FetchAdd c is h = cc
completes kinds.Swap c is h = cc
completes kinds.Cas c is h = cc
completes kinds.Completion c is h = cc
completes kinds.CompletionData c is h = cc

pub read_completes : (t : TlpView) → t.kind ≡ kinds.MemoryRead → completion_of t replies.Unsupported ≡ None → ⊥
read_completes t is h = completes t.kind _ is h

-- a read has a completion, whatever the reply
pub read_has : (t : TlpView) → t.kind ≡ kinds.MemoryRead → ((op : Op) (r : Reply) → op_of t ≡ Some op → completion_of t r ≡ None) → (op : Op) → op_of t ≡ Some op → ⊥
read_has t is none op e = read_completes t is (none op replies.Unsupported e)

-- ---- the completion of a claimed request

pub done_is : (d : DeviceView) (t : TlpView) (op : Op) (base : ℕ) → op_of t ≡ Some op → base_of_op d op ≡ Some base → memory_done d (op_of t) ≡ dw_in_front op
done_is d t op base e b = ap (λ (o : Option Op). memory_done d o) e ∙ ap (λ (o : Option ℕ). done_at op o) b

pub answered : (d : DeviceView) (t : TlpView) (op : Op) (base dw : ℕ) (r : Option TlpView) → op_of t ≡ Some op → base_of_op d op ≡ Some base → dw_in_front op ≡ dw →
    (dw_in_front op ≡ dw → r ≡ option_map (from d.completer) (completion_of t (answer base 128 d.bytes (first_block op)))) → r ≡ memory_completion d t (op_of t)
answered d t op base dw r e b n f =
    f n ∙ sym (ap (λ (o : Option Op). memory_completion d t o) e ∙ ap (λ (o : Option ℕ). completion_at d t op o) b)

-- ---- they are packets

counted_fits : (id n lower : ℕ) (k : Kind) (b : Body) (dw given : ℕ) → (1 ≤ n) × (n ≤ 4096) × (lower < 128) → FitsKind k b dw given → FitsKind k (body_counted id n lower b) dw given
counted_fits id n lower k (bodies.Request a f l) dw given r h = h
counted_fits id n lower kinds.MemoryRead (bodies.Completion c s m low) dw given r h = absurd h
counted_fits id n lower kinds.MemoryWrite (bodies.Completion c s m low) dw given r h = absurd h
counted_fits id n lower kinds.FetchAdd (bodies.Completion c s m low) dw given r h = absurd h
counted_fits id n lower kinds.Swap (bodies.Completion c s m low) dw given r h = absurd h
counted_fits id n lower kinds.Cas (bodies.Completion c s m low) dw given r h = absurd h
counted_fits id n lower kinds.Completion (bodies.Completion c s m low) dw given r h = (r.0, r.1, r.2, h.3, h.4)
counted_fits id n lower kinds.CompletionData (bodies.Completion c s m low) dw given r h = (r.0, r.1, r.2, h.3, h.4, h.5)

pub counted_packet : (id n lower : ℕ) (c : TlpView) → IsPacket c → (1 ≤ n) × (n ≤ 4096) × (lower < 128) → IsPacket (counted id n lower c)
counted_packet id n lower c p r = record { tc = p.tc; attr = p.attr; fits = counted_fits id n lower c.kind c.body c.length (length c.payload) r p.fits }

from_fits : (id : ℕ) (k : Kind) (b : Body) (dw given : ℕ) → FitsKind k b dw given → FitsKind k (body_from id b) dw given
from_fits id k (bodies.Request a f l) dw given h = h
from_fits id kinds.MemoryRead (bodies.Completion c s m low) dw given h = absurd h
from_fits id kinds.MemoryWrite (bodies.Completion c s m low) dw given h = absurd h
from_fits id kinds.FetchAdd (bodies.Completion c s m low) dw given h = absurd h
from_fits id kinds.Swap (bodies.Completion c s m low) dw given h = absurd h
from_fits id kinds.Cas (bodies.Completion c s m low) dw given h = absurd h
from_fits id kinds.Completion (bodies.Completion c s m low) dw given h = h
from_fits id kinds.CompletionData (bodies.Completion c s m low) dw given h = h

pub from_packet : (id : ℕ) (c : TlpView) → IsPacket c → IsPacket (from id c)
from_packet id c p = record { tc = p.tc; attr = p.attr; fits = from_fits id c.kind c.body c.length (length c.payload) p.fits }
