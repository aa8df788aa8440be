-- The completion of a packet is a packet, which its canonical bytes spell.
use Rattle.std.proofs.Common.{◌≡◌, ◌≢◌, ℕ, zero, suc, ◌+◌, ◌-◌, ◌*◌, ◌/◌, ◌%◌, ◌^◌, ◌<◌, ◌≤◌, Bool, true, false, cond, List, [], ◌∷◌, length, Option, Some, None, refl, sym, subst, ap, ◌∙◌, inl, inr, arith}
use Rattle.std.specs.Prelude.{◌||◌, ◌==◌, ◌⊎◌, not, is_some, nat_lt, IsTrue, reverse, if◌then◌else◌, option_and_then}
use Rattle.std.proofs.lemmas.Bool.Decides.{nat_tests}
use Rattle.tlp_core.specs.Ops.{Op}
use Rattle.tlp_core.specs.declared.operation.OpOf.TheVariants as ops
use Rattle.tlp_core.specs.declared.operation.Width.{Width}
use Rattle.tlp_core.specs.declared.operation.Width.TheVariants as widths
use Rattle.tlp_core.specs.declared.packet.Kind.{Kind}
use Rattle.tlp_core.specs.declared.packet.Kind.TheVariants as kinds
use Rattle.tlp_core.specs.declared.packet.Body.{Body}
use Rattle.tlp_core.specs.declared.packet.Body.TheVariants as bodies
use Rattle.tlp_core.specs.declared.packet.Status.{Status}
use Rattle.tlp_core.specs.declared.packet.Status.TheVariants as statuses
use Rattle.tlp_core.specs.declared.fault.TlpFault.{TlpFault}
use Rattle.tlp_core.specs.Enables.{dw_enables, enables, are_enables}
use Rattle.tlp_core.specs.TlpView.{TlpView, IsPacket, FitsKind, IsBodyInRange}
use Rattle.tlp_core.specs.Layout.{Spells, canonical}
use Rattle.tlp_core.specs.Operation.{op_of, op_at, op_fault, is_posted, address_of, count_of, size_of}
use Rattle.seq_memory.specs.declared.Refusal.{Refusal}
use Rattle.seq_memory.specs.declared.Refusal.TheVariants as refusals
use Rattle.seq_memory.specs.Entries.{Reply}
use Rattle.seq_memory.specs.declared.reply.ReplyOf.TheVariants as replies
use Rattle.seq_memory.specs.Limits.{IsBlock, IsWithinLimits}
use Rattle.seq_memory.specs.Step.{is_in_block, is_inside, refusal, answer, answer_by, read_back, bytes_at, data_of}
use Rattle.seq_memory.specs.History.{MemoryView, bytes_of, extent_of}
use Rattle.completer_core.specs.Span.{lead, is_empty, span, low_address}
use Rattle.completer_core.specs.Completion.{byte_count, lower_address, completion, completion_of, completion_for, unless_posted}
use Rattle.completer_core.specs.Serving.{completion_to, completion_over}
use Rattle.completer_core.proofs.Spans.{some_enabled, some_enabled_behind, not_one, one_or_more, span_none, span_one, span_more}
use Rattle.completer_core.proofs.Shapes.{IsData, some_dw, quarters, served_bytes}

-- ---- Byte Count and Lower Address

-- an enabled byte stands between those before the first and those behind the last
leads_of : (a b c d : Bool) → lead (a ∷ b ∷ c ∷ d ∷ []) < 4 → lead (a ∷ b ∷ c ∷ d ∷ []) + lead (reverse (a ∷ b ∷ c ∷ d ∷ [])) < 4
leads_of true true true true h = omega arith
leads_of true true true false h = omega arith
leads_of true true false true h = omega arith
leads_of true true false false h = omega arith
leads_of true false true true h = omega arith
leads_of true false true false h = omega arith
leads_of true false false true h = omega arith
leads_of true false false false h = omega arith
leads_of false true true true h = omega arith
leads_of false true true false h = omega arith
leads_of false true false true h = omega arith
leads_of false true false false h = omega arith
leads_of false false true true h = omega arith
leads_of false false true false h = omega arith
leads_of false false false true h = omega arith
leads_of false false false false h = absurd (omega (arith, h))

leads : (f : ℕ) → f < 16 → f ≢ 0 → lead (dw_enables f) + lead (reverse (dw_enables f)) < 4
leads f lt n = leads_of (f % 2 == 1) (f / 2 % 2 == 1) (f / 4 % 2 == 1) (f / 8 % 2 == 1) (some_enabled f lt n)

one_range : (s d m k : ℕ) → 4 * d - m - k ≡ s → d ≡ 1 → m + k < 4 → (1 ≤ s) × (s ≤ 4096)
one_range s d m k e one lt = (omega (arith, e, one, lt), omega (arith, e, one, lt))

more_range : (s d m k : ℕ) → 4 * d - m - k ≡ s → m < 4 → k < 4 → 2 ≤ d → d ≤ 1024 → (1 ≤ s) × (s ≤ 4096)
more_range s d m k e hm hk h most = (omega (arith, e, hm, hk, h), omega (arith, e, most))

is_zero : (f : ℕ) → (f ≡ 0) ⊎ (f ≢ 0)
is_zero zero = inl refl
is_zero (suc f) = inr (λ e. absurd (omega (arith, e)))

by_dw : (dw a f l : ℕ) → dw ≤ 1024 → f < 16 → l < 16 → IsTrue (are_enables dw a f l) → f ≢ 0 → (dw ≡ 1) ⊎ (2 ≤ dw) → (1 ≤ span (enables dw f l)) × (span (enables dw f l) ≤ 4096)
by_dw dw a f l most hf hl ok n (inl e) = one_range (span (enables dw f l)) dw (lead (dw_enables f)) (lead (reverse (dw_enables f))) (span_one dw f l hf n e) e (leads f hf n)
by_dw dw a f l most hf hl ok n (inr h) =
    let more : dw ≢ 1 = λ e. absurd (omega (arith, e, h)) in
    more_range (span (enables dw f l)) dw (lead (dw_enables f)) (lead (reverse (dw_enables l))) (span_more dw a f l hf hl n (omega (arith, h)) more ok) (some_enabled f hf n) (some_enabled_behind l hl (not_one dw a f l more ok).1) h most

one_byte : (s : ℕ) → s ≡ 1 → (1 ≤ s) × (s ≤ 4096)
one_byte s e = (omega (arith, e), omega (arith, e))

by_first : (dw a f l : ℕ) → 1 ≤ dw → dw ≤ 1024 → f < 16 → l < 16 → IsTrue (are_enables dw a f l) → (f ≡ 0) ⊎ (f ≢ 0) → (1 ≤ span (enables dw f l)) × (span (enables dw f l) ≤ 4096)
by_first dw a f l some most hf hl ok (inl e) = one_byte (span (enables dw f l)) (span_none dw a f l ok e)
by_first dw a f l some most hf hl ok (inr n) = by_dw dw a f l most hf hl ok n (one_or_more dw some)

low_by : (b : Bool) (x y : ℕ) → (if b then x % 128 else y % 128) < 128
low_by true x y = omega arith
low_by false x y = omega arith

-- 1 to 4096, and 7 bits
abbrev HasCounts : Kind → Body → ℕ → Type 0
HasCounts k body dw = (1 ≤ byte_count k body dw) × (byte_count k body dw ≤ 4096) × (lower_address k body dw < 128)

four : (dw given : ℕ) → ((dw ≡ 1) ⊎ (dw ≡ 2)) → (1 ≤ 4 * dw) × (4 * dw ≤ 4096)
four dw given (inl e) = (omega (arith, e), omega (arith, e))
four dw given (inr e) = (omega (arith, e), omega (arith, e))

two : (dw : ℕ) → ((dw ≡ 2) ⊎ (dw ≡ 4) ⊎ (dw ≡ 8)) → (1 ≤ 2 * dw) × (2 * dw ≤ 4096)
two dw (inl e) = (omega (arith, e), omega (arith, e))
two dw (inr (inl e)) = (omega (arith, e), omega (arith, e))
two dw (inr (inr e)) = (omega (arith, e), omega (arith, e))

counts : (k : Kind) (body : Body) (dw given : ℕ) (b : List ℕ) (op : Op) → FitsKind k body dw given → op_at k body dw b ≡ Some op → HasCounts k body dw
counts kinds.MemoryRead (bodies.Request a f l) dw given b op h e =
    let s = by_first dw a f l h.0.0 h.1 h.0.2 h.0.3 h.0.4 (is_zero f) in
    (s.0, s.1, low_by (is_empty (enables dw f l)) a (a + lead (enables dw f l)))
counts kinds.MemoryWrite (bodies.Request a f l) dw given b op h e = (omega (arith, h.0.0), omega (arith, h.1), omega arith)
counts kinds.FetchAdd (bodies.Request a f l) dw given b op h e = let s = four dw given h.0.0 in (s.0, s.1, omega arith)
counts kinds.Swap (bodies.Request a f l) dw given b op h e = let s = four dw given h.0.0 in (s.0, s.1, omega arith)
counts kinds.Cas (bodies.Request a f l) dw given b op h e = let s = two dw h.0.0 in (s.0, s.1, omega arith)
counts kinds.Completion (bodies.Request a f l) dw given b op h e = absurd h
counts kinds.CompletionData (bodies.Request a f l) dw given b op h e = absurd h
counts kinds.Completion (bodies.Completion c s n lower) dw given b op h e = absurd cc
counts kinds.CompletionData (bodies.Completion c s n lower) dw given b op h e = absurd cc
counts kinds.MemoryRead (bodies.Completion c s n lower) dw given b op h e = absurd h
counts kinds.MemoryWrite (bodies.Completion c s n lower) dw given b op h e = absurd h
counts kinds.FetchAdd (bodies.Completion c s n lower) dw given b op h e = absurd h
counts kinds.Swap (bodies.Completion c s n lower) dw given b op h e = absurd h
counts kinds.Cas (bodies.Completion c s n lower) dw given b op h e = absurd h

-- ---- replies

-- what data a completion can carry: whole DWs, 128 bytes at most
abbrev IsPayload : List ℕ → Type 0
IsPayload bytes = (4 ≤ length bytes) × (length bytes ≤ 128) × (4 * (length bytes / 4) ≡ length bytes)

data Shape (r : Reply) : Type 0 where
  done : r ≡ replies.Done → Shape r
  unsupported : r ≡ replies.Unsupported → Shape r
  aborted : r ≡ replies.Aborted → Shape r
  carries : (bytes : List ℕ) → r ≡ data_of bytes → IsPayload bytes → Shape r

-- a served operation has no fault, and lies in one block
record IsServed (op : Op) (block : ℕ) : Type 0 where
  pub sound : op_fault op ≡ None
  pub one_block : is_in_block block (address_of op) (count_of op) ≡ true

tests : (f : Option TlpFault) (b c : Bool) → ◌≡◌ {A = Option Refusal} (if is_some f || not b then Some refusals.Aborted else (if c then None else Some refusals.Unsupported)) None → (f ≡ None) × (b ≡ true)
tests None true c e = (refl, refl)
tests None false c e = cc
tests (Some f) b c e = cc

served : (base size block : ℕ) (op : Op) → refusal base size block op ≡ None → IsServed op block
served base size block op e =
    let t = tests (op_fault op) (is_in_block block (address_of op) (count_of op)) (is_inside base size (address_of op) (count_of op)) e in
    record { sound = t.0; one_block = t.1 }

in_64 : (a n : ℕ) → 1 ≤ n → a / 64 == (a + n - 1) / 64 ≡ true → n ≤ 128
in_64 a n h e = grind (arith, nat_tests)

in_128 : (a n : ℕ) → 1 ≤ n → a / 128 == (a + n - 1) / 128 ≡ true → n ≤ 128
in_128 a n h e = grind (arith, nat_tests)

in_block : (block a n : ℕ) → IsBlock block → 1 ≤ n → is_in_block block a n ≡ true → n ≤ 128
in_block block a n (inl b) h e = in_64 a n h (subst (λ b. is_in_block b a n ≡ true) b e)
in_block block a n (inr b) h e = in_128 a n h (subst (λ b. is_in_block b a n ≡ true) b e)

some_size : (w : Width) → 4 ≤ size_of w
some_size widths.Four = omega arith
some_size widths.Eight = omega arith
some_size widths.Sixteen = omega arith

some_bytes : (op : Op) → op_fault op ≡ None → is_posted op ≡ false → 4 ≤ count_of op
some_bytes (ops.Read a dw f l) sound p = let h = some_dw dw _ sound in omega (arith, h)
some_bytes (ops.Write a f l bytes) sound p = absurd cc
some_bytes (ops.FetchAdd a w x) sound p = some_size w
some_bytes (ops.Swap a w x) sound p = some_size w
some_bytes (ops.Cas a w x y) sound p = some_size w

shaped : (r : Reply) (op : Op) (block : ℕ) → IsBlock block → IsServed op block → is_posted op ≡ false → IsData r (count_of op) → Shape r
shaped r op block limits s p d =
    let least = some_bytes op s.sound p in
    let most : count_of op ≤ 128 = in_block block (address_of op) (count_of op) limits (omega (arith, least)) s.one_block in
    carries d.bytes d.is (rw d.size (least, most, quarters op p))

posted_shape : (op : Op) (old : List ℕ) → is_posted op ≡ true → Shape (read_back op old)
posted_shape (ops.Write a f l bytes) old p = done refl
posted_shape (ops.Read a dw f l) old p = absurd cc
posted_shape (ops.FetchAdd a w x) old p = absurd cc
posted_shape (ops.Swap a w x) old p = absurd cc
posted_shape (ops.Cas a w x y) old p = absurd cc

served_shape : (base block : ℕ) (m : List ℕ) (op : Op) (b : Bool) → IsBlock block → is_posted op ≡ b → refusal base (length m) block op ≡ None → Shape (answer base block m op)
served_shape base block m op true limits p e =
    subst Shape (sym (ap (λ r. answer_by r (read_back op (bytes_at m (address_of op - base) (count_of op)))) e)) (posted_shape op (bytes_at m (address_of op - base) (count_of op)) p)
served_shape base block m op false limits p e =
    let s = served base (length m) block op e in
    shaped (answer base block m op) op block limits s p (served_bytes base block m op s.sound p e)

shape_by : (base block : ℕ) (m : List ℕ) (op : Op) (o : Option Refusal) → IsBlock block → refusal base (length m) block op ≡ o → Shape (answer base block m op)
shape_by base block m op None limits e = served_shape base block m op (is_posted op) limits refl e
shape_by base block m op (Some refusals.Aborted) limits e = aborted (ap (λ r. answer_by r (read_back op (bytes_at m (address_of op - base) (count_of op)))) e)
shape_by base block m op (Some refusals.Unsupported) limits e = unsupported (ap (λ r. answer_by r (read_back op (bytes_at m (address_of op - base) (count_of op)))) e)

-- ---- the completion

record IsOf (t c : TlpView) : Type 0 where
  pub grammar : IsPacket c
  pub requester : c.requester ≡ t.requester
  pub body : IsBodyInRange c.body

unless_none : (k : Kind) (c : TlpView) → unless_posted k None ≡ Some c → ⊥
unless_none kinds.MemoryRead c e = cc
unless_none kinds.MemoryWrite c e = cc
unless_none kinds.FetchAdd c e = cc
unless_none kinds.Swap c e = cc
unless_none kinds.Cas c e = cc
unless_none kinds.Completion c e = cc
unless_none kinds.CompletionData c e = cc

unless_some : (k : Kind) (x c : TlpView) → unless_posted k (Some x) ≡ Some c → x ≡ c
unless_some kinds.MemoryRead x c e = cc
unless_some kinds.MemoryWrite x c e = cc
unless_some kinds.FetchAdd x c e = cc
unless_some kinds.Swap x c e = cc
unless_some kinds.Cas x c e = cc
unless_some kinds.Completion x c e = cc
unless_some kinds.CompletionData x c e = cc

without_data : (t : TlpView) (s : Status) → IsPacket t → HasCounts t.kind t.body t.length → IsOf t (completion t kinds.Completion s [])
without_data t s g n = record { grammar = record { tc = g.tc; attr = g.attr; fits = (n.0, n.1, n.2, refl, refl) }; requester = refl; body = omega arith }

quarter_range : (n : ℕ) → 4 ≤ n → n ≤ 128 → (1 ≤ n / 4) × (n / 4 ≤ 32)
quarter_range n h most = (omega (arith, h), omega (arith, most))

with_data : (t : TlpView) (bytes : List ℕ) → IsPacket t → HasCounts t.kind t.body t.length → IsPayload bytes → IsOf t (completion t kinds.CompletionData statuses.Success bytes)
with_data t bytes g n p =
    let q = quarter_range (length bytes) p.0 p.1 in
    record { grammar = record { tc = g.tc; attr = g.attr; fits = (n.0, n.1, n.2, q.0, q.1, sym p.2) }; requester = refl; body = omega arith }

of_reply : (t c : TlpView) (r : Reply) → IsPacket t → HasCounts t.kind t.body t.length → Shape r → completion_of t r ≡ Some c → IsOf t c
of_reply t c r g n (done e) h = absurd (unless_none t.kind c (subst (λ r. completion_of t r ≡ Some c) e h))
of_reply t c r g n (unsupported e) h = subst (IsOf t) (unless_some t.kind (completion t kinds.Completion statuses.Unsupported []) c (subst (λ r. completion_of t r ≡ Some c) e h)) (without_data t statuses.Unsupported g n)
of_reply t c r g n (aborted e) h = subst (IsOf t) (unless_some t.kind (completion t kinds.Completion statuses.Aborted []) c (subst (λ r. completion_of t r ≡ Some c) e h)) (without_data t statuses.Aborted g n)
of_reply t c r g n (carries bytes e p) h = subst (IsOf t) (unless_some t.kind (completion t kinds.CompletionData statuses.Success bytes) c (subst (λ r. completion_of t r ≡ Some c) e h)) (with_data t bytes g n p)

asked_by : (o : Option Op) (base block : ℕ) (m : List ℕ) (t c : TlpView) → op_of t ≡ o → IsBlock block → IsPacket t → option_and_then (λ op. completion_of t (answer base block m op)) o ≡ Some c → IsOf t c
asked_by None base block m t c o limits g e = cc
asked_by (Some op) base block m t c o limits g e =
    of_reply t c (answer base block m op) g (counts t.kind t.body t.length (length t.payload) t.payload op g.fits o) (shape_by base block m op (refusal base (length m) block op) limits refl) e

-- the laws of packets on which this rests
abbrev pub CanSpell : Type 0
CanSpell = (t : TlpView) → t.requester < 2 ^ 16 → IsBodyInRange t.body → IsPacket t → Spells (canonical t) t

abbrev pub HasRange : Type 0
HasRange = (t : TlpView) → Spells (canonical t) t → t.requester < 2 ^ 16

pub completion_spelled : CanSpell → HasRange → (m : MemoryView) (t c : TlpView) → IsBlock m.block → Spells (canonical t) t → completion_to m t ≡ Some c → Spells (canonical c) c
completion_spelled spell range m t c limits s e =
    let is = asked_by (op_of t) m.base m.block (bytes_of m) t c refl limits s.grammar e in
    spell c (subst (λ n. n < 2 ^ 16) (sym is.requester) (range t s)) is.body is.grammar
