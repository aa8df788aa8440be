-- The queue of non-posted requests: what comes leaves, block by block, in order.
use Rattle.std.proofs.Common.{◌≡◌, ◌∙◌, ℕ, zero, suc, ◌+◌, ◌-◌, ◌*◌, ◌%◌, ◌≤◌, Bool, true, false, List, [], ◌∷◌, ◌++◌, append_assoc, Option, Some, None, cond, refl, ap, sym, subst, arith}
use Rattle.std.specs.Prelude.{nat_le, if◌then◌else◌, ◌==◌, flat_map}
use Rattle.std.proofs.lemmas.Bool.Decides.{nat_tests}
use Rattle.std.proofs.lemmas.Grind.{flat_map-append}
use Rattle.std.proofs.lemmas.List.{append-nil}
use Rattle.tlp_core.specs.Ops.{Op}
use Rattle.tlp_core.specs.declared.operation.OpOf.TheVariants as ops
use Rattle.tlp_core.specs.declared.packet.Kind.{Kind}
use Rattle.tlp_core.specs.declared.packet.Kind.TheVariants as kinds
use Rattle.tlp_core.specs.declared.packet.Body.{Body}
use Rattle.tlp_core.specs.declared.packet.Body.TheVariants as bodies
use Rattle.tlp_core.specs.TlpView.{TlpView}
use Rattle.tlp_core.specs.Operation.{op_at, op_of}
use Rattle.op_pieces.specs.Pieces.{dw_to, front, back, cut, rest_first, rest_last}
use Rattle.config_core.specs.SetupView.{SetupView}
use Rattle.endpoint_core.specs.declared.received.Received.{Received}
use Rattle.endpoint_core.specs.declared.received.Received.TheVariants as received
use Rattle.endpoint_core.specs.Classes.{becomes}
use Rattle.endpoint_core.specs.declared.waiting.Waiting.{Waiting}
use Rattle.endpoint_core.specs.declared.waiting.Waiting.TheVariants as waits
use Rattle.endpoint_core.specs.EndpointView.{DeviceView, EndpointView}
use Rattle.endpoint_core.specs.Steps.{base_of_op, blocks_of, dw_before_end, dw_in_front, first_block, body_behind, behind, done_at, memory_done, advanced, acted_on, taken_as, new_endpoint}
use Rattle.endpoint_core.specs.Runs.{Call, Take, Act, Reset, after_call, after_calls, blocks_in, blocks_by, blocks_waiting, blocks_as, blocks_coming, leaving_at, leaving_op, leaving_by, blocks_leaving, all_of, all_coming, all_leaving}
use Rattle.endpoint_core.proofs.Coming.{IsAsked, Asks, asked_of, becomes_asked}

-- ---- the blocks of a read, one after the other

some_left : (a : ℕ) → a % 4 ≡ 0 → 1 ≤ dw_to 128 a
some_left a h = omega (arith, h)

still_aligned : (a n : ℕ) → a % 4 ≡ 0 → (a + 4 * n) % 4 ≡ 0
still_aligned a n h = omega (arith, h)

-- more turns than there are DW change nothing
turns_by : (b : Bool) (n k dw m : ℕ) (op : Op) (xs ys : List Op) → nat_le dw m ≡ b → (b ≡ false → xs ≡ ys) → cond b (op ∷ []) (front m op ∷ xs) ≡ cond b (op ∷ []) (front m op ∷ ys)
turns_by true n k dw m op xs ys e h = refl
turns_by false n k dw m op xs ys e h = ap (λ (zs : List Op). front m op ∷ zs) (h refl)

turns : (n k a dw f l : ℕ) → a % 4 ≡ 0 → dw ≤ n → dw ≤ k → cut 128 n (ops.Read a dw f l) ≡ cut 128 k (ops.Read a dw f l)
unfolding cut
turns zero zero a dw f l al p q = refl
turns zero (suc k) a dw f l al p q =
    let fits : nat_le dw (dw_to 128 a) ≡ true = grind (arith, nat_tests) in
    rw (fits) refl
turns (suc n) zero a dw f l al p q =
    let fits : nat_le dw (dw_to 128 a) ≡ true = grind (arith, nat_tests) in
    rw (fits) refl
turns (suc n) (suc k) a dw f l al p q =
    let m : ℕ = dw_to 128 a in
    turns_by (nat_le dw m) n k dw m (ops.Read a dw f l) (cut 128 n (back m (ops.Read a dw f l))) (cut 128 k (back m (ops.Read a dw f l))) refl
    (λ no. turns n k (a + 4 * m) (dw - m) (rest_first (dw - m) l) (rest_last (dw - m) l) (still_aligned a m al) (omega (arith, p, some_left a al)) (omega (arith, q, some_left a al)))

-- what is left behind so many DW
abbrev pub left : ℕ → Op → List Op
left n op = if n == 0 then [] else blocks_of (back n op)

read_first_by : (b : Bool) (d a f l m : ℕ) → a % 4 ≡ 0 → 1 ≤ m →
    cond b (ops.Read a (suc d) f l ∷ []) (front m (ops.Read a (suc d) f l) ∷ cut 128 d (back m (ops.Read a (suc d) f l)))
    ≡ (if cond b 0 m == 0 then ops.Read a (suc d) f l else front (cond b 0 m) (ops.Read a (suc d) f l)) ∷ left (cond b 0 m) (ops.Read a (suc d) f l)
read_first_by true d a f l m al one = refl
read_first_by false d a f l zero al one = absurd (omega (arith, one))
read_first_by false d a f l (suc m) al one =
    let no : (suc m == 0) ≡ false = grind (arith, nat_tests) in
    rw (no) (ap (λ (zs : List Op). front (suc m) (ops.Read a (suc d) f l) ∷ zs)
    (turns d (suc d - suc m) (a + 4 * suc m) (suc d - suc m) (rest_first (suc d - suc m) l) (rest_last (suc d - suc m) l) (still_aligned a (suc m) al) (omega arith) (omega arith)))

no_dw : (a : ℕ) → dw_before_end a 0 ≡ 0
no_dw a =
    let fits : nat_le 0 (dw_to 128 a) ≡ true = grind (arith, nat_tests) in
    rw (fits) refl

read_first : (a dw f l : ℕ) → a % 4 ≡ 0 → blocks_of (ops.Read a dw f l) ≡ first_block (ops.Read a dw f l) ∷ left (dw_in_front (ops.Read a dw f l)) (ops.Read a dw f l)
unfolding cut
read_first a zero f l al = rw (no_dw a) refl
read_first a (suc d) f l al = read_first_by (nat_le (suc d) (dw_to 128 a)) d a f l (dw_to 128 a) al (some_left a al)

-- ---- of any non-posted request

-- what is left of a request, as the queue has it
abbrev pub left_at : ℕ → Kind → Body → ℕ → List ℕ → List Op
left_at n k b dw bytes = if n == 0 then [] else blocks_in (op_at k (body_behind n dw b) (dw - n) bytes)

abbrev pub First : Kind → Body → ℕ → List ℕ → Option Op → Type 0
First k b dw bytes None = Unit {0}
First k b dw bytes (Some op) = blocks_of op ≡ first_block op ∷ left_at (dw_in_front op) k b dw bytes

first_of : (k : Kind) (b : Body) (dw : ℕ) (bytes : List ℕ) → IsAsked k b → First k b dw bytes (op_at k b dw bytes)
unfolding cut
first_of kinds.MemoryRead (bodies.Request a f l) dw bytes al = read_first a dw f l al
first_of kinds.MemoryRead (bodies.Completion c s n lower) dw bytes al = absurd al
first_of kinds.MemoryWrite b dw bytes al = absurd al
first_of kinds.FetchAdd (bodies.Request a f l) dw bytes al = refl
first_of kinds.FetchAdd (bodies.Completion c s n lower) dw bytes al = absurd al
first_of kinds.Swap (bodies.Request a f l) dw bytes al = refl
first_of kinds.Swap (bodies.Completion c s n lower) dw bytes al = absurd al
first_of kinds.Cas (bodies.Request a f l) dw bytes al = refl
first_of kinds.Cas (bodies.Completion c s n lower) dw bytes al = absurd al
first_of kinds.Completion b dw bytes al = absurd al
first_of kinds.CompletionData b dw bytes al = absurd al

still_asked : (n dw : ℕ) (k : Kind) (b : Body) → IsAsked k b → IsAsked k (body_behind n dw b)
still_asked n dw kinds.MemoryRead (bodies.Request a f l) al = still_aligned a n al
still_asked n dw kinds.MemoryRead (bodies.Completion c s m lower) al = absurd al
still_asked n dw kinds.MemoryWrite b al = absurd al
still_asked n dw kinds.FetchAdd (bodies.Request a f l) al = al
still_asked n dw kinds.FetchAdd (bodies.Completion c s m lower) al = absurd al
still_asked n dw kinds.Swap (bodies.Request a f l) al = al
still_asked n dw kinds.Swap (bodies.Completion c s m lower) al = absurd al
still_asked n dw kinds.Cas (bodies.Request a f l) al = al
still_asked n dw kinds.Cas (bodies.Completion c s m lower) al = absurd al
still_asked n dw kinds.Completion b al = absurd al
still_asked n dw kinds.CompletionData b al = absurd al

-- ---- one call

abbrev pub AsksOne : Waiting → Type 0
AsksOne (waits.Memory t) = IsAsked t.kind t.body
AsksOne (waits.Configuration r) = Unit {0}
AsksOne (waits.Poisoned t) = Unit {0}
AsksOne (waits.Refused d n) = Unit {0}

abbrev pub AreAsked : List Waiting → Type 0
AreAsked [] = Unit {0}
AreAsked (w ∷ ws) = AsksOne w × AreAsked ws

one_more : (ws : List Waiting) (w : Waiting) → AreAsked ws → AsksOne w → AreAsked (ws ++ w ∷ [])
one_more [] w all one = (one, tt)
one_more (v ∷ ws) w all one = (all.0, one_more ws w all.1 one)

-- what leaves the queue, and what is left in it
pub record IsStep (before leaving coming : List Op) (after : List Waiting) : Type 0 where
  pub blocks : before ++ coming ≡ leaving ++ flat_map blocks_by after
  pub asked : AreAsked after

queued : (ws : List Waiting) (w : Waiting) → AreAsked ws → AsksOne w → IsStep (flat_map blocks_by ws) [] (blocks_by w) (ws ++ w ∷ [])
queued ws w all one = record { blocks = ap (λ (xs : List Op). flat_map blocks_by ws ++ xs) (sym (append-nil (blocks_by w))) ∙ sym (flat_map-append blocks_by ws (w ∷ [])); asked = one_more ws w all one }

stays : (ws : List Waiting) → AreAsked ws → IsStep (flat_map blocks_by ws) [] [] ws
stays ws all = record { blocks = append-nil (flat_map blocks_by ws); asked = all }

took : (e : EndpointView) (r : Received) → AreAsked e.waiting → Asks r → IsStep (blocks_waiting e) [] (blocks_as r) (taken_as e r).waiting
took e (received.Posted t) all a = stays e.waiting all
took e (received.NonPosted t) all a = queued e.waiting (waits.Memory t) all (asked_of t a)
took e (received.Configuration r) all a = queued e.waiting (waits.Configuration r) all tt
took e (received.PoisonedPosted t) all a = stays e.waiting all
took e (received.PoisonedNonPosted t) all a = queued e.waiting (waits.Poisoned t) all tt
took e (received.Refused d n) all a = queued e.waiting (waits.Refused d n) all tt
took e (received.Unsupported n) all a = stays e.waiting all
took e received.Ignored all a = stays e.waiting all
took e received.Unexpected all a = stays e.waiting all
took e (received.Malformed f) all a = stays e.waiting all

goes : (w : Waiting) (ws : List Waiting) → AreAsked ws → IsStep (flat_map blocks_by (w ∷ ws)) (blocks_by w) [] ws
goes w ws all = record { blocks = append-nil (blocks_by w ++ flat_map blocks_by ws); asked = all }

-- so many DW of a claimed request are done
went_on : (z : Bool) (n : ℕ) (t : TlpView) (ws : List Waiting) (op : Op) → IsAsked t.kind t.body → AreAsked ws → op_of t ≡ Some op →
    blocks_of op ≡ first_block op ∷ cond z [] (blocks_in (op_of (behind n t))) →
    IsStep (flat_map blocks_by (waits.Memory t ∷ ws)) (first_block op ∷ []) [] (cond z ws (waits.Memory (behind n t) ∷ ws))
went_on true n t ws op one all is e = record { blocks = append-nil (blocks_in (op_of t) ++ flat_map blocks_by ws) ∙ ap (λ (o : Option Op). blocks_in o ++ flat_map blocks_by ws) is ∙ ap (λ (xs : List Op). xs ++ flat_map blocks_by ws) e; asked = all }
went_on false n t ws op one all is e = record { blocks = append-nil (blocks_in (op_of t) ++ flat_map blocks_by ws) ∙ ap (λ (o : Option Op). blocks_in o ++ flat_map blocks_by ws) is ∙ ap (λ (xs : List Op). xs ++ flat_map blocks_by ws) e; asked = (still_asked n t.length t.kind t.body one, all) }

claimed_or_not : (base : Option ℕ) (t : TlpView) (ws : List Waiting) (op : Op) → IsAsked t.kind t.body → AreAsked ws → op_of t ≡ Some op → blocks_of op ≡ first_block op ∷ left_at (dw_in_front op) t.kind t.body t.length t.payload →
    IsStep (flat_map blocks_by (waits.Memory t ∷ ws)) (leaving_at op base) [] (advanced (done_at op base) (waits.Memory t ∷ ws))
claimed_or_not (Some base) t ws op one all is e = went_on (dw_in_front op == 0) (dw_in_front op) t ws op one all is e
claimed_or_not None t ws op one all is e = record { blocks = append-nil (blocks_in (op_of t) ++ flat_map blocks_by ws) ∙ ap (λ (o : Option Op). blocks_in o ++ flat_map blocks_by ws) is; asked = all }

memory_goes : (d : DeviceView) (o : Option Op) (t : TlpView) (ws : List Waiting) → IsAsked t.kind t.body → AreAsked ws → op_of t ≡ o → First t.kind t.body t.length t.payload o →
    IsStep (flat_map blocks_by (waits.Memory t ∷ ws)) (leaving_op d o) [] (advanced (memory_done d o) (waits.Memory t ∷ ws))
memory_goes d (Some op) t ws one all is first = claimed_or_not (base_of_op d op) t ws op one all is first
memory_goes d None t ws one all is first = record { blocks = append-nil (blocks_in (op_of t) ++ flat_map blocks_by ws) ∙ ap (λ (o : Option Op). blocks_in o ++ flat_map blocks_by ws) is; asked = all }

went : (e : EndpointView) (ws : List Waiting) → e.waiting ≡ ws → AreAsked ws → IsStep (flat_map blocks_by ws) (leaving_by e.device ws) [] (acted_on e ws).waiting
went e [] is all = record { blocks = ap (λ (xs : List Waiting). flat_map blocks_by xs) (sym is); asked = subst AreAsked (sym is) tt }
went e (waits.Memory t ∷ ws) is all = memory_goes e.device (op_of t) t ws all.0 all.1 refl (first_of t.kind t.body t.length t.payload all.0)
went e (waits.Configuration r ∷ ws) is all = goes (waits.Configuration r) ws all.1
went e (waits.Poisoned t ∷ ws) is all = goes (waits.Poisoned t) ws all.1
went e (waits.Refused d n ∷ ws) is all = goes (waits.Refused d n) ws all.1

one_call : (e : EndpointView) (c : Call) → AreAsked e.waiting → IsStep (blocks_waiting e) (blocks_leaving e c) (blocks_coming c) (after_call e c).waiting
one_call e (Take b) all = took e (becomes b) all (becomes_asked b)
one_call e Act all = went e e.waiting refl all
one_call e Reset all = record { blocks = refl; asked = tt }

-- ---- all calls

all_calls : (e : EndpointView) (cs : List Call) → AreAsked e.waiting → blocks_waiting e ++ all_coming cs ≡ all_leaving e cs ++ blocks_waiting (after_calls e cs)
unfolding all_of
all_calls e [] all = append-nil (blocks_waiting e)
all_calls e (c ∷ cs) all =
    let s = one_call e c all in
    sym (append_assoc (blocks_waiting e) (blocks_coming c) (all_coming cs))
    ∙ ap (λ (xs : List Op). xs ++ all_coming cs) s.blocks
    ∙ append_assoc (blocks_leaving e c) (blocks_waiting (after_call e c)) (all_coming cs)
    ∙ ap (λ (xs : List Op). blocks_leaving e c ++ xs) (all_calls (after_call e c) cs s.asked)
    ∙ sym (append_assoc (blocks_leaving e c) (all_leaving (after_call e c) cs) (blocks_waiting (after_calls (after_call e c) cs)))

pub what_comes_goes : (s : SetupView) (cs : List Call) → all_coming cs ≡ all_leaving (new_endpoint s) cs ++ blocks_waiting (after_calls (new_endpoint s) cs)
what_comes_goes s cs = all_calls (new_endpoint s) cs tt

abbrev waits_in : DeviceView → List Waiting → EndpointView
waits_in d ws = record { device = d; waiting = ws }

pub from_nothing : (e : EndpointView) (cs : List Call) → e.waiting ≡ [] → all_coming cs ≡ all_leaving e cs ++ blocks_waiting (after_calls e cs)
from_nothing e cs none =
    subst (λ (x : EndpointView). all_coming cs ≡ all_leaving x cs ++ blocks_waiting (after_calls x cs)) (ap (λ (ws : List Waiting). waits_in e.device ws) (sym none)) (all_calls (waits_in e.device []) cs tt)

asked_after : (e : EndpointView) (cs : List Call) → AreAsked e.waiting → AreAsked (after_calls e cs).waiting
asked_after e [] all = all
asked_after e (c ∷ cs) all = asked_after (after_call e c) cs (one_call e c all).asked

pub new_asked : (s : SetupView) (cs : List Call) → AreAsked (after_calls (new_endpoint s) cs).waiting
new_asked s cs = asked_after (new_endpoint s) cs tt
