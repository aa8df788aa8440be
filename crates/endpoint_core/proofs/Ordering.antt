-- Calls in turn: posted requests act when they come, and the others are completed in the order in which they came.
use Rattle.std.proofs.Common.{◌≡◌, ◌∙◌, ℕ, Bool, true, false, List, [], ◌∷◌, ◌++◌, append_assoc, Option, Some, None, cond, refl, ap, sym, subst}
use Rattle.std.specs.Prelude.{map, not, ◌==◌, option_map}
use Rattle.std.proofs.lemmas.List.{append-nil, map-append}
use Rattle.std.proofs.lemmas.List.Sums.{fold-append}
use Rattle.tlp_core.specs.Ops.{Op}
use Rattle.tlp_core.specs.declared.packet.Kind.{Kind}
use Rattle.tlp_core.specs.declared.packet.Kind.TheVariants as kinds
use Rattle.tlp_core.specs.TlpView.{TlpView}
use Rattle.tlp_core.specs.Operation.{op_of}
use Rattle.seq_memory.specs.Entries.{Reply}
use Rattle.seq_memory.specs.declared.reply.ReplyOf.TheVariants as replies
use Rattle.seq_memory.specs.Step.{answer}
use Rattle.completer_core.specs.Completion.{completion_for, unless_posted}
use Rattle.config_core.specs.SetupView.{SetupView}
use Rattle.endpoint_core.specs.DescriptorView.{DescriptorView}
use Rattle.endpoint_core.specs.declared.received.Received.{Received}
use Rattle.endpoint_core.specs.declared.received.Received.TheVariants as received
use Rattle.endpoint_core.specs.Classes.{becomes, descriptor_of, descriptor_for}
use Rattle.endpoint_core.specs.declared.waiting.Waiting.{Waiting}
use Rattle.endpoint_core.specs.declared.waiting.Waiting.TheVariants as waits
use Rattle.endpoint_core.specs.EndpointView.{DeviceView, EndpointView}
use Rattle.endpoint_core.specs.Steps.{from, base_of_op, first_block, head_behind, done_by, acted_on, taken_as, is_supported, completion_at, memory_completion, completion_by, next_by, next_completion, new_endpoint}
use Rattle.endpoint_core.specs.Runs.{Call, Take, Act, Reset, after_call, after_calls, all_of, blocks_in, blocks_by, blocks_waiting, Effect, effects_posted, effects_as, effects, all_effects, descriptor_in, descriptors_waiting, asked_as, asked_by, finished_by, finished, all_asked, all_finished}
use Rattle.std.proofs.lemmas.Grind.{flat_map-append}

-- ---- one list of calls behind another

in_turn : {A : Type 0} (f : EndpointView → Call → List A) (e : EndpointView) (cs ds : List Call) → all_of f e (cs ++ ds) ≡ all_of f e cs ++ all_of f (after_calls e cs) ds
unfolding all_of
in_turn {A = A} f e [] ds = refl
in_turn {A = A} f e (c ∷ cs) ds =
    ap (λ (xs : List A). f e c ++ xs) (in_turn f (after_call e c) cs ds)
    ∙ sym (append_assoc (f e c) (all_of f (after_call e c) cs) (all_of f (after_calls (after_call e c) cs) ds))

one_more : (e : EndpointView) (cs : List Call) (c : Call) → after_call (after_calls e cs) c ≡ after_calls e (cs ++ c ∷ [])
one_more e cs c = sym (fold-append after_call e cs (c ∷ []))

with_one : (e : EndpointView) (cs ds : List Call) (c : Call) (xs : List Effect) → effects (after_calls e cs) c ≡ xs →
    all_effects e (cs ++ c ∷ ds) ≡ all_effects e cs ++ (xs ++ all_effects (after_calls e (cs ++ c ∷ [])) ds)
unfolding all_of
with_one e cs ds c xs is =
    in_turn effects e cs (c ∷ ds)
    ∙ ap (λ (x : EndpointView). all_effects e cs ++ (effects (after_calls e cs) c ++ all_effects x ds)) (one_more e cs c)
    ∙ ap (λ (ys : List Effect). all_effects e cs ++ (ys ++ all_effects (after_calls e (cs ++ c ∷ [])) ds)) is

pub posted_acts : (e : EndpointView) (cs ds : List Call) (b : List ℕ) (t : TlpView) → becomes b ≡ received.Posted t →
    all_effects e (cs ++ Take b ∷ ds) ≡ all_effects e cs ++ (effects_posted (after_calls e cs).device (op_of t) ++ all_effects (after_calls e (cs ++ Take b ∷ [])) ds)
posted_acts e cs ds b t is = with_one e cs ds (Take b) (effects_posted (after_calls e cs).device (op_of t)) (ap (λ (r : Received). effects_as (after_calls e cs).device r) is)

pub posted_leaves : (e : EndpointView) (cs : List Call) (b : List ℕ) (t : TlpView) → becomes b ≡ received.Posted t → (after_calls e (cs ++ Take b ∷ [])).waiting ≡ (after_calls e cs).waiting
posted_leaves e cs b t is = ap (λ (x : EndpointView). x.waiting) (sym (one_more e cs (Take b))) ∙ ap (λ (r : Received). (taken_as (after_calls e cs) r).waiting) is

pub others_wait : (e : EndpointView) (cs ds : List Call) (b : List ℕ) (t : TlpView) → becomes b ≡ received.NonPosted t →
    all_effects e (cs ++ Take b ∷ ds) ≡ all_effects e cs ++ all_effects (after_calls e (cs ++ Take b ∷ [])) ds
others_wait e cs ds b t is = with_one e cs ds (Take b) [] (ap (λ (r : Received). effects_as (after_calls e cs).device r) is)

pub others_queue : (e : EndpointView) (cs : List Call) (b : List ℕ) (t : TlpView) → becomes b ≡ received.NonPosted t →
    blocks_waiting (after_calls e (cs ++ Take b ∷ [])) ≡ blocks_waiting (after_calls e cs) ++ blocks_in (op_of t)
others_queue e cs b t is =
    ap (λ (x : EndpointView). blocks_waiting x) (sym (one_more e cs (Take b)))
    ∙ ap (λ (r : Received). blocks_waiting (taken_as (after_calls e cs) r)) is
    ∙ flat_map-append blocks_by (after_calls e cs).waiting (waits.Memory t ∷ [])
    ∙ ap (λ (xs : List Op). blocks_waiting (after_calls e cs) ++ xs) (append-nil (blocks_in (op_of t)))

-- ---- requests are completed in the order in which they came

queued : (ws : List Waiting) (w : Waiting) → map descriptor_in ws ++ descriptor_in w ∷ [] ≡ map descriptor_in (ws ++ w ∷ [])
queued ws w = sym (map-append descriptor_in ws (w ∷ []))

taken : (e : EndpointView) (r : Received) → descriptors_waiting e ++ asked_as r ≡ descriptors_waiting (taken_as e r)
taken e (received.Posted t) = append-nil (descriptors_waiting e)
taken e (received.NonPosted t) = queued e.waiting (waits.Memory t)
taken e (received.Configuration r) = queued e.waiting (waits.Configuration r)
taken e (received.PoisonedPosted t) = append-nil (descriptors_waiting e)
taken e (received.PoisonedNonPosted t) = queued e.waiting (waits.Poisoned t)
taken e (received.Refused d n) = queued e.waiting (waits.Refused d n)
taken e (received.Unsupported n) = append-nil (descriptors_waiting e)
taken e received.Ignored = append-nil (descriptors_waiting e)
taken e received.Unexpected = append-nil (descriptors_waiting e)
taken e (received.Malformed f) = append-nil (descriptors_waiting e)

goes : (z : Bool) (n : ℕ) (w : Waiting) (ws : List Waiting) → (descriptor_in w ∷ map descriptor_in ws) ++ [] ≡ cond z (descriptor_in w ∷ []) [] ++ map descriptor_in (cond z ws (head_behind n (w ∷ ws)))
goes true n w ws = append-nil (descriptor_in w ∷ map descriptor_in ws)
goes false n (waits.Memory t) ws = append-nil (descriptor_of t ∷ map descriptor_in ws)
goes false n (waits.Configuration r) ws = append-nil (descriptor_for r ∷ map descriptor_in ws)
goes false n (waits.Poisoned t) ws = append-nil (descriptor_of t ∷ map descriptor_in ws)
goes false n (waits.Refused d m) ws = append-nil (d ∷ map descriptor_in ws)

went : (e : EndpointView) (ws : List Waiting) → e.waiting ≡ ws → map descriptor_in ws ++ [] ≡ finished_by e.device ws ++ descriptors_waiting (acted_on e ws)
went e [] is = ap (λ (xs : List Waiting). map descriptor_in xs) (sym is)
went e (w ∷ ws) is = goes (done_by e.device w == 0) (done_by e.device w) w ws

one_call : (e : EndpointView) (c : Call) → descriptors_waiting e ++ asked_by c ≡ finished e c ++ descriptors_waiting (after_call e c)
one_call e (Take b) = taken e (becomes b)
one_call e Act = went e e.waiting refl
one_call e Reset = refl

all_calls : (e : EndpointView) (cs : List Call) → descriptors_waiting e ++ all_asked cs ≡ all_finished e cs ++ descriptors_waiting (after_calls e cs)
unfolding all_of
all_calls e [] = append-nil (descriptors_waiting e)
all_calls e (c ∷ cs) =
    sym (append_assoc (descriptors_waiting e) (asked_by c) (all_asked cs))
    ∙ ap (λ (xs : List DescriptorView). xs ++ all_asked cs) (one_call e c)
    ∙ append_assoc (finished e c) (descriptors_waiting (after_call e c)) (all_asked cs)
    ∙ ap (λ (xs : List DescriptorView). finished e c ++ xs) (all_calls (after_call e c) cs)
    ∙ sym (append_assoc (finished e c) (all_finished (after_call e c) cs) (descriptors_waiting (after_calls (after_call e c) cs)))

pub asked_in_order : (s : SetupView) (cs : List Call) → all_asked cs ≡ all_finished (new_endpoint s) cs ++ descriptors_waiting (after_calls (new_endpoint s) cs)
asked_in_order s cs = all_calls (new_endpoint s) cs

-- ---- each completion is of the oldest request

abbrev pub Carries : DescriptorView → Option TlpView → Type 0
Carries d None = Unit {0}
Carries d (Some c) = descriptor_of c ≡ d

for_reply : (id : ℕ) (t : TlpView) (r : Reply) → Carries (descriptor_of t) (option_map (from id) (completion_for t r))
for_reply id t replies.Done = tt
for_reply id t (replies.Data bytes) = refl
for_reply id t replies.Unsupported = refl
for_reply id t replies.Aborted = refl

of_kind : (id : ℕ) (t : TlpView) (r : Reply) (k : Kind) → Carries (descriptor_of t) (option_map (from id) (unless_posted k (completion_for t r)))
of_kind id t r kinds.MemoryWrite = tt
of_kind id t r kinds.MemoryRead = for_reply id t r
of_kind id t r kinds.FetchAdd = for_reply id t r
of_kind id t r kinds.Swap = for_reply id t r
of_kind id t r kinds.Cas = for_reply id t r
of_kind id t r kinds.Completion = for_reply id t r
of_kind id t r kinds.CompletionData = for_reply id t r

at_base : (d : DeviceView) (t : TlpView) (op : Op) (base : Option ℕ) → Carries (descriptor_of t) (completion_at d t op base)
at_base d t op (Some base) = of_kind d.completer t (answer base 128 d.bytes (first_block op)) t.kind
at_base d t op None = refl

of_memory : (d : DeviceView) (t : TlpView) (o : Option Op) → Carries (descriptor_of t) (memory_completion d t o)
of_memory d t (Some op) = at_base d t op (base_of_op d op)
of_memory d t None = tt

either : (b : Bool) (d : DescriptorView) (x y : TlpView) → descriptor_of x ≡ d → descriptor_of y ≡ d → descriptor_of (cond b x y) ≡ d
either true d x y p q = p
either false d x y p q = q

carries : (d : DeviceView) (w : Waiting) → Carries (descriptor_in w) (completion_by d w)
carries d (waits.Memory t) = of_memory d t (op_of t)
carries d (waits.Configuration r) = either (not (is_supported r)) (descriptor_for r) _ _ refl (either r.writes (descriptor_for r) _ _ refl refl)
carries d (waits.Poisoned t) = refl
carries d (waits.Refused c n) = refl

pub of_the_oldest : (e : EndpointView) (w : Waiting) (ws : List Waiting) (c : TlpView) → e.waiting ≡ w ∷ ws → next_completion e ≡ Some c → descriptor_of c ≡ descriptor_in w
of_the_oldest e w ws c is next =
    subst (λ (o : Option TlpView). Carries (descriptor_in w) o) next (subst (λ (xs : List Waiting). Carries (descriptor_in w) (next_by e.device xs)) (sym is) (carries e.device w))
