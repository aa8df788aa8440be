-- Each event keeps the Requester IDs and the forms of the completions, and what is collected is finished.
use Rattle.std.proofs.Common.{◌≡◌, ℕ, zero, suc, ◌*◌, ◌/◌, Bool, true, List, [], ◌∷◌, ◌++◌, length, map, get_or, refl, sym, ap, ◌∙◌, subst, arith, Option, Some, None, eq-eqb}
use Rattle.std.specs.Prelude.{is_some, replicate, slice_get, slice_set, remove, if◌then◌else◌, option_and_then, option_map, Result, Ok, Err}
use Rattle.std.proofs.lemmas.List.{length-set}
use Rattle.tlp_core.specs.Ops.{Op}
use Rattle.tlp_core.specs.declared.packet.Kind.{Kind}
use Rattle.tlp_core.specs.declared.packet.Kind.TheVariants as kinds
use Rattle.tlp_core.specs.declared.packet.Body.{Body}
use Rattle.tlp_core.specs.declared.packet.Body.TheVariants as bodies
use Rattle.tlp_core.specs.declared.packet.Status.TheVariants as statuses
use Rattle.tlp_core.specs.TlpView.{TlpView}
use Rattle.tlp_core.specs.Operation.{op_of, is_completion}
use Rattle.seq_memory.specs.Entries.{Reply}
use Rattle.seq_memory.specs.declared.reply.ReplyOf.TheVariants as replies
use Rattle.seq_memory.specs.Step.{answer}
use Rattle.seq_memory.specs.History.{bytes_of}
use Rattle.completer_core.specs.Completion.{completion_for, completion_of}
use Rattle.completer_core.specs.Serving.{completion_to}
use Rattle.requester_core.specs.declared.requester.OpenRequest.{OpenRequest}
use Rattle.requester_core.specs.Answers.{Answer}
use Rattle.requester_core.specs.declared.fault.CompletionFault.{CompletionFault}
use Rattle.requester_core.specs.RequesterView.{RequesterView, after_opened, after_finish, completed, is_ours, reply_carried, answered, finished, finished_by, closes}
use Rattle.lane_core.specs.Steps.{LaneEndsView}
use Rattle.lane_core.specs.Calls.{content, on_the_way}
use Rattle.fabric_steps.specs.Lists.{Each}
use Rattle.fabric_steps.specs.Whole.{view, open_number, size_at, size_in, FitsSize, unused}
use Rattle.fabric_steps.specs.Sound.{Sound}
use Rattle.fabric_steps.specs.Packets.{marked_packet, reply_in}
use Rattle.fabric_steps.specs.Fabric.{Fabric, items, whole_of}
use Rattle.fabric_steps.specs.Events.{IsEntered, IsTakenAt, are_entered, IsSubmitted, IsForwarded, IsServed, IsReturned, IsCollected, IsLinked}
use Rattle.fabric_steps.specs.Expected.{IsExpected}
use Rattle.fabric_steps.specs.New.{IsNew, IsNewFabric}
use Rattle.fabric_steps.specs.Routed.{HasPort, FitsStatus, HoldsRequests, HoldsCompletions, IsRouted}
use Rattle.fabric_steps.proofs.Lists.{each_append, each_at, get_before, get_within}
use Rattle.fabric_steps.proofs.Packets.{not_written}
use Rattle.fabric_steps.proofs.Requests.{IsReady, ready}
use Rattle.fabric_steps.proofs.Events.{get_is, get_items, head_is}
use Rattle.fabric_steps.proofs.Expected.{expected}

-- ---- lists

kept_set : {X : Type 0} (P : ℕ → X → Type 0) (xs : List X) (k : ℕ) (y : X) → ((i : ℕ) (x : X) → slice_get xs i ≡ Some x → P i x) → P k y → (i : ℕ) (x : X) → slice_get (slice_set xs k y) i ≡ Some x → P i x
kept_set P [] k y f p i x e = f i x e
kept_set P (z ∷ xs) zero y f p zero x e = let is : y ≡ x = cc in subst (P zero) is p
kept_set P (z ∷ xs) zero y f p (suc i) x e = f (suc i) x e
kept_set P (z ∷ xs) (suc k) y f p zero x e = f zero x e
kept_set P (z ∷ xs) (suc k) y f p (suc i) x e = kept_set (λ n. P (suc n)) xs k y (λ n w h. f (suc n) w h) p i x e

each_rest : (P : TlpView × ℕ → Type 0) (xs ys : List (TlpView × ℕ)) (n : ℕ) (x : TlpView × ℕ) → slice_get xs n ≡ Some x → Each P (xs ++ ys) → Each P (remove (xs ++ ys) n)
each_rest P [] ys n x e a = absurd (cc)
each_rest P (y ∷ xs) ys zero x e a = a.1
each_rest P (y ∷ xs) ys (suc n) x e a = (a.0, each_rest P xs ys n x e a.1)

-- of what is taken at a place, and of what stays
taken_keeps : (P : TlpView × ℕ → Type 0) (e : LaneEndsView) (place : ℕ) (t : TlpView) (mark : ℕ) (e' : LaneEndsView) → IsTakenAt e place t mark e' → Each P (content e) → P (t, mark) × Each P (content e')
taken_keeps P e place t mark e' h a = (
  each_at P (content e) place (t, mark) (get_before e.receiver.queue (on_the_way e) place (t, mark) h.item) a,
  subst (Each P) (sym h.content) (each_rest P e.receiver.queue (on_the_way e) place (t, mark) h.item a),
)

entered_keeps : (P : TlpView × ℕ → Type 0) (e : LaneEndsView) (t : TlpView) (mark : ℕ) (e' : LaneEndsView) → IsEntered e t mark e' → Each P (content e) → P (t, mark) → Each P (content e')
entered_keeps P e t mark e' h a p = subst (Each P) (sym h) (each_append P (content e) ((t, mark) ∷ []) a (p, tt))

-- ---- events

pub submit_routed : (f : Fabric) (i : ℕ) (op : Op) (f' : Fabric) → IsRouted f → IsSubmitted f i op f' → IsRouted f'
submit_routed f i op f' r e = subst IsRouted (sym e.now) (record {
  ports = kept_set (λ j (q : RequesterView). q.port ≡ suc j) f.requesters i (after_opened e.requester e.request) r.ports e.own_port;
  up = subst (λ n. (j : ℕ) (l : LaneEndsView) → slice_get (slice_set f.up i e.lane_after) j ≡ Some l → HoldsRequests n l) (sym same)
      (kept_set (λ j. HoldsRequests (length f.requesters)) f.up i e.lane_after r.up
      (entered_keeps (λ (x : TlpView × ℕ). HasPort (length f.requesters) x.0 × (is_some (op_of x.0) ≡ true)) e.lane e.request e.number e.lane_after e.entered (r.up i e.lane e.has_lane) (port, ap is_some e.asks)));
  inward = subst (λ n. HoldsRequests n f.inward) (sym same) r.inward;
  outward = subst (λ n. HoldsCompletions n f.outward) (sym same) r.outward;
  down = subst (λ n. (j : ℕ) (l : LaneEndsView) → slice_get f.down j ≡ Some l → HoldsCompletions n l) (sym same) r.down;
})
  where
    same : length (slice_set f.requesters i (after_opened e.requester e.request)) ≡ length f.requesters
    same = length-set f.requesters i (after_opened e.requester e.request)

    is_ready : IsReady e.requester op e.number e.request
    is_ready = ready e.requester op e.number e.request e.is_prepared

    port : HasPort (length f.requesters) e.request
    port = record { place = i; some_port = get_within f.requesters i e.requester e.has_requester; id = ap (λ (t : TlpView). t.requester) is_ready.request ∙ ap (λ (p : ℕ). p * 256) e.own_port }

pub forward_routed : (f : Fabric) (i place : ℕ) (f' : Fabric) → IsRouted f → IsForwarded f i place f' → IsRouted f'
forward_routed f i place f' r e =
    let t = taken_keeps (λ (x : TlpView × ℕ). HasPort (length f.requesters) x.0 × (is_some (op_of x.0) ≡ true)) e.lane place e.packet e.mark e.lane_after e.taken (r.up i e.lane e.has_lane) in
    subst IsRouted (sym e.now) (record {
      ports = r.ports;
      up = kept_set (λ j. HoldsRequests (length f.requesters)) f.up i e.lane_after r.up t.1;
      inward = entered_keeps (λ (x : TlpView × ℕ). HasPort (length f.requesters) x.0 × (is_some (op_of x.0) ≡ true)) f.inward e.packet e.mark e.memory_lane e.entered r.inward t.0;
      outward = r.outward;
      down = r.down;
    })

pub return_routed : (f : Fabric) (i place : ℕ) (f' : Fabric) → IsRouted f → IsReturned f i place f' → IsRouted f'
return_routed f i place f' r e =
    let t = taken_keeps (λ (x : TlpView × ℕ). HasPort (length f.requesters) x.0 × FitsStatus x.0.kind x.0.body) f.outward place e.packet e.mark e.lane_after e.taken r.outward in
    subst IsRouted (sym e.now) (record {
      ports = r.ports;
      up = r.up;
      inward = r.inward;
      outward = t.1;
      down = kept_set (λ j. HoldsCompletions (length f.requesters)) f.down i e.port_lane r.down
          (entered_keeps (λ (x : TlpView × ℕ). HasPort (length f.requesters) x.0 × FitsStatus x.0.kind x.0.body) e.lane e.packet e.mark e.port_lane e.entered (r.down i e.lane e.has_lane) t.0);
    })

same_port : (q : RequesterView) (r : Result Answer CompletionFault) (tag : ℕ) → (closes r q tag).port ≡ q.port
same_port q (Ok a) tag = refl
same_port q (Err e) tag = refl

pub collect_routed : (f : Fabric) (i : ℕ) (a : Answer) (f' : Fabric) → IsRouted f → IsCollected f i a f' → IsRouted f'
collect_routed f i a f' r e = subst IsRouted (sym e.now) (record {
  ports = kept_set (λ j (q : RequesterView). q.port ≡ suc j) f.requesters i (after_finish e.requester e.packet) r.ports (same_port e.requester (finished e.requester e.packet) e.packet.tag ∙ r.ports i e.requester e.has_requester);
  up = subst (λ n. (j : ℕ) (l : LaneEndsView) → slice_get f.up j ≡ Some l → HoldsRequests n l) (sym same) r.up;
  inward = subst (λ n. HoldsRequests n f.inward) (sym same) r.inward;
  outward = subst (λ n. HoldsCompletions n f.outward) (sym same) r.outward;
  down = subst (λ n. (j : ℕ) (l : LaneEndsView) → slice_get (slice_set f.down i e.lane_after) j ≡ Some l → HoldsCompletions n l) (sym same)
      (kept_set (λ j. HoldsCompletions (length f.requesters)) f.down i e.lane_after r.down
      (taken_keeps (λ (x : TlpView × ℕ). HasPort (length f.requesters) x.0 × FitsStatus x.0.kind x.0.body) e.lane 0 e.packet e.mark e.lane_after e.taken (r.down i e.lane e.has_lane)).1);
})
  where
    same : length (slice_set f.requesters i (after_finish e.requester e.packet)) ≡ length f.requesters
    same = length-set f.requesters i (after_finish e.requester e.packet)

-- a completion has its request's Requester ID, and fits its status

made_for : (n : ℕ) (t c : TlpView) (r : Reply) → HasPort n t → completion_for t r ≡ Some c → HasPort n c × FitsStatus c.kind c.body
made_for n t c replies.Done p e = absurd (cc)
made_for n t c (replies.Data bytes) p e = subst (λ (x : TlpView). HasPort n x × FitsStatus x.kind x.body) (some_is e) (record { place = p.place; some_port = p.some_port; id = p.id }, tt)
  where
    some_is : {x y : TlpView} → Some x ≡ Some y → x ≡ y
    some_is h = cc
made_for n t c replies.Unsupported p e = subst (λ (x : TlpView). HasPort n x × FitsStatus x.kind x.body) (some_is e) (record { place = p.place; some_port = p.some_port; id = p.id }, tt)
  where
    some_is : {x y : TlpView} → Some x ≡ Some y → x ≡ y
    some_is h = cc
made_for n t c replies.Aborted p e = subst (λ (x : TlpView). HasPort n x × FitsStatus x.kind x.body) (some_is e) (record { place = p.place; some_port = p.some_port; id = p.id }, tt)
  where
    some_is : {x y : TlpView} → Some x ≡ Some y → x ≡ y
    some_is h = cc

entered_fit : (n : ℕ) (t : TlpView) (r : Reply) (mark : ℕ) → HasPort n t → (o : Option TlpView) → completion_of t r ≡ o → Each (λ (x : TlpView × ℕ). HasPort n x.0 × FitsStatus x.0.kind x.0.body) (are_entered o mark)
entered_fit n t r mark p None e = tt
entered_fit n t r mark p (Some c) e = (made_for n t c r p (not_written t.kind (completion_for t r) c e), tt)

pub serve_routed : (f : Fabric) (place : ℕ) (f' : Fabric) → IsRouted f → IsServed f place f' → IsRouted f'
serve_routed f place f' r e =
    let t = taken_keeps (λ (x : TlpView × ℕ). HasPort (length f.requesters) x.0 × (is_some (op_of x.0) ≡ true)) f.inward place e.packet e.mark e.lane_after e.taken r.inward in
    let made : completion_to f.memory e.packet ≡ completion_of e.packet (answer f.memory.base f.memory.block (bytes_of f.memory) e.op) =
    ap (λ (o : Option Op). option_and_then (λ p. completion_of e.packet (answer f.memory.base f.memory.block (bytes_of f.memory) p)) o) e.asks in
    subst IsRouted (sym e.now) (record {
      ports = r.ports;
      up = r.up;
      inward = t.1;
      outward = subst (Each (λ (x : TlpView × ℕ). HasPort (length f.requesters) x.0 × FitsStatus x.0.kind x.0.body)) (sym e.entered)
          (each_append (λ (x : TlpView × ℕ). HasPort (length f.requesters) x.0 × FitsStatus x.0.kind x.0.body) (content f.outward) (are_entered (completion_to f.memory e.packet) e.mark) r.outward
          (entered_fit (length f.requesters) e.packet (answer f.memory.base f.memory.block (bytes_of f.memory) e.op) e.mark t.0.0 (completion_to f.memory e.packet) (sym made)));
      down = r.down;
    })

-- ---- what is collected is finished

open_there : (o : Option OpenRequest) (n : ℕ) → option_map (λ (x : OpenRequest). x.number) o ≡ Some n → (x : OpenRequest) × (o ≡ Some x)
open_there None n e = absurd (cc)
open_there (Some x) n e = (x, refl)

fits_reply : (k : Kind) (b : Body) (bytes : List ℕ) (size : ℕ) → FitsStatus k b → FitsSize size (reply_in k b bytes) → (r : Reply) × (reply_carried size k b bytes ≡ Some r)
fits_reply kinds.CompletionData (bodies.Completion c statuses.Success n l) bytes size s f = (replies.Data (record { items = bytes }), rw (eq-eqb (length bytes) size f) refl)
fits_reply kinds.CompletionData (bodies.Completion c statuses.Unsupported n l) bytes size s f = absurd s
fits_reply kinds.CompletionData (bodies.Completion c statuses.Aborted n l) bytes size s f = absurd s
fits_reply kinds.CompletionData (bodies.Request a g l) bytes size s f = absurd s
fits_reply kinds.Completion (bodies.Completion c statuses.Success n l) bytes size s f = absurd s
fits_reply kinds.Completion (bodies.Completion c statuses.Unsupported n l) bytes size s f = (replies.Unsupported, refl)
fits_reply kinds.Completion (bodies.Completion c statuses.Aborted n l) bytes size s f = (replies.Aborted, refl)
fits_reply kinds.Completion (bodies.Request a g l) bytes size s f = absurd s
fits_reply kinds.MemoryRead b bytes size s f = absurd s
fits_reply kinds.MemoryWrite b bytes size s f = absurd s
fits_reply kinds.FetchAdd b bytes size s f = absurd s
fits_reply kinds.Swap b bytes size s f = absurd s
fits_reply kinds.Cas b bytes size s f = absurd s

completes : (k : Kind) (b : Body) → FitsStatus k b → is_completion k ≡ true
completes kinds.CompletionData b s = refl
completes kinds.Completion b s = refl
completes kinds.MemoryRead b s = absurd s
completes kinds.MemoryWrite b s = absurd s
completes kinds.FetchAdd b s = absurd s
completes kinds.Swap b s = absurd s
completes kinds.Cas b s = absurd s

own_id : (r p i : ℕ) → r ≡ suc p * 256 → r / 256 ≡ suc i → r ≡ suc i * 256
own_id r p i e d = omega arith

pub finishes : (f : Fabric) (i : ℕ) (q : RequesterView) (l : LaneEndsView) (t : TlpView) (mark : ℕ) → Sound (whole_of f) → IsRouted f → slice_get f.requesters i ≡ Some q → slice_get f.down i ≡ Some l → slice_get l.receiver.queue 0 ≡ Some (t, mark)
    → (a : Answer) × (finished q t ≡ Ok a)
finishes f i q l t mark s r has_q has_l first =
    let own : get_or f.requesters i unused ≡ q = get_is f.requesters i q unused has_q in
    let held : get_or (map items f.down) i [] ≡ marked_packet t mark ∷ map (λ x. marked_packet x.0 x.1) (remove (content l) 0) =
    get_items f.down i l has_l ∙ ap (map (λ (x : TlpView × ℕ). marked_packet x.0 x.1)) (head_is l.receiver.queue (on_the_way l) (t, mark) first) in
    let x : IsExpected (suc i) (get_or f.requesters i unused) (marked_packet t mark) = expected (suc i) (view (whole_of f) (suc i)) (marked_packet t mark) (map (λ x. marked_packet x.0 x.1) (remove (content l) 0)) (s (suc i)) held in
    let fit : HasPort (length f.requesters) t × FitsStatus t.kind t.body = each_at (λ (x : TlpView × ℕ). HasPort (length f.requesters) x.0 × FitsStatus x.0.kind x.0.body) (content l) 0 (t, mark) (get_before l.receiver.queue (on_the_way l) 0 (t, mark) first) (r.down i l has_l) in
    let id : t.requester ≡ q.port * 256 = own_id t.requester fit.0.place i fit.0.id x.own ∙ ap (λ (p : ℕ). p * 256) (sym (r.ports i q has_q)) in
    let (o, there) = open_there (get_or q.open_tags t.tag None) x.number (ap (λ (q : RequesterView). open_number q t.tag) (sym own) ∙ x.tag_open) in
    let size : size_at (get_or f.requesters i unused) t.tag ≡ o.size = ap (λ (q : RequesterView). size_at q t.tag) own ∙ ap size_in there in
    let (reply, is) = fits_reply t.kind t.body t.payload o.size fit.1 (subst (λ (n : ℕ). FitsSize n (reply_in t.kind t.body t.payload)) size x.size) in
    let ours : is_ours q t ≡ true = rw (completes t.kind t.body fit.1) (eq-eqb t.requester (q.port * 256) id) in
    let found : completed q t ≡ Some o = ap (λ (b : Bool). if b then get_or q.open_tags t.tag None else None) ours ∙ there in
    (record { number = o.number; reply = reply }, ap (λ (c : Option OpenRequest). finished_by c t) found ∙ ap (answered o.number) is)

-- ---- calls of links

pub linked_up : (f : Fabric) (i : ℕ) (lanes : List LaneEndsView) → IsRouted f → IsLinked f.up i lanes → IsRouted (record f { up = lanes })
linked_up f i lanes r e = subst (λ (l : List LaneEndsView). IsRouted (record f { up = l })) (sym e.now) (record {
  ports = r.ports;
  up = kept_set (λ j. HoldsRequests (length f.requesters)) f.up i e.lane_after r.up (subst (Each (λ (x : TlpView × ℕ). HasPort (length f.requesters) x.0 × (is_some (op_of x.0) ≡ true))) (sym e.kept) (r.up i e.lane e.has_lane));
  inward = r.inward;
  outward = r.outward;
  down = r.down;
})

pub linked_down : (f : Fabric) (i : ℕ) (lanes : List LaneEndsView) → IsRouted f → IsLinked f.down i lanes → IsRouted (record f { down = lanes })
linked_down f i lanes r e = subst (λ (l : List LaneEndsView). IsRouted (record f { down = l })) (sym e.now) (record {
  ports = r.ports;
  up = r.up;
  inward = r.inward;
  outward = r.outward;
  down = kept_set (λ j. HoldsCompletions (length f.requesters)) f.down i e.lane_after r.down (subst (Each (λ (x : TlpView × ℕ). HasPort (length f.requesters) x.0 × FitsStatus x.0.kind x.0.body)) (sym e.kept) (r.down i e.lane e.has_lane));
})

pub linked_in : (f : Fabric) (lane : LaneEndsView) → IsRouted f → content lane ≡ content f.inward → IsRouted (record f { inward = lane })
linked_in f lane r e = record { ports = r.ports; up = r.up; inward = subst (Each (λ (x : TlpView × ℕ). HasPort (length f.requesters) x.0 × (is_some (op_of x.0) ≡ true))) (sym e) r.inward; outward = r.outward; down = r.down }

pub linked_out : (f : Fabric) (lane : LaneEndsView) → IsRouted f → content lane ≡ content f.outward → IsRouted (record f { outward = lane })
linked_out f lane r e = record { ports = r.ports; up = r.up; inward = r.inward; outward = subst (Each (λ (x : TlpView × ℕ). HasPort (length f.requesters) x.0 × FitsStatus x.0.kind x.0.body)) (sym e) r.outward; down = r.down }

-- ---- a new fabric

of_each : {X : Type 0} (P : X → Type 0) (xs : List X) (d : X) → P d → ((i : ℕ) (x : X) → slice_get xs i ≡ Some x → P x) → (i : ℕ) → P (get_or xs i d)
of_each P [] d p f i = p
of_each P (x ∷ xs) d p f zero = f zero x refl
of_each P (x ∷ xs) d p f (suc i) = of_each P xs d p (λ i. f (suc i)) i

all_empty : (ls : List LaneEndsView) → ((i : ℕ) (e : LaneEndsView) → slice_get ls i ≡ Some e → content e ≡ []) → (i : ℕ) → get_or ([] ∷ map items ls) i [] ≡ []
all_empty ls f zero = refl
all_empty [] f (suc i) = refl
all_empty (l ∷ ls) f (suc zero) = ap (map (λ (x : TlpView × ℕ). marked_packet x.0 x.1)) (f zero l refl)
all_empty (l ∷ ls) f (suc (suc i)) = all_empty ls (λ i. f (suc i)) (suc i)

none_in : (n t : ℕ) → get_or {A = Option OpenRequest} (replicate n None) t None ≡ None
none_in zero t = refl
none_in (suc n) zero = refl
none_in (suc n) (suc t) = none_in n t

IsUnasked : RequesterView → Type 0
IsUnasked q = (q.next ≡ 0) × ((t : ℕ) → open_number q t ≡ None)

unasked : (f : Fabric) → IsNewFabric f → (i : ℕ) → IsUnasked (get_or (unused ∷ f.requesters) i unused)
unfolding IsUnasked
unasked f n = of_each IsUnasked (unused ∷ f.requesters) unused (refl, λ t. refl) at
  where
    at : (i : ℕ) (q : RequesterView) → slice_get (unused ∷ f.requesters) i ≡ Some q → IsUnasked q
    at zero q e = let is : unused ≡ q = cc in subst IsUnasked is (refl, λ t. refl)
    at (suc i) q e = subst IsUnasked (sym (n.requesters i q e)) (refl, λ t. ap (option_map (λ (o : OpenRequest). o.number)) (none_in 256 t))

pub new_whole : (f : Fabric) → IsNewFabric f → IsNew (whole_of f)
unfolding IsUnasked
new_whole f n = record {
  history = n.history;
  inward = ap (map (λ (x : TlpView × ℕ). marked_packet x.0 x.1)) n.inward;
  outward = ap (map (λ (x : TlpView × ℕ). marked_packet x.0 x.1)) n.outward;
  up = all_empty f.up n.up;
  down = all_empty f.down n.down;
  next = λ i. (unasked f n i).0;
  tags = λ i. (unasked f n i).1;
}

pub new_routed : (f : Fabric) → IsNewFabric f → IsRouted f
new_routed f n = record {
  ports = λ i q e. ap (λ (q : RequesterView). q.port) (n.requesters i q e);
  up = λ i e at. subst (Each (λ (x : TlpView × ℕ). HasPort (length f.requesters) x.0 × (is_some (op_of x.0) ≡ true))) (sym (n.up i e at)) tt;
  inward = subst (Each (λ (x : TlpView × ℕ). HasPort (length f.requesters) x.0 × (is_some (op_of x.0) ≡ true))) (sym n.inward) tt;
  outward = subst (Each (λ (x : TlpView × ℕ). HasPort (length f.requesters) x.0 × FitsStatus x.0.kind x.0.body)) (sym n.outward) tt;
  down = λ i e at. subst (Each (λ (x : TlpView × ℕ). HasPort (length f.requesters) x.0 × FitsStatus x.0.kind x.0.body)) (sym (n.down i e at)) tt;
}
