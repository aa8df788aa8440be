-- Each event on the parts is a step of the whole.
use Rattle.std.proofs.Common.{◌≡◌, ◌≢◌, ℕ, zero, suc, ◌*◌, ◌/◌, ◌<◌, ◌&&◌, Bool, true, false, List, [], ◌∷◌, ◌++◌, length, take, drop, map, get_or, refl, sym, ap, ◌∙◌, subst, arith, Option, Some, None}
use Rattle.std.specs.Prelude.{slice_get, slice_set, remove, unwrap_or, option_and_then}
use Rattle.std.specs.Option.{option_map_or}
use Rattle.std.proofs.lemmas.List.{map-append, map-set}
use lib.ListN.{length-map}
use Rattle.dllp_core.specs.declared.packet.Class.{Class}
use Rattle.dllp_core.specs.declared.packet.Class.TheVariants as classes
use Rattle.tlp_core.specs.Ops.{Op}
use Rattle.tlp_core.specs.declared.operation.OpOf.TheVariants as ops
use Rattle.tlp_core.specs.declared.packet.Kind.{Kind}
use Rattle.tlp_core.specs.declared.packet.Kind.TheVariants as kinds
use Rattle.tlp_core.specs.declared.packet.Body.{Body}
use Rattle.tlp_core.specs.declared.packet.Body.TheVariants as bodies
use Rattle.tlp_core.specs.TlpView.{TlpView}
use Rattle.tlp_core.specs.Operation.{op_of, op_at, is_posted, count_of}
use Rattle.flow_control.specs.Needs.{class_of}
use Rattle.flow_control.specs.Ordering.{passes, may_pass, is_same_request}
use Rattle.flow_control.specs.Queue.{first_passes, passes_each}
use Rattle.seq_memory.specs.declared.Refusal.{Refusal}
use Rattle.seq_memory.specs.declared.Refusal.TheVariants as refusals
use Rattle.seq_memory.specs.Entries.{Entry}
use Rattle.seq_memory.specs.Entries.{Reply}
use Rattle.seq_memory.specs.declared.reply.ReplyOf.TheVariants as replies
use Rattle.seq_memory.specs.Step.{answer, answer_by, read_back, refusal, IsSizedFor}
use Rattle.seq_memory.specs.History.{MemoryView, bytes_of}
use Rattle.completer_core.specs.Completion.{completion_for, completion_of, unless_posted}
use Rattle.completer_core.specs.Serving.{completion_to, after_serving, with_entry}
use Rattle.requester_core.specs.Answers.{Answer}
use Rattle.requester_core.specs.Request.{kind_for}
use Rattle.requester_core.specs.RequesterView.{RequesterView, after_opened, after_finish}
use Rattle.lane_core.specs.Steps.{LaneEndsView}
use Rattle.lane_core.specs.Calls.{content, on_the_way}
use Rattle.history_words.specs.declared.record.RecordOf.TheVariants.{Sub, Ans}
use Rattle.fabric_steps.specs.Lists.{Each}
use Rattle.fabric_steps.specs.Whole.{MarkedPacket, Whole, class_of_op, no_op, marked_request, completions_for, unused, reply_after, FitsSize}
use Rattle.fabric_steps.specs.Packets.{marked_packet, reply_in}
use Rattle.fabric_steps.specs.Fabric.{Fabric, items, whole_of}
use Rattle.fabric_steps.specs.Events.{IsEntered, IsTakenAt, are_entered, IsSubmitted, IsForwarded, IsServed, IsReturned, IsCollected, IsLinked}
use Rattle.fabric_steps.specs.Steps.{IsTaken, IsOpened, IsClosed, Step, submits, forwards, serves, returns, collects, links}
use Rattle.fabric_steps.proofs.Lists.{get_within}
use Rattle.fabric_steps.proofs.Packets.{completion_is}
use Rattle.fabric_steps.proofs.Requests.{IsReady, ready, opened_is, IsFinished, finished_is}

-- ---- parts at their places

pub get_is : {X : Type 0} (xs : List X) (i : ℕ) (x d : X) → slice_get xs i ≡ Some x → get_or xs i d ≡ x
get_is [] i x d e = absurd (cc)
get_is (y ∷ xs) zero x d e = cc
get_is (y ∷ xs) (suc i) x d e = get_is xs i x d e

pub get_items : (ls : List LaneEndsView) (i : ℕ) (l : LaneEndsView) → slice_get ls i ≡ Some l → get_or (map items ls) i [] ≡ items l
get_items [] i l e = absurd (cc)
get_items (m ∷ ls) zero l e = let is : m ≡ l = cc in ap items is
get_items (m ∷ ls) (suc i) l e = get_items ls i l e

set_items : (ls : List LaneEndsView) (i : ℕ) (l : LaneEndsView) (new : List MarkedPacket) → items l ≡ new → map items (slice_set ls i l) ≡ slice_set (map items ls) i new
set_items ls i l new e = map-set items ls i l ∙ ap (λ (n : List MarkedPacket). slice_set (map items ls) i n) e

kept_items : (ls : List LaneEndsView) (i : ℕ) (l l' : LaneEndsView) → slice_get ls i ≡ Some l → items l' ≡ items l → map items (slice_set ls i l') ≡ map items ls
kept_items [] i l l' e same = absurd (cc)
kept_items (m ∷ ls) zero l l' e same = let is : l ≡ m = cc in ap (λ (c : List MarkedPacket). c ∷ map items ls) (same ∙ ap items is)
kept_items (m ∷ ls) (suc i) l l' e same = ap (λ (c : List (List MarkedPacket)). items m ∷ c) (kept_items ls i l l' e same)

there : (ls : List LaneEndsView) (i : ℕ) (l : LaneEndsView) → slice_get ls i ≡ Some l → suc i < length ([] ∷ map items ls)
there ls i l e = let w : i < length ls = get_within ls i l e in let n : length (map items ls) ≡ length ls = length-map ls items in omega arith

-- ---- what enters and what is taken

abbrev as_item : TlpView × ℕ → MarkedPacket
as_item x = marked_packet x.0 x.1

entered_items : (e : LaneEndsView) (t : TlpView) (mark : ℕ) (e' : LaneEndsView) → IsEntered e t mark e' → items e' ≡ items e ++ marked_packet t mark ∷ []
entered_items e t mark e' h = ap (map as_item) h ∙ map-append as_item (content e) ((t, mark) ∷ [])

passes_posted : (l : Class) (b : Bool) → passes l classes.Posted b ≡ false
passes_posted classes.Posted b = refl
passes_posted classes.NonPosted b = refl
passes_posted classes.Completion b = refl

not_posted : (t u : TlpView) → may_pass t u ≡ true → class_of u.kind ≢ classes.Posted
not_posted t u h is =
    let f : may_pass t u ≡ false = ap (λ (c : Class). passes (class_of t.kind) c (is_same_request t u)) is ∙ passes_posted (class_of t.kind) (is_same_request t u) in cc

and_both : (a b : Bool) → (a && b) ≡ true → (a ≡ true) × (b ≡ true)
and_both true b e = (refl, e)
and_both false b e = absurd (cc)

all_passed : (t : TlpView) (xs : List (TlpView × ℕ)) → passes_each t xs ≡ true → Each (λ (a : MarkedPacket). a.class ≢ classes.Posted) (map as_item xs)
all_passed t [] h = tt
all_passed t (x ∷ xs) h = let b = and_both (may_pass t x.0) (passes_each t xs) h in (not_posted t x.0 b.0, all_passed t xs b.1)

first_at : (earlier q : List (TlpView × ℕ)) (n : ℕ) (x : TlpView × ℕ) → slice_get q n ≡ Some x → first_passes earlier (drop n q) ≡ passes_each x.0 earlier
first_at earlier [] n x e = absurd (cc)
first_at earlier (y ∷ q) zero x e = let is : y ≡ x = cc in ap (λ (z : TlpView × ℕ). passes_each z.0 earlier) is
first_at earlier (y ∷ q) (suc n) x e = first_at earlier q n x e

pub split : (xs ys : List (TlpView × ℕ)) (n : ℕ) (x : TlpView × ℕ) → slice_get xs n ≡ Some x → (behind : List (TlpView × ℕ)) × (xs ++ ys ≡ take n xs ++ x ∷ behind) × (remove (xs ++ ys) n ≡ take n xs ++ behind)
split [] ys n x e = absurd (cc)
split (y ∷ xs) ys zero x e = let is : y ≡ x = cc in (xs ++ ys, ap (λ (z : TlpView × ℕ). z ∷ (xs ++ ys)) is, refl)
split (y ∷ xs) ys (suc n) x e = let (b, was, now) = split xs ys n x e in (b, ap (λ (l : List (TlpView × ℕ)). y ∷ l) was, ap (λ (l : List (TlpView × ℕ)). y ∷ l) now)

taken_items : (e : LaneEndsView) (place : ℕ) (t : TlpView) (mark : ℕ) (e' : LaneEndsView) → IsTakenAt e place t mark e' → IsTaken (items e) (marked_packet t mark) (items e')
taken_items e place t mark e' h =
    let (behind, was, now) = split e.receiver.queue (on_the_way e) place (t, mark) h.item in
    record {
      before = map as_item (take place e.receiver.queue);
      behind = map as_item behind;
      was = ap (map as_item) was ∙ map-append as_item (take place e.receiver.queue) ((t, mark) ∷ behind);
      now = ap (map as_item) (h.content ∙ now) ∙ map-append as_item (take place e.receiver.queue) behind;
      passes = all_passed t (take place e.receiver.queue) (sym (first_at (take place e.receiver.queue) e.receiver.queue place (t, mark) h.item) ∙ h.takeable);
    }

pub head_is : (q way : List (TlpView × ℕ)) (x : TlpView × ℕ) → slice_get q 0 ≡ Some x → q ++ way ≡ x ∷ remove (q ++ way) 0
head_is [] way x e = absurd (cc)
head_is (y ∷ q) way x e = let is : y ≡ x = cc in ap (λ (z : TlpView × ℕ). z ∷ (q ++ way)) is

first_items : (e : LaneEndsView) (t : TlpView) (mark : ℕ) (e' : LaneEndsView) → IsTakenAt e 0 t mark e' → items e ≡ marked_packet t mark ∷ items e'
first_items e t mark e' h = ap (map as_item) (head_is e.receiver.queue (on_the_way e) (t, mark) h.item) ∙ ap (λ (l : List (TlpView × ℕ)). marked_packet t mark ∷ map as_item l) (sym h.content)

-- ---- a submission

class_for : (op : Op) → class_of (kind_for op) ≡ class_of_op op
class_for (ops.Read a dw f l) = refl
class_for (ops.Write a f l bytes) = refl
class_for (ops.FetchAdd a w x) = refl
class_for (ops.Swap a w x) = refl
class_for (ops.Cas a w x y) = refl

no_reply : (op : Op) (b : Body) (bytes : List ℕ) → reply_in (kind_for op) b bytes ≡ replies.Done
no_reply (ops.Read a dw f l) b bytes = refl
no_reply (ops.Write a f l x) b bytes = refl
no_reply (ops.FetchAdd a w x) b bytes = refl
no_reply (ops.Swap a w x) b bytes = refl
no_reply (ops.Cas a w x y) b bytes = refl

port_of : (p : ℕ) → p * 256 / 256 ≡ p
port_of p = omega arith

request_is : (s : RequesterView) (i : ℕ) (op : Op) (n : ℕ) (t : TlpView) → IsReady s op n t → s.port ≡ suc i → op_of t ≡ Some op → marked_packet t n ≡ marked_request (suc i) t.tag s.next op
request_is s i op n t r port asks = λ k. record {
  requester = (ap (λ (u : TlpView). u.requester / 256) r.request ∙ (port_of s.port ∙ port)) k;
  tag = t.tag;
  class = (ap (λ (u : TlpView). class_of u.kind) r.request ∙ class_for op) k;
  op = ap (λ (o : Option Op). unwrap_or o no_op) asks k;
  reply = (ap (λ (u : TlpView). reply_in u.kind u.body u.payload) r.request ∙ no_reply op _ _) k;
  mark = r.number k;
}

pub submit_is : (f : Fabric) (i : ℕ) (op : Op) (f' : Fabric) (e : IsSubmitted f i op f') → Step (whole_of f) (whole_of f') (Sub (suc i) e.number op (length f.memory.entries) ∷ [])
submit_is f i op f' e = submits (suc i) op (record {
  known = (let w : i < length f.requesters = get_within f.requesters i e.requester e.has_requester in omega arith);
  has_up = there f.up i e.lane e.has_lane;
  tag = e.request.tag;
  requester = after_opened e.requester e.request;
  opened = subst (λ (q : RequesterView). IsOpened q e.request.tag op (after_opened e.requester e.request)) (sym own) (opened_is e.requester op e.number e.request e.sound e.is_prepared);
  now = ap whole_of e.now ∙ (λ k. record (whole_of f) { up = [] ∷ set_items f.up i e.lane_after _ lane_now k; requesters = unused ∷ slice_set f.requesters i (after_opened e.requester e.request) });
}) (ap (λ (m : ℕ). Sub (suc i) m op (length f.memory.entries) ∷ []) (r.number ∙ sym (ap (λ (q : RequesterView). q.next) own)))
  where
    r : IsReady e.requester op e.number e.request
    r = ready e.requester op e.number e.request e.is_prepared

    own : get_or f.requesters i unused ≡ e.requester
    own = get_is f.requesters i e.requester unused e.has_requester

    lane_now : items e.lane_after ≡ get_or (map items f.up) i [] ++ marked_request (suc i) e.request.tag (get_or f.requesters i unused).next op ∷ []
    lane_now = entered_items e.lane e.request e.number e.lane_after e.entered
        ∙ (ap (λ (l : List MarkedPacket). l ++ marked_packet e.request e.number ∷ []) (sym (get_items f.up i e.lane e.has_lane))
        ∙ ap (λ (x : MarkedPacket). get_or (map items f.up) i [] ++ x ∷ []) (request_is e.requester i op e.number e.request r e.own_port e.asks ∙ ap (λ (m : ℕ). marked_request (suc i) e.request.tag m op) (ap (λ (q : RequesterView). q.next) (sym own))))

-- ---- on the way

pub forward_is : (f : Fabric) (i place : ℕ) (f' : Fabric) → IsForwarded f i place f' → Step (whole_of f) (whole_of f') []
forward_is f i place f' e = forwards (suc i) (record {
  has_up = there f.up i e.lane e.has_lane;
  item = marked_packet e.packet e.mark;
  rest = items e.lane_after;
  taken = subst (λ (l : List MarkedPacket). IsTaken l (marked_packet e.packet e.mark) (items e.lane_after)) (sym (get_items f.up i e.lane e.has_lane)) (taken_items e.lane place e.packet e.mark e.lane_after e.taken);
  now = ap whole_of e.now ∙ (λ k. record (whole_of f) { up = [] ∷ set_items f.up i e.lane_after (items e.lane_after) refl k; inward = entered_items f.inward e.packet e.mark e.memory_lane e.entered k });
}) refl

pub return_is : (f : Fabric) (i place : ℕ) (f' : Fabric) → IsReturned f i place f' → Step (whole_of f) (whole_of f') []
return_is f i place f' e = returns (record {
  item = x;
  rest = items e.lane_after;
  taken = taken_items f.outward place e.packet e.mark e.lane_after e.taken;
  has_down = subst (λ (n : ℕ). n < length ([] ∷ map items f.down)) (sym e.port) (there f.down i e.lane e.has_lane);
  now = ap whole_of e.now ∙ ((λ k. record (whole_of f) { outward = items e.lane_after; down = [] ∷ set_items f.down i e.port_lane _ lane_now k })
      ∙ ap (λ (n : ℕ). record (whole_of f) { outward = items e.lane_after; down = slice_set ([] ∷ map items f.down) n (get_or ([] ∷ map items f.down) n [] ++ x ∷ []) }) (sym e.port));
}) refl
  where
    x : MarkedPacket
    x = marked_packet e.packet e.mark

    lane_now : items e.port_lane ≡ get_or (map items f.down) i [] ++ marked_packet e.packet e.mark ∷ []
    lane_now = entered_items e.lane e.packet e.mark e.port_lane e.entered ∙ ap (λ (l : List MarkedPacket). l ++ marked_packet e.packet e.mark ∷ []) (sym (get_items f.down i e.lane e.has_lane))

pub collect_is : (f : Fabric) (i : ℕ) (a : Answer) (f' : Fabric) → IsCollected f i a f' → Step (whole_of f) (whole_of f') (Ans (suc i) a.number a.reply (length f.memory.entries) ∷ [])
collect_is f i a f' e = collects (suc i) a.number a.reply (record {
  known = (let w : i < length f.requesters = get_within f.requesters i e.requester e.has_requester in omega arith);
  has_down = there f.down i e.lane e.has_lane;
  item = marked_packet e.packet e.mark;
  rest = items e.lane_after;
  first = get_items f.down i e.lane e.has_lane ∙ first_items e.lane e.packet e.mark e.lane_after e.taken;
  requester = after_finish e.requester e.packet;
  closed = subst (λ (q : RequesterView). IsClosed q e.packet.tag a.number (after_finish e.requester e.packet)) (sym (get_is f.requesters i e.requester unused e.has_requester)) done.closed;
  replied = done.replied;
  now = ap whole_of e.now ∙ (λ k. record (whole_of f) { down = [] ∷ set_items f.down i e.lane_after (items e.lane_after) refl k; requesters = unused ∷ slice_set f.requesters i (after_finish e.requester e.packet) });
}) refl
  where
    done : IsFinished e.requester e.packet a
    done = finished_is e.requester e.packet a e.finishes

-- ---- a request acts

written : (k : Kind) (b : Body) (dw : ℕ) (bytes : List ℕ) (op : Op) (c : Option TlpView) → op_at k b dw bytes ≡ Some op → is_posted op ≡ true → unless_posted k c ≡ None
written kinds.MemoryWrite b dw bytes op c e p = refl
written kinds.MemoryRead (bodies.Request a f l) dw bytes op c e p = absurd (let is : ops.Read a dw f l ≡ op = cc in let n : false ≡ true = ap is_posted is ∙ p in cc)
written kinds.FetchAdd (bodies.Request a f l) dw bytes op c e p = absurd (let is : _ ≡ op = some_is e in let n : false ≡ true = ap is_posted is ∙ p in cc)
  where
    some_is : {x y : Op} → Some x ≡ Some y → x ≡ y
    some_is h = cc
written kinds.Swap (bodies.Request a f l) dw bytes op c e p = absurd (let is : _ ≡ op = some_is e in let n : false ≡ true = ap is_posted is ∙ p in cc)
  where
    some_is : {x y : Op} → Some x ≡ Some y → x ≡ y
    some_is h = cc
written kinds.Cas (bodies.Request a f l) dw bytes op c e p = absurd (let is : _ ≡ op = some_is e in let n : false ≡ true = ap is_posted is ∙ p in cc)
  where
    some_is : {x y : Op} → Some x ≡ Some y → x ≡ y
    some_is h = cc
written kinds.MemoryRead (bodies.Completion i s n l) dw bytes op c e p = absurd (cc)
written kinds.FetchAdd (bodies.Completion i s n l) dw bytes op c e p = absurd (cc)
written kinds.Swap (bodies.Completion i s n l) dw bytes op c e p = absurd (cc)
written kinds.Cas (bodies.Completion i s n l) dw bytes op c e p = absurd (cc)
written kinds.Completion b dw bytes op c e p = absurd (cc)
written kinds.CompletionData b dw bytes op c e p = absurd (cc)

pub asked : (k : Kind) (b : Body) (dw : ℕ) (bytes : List ℕ) (op : Op) (c : Option TlpView) → op_at k b dw bytes ≡ Some op → is_posted op ≡ false → unless_posted k c ≡ c
asked kinds.MemoryWrite (bodies.Request a f l) dw bytes op c e p = absurd (let is : _ ≡ op = some_is e in let n : true ≡ false = ap is_posted is ∙ p in cc)
  where
    some_is : {x y : Op} → Some x ≡ Some y → x ≡ y
    some_is h = cc
asked kinds.MemoryWrite (bodies.Completion i s n l) dw bytes op c e p = absurd (cc)
asked kinds.MemoryRead b dw bytes op c e p = refl
asked kinds.FetchAdd b dw bytes op c e p = refl
asked kinds.Swap b dw bytes op c e p = refl
asked kinds.Cas b dw bytes op c e p = refl
asked kinds.Completion b dw bytes op c e p = refl
asked kinds.CompletionData b dw bytes op c e p = refl

never_done : (r : Option Refusal) (op : Op) (old : List ℕ) → is_posted op ≡ false → answer_by r (read_back op old) ≢ replies.Done
never_done (Some refusals.Aborted) op old p e = cc
never_done (Some refusals.Unsupported) op old p e = cc
never_done None (ops.Read a dw f l) old p e = cc
never_done None (ops.Write a f l bytes) old p e = cc
never_done None (ops.FetchAdd a w x) old p e = cc
never_done None (ops.Swap a w x) old p e = cc
never_done None (ops.Cas a w x y) old p e = cc

completed : (t : TlpView) (r : Reply) → r ≢ replies.Done → (c : TlpView) × (completion_for t r ≡ Some c)
completed t replies.Done n = absurd (n refl)
completed t (replies.Data bytes) n = (_, refl)
completed t replies.Unsupported n = (_, refl)
completed t replies.Aborted n = (_, refl)

entered_for : (t : TlpView) (mark : ℕ) (op : Op) (r : Reply) → op_of t ≡ Some op → (is_posted op ≡ false → r ≢ replies.Done) → (b : Bool) → is_posted op ≡ b
    → map as_item (are_entered (completion_of t r) mark) ≡ completions_for (record (marked_packet t mark) { op = op }) r
entered_for t mark op r asks n true p =
    ap (λ (c : Option TlpView). map as_item (are_entered c mark)) (written t.kind t.body t.length t.payload op (completion_for t r) asks p) ∙ rw p refl
entered_for t mark op r asks n false p =
    let (c, is) = completed t r (n p) in
    let made : completion_of t r ≡ Some c = asked t.kind t.body t.length t.payload op (completion_for t r) asks p ∙ is in
    ap (λ (c : Option TlpView). map as_item (are_entered c mark)) made ∙ (ap (λ (x : MarkedPacket). x ∷ []) (completion_is t c mark r made) ∙ rw p refl)

sized_as : (op : Op) (r : Reply) → IsSizedFor op r → FitsSize (count_of op) r
sized_as op (replies.Data bytes) h = h
sized_as op replies.Done h = tt
sized_as op replies.Unsupported h = tt
sized_as op replies.Aborted h = tt

module _ (f : Fabric) (place : ℕ) (f' : Fabric) (e : IsServed f place f') (is_sized : IsSizedFor e.op (answer f.memory.base f.memory.block (bytes_of f.memory) e.op)) where
  abbrev g : Rattle.fabric_steps.specs.Whole.Extent
  g = (whole_of f).extent

  abbrev h : List Entry
  h = f.memory.entries

  abbrev x : MarkedPacket
  x = marked_packet e.packet e.mark

  op_is : unwrap_or (op_of e.packet) no_op ≡ e.op
  op_is = ap (λ (o : Option Op). unwrap_or o no_op) e.asks

  abbrev entry : Op → Entry
  entry o = record { requester = e.packet.requester / 256; number = e.mark; op = o }

  grows : after_serving f.memory e.packet e.mark ≡ with_entry f.memory (entry e.op)
  grows = ap (λ (o : Option Op). option_map_or (λ p. with_entry f.memory (entry p)) o f.memory) e.asks

  abbrev reply : Reply
  reply = answer f.memory.base f.memory.block (bytes_of f.memory) e.op

  completion_made : completion_to f.memory e.packet ≡ completion_of e.packet reply
  completion_made = ap (λ (o : Option Op). option_and_then (λ p. completion_of e.packet (answer f.memory.base f.memory.block (bytes_of f.memory) p)) o) e.asks

  back : completions_for (record x { op = e.op }) reply ≡ completions_for x (reply_after g h x.op)
  back = unfold reply_after in ap (λ (o : Op). completions_for (record x { op = o }) (answer f.memory.base f.memory.block (bytes_of f.memory) o)) (sym op_is)

  lane_now : items e.completion_lane ≡ items f.outward ++ completions_for x (reply_after g h x.op)
  lane_now = ap (map as_item) e.entered ∙ (map-append as_item (content f.outward) (are_entered (completion_to f.memory e.packet) e.mark)
      ∙ ap (λ (l : List MarkedPacket). items f.outward ++ l)
      (ap (λ (c : Option TlpView). map as_item (are_entered c e.mark)) completion_made
      ∙ (entered_for e.packet e.mark e.op reply e.asks (λ p. never_done (refusal f.memory.base (length (bytes_of f.memory)) f.memory.block e.op) e.op _ p) (is_posted e.op) refl ∙ back)))

  pub serve_is : Step (whole_of f) (whole_of f') []
  serve_is = serves (record {
    item = x;
    rest = items e.lane_after;
    taken = taken_items f.inward place e.packet e.mark e.lane_after e.taken;
    sized = subst (λ (o : Op). FitsSize (count_of o) (reply_after g h o)) (sym op_is) (unfold reply_after in sized_as e.op _ is_sized);
    now = ap whole_of e.now ∙ (ap (λ (m : MemoryView). whole_of (record f { memory = m; inward = e.lane_after; outward = e.completion_lane })) grows
        ∙ (λ k. record (whole_of f) { history = h ++ record { requester = e.packet.requester / 256; number = e.mark; op = sym op_is k } ∷ []; inward = items e.lane_after; outward = lane_now k }));
  }) refl

-- ---- calls of links

pub link_up : (f : Fabric) (i : ℕ) (lanes : List LaneEndsView) → IsLinked f.up i lanes → Step (whole_of f) (whole_of (record f { up = lanes })) []
link_up f i lanes e = links (ap (λ (l : List LaneEndsView). whole_of (record f { up = l })) e.now ∙ (λ k. record (whole_of f) { up = [] ∷ kept_items f.up i e.lane e.lane_after e.has_lane (ap (map as_item) e.kept) k })) refl

pub link_down : (f : Fabric) (i : ℕ) (lanes : List LaneEndsView) → IsLinked f.down i lanes → Step (whole_of f) (whole_of (record f { down = lanes })) []
link_down f i lanes e = links (ap (λ (l : List LaneEndsView). whole_of (record f { down = l })) e.now ∙ (λ k. record (whole_of f) { down = [] ∷ kept_items f.down i e.lane e.lane_after e.has_lane (ap (map as_item) e.kept) k })) refl

pub link_in : (f : Fabric) (lane : LaneEndsView) → content lane ≡ content f.inward → Step (whole_of f) (whole_of (record f { inward = lane })) []
link_in f lane e = links (λ k. record (whole_of f) { inward = ap (map as_item) e k }) refl

pub link_out : (f : Fabric) (lane : LaneEndsView) → content lane ≡ content f.outward → Step (whole_of f) (whole_of (record f { outward = lane })) []
link_out f lane e = links (λ k. record (whole_of f) { outward = ap (map as_item) e k }) refl
