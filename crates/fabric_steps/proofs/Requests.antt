-- What a requester opens and closes.
use Rattle.std.proofs.Common.{◌≡◌, ℕ, zero, suc, ◌+◌, ◌*◌, ◌/◌, ◌<◌, ◌≤◌, ◌==◌, Bool, true, false, List, [], ◌∷◌, length, get_or, refl, sym, ap, ◌∙◌, subst, arith, Option, Some, None}
use Rattle.std.specs.Prelude.{slice_set, if◌then◌else◌, Result, Ok, option_map}
use Rattle.std.proofs.lemmas.Bool.Decides.{nat_tests}
use Rattle.std.proofs.lemmas.List.{get_or-set_same, get_or-set_other}
use Rattle.std.proofs.lemmas.List.Sums.{prefix_len-le-length}
use Rattle.tlp_core.specs.declared.fault.TlpFault.{TlpFault}
use Rattle.tlp_core.specs.Ops.{Op}
use Rattle.tlp_core.specs.declared.operation.OpOf.TheVariants as ops
use Rattle.tlp_core.specs.declared.operation.Width.{Width}
use Rattle.tlp_core.specs.declared.operation.Width.TheVariants as widths
use Rattle.tlp_core.specs.declared.packet.Kind.{Kind}
use Rattle.tlp_core.specs.declared.packet.Kind.TheVariants as kinds
use Rattle.tlp_core.specs.declared.packet.Body.{Body}
use Rattle.tlp_core.specs.declared.packet.Body.TheVariants as bodies
use Rattle.tlp_core.specs.declared.packet.Status.TheVariants as statuses
use Rattle.tlp_core.specs.TlpView.{TlpView}
use Rattle.tlp_core.specs.Operation.{is_posted, count_of, size_of}
use Rattle.seq_memory.specs.Entries.{Reply}
use Rattle.seq_memory.specs.declared.reply.ReplyOf.TheVariants as replies
use Rattle.requester_core.specs.declared.requester.OpenRequest.{OpenRequest}
use Rattle.requester_core.specs.Answers.{Answer}
use Rattle.requester_core.specs.declared.fault.CompletionFault.{CompletionFault}
use Rattle.requester_core.specs.Request.{request_for}
use Rattle.requester_core.specs.RequesterView.{RequesterView, lowest_free, lacks_tag, tag_for, prepared, prepared_by, after_opened, completed, is_ours, reply_carried, answered, finished, finished_by, closes, after_finish, IsSound}
use Rattle.fabric_steps.specs.Whole.{open_number, size_in}
use Rattle.fabric_steps.specs.Packets.{reply_in}
use Rattle.fabric_steps.specs.Steps.{IsOpened, IsClosed}

-- ---- a request is prepared and opened

prepared_as : (f : Option TlpFault) (a b : Bool) (m : ℕ) (r : TlpView) (n : ℕ) (t : TlpView) → prepared_by f a b m r ≡ Ok (n, t) → (a ≡ false) × (n ≡ m) × (t ≡ r)
prepared_as (Some f) a b m r n t e = absurd (cc)
prepared_as None true b m r n t e = absurd (cc)
prepared_as None false true m r n t e = absurd (cc)
prepared_as None false false m r n t e = let is : (n, t) ≡ (m, r) = cc in (refl, ap (λ (p : ℕ × TlpView). p.0) is, ap (λ (p : ℕ × TlpView). p.1) is)

pub record IsReady (s : RequesterView) (op : Op) (n : ℕ) (t : TlpView) : Type 0 where
  pub has_tag : lacks_tag s op ≡ false
  pub number : n ≡ s.next
  pub request : t ≡ request_for s.port (tag_for s op) op

pub ready : (s : RequesterView) (op : Op) (n : ℕ) (t : TlpView) → prepared s op ≡ Ok (n, t) → IsReady s op n t
ready s op n t e =
    let r = prepared_as (Rattle.tlp_core.specs.Operation.op_fault op) (lacks_tag s op) (s.next == 4294967295) s.next (request_for s.port (tag_for s op) op) n t e in
    record { has_tag = r.0; number = r.1; request = r.2 }

free_there : (tags : List (Option OpenRequest)) → get_or tags (lowest_free tags) None ≡ None
free_there [] = refl
free_there (None ∷ xs) = refl
free_there (Some o ∷ xs) = let n : suc (lowest_free xs) ≡ lowest_free (Some o ∷ xs) = omega arith in subst (λ (n : ℕ). get_or (Some o ∷ xs) n None ≡ None) n (free_there xs)

opened_at : (s : RequesterView) (op : Op) (o : OpenRequest) → is_posted op ≡ false → lowest_free s.open_tags < length s.open_tags → o.number ≡ s.next → o.size ≡ count_of op
    → IsOpened s (lowest_free s.open_tags) op (record { port = s.port; next = s.next + 1; open_tags = slice_set s.open_tags (lowest_free s.open_tags) (Some o) })
opened_at s op o n l number size = record {
  next = refl;
  posted = λ p. absurd (cc);
  free = λ _. ap (option_map (λ (o : OpenRequest). o.number)) (free_there s.open_tags);
  opened = λ _. ap (option_map (λ (o : OpenRequest). o.number)) (get_or-set_same s.open_tags (lowest_free s.open_tags) (Some o) None l) ∙ ap Some number;
  others = λ t ne. ap (option_map (λ (o : OpenRequest). o.number)) (get_or-set_other s.open_tags (lowest_free s.open_tags) t (Some o) None ne);
  sized = λ _. ap size_in (get_or-set_same s.open_tags (lowest_free s.open_tags) (Some o) None l) ∙ size;
  kept = λ t k e. ap size_in (get_or-set_other s.open_tags (lowest_free s.open_tags) t (Some o) None
      (λ at. absurd (let z : open_number s t ≡ None = ap (open_number s) at ∙ ap (option_map (λ (o : OpenRequest). o.number)) (free_there s.open_tags) in cc)));
}

in_range : (s : RequesterView) → IsSound s → (lowest_free s.open_tags == 256) ≡ false → lowest_free s.open_tags < length s.open_tags
in_range s h e =
    let l : length s.open_tags ≡ 256 = h.tags in
    let b : lowest_free s.open_tags ≤ length s.open_tags = prefix_len-le-length _ s.open_tags in
    grind (arith, nat_tests)

single : (w : Width) → 4 * (size_of w / 4) ≡ size_of w
single widths.Four = refl
single widths.Eight = refl
single widths.Sixteen = refl

double : (w : Width) → 2 * (size_of w / 2) ≡ size_of w
double widths.Four = refl
double widths.Eight = refl
double widths.Sixteen = refl

opened_by : (s : RequesterView) (op : Op) → IsSound s → lacks_tag s op ≡ false → IsOpened s (tag_for s op) op (after_opened s (request_for s.port (tag_for s op) op))
opened_by s (ops.Read a dw f l) h e = opened_at s (ops.Read a dw f l) (record { number = s.next; size = 4 * dw }) refl (in_range s h e) refl refl
opened_by s (ops.FetchAdd a w x) h e = opened_at s (ops.FetchAdd a w x) (record { number = s.next; size = 4 * (size_of w / 4) }) refl (in_range s h e) refl (single w)
opened_by s (ops.Swap a w x) h e = opened_at s (ops.Swap a w x) (record { number = s.next; size = 4 * (size_of w / 4) }) refl (in_range s h e) refl (single w)
opened_by s (ops.Cas a w x y) h e = opened_at s (ops.Cas a w x y) (record { number = s.next; size = 2 * (size_of w / 2) }) refl (in_range s h e) refl (double w)
opened_by s (ops.Write a f l bytes) h e = record {
  next = refl;
  posted = λ p t. refl;
  free = λ n. absurd (cc);
  opened = λ n. absurd (cc);
  others = λ t ne. refl;
  sized = λ n. absurd (cc);
  kept = λ t k o. refl;
}

pub opened_is : (s : RequesterView) (op : Op) (n : ℕ) (t : TlpView) → IsSound s → prepared s op ≡ Ok (n, t) → IsOpened s t.tag op (after_opened s t)
opened_is s op n t h e =
    let r : IsReady s op n t = ready s op n t e in
    subst (λ (t : TlpView). IsOpened s t.tag op (after_opened s t)) (sym r.request) (opened_by s op h r.has_tag)

-- ---- a completion is finished

finished_as : (c : Option OpenRequest) (t : TlpView) (a : Answer) → finished_by c t ≡ Ok a → (o : OpenRequest) × (c ≡ Some o) × (answered o.number (reply_carried o.size t.kind t.body t.payload) ≡ Ok a)
finished_as None t a e = absurd (cc)
finished_as (Some o) t a e = (o, refl, e)

answered_as : (n : ℕ) (r : Option Reply) (a : Answer) → answered n r ≡ Ok a → (x : Reply) × (r ≡ Some x) × (a.number ≡ n) × (a.reply ≡ x)
answered_as n None a e = absurd (cc)
answered_as n (Some x) a e =
    let is : record { number = n; reply = x } ≡ a = cc in
    (x, refl, ap (λ (y : Answer). y.number) (sym is), ap (λ (y : Answer). y.reply) (sym is))

chosen : (b : Bool) (x : Option OpenRequest) (o : OpenRequest) → (if b then x else None) ≡ Some o → x ≡ Some o
chosen true x o e = e
chosen false x o e = absurd (cc)

if_some : (b : Bool) (x r : Reply) → (if b then Some x else None) ≡ Some r → x ≡ r
if_some true x r e = cc
if_some false x r e = absurd (cc)

pub reply_is : (size : ℕ) (k : Kind) (b : Body) (bytes : List ℕ) (r : Reply) → reply_carried size k b bytes ≡ Some r → reply_in k b bytes ≡ r
reply_is size kinds.CompletionData (bodies.Completion c statuses.Success n l) bytes r e = if_some (length bytes == size) (replies.Data (record { items = bytes })) r e
reply_is size kinds.CompletionData (bodies.Completion c statuses.Unsupported n l) bytes r e = absurd (cc)
reply_is size kinds.CompletionData (bodies.Completion c statuses.Aborted n l) bytes r e = absurd (cc)
reply_is size kinds.CompletionData (bodies.Request a f l) bytes r e = absurd (cc)
reply_is size kinds.Completion (bodies.Completion c statuses.Success n l) bytes r e = absurd (cc)
reply_is size kinds.Completion (bodies.Completion c statuses.Unsupported n l) bytes r e = cc
reply_is size kinds.Completion (bodies.Completion c statuses.Aborted n l) bytes r e = cc
reply_is size kinds.Completion (bodies.Request a f l) bytes r e = absurd (cc)
reply_is size kinds.MemoryRead b bytes r e = absurd (cc)
reply_is size kinds.MemoryWrite b bytes r e = absurd (cc)
reply_is size kinds.FetchAdd b bytes r e = absurd (cc)
reply_is size kinds.Swap b bytes r e = absurd (cc)
reply_is size kinds.Cas b bytes r e = absurd (cc)

-- a tag that is set to none is not open
closed_at : (tags : List (Option OpenRequest)) (t : ℕ) → get_or (slice_set tags t None) t None ≡ None
closed_at [] t = refl
closed_at (x ∷ xs) zero = refl
closed_at (x ∷ xs) (suc t) = closed_at xs t

pub record IsFinished (s : RequesterView) (t : TlpView) (a : Answer) : Type 0 where
  pub closed : IsClosed s t.tag a.number (after_finish s t)
  pub replied : a.reply ≡ reply_in t.kind t.body t.payload

pub finished_is : (s : RequesterView) (t : TlpView) (a : Answer) → finished s t ≡ Ok a → IsFinished s t a
finished_is s t a e =
    let (o, c, f) = finished_as (completed s t) t a e in
    let (x, r, number, reply) = answered_as o.number (reply_carried o.size t.kind t.body t.payload) a f in
    let there : get_or s.open_tags t.tag None ≡ Some o = chosen (is_ours s t) (get_or s.open_tags t.tag None) o c in
    record {
      closed = subst (λ (q : RequesterView). IsClosed s t.tag a.number q) (sym (ap (λ (r : Result Answer CompletionFault). closes r s t.tag) e)) (record {
        next = refl;
        was_open = ap (option_map (λ (o : OpenRequest). o.number)) there ∙ ap Some (sym number);
        closed = ap (option_map (λ (o : OpenRequest). o.number)) (closed_at s.open_tags t.tag);
        others = λ u ne. ap (option_map (λ (o : OpenRequest). o.number)) (get_or-set_other s.open_tags t.tag u None None ne);
        sizes = λ u ne. ap size_in (get_or-set_other s.open_tags t.tag u None None ne);
      });
      replied = reply ∙ sym (reply_is o.size t.kind t.body t.payload x r);
    }
