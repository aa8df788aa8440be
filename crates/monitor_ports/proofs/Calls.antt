-- What each call keeps.
use Rattle.std.proofs.Common.{◌≡◌, ℕ, ◌+◌, ◌<◌, ◌≤◌, ◌==◌, ◌&&◌, Bool, true, false, cond, List, [], ◌∷◌, ◌++◌, length, get_or, Option, Some, None, refl, sym, ap, ◌∙◌, subst, arith, inl, inr, ◌⊎◌, append_assoc}
use Rattle.std.specs.Prelude.{slice_set, slice_get, position, replicate, nat_le, Result, Ok, Err, not, is_some, if◌then◌else◌}
use Rattle.std.proofs.lemmas.Bool.Decides.{nat_tests}
use Rattle.std.proofs.lemmas.List.{append-nil}
use Rattle.tlp_core.specs.Ops.{Op}
use Rattle.tlp_core.specs.declared.operation.OpOf.TheVariants as ops
use Rattle.tlp_core.specs.declared.packet.Kind.{Kind}
use Rattle.tlp_core.specs.declared.packet.Kind.TheVariants as kinds
use Rattle.tlp_core.specs.declared.packet.Body.{Body}
use Rattle.tlp_core.specs.declared.packet.Body.TheVariants as bodies
use Rattle.tlp_core.specs.declared.fault.TlpFault.{TlpFault}
use Rattle.tlp_core.specs.TlpView.{TlpView}
use Rattle.tlp_core.specs.Operation.{op_at, op_of, is_posted, is_completion}
use Rattle.tlp_core.specs.Faults.{reading}
use Rattle.seq_memory.specs.Entries.{Entry}
use Rattle.seq_memory.specs.Entries.{Reply}
use Rattle.requester_core.specs.RequesterView.{size_for}
use Rattle.history_words.specs.Records.{Record}
use Rattle.history_words.specs.declared.record.RecordOf.TheVariants as records
use Rattle.history_words.specs.Trace.{is_request}
use Rattle.monitor_ports.specs.declared.watched.OpenRequest.{OpenRequest}
use Rattle.monitor_ports.specs.declared.watched.Watched.{Watched}
use Rattle.monitor_ports.specs.declared.fault.MonitorFault.{MonitorFault}
use Rattle.monitor_ports.specs.declared.fault.MonitorFault.TheVariants as faults
use Rattle.monitor_ports.specs.Watched.{fresh, open_at, is_other, request_fault, opens, enables_of, after_request, reply_to, replied, answered_by, answered, closed}
use Rattle.monitor_ports.specs.Monitoring.{Monitor, Outcome, new, watched, refused, is_requester, packet_by, packet_from, opening_by, opening, asking, request_by, request, completing_by, completing, completion_by, completion, giving_up, given_up, acting_by, acting, acted}
use Rattle.monitor_ports.specs.Runs.{Call, Requests, Completes, GivesUp, Acts, after_call, record_if, recorded_by, recorded, IsWellFormed}
use Rattle.monitor_ports.proofs.Forms.{at_set}
use Rattle.monitor_ports.proofs.Kept.{at, Holds, Opens, sent_holds, said_holds, given_up_holds, new_holds}

in_range : (i : ℕ) → is_requester i ≡ true → i < 8
in_range i e = grind (arith, nat_tests)

-- ---- a request

some_is : (o p : OpenRequest) → ◌≡◌ {A = Option OpenRequest} (Some o) (Some p) → o ≡ p
some_is o p e = cc

op_is : (x op : Op) → ◌≡◌ {A = Option Op} (Some x) (Some op) → x ≡ op
op_is x op e = cc

not_posted : (x op : Op) → ◌≡◌ {A = Option Op} (Some x) (Some op) → is_posted x ≡ false → is_posted op ≡ false
not_posted x op e f = ap is_posted (sym (op_is x op e)) ∙ f

tagged : (tags : List (Option OpenRequest)) (t tag : ℕ) (made o : OpenRequest) (op : Op) → is_posted op ≡ false → get_or (slice_set tags t (Some made)) tag None ≡ Some o
    → ((tag ≡ t) × (o ≡ made) × (is_posted op ≡ false)) ⊎ (get_or tags tag None ≡ Some o)
tagged tags t tag made o op e f = elim (at_set tags t tag (Some made) o f) [
  | inl g ↦ inl (g.0, sym (some_is made o g.1), e)
  | inr g ↦ inr g.1
]

-- what a kind opens, where the operation is of its kind
opened_by : (k : Kind) (b : Body) (dw : ℕ) (bytes : List ℕ) (op : Op) (tags : List (Option OpenRequest)) (t tag : ℕ) (made o : OpenRequest) → op_at k b dw bytes ≡ Some op
    → get_or (opens k tags t made) tag None ≡ Some o → ((tag ≡ t) × (o ≡ made) × (is_posted op ≡ false)) ⊎ (get_or tags tag None ≡ Some o)
opened_by kinds.MemoryWrite b dw bytes op tags t tag made o e f = inr f
opened_by kinds.MemoryRead (bodies.Request a x y) dw bytes op tags t tag made o e f = tagged tags t tag made o op (not_posted _ op e refl) f
opened_by kinds.FetchAdd (bodies.Request a x y) dw bytes op tags t tag made o e f = tagged tags t tag made o op (not_posted _ op e refl) f
opened_by kinds.Swap (bodies.Request a x y) dw bytes op tags t tag made o e f = tagged tags t tag made o op (not_posted _ op e refl) f
opened_by kinds.Cas (bodies.Request a x y) dw bytes op tags t tag made o e f = tagged tags t tag made o op (not_posted _ op e refl) f
opened_by kinds.Completion (bodies.Request a x y) dw bytes op tags t tag made o e f = absurd (cc)
opened_by kinds.CompletionData (bodies.Request a x y) dw bytes op tags t tag made o e f = absurd (cc)
opened_by kinds.MemoryRead (bodies.Completion c s n l) dw bytes op tags t tag made o e f = absurd (cc)
opened_by kinds.FetchAdd (bodies.Completion c s n l) dw bytes op tags t tag made o e f = absurd (cc)
opened_by kinds.Swap (bodies.Completion c s n l) dw bytes op tags t tag made o e f = absurd (cc)
opened_by kinds.Cas (bodies.Completion c s n l) dw bytes op tags t tag made o e f = absurd (cc)
opened_by kinds.Completion (bodies.Completion c s n l) dw bytes op tags t tag made o e f = absurd (cc)
opened_by kinds.CompletionData (bodies.Completion c s n l) dw bytes op tags t tag made o e f = absurd (cc)

opens_it : (w : Watched) (t : TlpView) (op : Op) → op_of t ≡ Some op → Opens w (after_request w t) t.tag op
opens_it w t op e = record {
  more = refl;
  found = λ tag o f. elim (opened_by t.kind t.body t.length t.payload op w.open_tags t.tag tag (record { number = w.next; size = size_for t.kind t.length; enables = enables_of t.kind t.body }) o e f) [
    | inl g ↦ inl (g.0, ap (λ (o : OpenRequest). o.number) g.1, g.2)
    | inr g ↦ inr g
  ];
}

-- the requesters after a call, and the records with that of the call
abbrev Kept : Monitor → List Record → Result Record MonitorFault → Type 0
Kept m rs answer = Holds m.requesters (rs ++ record_if answer)

refused_keeps : (m : Monitor) (rs : List Record) (f : MonitorFault) → Holds m.requesters rs → Kept m rs (Err f)
refused_keeps m rs f h = subst (Holds m.requesters) (sym (append-nil rs)) h

opening_keeps : (m : Monitor) (rs : List Record) (i : ℕ) (t : TlpView) (op : Op) (f : Option MonitorFault) → Holds m.requesters rs → i < 8 → op_of t ≡ Some op
    → Kept (opening_by m i t op f).monitor rs (opening_by m i t op f).answer
opening_keeps m rs i t op (Some f) h lt e = refused_keeps m rs f h
opening_keeps m rs i t op None h lt e = sent_holds m.requesters rs h i t.tag m.acted op (after_request (watched m i) t) lt (opens_it (watched m i) t op e)

asking_keeps : (m : Monitor) (rs : List Record) (i : ℕ) (t : TlpView) (o : Option Op) → Holds m.requesters rs → i < 8 → op_of t ≡ o
    → Kept (asking m i t o).monitor rs (asking m i t o).answer
asking_keeps m rs i t None h lt e = refused_keeps m rs faults.NoRequest h
asking_keeps m rs i t (Some op) h lt e = opening_keeps m rs i t op (request_fault (watched m i) t) h lt e

request_keeps : (m : Monitor) (rs : List Record) (i : ℕ) (r : Result TlpView MonitorFault) → Holds m.requesters rs → ((t : TlpView) → r ≡ Ok t → i < 8)
    → Kept (request_by m i r).monitor rs (request_by m i r).answer
request_keeps m rs i (Err f) h range = refused_keeps m rs f h
request_keeps m rs i (Ok t) h range = asking_keeps m rs i t (op_of t) h (range t refl) refl

range_by : (i : ℕ) (b : Bool) (r : Result TlpView MonitorFault) (t : TlpView) → is_requester i ≡ b → (if b then r else Err faults.NoRequester) ≡ Ok t → i < 8
range_by i true r t e f = in_range i e
range_by i false r t e f = absurd cc

packet_range : (i : ℕ) (bytes : List ℕ) (t : TlpView) → packet_from i bytes ≡ Ok t → i < 8
packet_range i bytes t e = range_by i (is_requester i) (packet_by (reading bytes)) t refl e

-- ---- a completion

-- what is answered was open under the tag
record Answers (o : Option OpenRequest) (number : ℕ) : Type 0 where
  pub request : OpenRequest
  pub found : o ≡ Some request
  pub same : number ≡ request.number

pair_is : (p q : ℕ × Reply) → ◌≡◌ {A = Result (ℕ × Reply) MonitorFault} (Ok p) (Ok q) → p ≡ q
pair_is p q e = cc

replied_is : (number : ℕ) (r : Option Reply) (a : ℕ × Reply) → replied number r ≡ Ok a → a.0 ≡ number
replied_is number None a e = absurd cc
replied_is number (Some r) a e = ap (λ (p : ℕ × Reply). p.0) (sym (pair_is (number, r) a e))

answers_by : (b : Bool) (o : Option OpenRequest) (t : TlpView) (a : ℕ × Reply) → (if b then Err faults.OtherRequester else answered_by o t) ≡ Ok a → Answers o a.0
answers_by true o t a e = absurd cc
answers_by false None t a e = absurd cc
answers_by false (Some o) t a e = record { request = o; found = refl; same = replied_is o.number (reply_to o t) a e }

completing_keeps : (m : Monitor) (rs : List Record) (i : ℕ) (t : TlpView) (r : Result (ℕ × Reply) MonitorFault) → Holds m.requesters rs → i < 8 → answered (watched m i) t ≡ r
    → Kept (completing_by m i t.tag r).monitor rs (completing_by m i t.tag r).answer
completing_keeps m rs i t (Err f) h lt e = refused_keeps m rs f h
completing_keeps m rs i t (Ok a) h lt e =
    let g = answers_by (is_other (watched m i).id t.requester) (open_at (watched m i) t.tag) t a e in
    subst (λ (k : ℕ). Holds (slice_set m.requesters i (closed (watched m i) t.tag)) (rs ++ records.Ans i k a.1 m.acted ∷ [])) (sym g.same)
    (said_holds m.requesters rs h i t.tag m.acted g.request a.1 lt g.found)

of_kind_keeps : (m : Monitor) (rs : List Record) (i : ℕ) (t : TlpView) (b : Bool) → Holds m.requesters rs → i < 8
    → Kept (if b then completing m i t else refused m faults.NoCompletion).monitor rs (if b then completing m i t else refused m faults.NoCompletion).answer
of_kind_keeps m rs i t true h lt = completing_keeps m rs i t (answered (watched m i) t) h lt refl
of_kind_keeps m rs i t false h lt = refused_keeps m rs faults.NoCompletion h

completion_keeps : (m : Monitor) (rs : List Record) (i : ℕ) (r : Result TlpView MonitorFault) → Holds m.requesters rs → ((t : TlpView) → r ≡ Ok t → i < 8)
    → Kept (completion_by m i r).monitor rs (completion_by m i r).answer
completion_keeps m rs i (Err f) h range = refused_keeps m rs f h
completion_keeps m rs i (Ok t) h range = of_kind_keeps m rs i t (is_completion t.kind) h (range t refl)

-- ---- a tag is given up

giving_up_keeps : (m : Monitor) (rs : List Record) (i tag : ℕ) (b : Bool) → Holds m.requesters rs → i < 8 → is_some (open_at (watched m i) tag) ≡ b → Holds (giving_up m i tag).monitor.requesters rs
giving_up_keeps m rs i tag true h lt e = rw e (given_up_holds m.requesters rs h i tag lt)
giving_up_keeps m rs i tag false h lt e = rw e h

given_up_keeps : (m : Monitor) (rs : List Record) (i tag : ℕ) (b : Bool) → Holds m.requesters rs → is_requester i ≡ b → Holds (given_up m i tag).monitor.requesters rs
given_up_keeps m rs i tag true h e = rw e (giving_up_keeps m rs i tag (is_some (open_at (watched m i) tag)) h (in_range i e) refl)
given_up_keeps m rs i tag false h e = rw e h

-- ---- a request acts

if_same : (b : Bool) (x y : Outcome Entry) (ws : List Watched) → x.monitor.requesters ≡ ws → y.monitor.requesters ≡ ws → (if b then x else y).monitor.requesters ≡ ws
if_same true x y ws e f = e
if_same false x y ws e f = f

acting_by_same : (m : Monitor) (place : ℕ) (o : Option Entry) → (acting_by m place o).monitor.requesters ≡ m.requesters
acting_by_same m place None = refl
acting_by_same m place (Some e) = if_same (m.acted == 18446744073709551615) _ _ m.requesters refl refl

acting_same : (m : Monitor) (o : Option ℕ) → (acting m o).monitor.requesters ≡ m.requesters
acting_same m None = refl
acting_same m (Some place) = acting_by_same m place (slice_get m.waiting place)

acted_same : (m : Monitor) (i number : ℕ) → (acted m i number).monitor.requesters ≡ m.requesters
acted_same m i number = if_same (is_requester i) _ _ m.requesters (acting_same m (position (is_request i number) m.waiting)) refl

-- ---- all calls

call_keeps : (m : Monitor) (rs : List Record) (call : Call) → Holds m.requesters rs → Holds (after_call m call).requesters (rs ++ recorded_by m call)
call_keeps m rs (Requests i bytes) h = request_keeps m rs i (packet_from i bytes) h (packet_range i bytes)
call_keeps m rs (Completes i bytes) h = completion_keeps m rs i (packet_from i bytes) h (packet_range i bytes)
call_keeps m rs (GivesUp i tag) h = subst (Holds (given_up m i tag).monitor.requesters) (sym (append-nil rs)) (given_up_keeps m rs i tag (is_requester i) h refl)
call_keeps m rs (Acts i number) h = subst (λ ws. Holds ws (rs ++ [])) (sym (acted_same m i number)) (subst (Holds m.requesters) (sym (append-nil rs)) h)

calls_keep : (calls : List Call) (m : Monitor) (rs : List Record) → Holds m.requesters rs → IsWellFormed (rs ++ recorded m calls)
calls_keep [] m rs h = subst IsWellFormed (sym (append-nil rs)) h.formed
calls_keep (call ∷ calls) m rs h =
    subst IsWellFormed (append_assoc rs (recorded_by m call) (recorded (after_call m call) calls)) (calls_keep calls (after_call m call) (rs ++ recorded_by m call) (call_keeps m rs call h))

pub well_formed : (is_trace : Bool) (calls : List Call) → IsWellFormed (recorded (new is_trace) calls)
well_formed is_trace calls = calls_keep calls (new is_trace) [] new_holds

-- ---- the operation of a submission

record_is : (r s : Record) → ◌≡◌ {A = Result Record MonitorFault} (Ok r) (Ok s) → r ≡ s
record_is r s e = cc

opening_sub : (m : Monitor) (i : ℕ) (t : TlpView) (op : Op) (f : Option MonitorFault) (r : Record) → (opening_by m i t op f).answer ≡ Ok r → r ≡ records.Sub i (watched m i).next op m.acted
opening_sub m i t op (Some f) r e = absurd cc
opening_sub m i t op None r e = sym (record_is _ r e)

asking_sub : (m : Monitor) (i : ℕ) (t : TlpView) (o : Option Op) (r : Record) → (asking m i t o).answer ≡ Ok r → (op : Op) × (o ≡ Some op) × (r ≡ records.Sub i (watched m i).next op m.acted)
asking_sub m i t None r e = absurd cc
asking_sub m i t (Some op) r e = (op, refl, opening_sub m i t op (request_fault (watched m i) t) r e)

abbrev HasOperation : Monitor → ℕ → Result TlpView TlpFault → Record → Type 0
HasOperation m i p r = (t : TlpView) × (op : Op) × (p ≡ Ok t) × (op_of t ≡ Some op) × (r ≡ records.Sub i (watched m i).next op m.acted)

reading_sub : (m : Monitor) (i : ℕ) (b : Bool) (p : Result TlpView TlpFault) (r : Record) → (request_by m i (if b then packet_by p else Err faults.NoRequester)).answer ≡ Ok r → HasOperation m i p r
reading_sub m i false p r e = absurd cc
reading_sub m i true (Err f) r e = absurd cc
reading_sub m i true (Ok t) r e = let a = asking_sub m i t (op_of t) r e in (t, a.0, refl, a.1, a.2)

pub submission_is : (m : Monitor) (i : ℕ) (bytes : List ℕ) (r : Record) → (request m i bytes).answer ≡ Ok r → HasOperation m i (reading bytes) r
submission_is m i bytes r e = reading_sub m i (is_requester i) (reading bytes) r e
