-- What a request that is served leaves of the accounts.
use Rattle.std.proofs.Common.{◌≡◌, ◌∙◌, ℕ, ◌+◌, true, List, [], ◌∷◌, ◌++◌, length, refl, sym, ap, subst, Option, Some, None, Ok}
use Rattle.std.specs.Prelude.{slice_get, is_some, option_and_then}
use Rattle.std.specs.Option.{option_map_or}
use Rattle.tlp_core.specs.Ops.{Op}
use Rattle.tlp_core.specs.declared.operation.OpOf.TheVariants as ops
use Rattle.tlp_core.specs.declared.packet.Kind.{Kind}
use Rattle.tlp_core.specs.declared.packet.Kind.TheVariants as kinds
use Rattle.tlp_core.specs.declared.packet.Body.{Body}
use Rattle.tlp_core.specs.declared.packet.Body.TheVariants as bodies
use Rattle.tlp_core.specs.TlpView.{TlpView}
use Rattle.tlp_core.specs.Operation.{op_at, op_of}
use Rattle.tlp_core.specs.Layout.{Spells, canonical}
use Rattle.seq_memory.specs.Entries.{Entry}
use Rattle.seq_memory.specs.declared.Refusal.{Refusal as MemoryRefusal}
use Rattle.seq_memory.specs.declared.Refusal.TheVariants as memory_refusals
use Rattle.seq_memory.specs.History.{MemoryView, bytes_of}
use Rattle.seq_memory.specs.Step.{refusal, read_back, data_of, answer_by, answer as reply_to}
use Rattle.requester_core.specs.Request.{kind_for}
use Rattle.completer_core.specs.Completion.{completion_for, unless_posted, completion_of}
use Rattle.completer_core.specs.Serving.{request_entry, with_entry, after_serving, completion_to}
use Rattle.switch_core.specs.Routing.{port_of}
use Rattle.flow_control.specs.Queue.{Item}
use Rattle.lane_core.specs.Steps.{LaneEndsView, ReceiverEndView, SenderEndView, entered as entered_at, after_take}
use Rattle.lane_core.specs.Calls.{content, on_the_way}
use Rattle.fabric_steps.specs.Fabric.{Fabric}
use Rattle.fabric_steps.specs.Routed.{IsRouted}
use Rattle.fabric_steps.specs.declared.event.EventOf.TheVariants as events
use Rattle.fabric_steps.specs.declared.event.LaneName.{LaneName}
use Rattle.fabric_steps.specs.declared.event.LaneName.TheVariants as lanes
use Rattle.fabric_steps.specs.Event.{Seen}
use Rattle.fabric_steps.specs.declared.event.SeenOf.TheVariants as seen
use Rattle.fabric_core.specs.Answers.{item_at, serve_on, act_on, enter_if_any, with_lane, answer, ServeFits}
use Rattle.fabric_core.specs.Answers as parts
use Rattle.chart_rows.specs.declared.row.Carried.{Carried}
use Rattle.chart_links.specs.CourseView.{CourseView, taken, without, entered}
use Rattle.chart_links.specs.Lanes.{lane_at, changed, asked, request_of, completion_of as completion_said, with_completion}
use Rattle.chart_arrows.specs.Accounts.{IsOf, IsSaid, IsAccountOf, AreAccountsOf}
use Rattle.chart_arrows.proofs.Lists.{get_before, get_last}
use Rattle.chart_arrows.proofs.Parts.{Few, few_with, of_ok, of_and, of_map}
use Rattle.chart_arrows.proofs.Courses.{becomes, stays}
use Rattle.chart_arrows.proofs.Ends.{account_entered, account_taken}
use Rattle.chart_arrows.proofs.Standing.{Accounts, one_lane, other_fabric, longer, of_lane, packets_of, dllps_of, completion_still}
use Rattle.chart_arrows.proofs.Links.{Kept}
use Rattle.chart_arrows.proofs.Passing.{AreRead, entered_by, item_is, IsTaken, is_taken}

-- ---- a request that is served

-- the completion, and what the chart says of it
abbrev pub IsCompletion : List Entry → ℕ → Option TlpView → Option Carried → Type 0
IsCompletion h mark None None = Unit {0}
IsCompletion h mark (Some t) (Some c) = IsSaid h (t, mark) (Some c)
IsCompletion h mark _ _ = ⊥

-- the parts of a request's packet
abbrev pub or_op : Op → Option Op → Op
or_op d (Some op) = op
or_op d None = d

pub kind_by : (kind : Kind) (body : Body) (dw : ℕ) (bytes : List ℕ) (op : Op) → op_at kind body dw bytes ≡ Some op → kind ≡ kind_for op
kind_by kinds.MemoryRead (bodies.Request a f l) dw bytes op e = ap (λ (o : Option Op). kind_for (or_op op o)) e
kind_by kinds.MemoryWrite (bodies.Request a f l) dw bytes op e = ap (λ (o : Option Op). kind_for (or_op op o)) e
kind_by kinds.FetchAdd (bodies.Request a f l) dw bytes op e = ap (λ (o : Option Op). kind_for (or_op op o)) e
kind_by kinds.Swap (bodies.Request a f l) dw bytes op e = ap (λ (o : Option Op). kind_for (or_op op o)) e
kind_by kinds.Cas (bodies.Request a f l) dw bytes op e = ap (λ (o : Option Op). kind_for (or_op op o)) e
kind_by kinds.Completion (bodies.Request a f l) dw bytes op e = absurd cc
kind_by kinds.CompletionData (bodies.Request a f l) dw bytes op e = absurd cc
kind_by kinds.MemoryRead (bodies.Completion c s n l) dw bytes op e = absurd cc
kind_by kinds.MemoryWrite (bodies.Completion c s n l) dw bytes op e = absurd cc
kind_by kinds.FetchAdd (bodies.Completion c s n l) dw bytes op e = absurd cc
kind_by kinds.Swap (bodies.Completion c s n l) dw bytes op e = absurd cc
kind_by kinds.Cas (bodies.Completion c s n l) dw bytes op e = absurd cc
kind_by kinds.Completion (bodies.Completion c s n l) dw bytes op e = absurd cc
kind_by kinds.CompletionData (bodies.Completion c s n l) dw bytes op e = absurd cc

-- what the chart says of the completion of a request that isn't posted
abbrev pub completed : ℕ → ℕ → Op → Carried
completed port mark op = record (request_of port mark op) { is_completion = true }

pub replied : (h : List Entry) (t : TlpView) (mark : ℕ) (op : Op) (place : ℕ) (r : Option MemoryRefusal) (bytes : List ℕ) → slice_get h place ≡ Some (request_entry t mark op)
    → IsCompletion h mark (completion_for t (answer_by r (data_of bytes))) (Some (completed (port_of t) mark op))
replied h t mark op place None bytes acted = (op, (place, acted), refl)
replied h t mark op place (Some memory_refusals.Aborted) bytes acted = (op, (place, acted), refl)
replied h t mark op place (Some memory_refusals.Unsupported) bytes acted = (op, (place, acted), refl)

pub completed_by : (h : List Entry) (t : TlpView) (mark : ℕ) (op : Op) (place : ℕ) (r : Option MemoryRefusal) (old : List ℕ) → slice_get h place ≡ Some (request_entry t mark op)
    → IsCompletion h mark (unless_posted (kind_for op) (completion_for t (answer_by r (read_back op old)))) (completion_said (Some (request_of (port_of t) mark op)))
completed_by h t mark (ops.Read a dw f l) place r old acted = replied h t mark (ops.Read a dw f l) place r _ acted
completed_by h t mark (ops.Write a f l bytes) place r old acted = tt
completed_by h t mark (ops.FetchAdd a w x) place r old acted = replied h t mark (ops.FetchAdd a w x) place r old acted
completed_by h t mark (ops.Swap a w x) place r old acted = replied h t mark (ops.Swap a w x) place r old acted
completed_by h t mark (ops.Cas a w x y) place r old acted = replied h t mark (ops.Cas a w x y) place r old acted

pub completion_is : (h : List Entry) (m : MemoryView) (t : TlpView) (mark : ℕ) (op : Op) (place : ℕ) → op_of t ≡ Some op → slice_get h place ≡ Some (request_entry t mark op)
    → IsCompletion h mark (completion_to m t) (completion_said (Some (request_of (port_of t) mark op)))
completion_is h m t mark op place is acted =
    subst (λ (o : Option TlpView). IsCompletion h mark o (completion_said (Some (request_of (port_of t) mark op)))) (sym (ap (λ (o : Option Op). option_and_then (λ op. completion_of t (reply_to m.base m.block (bytes_of m) op)) o) is))
    (subst (λ (k : Kind). IsCompletion h mark (unless_posted k (completion_for t (reply_to m.base m.block (bytes_of m) op))) (completion_said (Some (request_of (port_of t) mark op))))
    (sym (kind_by t.kind t.body t.length t.payload op is))
    (completed_by h t mark op place (refusal m.base (length (bytes_of m)) m.block op) _ acted))

-- the request of a chart's packet
pub request_said : (h : List Entry) (t : TlpView) (mark : ℕ) (op : Op) (c : Carried) → op_of t ≡ Some op → IsSaid h (t, mark) (Some c) → c ≡ request_of (port_of t) mark op
request_said h t mark op c is said = subst (λ (o : Option Op). IsOf h o (port_of t) mark c) is said

pub in_content : (e : LaneEndsView) (place : ℕ) (item : Item) → slice_get e.receiver.queue place ≡ Some item → slice_get (content e) place ≡ Some item
in_content e place item is = get_before e.receiver.queue (on_the_way e) place item is

-- each request that the memory's lane holds asks for an operation
abbrev pub AreAsking : Type 0
AreAsking = (f : Fabric) (place mark : ℕ) (t : TlpView) → IsRouted f → slice_get (content f.inward) place ≡ Some (t, mark) → is_some (op_of t) ≡ true

pub some_of : {X : Type 0} (o : Option X) → is_some o ≡ true → (x : X) × (o ≡ Some x)
some_of None e = absurd cc
some_of (Some x) e = (x, refl)

-- the same sender, put back
pub put_back : (h : List Entry) (e : LaneEndsView) (c : CourseView) → IsAccountOf h e c → IsAccountOf h (record e { sender = e.sender }) c
put_back h e c a = record { acked = a.acked; kept = a.kept; place = a.place; replays = a.replays; wire = a.wire; back = a.back; queue = a.queue }

-- its completion, if it has one, enters the lane to the switch
pub answered : AreRead → (f : Fabric) (h : List Entry) (cs : List CourseView) (mark : ℕ) (t : Option TlpView) (k : Option Carried) (s : SenderEndView) → Few f → Accounts h f cs → IsCompletion h mark t k
    → ((c : TlpView) → t ≡ Some c → Spells (canonical c) c) → enter_if_any f.outward.sender t mark ≡ Ok s
    → Accounts h (with_lane f lanes.Outward (record f.outward { sender = s })) (with_completion cs k)
answered read f h cs mark None None s few all is spelled went =
    of_ok (λ (s : SenderEndView). Accounts h (with_lane f lanes.Outward (record f.outward { sender = s })) cs) f.outward.sender s went
    (one_lane h f cs cs lanes.Outward f.outward (record f.outward { sender = f.outward.sender }) (λ c. c) few all refl (λ c a. put_back h f.outward c a) (stays cs 8))
answered read f h cs mark None (Some k) s few all is spelled went = absurd is
answered read f h cs mark (Some t) None s few all is spelled went = absurd is
answered read f h cs mark (Some t) (Some k) s few all is spelled went =
    entered_by (λ (s : SenderEndView). Accounts h (with_lane f lanes.Outward (record f.outward { sender = s })) (changed (entered (Some k)) cs lanes.Outward)) _ _ (entered_at f.outward.sender t mark) _ _ s went
    (one_lane h f cs (changed (entered (Some k)) cs lanes.Outward) lanes.Outward f.outward (record f.outward { sender = entered_at f.outward.sender t mark }) (entered (Some k)) few all refl
    (λ c a. account_entered h f.outward c t mark k (read t mark (spelled t refl)) is a) (becomes cs lanes.Outward (entered (Some k))))

pub three_parts : (f : Fabric) (m : MemoryView) (left out : LaneEndsView) (lane : LaneName)
    → parts.lane_at (record f { memory = m; inward = left; outward = out }) lane ≡ parts.lane_at (with_lane (with_lane f lanes.Inward left) lanes.Outward out) lane
three_parts f m left out (lanes.Up p) = refl
three_parts f m left out (lanes.Down p) = refl
three_parts f m left out lanes.Inward = refl
three_parts f m left out lanes.Outward = refl

pub served_by : AreRead → (cs : List CourseView) (row : Option ℕ) (f : Fabric) (place index : ℕ) (item : Item) (op : Op) (s : SenderEndView) → Few f → AreAccountsOf f cs
    → slice_get f.inward.receiver.queue place ≡ Some item → op_of item.0 ≡ Some op → ((c : TlpView) → completion_to f.memory item.0 ≡ Some c → Spells (canonical c) c)
    → enter_if_any f.outward.sender (completion_to f.memory item.0) item.1 ≡ Ok s
    → Kept cs row (events.Serve place)
    (seen.At index, record f { memory = after_serving f.memory item.0 item.1; inward = record f.inward { receiver = after_take f.inward.receiver place }; outward = record f.outward { sender = s } })
served_by read cs row f place index item op s few all there is spelled went =
    let h : List Entry = f.memory.entries in
    let x : Entry = request_entry item.0 item.1 op in
    let left : LaneEndsView = record f.inward { receiver = after_take f.inward.receiver place } in
    let out : LaneEndsView = record f.outward { sender = s } in
    let f1 : Fabric = with_lane f lanes.Inward left in
    let f2 : Fabric = record f { memory = after_serving f.memory item.0 item.1; inward = left; outward = out } in
    let cs1 : List CourseView = changed (without place) cs lanes.Inward in
    let k : IsTaken h item (asked (taken place) None cs lanes.Inward) = is_taken h f cs lanes.Inward f.inward place item all refl there in
    let request : Carried = request_of (port_of item.0) item.1 op in
    let said : asked (taken place) None cs lanes.Inward ≡ Some request = k.is ∙ ap (λ (c : Carried). Some c) (request_said h item.0 item.1 op k.carried is k.said) in
    let all1 : Accounts h f1 cs1 = of_lane f cs cs1 lanes.Inward f.inward left (without place) few all refl (λ c a. account_taken h f.inward c place a) (becomes cs lanes.Inward (without place)) in
    let all2 : Accounts (h ++ x ∷ []) (with_lane f1 lanes.Outward out) (with_completion cs1 (completion_said (Some request))) =
    answered read f1 (h ++ x ∷ []) cs1 item.1 (completion_to f.memory item.0) (completion_said (Some request)) s (few_with f lanes.Inward left few) (longer h x f1 cs1 all1)
    (completion_is (h ++ x ∷ []) f.memory item.0 item.1 op (length h) is (get_last h x)) spelled went in
    let entries : f2.memory.entries ≡ h ++ x ∷ [] = ap (λ (o : Option Op). (option_map_or (λ (op : Op). with_entry f.memory (request_entry item.0 item.1 op)) o f.memory).entries) is in
    record {
      accounts = subst (λ (o : Option Carried). AreAccountsOf f2 (with_completion cs1 (completion_said o))) (sym said)
          (subst (λ (h' : List Entry). Accounts h' f2 (with_completion cs1 (completion_said (Some request)))) (sym entries)
          (other_fabric (h ++ x ∷ []) (with_lane f1 lanes.Outward out) f2 (with_completion cs1 (completion_said (Some request))) (three_parts f f2.memory left out) all2));
      wires = λ k. completion_still packets_of (λ place c. refl) (λ x c. refl) k cs place (completion_said (asked (taken place) None cs lanes.Inward));
      backs = λ k. completion_still dllps_of (λ place c. refl) (λ x c. refl) k cs place (completion_said (asked (taken place) None cs lanes.Inward));
    }

pub of_serve : AreRead → AreAsking → (cs : List CourseView) (row : Option ℕ) (f : Fabric) (place : ℕ) (b : Seen × Fabric) → Few f → IsRouted f → AreAccountsOf f cs
    → ServeFits f.inward.receiver place f.memory → answer f (events.Serve place) ≡ Ok b → Kept cs row (events.Serve place) b
of_serve read asking cs row f place b few routed all fits eq =
    of_map (Kept cs row (events.Serve place)) (serve_on f.inward.receiver place f.memory f.outward.sender)
    (λ (x : ℕ × ReceiverEndView × MemoryView × SenderEndView). (seen.At x.0, record f { memory = x.2; inward = record f.inward { receiver = x.1 }; outward = record f.outward { sender = x.3 } })) b eq
    (λ x on. of_and (λ (x : ℕ × ReceiverEndView × MemoryView × SenderEndView). Kept cs row (events.Serve place) (seen.At x.0, record f { memory = x.2; inward = record f.inward { receiver = x.1 }; outward = record f.outward { sender = x.3 } }))
    (item_at f.inward.receiver place) _ x on
    (λ item found goes. of_map (λ (x : ℕ × ReceiverEndView × MemoryView × SenderEndView). Kept cs row (events.Serve place) (seen.At x.0, record f { memory = x.2; inward = record f.inward { receiver = x.1 }; outward = record f.outward { sender = x.3 } }))
    (act_on f.memory item.0 item.1 f.outward.sender) _ x goes
    (λ y acts. of_map (λ (y : ℕ × MemoryView × SenderEndView). Kept cs row (events.Serve place) (seen.At y.0, record f { memory = y.1; inward = record f.inward { receiver = after_take f.inward.receiver place }; outward = record f.outward { sender = y.2 } }))
    (enter_if_any f.outward.sender (completion_to f.memory item.0) item.1) _ y acts
    (λ s went.
    let there = item_is f.inward.receiver place item found in
    let asks = some_of (op_of item.0) (asking f place item.1 item.0 routed (in_content f.inward place item there)) in
    served_by read cs row f place (length f.memory.entries) item asks.0 s few all there asks.1 (λ c is. fits.spelled item.0 item.1 c found is) went))))
