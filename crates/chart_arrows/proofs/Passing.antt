-- What a packet that enters a lane or leaves a queue leaves of the accounts.
use Rattle.std.proofs.Common.{◌≡◌, ◌∙◌, ◌≢◌, ℕ, zero, suc, ◌*◌, ◌/◌, Bool, true, false, List, refl, sym, ap, subst, Option, Some, None, Result, Ok, Err, arith}
use Rattle.std.specs.Prelude.{◌==◌, if◌then◌else◌, slice_get}
use Rattle.std.proofs.lemmas.Bool.{ne_eqb}
use Rattle.tlp_core.specs.Ops.{Op}
use Rattle.tlp_core.specs.declared.fault.TlpFault.{TlpFault}
use Rattle.tlp_core.specs.TlpView.{TlpView}
use Rattle.tlp_core.specs.Operation.{op_of, op_fault}
use Rattle.tlp_core.specs.Layout.{Spells, canonical}
use Rattle.seq_memory.specs.Entries.{Entry}
use Rattle.seq_memory.specs.History.{MemoryView}
use Rattle.requester_core.specs.Answers.{Answer}
use Rattle.requester_core.specs.declared.fault.SubmitRefusal.{SubmitRefusal}
use Rattle.requester_core.specs.Request.{request_for}
use Rattle.requester_core.specs.RequesterView.{RequesterView, tag_for, lacks_tag, prepared, prepared_by, after_opened, finished, after_finish}
use Rattle.switch_core.specs.Routing.{port_of}
use Rattle.flow_control.specs.Queue.{Item, is_takeable}
use Rattle.lane_core.specs.Content.{cargo_of, item_spelled}
use Rattle.lane_core.specs.Steps.{LaneEndsView, ReceiverEndView, SenderEndView, entered as entered_at, after_take}
use Rattle.fabric_steps.specs.Fabric.{Fabric}
use Rattle.fabric_steps.specs.Routed.{IsRouted}
use Rattle.fabric_steps.specs.declared.event.EventOf.TheVariants as events
use Rattle.fabric_steps.specs.declared.event.LaneName.{LaneName}
use Rattle.fabric_steps.specs.declared.event.LaneName.TheVariants as lanes
use Rattle.fabric_steps.specs.Event.{Seen}
use Rattle.fabric_steps.specs.declared.event.SeenOf.TheVariants as seen
use Rattle.fabric_steps.specs.declared.fault.Refusal.{Refusal}
use Rattle.fabric_steps.specs.declared.fault.Refusal.TheVariants as refusals
use Rattle.fabric_core.specs.Answers.{map_err, some_or, enter_on, item_at, submit_on, forward_on, collect_on, part_at, with_lane, with_requester, or_no_port, port_from, forward_to, destination_on, answer, SubmitFits, ForwardFits}
use Rattle.fabric_core.specs.Answers as parts
use Rattle.chart_rows.specs.declared.row.Carried.{Carried}
use Rattle.chart_links.specs.CourseView.{CourseView, known, taken, without, entered}
use Rattle.chart_links.specs.Lanes.{lane_at, lane_to, changed, asked_found, asked, request_of}
use Rattle.chart_arrows.specs.Accounts.{IsOf, IsSaid, AreAccountsOf}
use Rattle.chart_arrows.proofs.Lists.{HasSo}
use Rattle.chart_arrows.proofs.Parts.{Few, good, ok_or, in_set, few_with, ends_other, in_no_port, leads_away, of_ok, of_and, of_map, of_some}
use Rattle.chart_arrows.proofs.Courses.{becomes}
use Rattle.chart_arrows.proofs.Moves.{keeps, keeps_twice}
use Rattle.chart_arrows.proofs.Ends.{account_entered, account_taken, queue_said}
use Rattle.chart_arrows.proofs.Standing.{Accounts, other_fabric, memory_same, of_lane, packets_of, dllps_of}
use Rattle.chart_arrows.proofs.Links.{Kept}

-- ---- packets that enter a lane

-- what is entered is read back from its bytes
abbrev pub AreRead : Type 0
AreRead = (t : TlpView) (mark : ℕ) → Spells (canonical t) t → item_spelled (cargo_of t mark) ≡ Some (t, mark)

pub in_err : {A E : Type 0} (name : E → Refusal) (r : Result A E) (a : A) → map_err name r ≡ Ok a → r ≡ Ok a
in_err name (Ok x) a e = ap (λ (y : _). Ok y) (ap (ok_or x) e)
in_err name (Err x) a e = absurd cc

pub entered_by : (Q : SenderEndView → Type 0) (a b : Bool) (x : SenderEndView) (r1 r2 : Refusal) (y : SenderEndView) → (if a then (if b then good x else Err r1) else Err r2) ≡ good y → Q x → Q y
entered_by Q true true x r1 r2 y e q = of_ok Q x y e q
entered_by Q true false x r1 r2 y e q = absurd cc
entered_by Q false b x r1 r2 y e q = absurd cc

pub item_by : (b : Bool) (o : Option Item) (x : Item) → (if b then some_or refusals.NotTakeable o else Err refusals.NotTakeable) ≡ good x → o ≡ Some x
item_by true o x e = of_some refusals.NotTakeable o x e
item_by false o x e = absurd cc

pub item_is : (r : ReceiverEndView) (place : ℕ) (x : Item) → item_at r place ≡ Ok x → slice_get r.queue place ≡ Some x
item_is r place x e = item_by (is_takeable r.queue place) (slice_get r.queue place) x e

-- a request is of its operation
pub said_request : (h : List Entry) (t : TlpView) (mark port : ℕ) (op : Op) → op_of t ≡ Some op → port_of t ≡ port → IsSaid h (t, mark) (Some (request_of port mark op))
said_request h t mark port op is from =
    subst (λ (o : Option Op). IsOf h o (port_of t) mark (request_of port mark op)) (sym is) (ap (λ (p : ℕ). request_of p mark op) (sym from))

abbrev pub or_prepared : ℕ × TlpView → Result (ℕ × TlpView) SubmitRefusal → ℕ × TlpView
or_prepared d (Ok p) = p
or_prepared d (Err r) = d

pub prepared_is : (o : Option TlpFault) (a b : Bool) (number : ℕ) (t : TlpView) (p : ℕ × TlpView) → prepared_by o a b number t ≡ Ok p → t ≡ p.1
prepared_is (Some f) a b number t p e = absurd cc
prepared_is None true b number t p e = absurd cc
prepared_is None false true number t p e = absurd cc
prepared_is None false false number t p e = ap (λ (r : Result (ℕ × TlpView) SubmitRefusal). (or_prepared p r).1) e

pub prepared_from : (q : RequesterView) (op : Op) (p : ℕ × TlpView) → prepared q op ≡ Ok p → q.port * 256 ≡ p.1.requester
prepared_from q op p e = ap (λ (t : TlpView). t.requester) (prepared_is (op_fault op) (lacks_tag q op) (q.next == 4294967295) q.next (request_for q.port (tag_for q op) op) p e)

pub part_port : (f : Fabric) (port : ℕ) (q : RequesterView) → IsRouted f → part_at f.requesters port ≡ Ok q → q.port ≡ port
part_port f zero q routed has = absurd cc
part_port f (suc i) q routed has = routed.ports i q (in_set f.requesters i q refusals.NoSuchPart has)

pub port_back : (id port q : ℕ) → q * 256 ≡ id → q ≡ port → id / 256 ≡ port
port_back id port q is same = omega (arith, is, same)

pub lane_beside : (f : Fabric) (port : ℕ) (q : RequesterView) (lane : LaneName) → parts.lane_at (with_requester f port q) lane ≡ parts.lane_at f lane
lane_beside f port q (lanes.Up p) = refl
lane_beside f port q (lanes.Down p) = refl
lane_beside f port q lanes.Inward = refl
lane_beside f port q lanes.Outward = refl

pub submitted_by : AreRead → (cs : List CourseView) (row : Option ℕ) (f : Fabric) (port : ℕ) (op : Op) (q : RequesterView) (e : LaneEndsView) (p : ℕ × TlpView) (s : SenderEndView) → Few f → AreAccountsOf f cs
    → parts.lane_at f (lanes.Up port) ≡ Ok e → (op_of p.1 ≡ Some op) × Spells (canonical p.1) p.1 → port_of p.1 ≡ port → enter_on e.sender p.1 p.0 ≡ Ok s
    → Kept cs row (events.Submit port op) (seen.Submitted p.0, with_requester (with_lane f (lanes.Up port) (record e { sender = s })) port (after_opened q p.1))
submitted_by read cs row f port op q e p s few all has fits from went =
    entered_by
    (λ (s : SenderEndView). Kept cs row (events.Submit port op) (seen.Submitted p.0, with_requester (with_lane f (lanes.Up port) (record e { sender = s })) port (after_opened q p.1)))
    _ _ (entered_at e.sender p.1 p.0) _ _ s went
    (let k : Carried = request_of port p.0 op in
    let now : LaneEndsView = record e { sender = entered_at e.sender p.1 p.0 } in
    let g : Fabric = with_lane f (lanes.Up port) now in
    let later : List CourseView = changed (entered (Some k)) cs (lanes.Up port) in
    record {
      accounts = other_fabric f.memory.entries g (with_requester g port (after_opened q p.1)) later (lane_beside g port (after_opened q p.1))
          (of_lane f cs later (lanes.Up port) e now (entered (Some k)) few all has
          (λ c a. account_entered f.memory.entries e c p.1 p.0 k (read p.1 p.0 fits.1) (said_request f.memory.entries p.1 p.0 port op fits.0 from) a) (becomes cs (lanes.Up port) (entered (Some k))));
      wires = λ j. keeps packets_of (entered (Some k)) (λ c. refl) cs (lanes.Up port) j;
      backs = λ j. keeps dllps_of (entered (Some k)) (λ c. refl) cs (lanes.Up port) j;
    })

pub of_submit : AreRead → (cs : List CourseView) (row : Option ℕ) (f : Fabric) (port : ℕ) (op : Op) (b : Seen × Fabric) → Few f → IsRouted f → AreAccountsOf f cs
    → ((q : RequesterView) → part_at f.requesters port ≡ Ok q → SubmitFits q op) → answer f (events.Submit port op) ≡ Ok b → Kept cs row (events.Submit port op) b
of_submit read cs row f port op b few routed all fits eq =
    of_and (Kept cs row (events.Submit port op)) (part_at f.requesters port) _ b eq
    (λ q of_q is. of_and (Kept cs row (events.Submit port op)) (parts.lane_at f (lanes.Up port)) _ b is
    (λ e has was. of_map (Kept cs row (events.Submit port op)) (submit_on q e.sender op)
    (λ (x : ℕ × RequesterView × SenderEndView). (seen.Submitted x.0, with_requester (with_lane f (lanes.Up port) (record e { sender = x.2 })) port x.1)) b was
    (λ x on. of_and (λ (x : ℕ × RequesterView × SenderEndView). Kept cs row (events.Submit port op) (seen.Submitted x.0, with_requester (with_lane f (lanes.Up port) (record e { sender = x.2 })) port x.1))
    (map_err refusals.Submit (prepared q op)) _ x on
    (λ p made goes. of_map (λ (x : ℕ × RequesterView × SenderEndView). Kept cs row (events.Submit port op) (seen.Submitted x.0, with_requester (with_lane f (lanes.Up port) (record e { sender = x.2 })) port x.1))
    (enter_on e.sender p.1 p.0) _ x goes
    (λ s went. submitted_by read cs row f port op q e p s few all has
    ((fits q of_q).request p.0 p.1 (in_err refusals.Submit (prepared q op) p made))
    (port_back p.1.requester port q.port (prepared_from q op p (in_err refusals.Submit (prepared q op) p made)) (part_port f port q routed of_q))
    went)))))

-- ---- packets that leave a queue

-- what the chart says of a packet that is taken
pub record IsTaken (h : List Entry) (item : Item) (o : Option Carried) : Type 0 where
  pub carried : Carried
  pub is : o ≡ Some carried
  pub said : IsSaid h item (Some carried)

pub taken_by : (h : List Entry) (item : Item) (o : Option Carried) → IsSaid h item o → IsTaken h item o
taken_by h item None s = absurd s
taken_by h item (Some c) s = record { carried = c; is = refl; said = s }

pub is_taken : (h : List Entry) (f : Fabric) (cs : List CourseView) (lane : LaneName) (e : LaneEndsView) (place : ℕ) (item : Item) → Accounts h f cs → parts.lane_at f lane ≡ Ok e
    → slice_get e.receiver.queue place ≡ Some item → IsTaken h item (asked (taken place) None cs lane)
is_taken h f cs lane e place item all has there =
    let a = all lane e has in
    let k : HasSo (IsSaid h) item a.0.queue place = queue_said h e a.0 place item there a.2 in
    let is : asked (taken place) None cs lane ≡ k.y = ap (λ (o : Option CourseView). asked_found (taken place) None o) a.1 ∙ ap (λ (o : Option (Option Carried)). known o) k.there in
    taken_by h item (asked (taken place) None cs lane) (subst (λ (o : Option Carried). IsSaid h item o) (sym is) k.is)

-- the packet leaves one lane and enters another
pub passed_on : AreRead → (cs : List CourseView) (f : Fabric) (name to : LaneName) (place : ℕ) (e next : LaneEndsView) (item : Item) → Few f → AreAccountsOf f cs → name ≢ to
    → parts.lane_at f name ≡ Ok e → parts.lane_at f to ≡ Ok next → slice_get e.receiver.queue place ≡ Some item → Spells (canonical item.0) item.0
    → AreAccountsOf (with_lane (with_lane f name (record e { receiver = after_take e.receiver place })) to (record next { sender = entered_at next.sender item.0 item.1 }))
    (changed (entered (asked (taken place) None cs name)) (changed (without place) cs name) to)
passed_on read cs f name to place e next item few all ne has there item_there spelled =
    let h : List Entry = f.memory.entries in
    let left : LaneEndsView = record e { receiver = after_take e.receiver place } in
    let f1 : Fabric = with_lane f name left in
    let cs1 : List CourseView = changed (without place) cs name in
    let k : IsTaken h item (asked (taken place) None cs name) = is_taken h f cs name e place item all has item_there in
    let all1 : AreAccountsOf f1 cs1 = of_lane f cs cs1 name e left (without place) few all has (λ c a. account_taken h e c place a) (becomes cs name (without place)) in
    let still : parts.lane_at f1 to ≡ Ok next = ends_other f name to left ne ∙ there in
    let now : LaneEndsView = record next { sender = entered_at next.sender item.0 item.1 } in
    let said : IsSaid f1.memory.entries item (Some k.carried) = subst (λ (m : MemoryView). IsSaid m.entries item (Some k.carried)) (sym (memory_same f name left)) k.said in
    subst (λ (o : Option Carried). AreAccountsOf (with_lane f1 to now) (changed (entered o) cs1 to)) (sym k.is)
    (of_lane f1 cs1 (changed (entered (Some k.carried)) cs1 to) to next now (entered (Some k.carried)) (few_with f name left few) all1 still
    (λ c a. account_entered f1.memory.entries next c item.0 item.1 k.carried (read item.0 item.1 spelled) said a) (becomes cs1 to (entered (Some k.carried))))

pub to_same : (to : ℕ) → parts.lane_to to ≡ lane_to to
to_same zero = refl
to_same (suc port) =
    let no_zero : (suc port == 0) ≡ false = ne_eqb (suc port) 0 (λ z. omega (arith, z)) in
    rw no_zero refl

pub of_forward_to : AreRead → (cs : List CourseView) (row : Option ℕ) (f : Fabric) (name : LaneName) (place to : ℕ) (e : LaneEndsView) (b : Seen × Fabric) → Few f → AreAccountsOf f cs
    → ForwardFits e.receiver place → name ≢ parts.lane_to to → parts.lane_at f name ≡ Ok e → forward_to f name e place to ≡ Ok b → Kept cs row (events.Forward name place) b
of_forward_to read cs row f name place to e b few all fits ne has eq =
    of_and (Kept cs row (events.Forward name place)) (or_no_port (parts.lane_at f (parts.lane_to to))) _ b eq
    (λ next there is. of_map (Kept cs row (events.Forward name place)) (forward_on e.receiver place next.sender)
    (λ (x : ReceiverEndView × SenderEndView). (seen.To to, with_lane (with_lane f name (record e { receiver = x.0 })) (parts.lane_to to) (record next { sender = x.1 }))) b is
    (λ x on. of_and (λ (x : ReceiverEndView × SenderEndView). Kept cs row (events.Forward name place) (seen.To to, with_lane (with_lane f name (record e { receiver = x.0 })) (parts.lane_to to) (record next { sender = x.1 })))
    (item_at e.receiver place) _ x on
    (λ item found goes. of_map (λ (x : ReceiverEndView × SenderEndView). Kept cs row (events.Forward name place) (seen.To to, with_lane (with_lane f name (record e { receiver = x.0 })) (parts.lane_to to) (record next { sender = x.1 })))
    (enter_on next.sender item.0 item.1) _ x goes
    (λ s went. entered_by
    (λ (s : SenderEndView). Kept cs row (events.Forward name place) (seen.To to, with_lane (with_lane f name (record e { receiver = after_take e.receiver place })) (parts.lane_to to) (record next { sender = s })))
    _ _ (entered_at next.sender item.0 item.1) _ _ s went
    (record {
      accounts = subst (λ (l : LaneName). AreAccountsOf
          (with_lane (with_lane f name (record e { receiver = after_take e.receiver place })) (parts.lane_to to) (record next { sender = entered_at next.sender item.0 item.1 }))
          (changed (entered (asked (taken place) None cs name)) (changed (without place) cs name) l)) (to_same to)
          (passed_on read cs f name (parts.lane_to to) place e next item few all ne has (in_no_port (parts.lane_at f (parts.lane_to to)) next there) (item_is e.receiver place item found)
          (fits.spelled item.0 item.1 found));
      wires = λ k. keeps_twice packets_of (without place) (entered (asked (taken place) None cs name)) (λ c. refl) (λ c. refl) cs name (lane_to to) k;
      backs = λ k. keeps_twice dllps_of (without place) (entered (asked (taken place) None cs name)) (λ c. refl) (λ c. refl) cs name (lane_to to) k;
    })))))

pub of_forward : AreRead → (cs : List CourseView) (row : Option ℕ) (f : Fabric) (name : LaneName) (place : ℕ) (b : Seen × Fabric) → Few f → AreAccountsOf f cs
    → ((e : LaneEndsView) → parts.lane_at f name ≡ Ok e → ForwardFits e.receiver place) → answer f (events.Forward name place) ≡ Ok b → Kept cs row (events.Forward name place) b
of_forward read cs row f name place b few all fits eq =
    of_and (Kept cs row (events.Forward name place)) (port_from name) _ b eq
    (λ from leads is. of_and (Kept cs row (events.Forward name place)) (parts.lane_at f name) _ b is
    (λ e has was. of_and (Kept cs row (events.Forward name place)) (destination_on e.receiver place from) _ b was
    (λ to routed goes. of_forward_to read cs row f name place to e b few all (fits e has) (leads_away name from to leads) has goes)))

pub of_collect : (cs : List CourseView) (row : Option ℕ) (f : Fabric) (port : ℕ) (b : Seen × Fabric) → Few f → AreAccountsOf f cs → answer f (events.Collect port) ≡ Ok b
    → Kept cs row (events.Collect port) b
of_collect cs row f port b few all eq =
    of_and (Kept cs row (events.Collect port)) (part_at f.requesters port) _ b eq
    (λ q of_q is. of_and (Kept cs row (events.Collect port)) (parts.lane_at f (lanes.Down port)) _ b is
    (λ e has was. of_map (Kept cs row (events.Collect port)) (collect_on e.receiver q)
    (λ (x : Answer × ReceiverEndView × RequesterView). (seen.Collected x.0, with_requester (with_lane f (lanes.Down port) (record e { receiver = x.1 })) port x.2)) b was
    (λ x on. of_and (λ (x : Answer × ReceiverEndView × RequesterView). Kept cs row (events.Collect port) (seen.Collected x.0, with_requester (with_lane f (lanes.Down port) (record e { receiver = x.1 })) port x.2))
    (some_or refusals.Idle (slice_get e.receiver.queue 0)) _ x on
    (λ item found goes. of_map (λ (x : Answer × ReceiverEndView × RequesterView). Kept cs row (events.Collect port) (seen.Collected x.0, with_requester (with_lane f (lanes.Down port) (record e { receiver = x.1 })) port x.2))
    (map_err refusals.Strange (finished q item.0)) _ x goes
    (λ a went.
    let now : LaneEndsView = record e { receiver = after_take e.receiver 0 } in
    let g : Fabric = with_lane f (lanes.Down port) now in
    let later : List CourseView = changed (without 0) cs (lanes.Down port) in
    record {
      accounts = other_fabric f.memory.entries g (with_requester g port (after_finish q item.0)) later (lane_beside g port (after_finish q item.0))
          (of_lane f cs later (lanes.Down port) e now (without 0) few all has (λ c a. account_taken f.memory.entries e c 0 a) (becomes cs (lanes.Down port) (without 0)));
      wires = λ k. keeps packets_of (without 0) (λ c. refl) cs (lanes.Down port) k;
      backs = λ k. keeps dllps_of (without 0) (λ c. refl) cs (lanes.Down port) k;
    })))))
