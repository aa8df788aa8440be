-- A lane whose call ended in one of two ways, and what follows where it is right.
use Rattle.std.proofs.Common.{◌≡◌, ℕ, ◌+◌, ◌-◌, ◌/◌, ◌%◌, ◌<◌, ◌≤◌, All, Bool, true, false, List, [], ◌∷◌, ◌++◌, length, take, drop, refl, sym, ◌∙◌, ap, subst, arith, Result, Ok, Err, OnOk, OnErr, IfOk, IsOk, Option, Some, None}
use Rattle.std.specs.Prelude.{remove, nat_lt, if◌then◌else◌, ◌&&◌}
use Rattle.std.proofs.Math.Nat.{lt_of_not-le}
use Rattle.std.proofs.lemmas.List.{append-nil, append_assoc, drop_all, length-drop}
use Rattle.std.proofs.lemmas.List.Elements.{All-drop}
use Rattle.std.proofs.lemmas.List.Edits.{remove-append_left}
use Rattle.std.proofs.lemmas.Bool.Decides.{nat_tests}
use Rattle.tlp_core.specs.TlpView.{TlpView}
use Rattle.tlp_core.specs.Layout.{Spells, canonical}
use Rattle.dllp_core.specs.declared.packet.Dllp.{Dllp}
use Rattle.dllp_core.specs.declared.packet.Dllp.TheVariants.{Ack, Nak, Update}
use Rattle.link_replay.specs.CargoView.{CargoView}
use Rattle.link_replay.specs.SenderView.{next_number}
use Rattle.link_replay.specs.declared.receiver.Reception.TheVariants.{Accept, Duplicate, NakNow, Quiet}
use Rattle.flow_control.specs.declared.needs.Need.{Need}
use Rattle.flow_control.specs.declared.limits.LaneCredits.{LaneCredits}
use Rattle.flow_control.specs.Limits.{IsInLimits}
use Rattle.flow_control.specs.Needs.{need_of}
use Rattle.flow_control.specs.Credits.{gate_covers}
use Rattle.flow_control.specs.Queue.{Item, first_passes, is_takeable}
use Rattle.lane_core.specs.declared.packet.WirePacket.{WirePacket}
use Rattle.lane_core.specs.declared.packet.LaneRefusal.{LaneRefusal}
use Rattle.lane_core.specs.declared.packet.Fate.{Fate}
use Rattle.lane_core.specs.declared.packet.Fate.TheVariants.{Good, Failed, Lost}
use Rattle.lane_core.specs.declared.packet.Arrival.{Arrival}
use Rattle.lane_core.specs.declared.packet.Arrival.TheVariants.{Answered, Gone}
use Rattle.lane_core.specs.declared.packet.DllpKind.{DllpKind}
use Rattle.lane_core.specs.declared.packet.DllpKind.TheVariants as kinds
use Rattle.tlp_core.specs.Faults.{reading}
use Rattle.tlp_core.specs.declared.fault.TlpFault.{TlpFault}
use Rattle.lane_core.specs.Content.{item_read, item_spelled, items_of, IsSpelled, wire_bytes, received_of, unaccepted_of}
use Rattle.lane_core.specs.Steps.{LaneEndsView, SenderEndView, ReceiverEndView, new_lane, may_enter, entered, with_room, all_but_first, delivered, arrival_of, taken_on, queue_with, after_deliver, is_expected, seen_by, dllp_seen, after_take}
use Rattle.lane_core.specs.Calls.{Call, MakeRoom, Release, Enter, Transmit, Deliver, SendDllp, DeliverDllp, Timer, Retrained, Take, IsCall, AreCalls, after_call, after_calls, list_of, accepted_from, on_the_way, content, content_after, IsRightWith, IsRight, AcceptsFirst}
use Rattle.lane_core.proofs.Below.{IsRead}
use Rattle.lane_core.proofs.UnderWay.{AreNumbered}
use Rattle.lane_core.proofs.Right.{taken_first}
use Rattle.lane_core.proofs.Sound.{arrival_accepts, answers_in, IsSound, named, enter_one, run_sound, new_sound, deliver_right, deliver_dllp_right}

pub ok_or : {A E X : Type 0} (P : X → Type 0) (r : Result A E) (x ok err : X) → OnOk r (x ≡ ok) → OnErr r (x ≡ err) →
    ((a : A) → r ≡ Ok a → P ok) → P err → P x
ok_or P (Ok a) x ok err h k p q = subst P (sym h) (p a refl)
ok_or P (Err e) x ok err h k p q = subst P (sym k) q

pub when_ok : {A E P : Type 0} (r : Result A E) → IsOk r → OnOk r P → P
when_ok (Ok a) i h = h
when_ok (Err e) i h = cc

pub of_ok : {A E P : Type 0} (r : Result A E) (a : A) → r ≡ Ok a → OnOk r P → P
of_ok (Ok b) a e h = h
of_ok (Err x) a e h = cc

pub both_or : {A E X Y : Type 0} (P : X → Y → Type 0) (r : Result A E) (x ok err : X) (y fine bad : Y) →
    OnOk r (x ≡ ok) → OnOk r (y ≡ fine) → OnErr r (x ≡ err) → OnErr r (y ≡ bad) → P ok fine → P err bad → P x y
both_or P (Ok a) x ok err y fine bad h h' k k' p q = subst (λ x'. P x' y) (sym h) (subst (λ y'. P ok y') (sym h') p)
both_or P (Err e) x ok err y fine bad h h' k k' p q = subst (λ x'. P x' y) (sym k) (subst (λ y'. P err y') (sym k') q)

-- ---- four ends that are right

calls_more : (calls : List Call) (call : Call) → AreCalls calls → IsCall call → AreCalls (calls ++ call ∷ [])
calls_more [] call k i = (i, tt)
calls_more (c ∷ calls) call k i = (k.0, calls_more calls call k.1 i)

one_more : (e : LaneEndsView) (calls : List Call) (call : Call) → after_calls e (calls ++ call ∷ []) ≡ after_call (after_calls e calls) call
one_more e [] call = refl
one_more e (c ∷ calls) call = one_more (after_call e c) calls call

pub right_with : (credits : LaneCredits) (e : LaneEndsView) (call : Call) → IsCall call → IsRightWith credits e → IsRightWith credits (after_call e call)
right_with credits e call i r =
    record {
      limits = r.limits;
      calls = r.calls ++ call ∷ [];
      are_calls = calls_more r.calls call r.are_calls i;
      leads = one_more (new_lane credits) r.calls call ∙ ap (λ (m : LaneEndsView). after_call m call) r.leads;
    }

pub right_by : (e : LaneEndsView) (call : Call) → IsCall call → IsRight e → IsRight (after_call e call)
right_by e call i r = record { credits = r.credits; right = right_with r.credits e call i r.right }

pub new_right_with : (credits : LaneCredits) → IsInLimits credits → IsRightWith credits (new_lane credits)
new_right_with credits l = record { limits = l; calls = []; are_calls = tt; leads = refl }

pub new_right : (credits : LaneCredits) → IsInLimits credits → IsRight (new_lane credits)
new_right credits l = record { credits = credits; right = new_right_with credits l }

pub sound : IsRead → (e : LaneEndsView) → IsRight e → IsSound e
sound read e r = subst (λ (m : LaneEndsView). IsSound m) r.right.leads (run_sound read (new_lane r.credits) r.right.calls r.right.are_calls (new_sound r.credits)).0

by_test : (p q : LaneEndsView) (b : Bool) → b ≡ true → IsRight (if b then q else p) → IsRight q
by_test p q true e r = r
by_test p q false e r = cc

pub right_entered : (e : LaneEndsView) (t : TlpView) (mark : ℕ) → may_enter e.sender (need_of t) ≡ true → Spells (canonical t) t → IsRight e →
    IsRight (record e { sender = entered e.sender t mark })
right_entered e t mark m s r = by_test e (record e { sender = entered e.sender t mark }) (may_enter e.sender (need_of t)) m (right_by e (Enter t mark) s r)

pub right_room : (e : LaneEndsView) (need : Need) → may_enter e.sender need ≡ true → IsRight e → IsRight (record e { sender = with_room e.sender })
right_room e need m r = by_test e (record e { sender = with_room e.sender }) (may_enter e.sender need) m (right_by e (MakeRoom need) tt r)

-- a call that has room for its packet, or takes one that is there

pub enters : {A E : Type 0} (r : Result A E) (e : LaneEndsView) (t : TlpView) (mark : ℕ) (new : SenderEndView) → OnOk r (may_enter e.sender (need_of t) ≡ true) →
    OnOk r (new ≡ entered e.sender t mark) → OnOk r (record e { sender = new } ≡ after_call e (Enter t mark))
enters (Ok a) e t mark new m h = rw (m, h) refl
enters (Err x) e t mark new m h = tt

pub makes_room : {A E : Type 0} (r : Result A E) (e : LaneEndsView) (need : Need) (new : SenderEndView) → OnOk r (may_enter e.sender need ≡ true) →
    OnOk r (new ≡ with_room e.sender) → OnOk r (record e { sender = new } ≡ after_call e (MakeRoom need))
makes_room (Ok a) e need new m h = rw (m, h) refl
makes_room (Err x) e need new m h = tt

pub takes : (e : LaneEndsView) (place : ℕ) → is_takeable e.receiver.queue place ≡ true → record e { receiver = after_take e.receiver place } ≡ after_call e (Take place)
takes e place t = rw t refl

pub right_taken : (e : LaneEndsView) (place : ℕ) → is_takeable e.receiver.queue place ≡ true → IsRight e → IsRight (record e { receiver = after_take e.receiver place })
right_taken e place m r = by_test e (record e { receiver = after_take e.receiver place }) (is_takeable e.receiver.queue place) m (right_by e (Take place) tt r)

room_of : (a : Bool) (n : ℕ) → a && nat_lt n 2047 ≡ true → n < 2047
room_of true n h = grind (arith, nat_tests)
room_of false n h = cc

-- ---- content

pub content_entered : IsRead → (e : LaneEndsView) (t : TlpView) (mark : ℕ) → may_enter e.sender (need_of t) ≡ true → Spells (canonical t) t → IsRight e →
    content (record e { sender = entered e.sender t mark }) ≡ content e ++ (t, mark) ∷ []
content_entered read e t mark m s r =
    let one = enter_one read e t mark s (room_of (gate_covers e.sender.gate (need_of t)) (length e.sender.sending.kept) m) (sound read e r) in
    ap (λ (xs : List Item). e.receiver.queue ++ xs) (sym one.1) ∙ sym (append_assoc e.receiver.queue (on_the_way e) ((t, mark) ∷ []))

queue_more : (queue : List Item) (o : Option Item) → queue_with queue o ≡ queue ++ list_of o
queue_more queue None = sym (append-nil queue)
queue_more queue (Some item) = refl

queue_is : (f : List WirePacket) (r : ReceiverEndView) (fate : Fate) → (after_deliver f r fate).queue ≡ r.queue ++ accepted_from f r fate
queue_is [] r fate = sym (append-nil r.queue)
queue_is (p ∷ f) r fate = queue_more r.queue (taken_on (arrival_of r.receiving p.number fate) p.cargo)

pub content_delivered : IsRead → (e : LaneEndsView) (fate : Fate) → IsRight e → content (after_call e (Deliver fate)) ≡ content e
content_delivered read e fate r =
    let k = sound read e r in
    let step = deliver_right e.sender.sending e.forward (answers_in e.back) e.receiver fate k.numbered in
    ap (λ (q : List Item). q ++ on_the_way (after_call e (Deliver fate))) (queue_is e.forward e.receiver fate)
    ∙ append_assoc e.receiver.queue (accepted_from e.forward e.receiver fate) (on_the_way (after_call e (Deliver fate)))
    ∙ ap (λ (q : List Item). e.receiver.queue ++ q) (sym step.1)

pub content_sent : (e : LaneEndsView) (kind : DllpKind) → content (after_call e (SendDllp kind)) ≡ content e
content_sent e kinds.Answer = refl
content_sent e (kinds.Update class) = refl

pub content_told : IsRead → (e : LaneEndsView) (fate : Fate) → IsRight e → content (after_call e (DeliverDllp fate)) ≡ content e
content_told read e fate r =
    ap (λ (cs : List CargoView). e.receiver.queue ++ items_of cs) (deliver_dllp_right e.sender e.forward e.back e.receiver.receiving.next fate (sound read e r).numbered).1

takeable_there : (queue : List Item) (place : ℕ) → is_takeable queue place ≡ true → place < length queue
takeable_there queue place h = lt_of_not-le (λ past. let none : drop place queue ≡ [] = drop_all place queue past in (let f : first_passes (take place queue) [] ≡ true = rw none at h in cc))

take_content : (e : LaneEndsView) (place : ℕ) (b : Bool) → is_takeable e.receiver.queue place ≡ b →
    content (if b then record e { receiver = after_take e.receiver place } else e) ≡ (if b then remove (content e) place else content e)
take_content e place true h = sym (remove-append_left e.receiver.queue (on_the_way e) place (takeable_there e.receiver.queue place h))
take_content e place false h = refl

enter_content : IsRead → (e : LaneEndsView) (t : TlpView) (mark : ℕ) (b : Bool) → may_enter e.sender (need_of t) ≡ b → Spells (canonical t) t → IsRight e →
    content (if b then record e { sender = entered e.sender t mark } else e) ≡ content e ++ (if b then (t, mark) ∷ [] else [])
enter_content read e t mark true h s r = content_entered read e t mark h s r
enter_content read e t mark false h s r = sym (append-nil (content e))

room_content : (e : LaneEndsView) (b : Bool) → content (if b then record e { sender = with_room e.sender } else e) ≡ content e
room_content e true = refl
room_content e false = refl

pub content_by : IsRead → (e : LaneEndsView) (call : Call) → IsCall call → IsRight e → content (after_call e call) ≡ content_after e call
content_by read e (MakeRoom need) i r = room_content e (may_enter e.sender need)
content_by read e Release i r = refl
content_by read e (Enter t mark) i r = enter_content read e t mark (may_enter e.sender (need_of t)) refl i r
content_by read e Transmit i r = refl
content_by read e (Deliver fate) i r = content_delivered read e fate r
content_by read e (SendDllp kind) i r = content_sent e kind
content_by read e (DeliverDllp fate) i r = content_told read e fate r
content_by read e Timer i r = refl
content_by read e Retrained i r = refl
content_by read e (Take place) i r = take_content e place (is_takeable e.receiver.queue place) refl

-- ---- never a protocol error

expected : (s : SenderEndView) (f : List WirePacket) (d : Dllp) (back : List Dllp) (next : ℕ) → AreNumbered s.sending f (answers_in (d ∷ back)) next → is_expected s.sending d ≡ true
expected s f (Ack number) back next r = named s.sending f number (answers_in back) next r
expected s f (Nak number) back next r = named s.sending f number (answers_in back) next r
expected s f (Update class header units) back next r = refl

fate_fits : (d : Dllp) (fits : Bool) (fate : Fate) → fits ≡ true → IsOk (seen_by d fits fate)
fate_fits d true Good e = refl
fate_fits d false Good e = cc
fate_fits d fits Failed e = refl
fate_fits d fits Lost e = refl

no_fault : (s : SenderEndView) (f : List WirePacket) (back : List Dllp) (next : ℕ) (fate : Fate) → AreNumbered s.sending f (answers_in back) next → IsOk (dllp_seen back s fate)
no_fault s f [] next fate r = refl
no_fault s f (d ∷ back) next fate r = fate_fits d (is_expected s.sending d) fate (expected s f d back next r)

pub never_fault : IsRead → (e : LaneEndsView) (fate : Fate) → IsRight e → IsOk (dllp_seen e.back e.sender fate)
never_fault read e fate r = no_fault e.sender e.forward e.back e.receiver.receiving.next fate (sound read e r).numbered

-- ---- quiet

read_item : (r : Result TlpView TlpFault) (mark : ℕ) → IsOk r → (item : Item) × (item_read r mark ≡ Some item)
read_item (Ok t) mark i = ((t, mark), refl)
read_item (Err x) mark i = cc

pub spelled_some : (c : CargoView) → IsSpelled c → (item : Item) × (item_spelled c ≡ Some item)
spelled_some c k = read_item (reading c.bytes) c.mark k

none_left : (cs : List CargoView) → All IsSpelled cs → items_of cs ≡ [] → cs ≡ []
none_left [] k h = refl
none_left (c ∷ cs) k h =
    let first = spelled_some c (k 0 c (omega arith)) in
    let some : first.0 ∷ items_of cs ≡ [] = rw first.1 at h in
    cc

both_nil : (xs ys : List Item) → xs ++ ys ≡ [] → (xs ≡ []) × (ys ≡ [])
both_nil [] ys h = (refl, h)
both_nil (x ∷ xs) ys h = cc

-- all kept packets are accepted exactly where the receiver waits for the number after them
same_number : (acked next kept : ℕ) → acked < 4096 → next < 4096 → kept ≤ 2047 → (next + 4095 - acked) % 4096 ≡ kept → next ≡ (acked + 1 + kept) % 4096
same_number acked next kept a n w h = omega arith

same_count : (acked next kept : ℕ) → acked < 4096 → next < 4096 → kept ≤ 2047 → next ≡ (acked + 1 + kept) % 4096 → (next + 4095 - acked) % 4096 ≡ kept
same_count acked next kept a n w h = omega arith

pub quiet_when : IsRead → (e : LaneEndsView) → IsRight e → e.receiver.queue ≡ [] → e.receiver.receiving.next ≡ next_number e.sender.sending → content e ≡ []
quiet_when read e r q h =
    let k = (sound read e r).numbered in
    let all : received_of e.sender.sending e.receiver.receiving.next ≡ length e.sender.sending.kept =
    same_count e.sender.sending.acked e.receiver.receiving.next (length e.sender.sending.kept) k.acked_in_range k.next_in_range k.window h in
    rw (q, drop_all (received_of e.sender.sending e.receiver.receiving.next) e.sender.sending.kept (omega (arith, all))) refl

pub quiet_only : IsRead → (e : LaneEndsView) → IsRight e → content e ≡ [] → (e.receiver.queue ≡ []) × (e.receiver.receiving.next ≡ next_number e.sender.sending)
quiet_only read e r h =
    let k = sound read e r in
    let both = both_nil e.receiver.queue (on_the_way e) h in
    let count = received_of e.sender.sending e.receiver.receiving.next in
    let none : drop count e.sender.sending.kept ≡ [] =
    none_left (drop count e.sender.sending.kept) (All-drop IsSpelled count e.sender.sending.kept k.spelled) both.1 in
    let left : length e.sender.sending.kept - count ≡ 0 = sym (length-drop count e.sender.sending.kept) ∙ ap (λ (cs : List CargoView). length cs) none in
    let received : count ≤ length e.sender.sending.kept = k.numbered.received in (
      both.0,
      same_number e.sender.sending.acked e.receiver.receiving.next (length e.sender.sending.kept) k.numbered.acked_in_range k.numbered.next_in_range k.numbered.window (omega arith),
    )

-- ---- what is accepted was the first that was not

accepted_item : (arrival : Arrival) (c : CargoView) (item : Item) → arrival ≡ Answered Accept → item_spelled c ≡ Some item → list_of (taken_on arrival c) ≡ item ∷ []
accepted_item (Answered Accept) c item e h = rw h refl
accepted_item (Answered Duplicate) c item e h = cc
accepted_item (Answered NakNow) c item e h = cc
accepted_item (Answered Quiet) c item e h = cc
accepted_item Gone c item e h = cc

first_spelled : (c : CargoView) (cs xs : List CargoView) → xs ≡ c ∷ cs → All IsSpelled xs → IsSpelled c
first_spelled c cs xs e k = (subst (λ (ys : List CargoView). All IsSpelled ys) e k) 0 c (omega arith)

accepting : (s : SenderEndView) (f : List WirePacket) (back : List Dllp) (r : ReceiverEndView) (fate : Fate) → IsSound (record { sender = s; forward = f; back = back; receiver = r }) →
    delivered f r fate ≡ Some (Answered Accept) →
    AcceptsFirst (record { sender = s; forward = f; back = back; receiver = r }) (record { sender = s; forward = all_but_first f; back = back; receiver = after_deliver f r fate })
accepting s [] back r fate k e = cc
accepting s (p ∷ f) back r fate k e =
    let arrival : arrival_of r.receiving p.number fate ≡ Answered Accept = cc in
    let first = taken_first s.sending p f (answers_in back) r.receiving.next k.numbered (arrival_accepts r.receiving p.number fate arrival) in
    let spelled : IsSpelled p.cargo =
    first_spelled p.cargo _ _ first (All-drop IsSpelled (received_of s.sending r.receiving.next) s.sending.kept k.spelled) in
    let some = spelled_some p.cargo spelled in
    let one : list_of (taken_on (arrival_of r.receiving p.number fate) p.cargo) ≡ some.0 ∷ [] =
    accepted_item (arrival_of r.receiving p.number fate) p.cargo some.0 arrival some.1 in
    record {
      item = some.0;
      was_first = (deliver_right s.sending (p ∷ f) (answers_in back) r fate k.numbered).1
          ∙ ap (λ (xs : List Item). xs ++ items_of (unaccepted_of s.sending (after_deliver (p ∷ f) r fate).receiving.next)) one;
      is_last = queue_is (p ∷ f) r fate ∙ ap (λ (xs : List Item). r.queue ++ xs) one;
    }

pub accepts_first : IsRead → (e : LaneEndsView) (fate : Fate) → IsRight e → delivered e.forward e.receiver fate ≡ Some (Answered Accept) → AcceptsFirst e (after_call e (Deliver fate))
accepts_first read e fate r h = accepting e.sender e.forward e.back e.receiver fate (sound read e r) h

pub accepts_when : IsRead → (e : LaneEndsView) (fate : Fate) (r : Result (Option Arrival) LaneRefusal) (new : ReceiverEndView) (wire : List WirePacket) → IsRight e →
    IfOk r (λ arrival. arrival ≡ delivered e.forward e.receiver fate) → OnOk r (new ≡ after_deliver e.forward e.receiver fate) → OnOk r (wire ≡ all_but_first e.forward) →
    r ≡ Ok (Some (Answered Accept)) → AcceptsFirst e (record { sender = e.sender; forward = wire; back = e.back; receiver = new })
accepts_when read e fate (Ok a) new wire k answer ok w h = rw (ok, w) (accepts_first read e fate k (cc))
accepts_when read e fate (Err x) new wire k answer ok w h = cc

pub when_entered : {A : Type 0} → IsRead → (e : LaneEndsView) (t : TlpView) (mark : ℕ) (r : Result A LaneRefusal) (new : SenderEndView) →
    OnOk r (may_enter e.sender (need_of t) ≡ true) → OnOk r (new ≡ entered e.sender t mark) → OnOk r (Spells (canonical t) t) → IsRight e →
    OnOk r (content (record e { sender = new }) ≡ content e ++ (t, mark) ∷ [])
when_entered read e t mark (Ok a) new m ok s k = rw ok (content_entered read e t mark m s k)
when_entered read e t mark (Err x) new m ok s k = tt

-- ---- the bytes on the wire

number_again : (m n a b : ℕ) → a ≡ m / 256 → b ≡ m % 256 → a ≡ n / 256 → b ≡ n % 256 → m ≡ n
number_again m n a b e f g h = omega arith

pub high_bits : (n : ℕ) → n < 4096 → n / 256 < 16
high_bits n h = omega arith

pub same_wire_number : (p q : WirePacket) → wire_bytes p ≡ wire_bytes q → p.number ≡ q.number
same_wire_number p q h =
    let high : p.number / 256 ≡ q.number / 256 = (cc) in
    let low : p.number % 256 ≡ q.number % 256 = (cc) in
    number_again p.number q.number (p.number / 256) (p.number % 256) refl refl high low

pub same_wire_bytes : (p q : WirePacket) → wire_bytes p ≡ wire_bytes q → p.cargo.bytes ≡ q.cargo.bytes
same_wire_bytes p q h = cc
