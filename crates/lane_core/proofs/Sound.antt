-- Each call keeps a lane's numbers in order, and what is entered and not yet accepted.
use Rattle.std.proofs.Common.{◌≡◌, ℕ, ◌+◌, ◌%◌, ◌<◌, ◌≤◌, Bool, true, false, All, List, [], ◌∷◌, ◌++◌, length, filter_map, Option, Some, None, refl, sym, ◌∙◌, ap, subst, arith}
use Rattle.std.specs.Prelude.{slice_get, nat_le, nat_lt, if◌then◌else◌, ◌==◌, ◌&&◌}
use Rattle.std.specs.List.{cons_option}
use Rattle.std.proofs.lemmas.List.{append-nil, append_assoc}
use Rattle.std.proofs.lemmas.List.Elements.{filter_map-append, All-nil, All-cons, All-push, All-append, All-drop}
use Rattle.std.proofs.lemmas.Option.{slice_get_within, get_or_from_slice_get}
use Rattle.std.proofs.lemmas.Bool.Decides.{nat_tests}
use Rattle.tlp_core.specs.TlpView.{TlpView}
use Rattle.tlp_core.specs.Layout.{Spells, canonical}
use Rattle.seq12.specs.Numbers.{next_of, previous_of, distance_of, class_of}
use Rattle.seq12.specs.declared.class.SequenceClass.{SequenceClass}
use Rattle.seq12.specs.declared.class.SequenceClass.TheVariants.{Expected, Duplicate as Older, Ahead}
use Rattle.dllp_core.specs.declared.packet.Dllp.{Dllp}
use Rattle.dllp_core.specs.declared.packet.Dllp.TheVariants.{Ack, Nak, Update}
use Rattle.link_replay.specs.CargoView.{CargoView}
use Rattle.link_replay.specs.SenderView.{SenderView, number_at, next_item, is_outstanding, acknowledged, from_oldest}
use Rattle.link_replay.specs.declared.receiver.NakScheduled.{NakScheduled}
use Rattle.link_replay.specs.declared.receiver.NakScheduled.TheVariants.{Clear, Due, Sent}
use Rattle.link_replay.specs.declared.receiver.Reception.TheVariants.{Accept, Duplicate, NakNow, Quiet}
use Rattle.link_replay.specs.ReceiverView.{ReceiverView, reception_of, answer_by, discard_answer, acknowledgment_of, dllp_by}
use Rattle.flow_control.specs.declared.limits.LaneCredits.{LaneCredits}
use Rattle.flow_control.specs.Needs.{need_of}
use Rattle.flow_control.specs.Credits.{gate_covers}
use Rattle.flow_control.specs.Queue.{Item, is_takeable}
use Rattle.lane_core.specs.declared.packet.WirePacket.{WirePacket}
use Rattle.lane_core.specs.declared.packet.Fate.{Fate}
use Rattle.lane_core.specs.declared.packet.Fate.TheVariants.{Good, Failed, Lost}
use Rattle.lane_core.specs.declared.packet.Arrival.{Arrival}
use Rattle.lane_core.specs.declared.packet.Arrival.TheVariants.{Answered, Gone}
use Rattle.lane_core.specs.declared.packet.DllpKind.{DllpKind}
use Rattle.lane_core.specs.declared.packet.DllpKind.TheVariants as kinds
use Rattle.lane_core.specs.Content.{cargo_of, item_spelled, items_of, IsSpelled, received_of, unaccepted_of}
use Rattle.lane_core.specs.Steps.{LaneEndsView, SenderEndView, ReceiverEndView, packets_sent, new_lane, may_enter, entered, with_room, all_but_first, arrival_of, taken_on, receiving_on, after_deliver, dllp_of, receiving_after, wire_after_send, after_dllp, sender_after, after_take}
use Rattle.lane_core.specs.Calls.{Call, MakeRoom, Release, Enter, Transmit, Deliver, SendDllp, DeliverDllp, Timer, Retrained, Take, IsCall, AreCalls, after_call, list_of, entered_by, accepted_from, accepted_by, after_calls, entered_in, accepted_in, on_the_way}
use Rattle.lane_core.proofs.Below.{IsRead}
use Rattle.lane_core.proofs.UnderWay.{AreNumbered}
use Rattle.lane_core.proofs.Right.{entered_unaccepted, entered_right, reserved_right, released_right, restarted_right, trained_right, transmitted_right, discarded_right, taken_first, taken_right, answered_right, forgotten_right, outstanding, acknowledged_unaccepted, acknowledged_right}

-- the numbers of the Acks and Naks of a back wire

abbrev pub number_of : Dllp → Option ℕ
number_of (Ack number) = Some number
number_of (Nak number) = Some number
number_of (Update class header units) = None

abbrev pub answers_in : List Dllp → List ℕ
answers_in dllps = filter_map number_of dllps

abbrev pub IsWireSpelled : WirePacket → Type 0
IsWireSpelled p = IsSpelled p.cargo

-- the numbers of a lane are in order, and the bytes that are kept and under way spell packets
pub record IsSound (e : LaneEndsView) : Type 0 where
  pub numbered : AreNumbered e.sender.sending e.forward (answers_in e.back) e.receiver.receiving.next
  pub spelled : All IsSpelled e.sender.sending.kept
  pub under_way : All IsWireSpelled e.forward

pub both_true : (a b : Bool) → (a && b) ≡ true → (a ≡ true) × (b ≡ true)
both_true true b e = (refl, e)
both_true false b e = cc

-- items of bytes

joined : (o : Option Item) (xs : List Item) → cons_option o xs ≡ list_of o ++ xs
joined None xs = refl
joined (Some x) xs = refl

one_item : (c : CargoView) (cs : List CargoView) → items_of (c ∷ cs) ≡ list_of (item_spelled c) ++ items_of cs
one_item c cs = joined (item_spelled c) (items_of cs)

pub entered_item : IsRead → (t : TlpView) (mark : ℕ) → Spells (canonical t) t → item_spelled (cargo_of t mark) ≡ Some (t, mark)
entered_item read t mark k = rw (read (canonical t) t k) refl

pub entered_spelled : IsRead → (t : TlpView) (mark : ℕ) → Spells (canonical t) t → IsSpelled (cargo_of t mark)
entered_spelled read t mark k = rw (read (canonical t) t k) refl

-- Deliver

-- only the number that is waited for is accepted
discard_takes_none : (nak : NakScheduled) → discard_answer nak ≡ Accept → ⊥
discard_takes_none Clear h = cc
discard_takes_none Due h = cc
discard_takes_none Sent h = cc

class_taken : (class : SequenceClass) (nak : NakScheduled) → answer_by class nak ≡ Accept → class ≡ Expected
class_taken Expected nak h = refl
class_taken Older nak h = cc
class_taken Ahead nak h = absurd (discard_takes_none nak h)

expected_by : (same near : Bool) → (if same then Expected else (if near then Older else Ahead)) ≡ Expected → same ≡ true
expected_by true near h = refl
expected_by false true h = cc
expected_by false false h = cc

expected_next : (next got : ℕ) → class_of next got ≡ Expected → got ≡ next
expected_next next got h =
    let same : (got == next) ≡ true = expected_by (got == next) (nat_le (distance_of next got) 2048) h in
    grind (arith, nat_tests)

accepts_next : (r : ReceiverView) (got : ℕ) (good : Bool) → reception_of r got good ≡ Accept → got ≡ r.next
accepts_next r got true h = expected_next r.next got (class_taken (class_of r.next got) r.nak h)
accepts_next r got false h = absurd (discard_takes_none r.nak h)

pub arrival_accepts : (r : ReceiverView) (number : ℕ) (fate : Fate) → arrival_of r number fate ≡ Answered Accept → number ≡ r.next
arrival_accepts r number Good h = accepts_next r number true (cc)
arrival_accepts r number Failed h = accepts_next r number false (cc)
arrival_accepts r number Lost h = cc

-- what a packet that arrives leaves
arrived : (s : SenderView) (p : WirePacket) (f : List WirePacket) (b : List ℕ) (r : ReceiverView) (arrival : Arrival) → AreNumbered s (p ∷ f) b r.next →
    (arrival ≡ Answered Accept → p.number ≡ r.next) →
    AreNumbered s f b (receiving_on r arrival).next
    × (items_of (unaccepted_of s r.next) ≡ list_of (taken_on arrival p.cargo) ++ items_of (unaccepted_of s (receiving_on r arrival).next))
arrived s p f b r (Answered Accept) k e = (
  taken_right s p f b r.next k (e refl),
  ap (λ (cs : List CargoView). items_of cs) (taken_first s p f b r.next k (e refl)) ∙ one_item p.cargo (unaccepted_of s (next_of r.next)),
)
arrived s p f b r (Answered Duplicate) k e = (discarded_right s p f b r.next k, refl)
arrived s p f b r (Answered NakNow) k e = (discarded_right s p f b r.next k, refl)
arrived s p f b r (Answered Quiet) k e = (discarded_right s p f b r.next k, refl)
arrived s p f b r Gone k e = (discarded_right s p f b r.next k, refl)

pub deliver_right : (s : SenderView) (f : List WirePacket) (b : List ℕ) (r : ReceiverEndView) (fate : Fate) → AreNumbered s f b r.receiving.next →
    AreNumbered s (all_but_first f) b (after_deliver f r fate).receiving.next
    × (items_of (unaccepted_of s r.receiving.next) ≡ accepted_from f r fate ++ items_of (unaccepted_of s (after_deliver f r fate).receiving.next))
deliver_right s [] b r fate k = (k, refl)
deliver_right s (p ∷ f) b r fate k =
    arrived s p f b r.receiving (arrival_of r.receiving p.number fate) k (arrival_accepts r.receiving p.number fate)

-- SendDllp

answer_is : (r : ReceiverView) → answers_in (acknowledgment_of r ∷ []) ≡ ((r.next + 4095) % 4096) ∷ []
answer_is r = by_nak r.nak
  where
    by_nak : (nak : NakScheduled) → answers_in (dllp_by nak (previous_of r.next) ∷ []) ≡ ((r.next + 4095) % 4096) ∷ []
    by_nak Clear = refl
    by_nak Due = refl
    by_nak Sent = refl

send_right : (s : SenderView) (f : List WirePacket) (back : List Dllp) (r : ReceiverEndView) (kind : DllpKind) → AreNumbered s f (answers_in back) r.receiving.next →
    AreNumbered s f (answers_in (wire_after_send r kind back)) (receiving_after r.receiving kind).next
send_right s f back r kinds.Answer k =
    rw (filter_map-append number_of back (acknowledgment_of r.receiving ∷ []), answer_is r.receiving)
    (answered_right s f (answers_in back) r.receiving.next ((r.receiving.next + 4095) % 4096) refl k)
send_right s f back r (kinds.Update class) k =
    rw (filter_map-append number_of back (dllp_of r (kinds.Update class) ∷ []), append-nil (answers_in back)) k

-- DeliverDllp

pub named : (s : SenderView) (f : List WirePacket) (d : ℕ) (b : List ℕ) (next : ℕ) → AreNumbered s f (d ∷ b) next → is_outstanding s d ≡ true
named s f d b next r =
    let far : distance_of d s.acked ≤ received_of s next = outstanding s f d b next r in
    let received : received_of s next ≤ length s.kept = r.received in
    grind (arith, nat_tests)

dllp_right : (s : SenderEndView) (f : List WirePacket) (d : Dllp) (back : List Dllp) (next : ℕ) (fate : Fate) → AreNumbered s.sending f (answers_in (d ∷ back)) next →
    AreNumbered (after_dllp s d fate).sending f (answers_in back) next × (unaccepted_of (after_dllp s d fate).sending next ≡ unaccepted_of s.sending next)
dllp_right s f (Ack number) back next Good r =
    rw (named s.sending f number (answers_in back) next r)
    (acknowledged_right s.sending f number (answers_in back) next r, acknowledged_unaccepted s.sending f number (answers_in back) next r)
dllp_right s f (Nak number) back next Good r =
    rw (named s.sending f number (answers_in back) next r) (
      restarted_right (acknowledged s.sending number) f (answers_in back) next (acknowledged_right s.sending f number (answers_in back) next r),
      acknowledged_unaccepted s.sending f number (answers_in back) next r,
    )
dllp_right s f (Update class header units) back next fate r = (by_fate fate, by_fate' fate)
  where
    by_fate : (fate : Fate) → AreNumbered (after_dllp s (Update class header units) fate).sending f (answers_in back) next
    by_fate Good = r
    by_fate Failed = r
    by_fate Lost = r

    by_fate' : (fate : Fate) → unaccepted_of (after_dllp s (Update class header units) fate).sending next ≡ unaccepted_of s.sending next
    by_fate' Good = refl
    by_fate' Failed = refl
    by_fate' Lost = refl
dllp_right s f (Ack number) back next Failed r = (forgotten_right s.sending f number (answers_in back) next r, refl)
dllp_right s f (Ack number) back next Lost r = (forgotten_right s.sending f number (answers_in back) next r, refl)
dllp_right s f (Nak number) back next Failed r = (forgotten_right s.sending f number (answers_in back) next r, refl)
dllp_right s f (Nak number) back next Lost r = (forgotten_right s.sending f number (answers_in back) next r, refl)

pub deliver_dllp_right : (s : SenderEndView) (f : List WirePacket) (back : List Dllp) (next : ℕ) (fate : Fate) → AreNumbered s.sending f (answers_in back) next →
    AreNumbered (sender_after back s fate).sending f (answers_in (all_but_first back)) next
    × (unaccepted_of (sender_after back s fate).sending next ≡ unaccepted_of s.sending next)
deliver_dllp_right s f [] next fate r = (r, refl)
deliver_dllp_right s f (d ∷ back) next fate r = dllp_right s f d back next fate r

acked_spelled : (s : SenderView) (number : ℕ) (b : Bool) → All IsSpelled s.kept → All IsSpelled (if b then acknowledged s number else s).kept
acked_spelled s number true k = All-drop IsSpelled (distance_of number s.acked) s.kept k
acked_spelled s number false k = k

naked_spelled : (s : SenderView) (number : ℕ) (b : Bool) → All IsSpelled s.kept → All IsSpelled (if b then from_oldest (acknowledged s number) else s).kept
naked_spelled s number true k = All-drop IsSpelled (distance_of number s.acked) s.kept k
naked_spelled s number false k = k

dllp_spelled : (s : SenderEndView) (d : Dllp) (fate : Fate) → All IsSpelled s.sending.kept → All IsSpelled (after_dllp s d fate).sending.kept
dllp_spelled s (Ack number) Good k = acked_spelled s.sending number (is_outstanding s.sending number) k
dllp_spelled s (Nak number) Good k = naked_spelled s.sending number (is_outstanding s.sending number) k
dllp_spelled s (Update class header units) Good k = k
dllp_spelled s d Failed k = k
dllp_spelled s d Lost k = k

pub sender_spelled : (s : SenderEndView) (back : List Dllp) (fate : Fate) → All IsSpelled s.sending.kept → All IsSpelled (sender_after back s fate).sending.kept
sender_spelled s [] fate k = k
sender_spelled s (d ∷ back) fate k = dllp_spelled s d fate k

-- Enter and MakeRoom

pub enter_one : IsRead → (e : LaneEndsView) (t : TlpView) (mark : ℕ) → Spells (canonical t) t → length e.sender.sending.kept < 2047 → IsSound e →
    IsSound (record e { sender = entered e.sender t mark })
    × (on_the_way e ++ (t, mark) ∷ [] ≡ on_the_way (record e { sender = entered e.sender t mark }))
enter_one read e t mark spells room k = (
  record {
    numbered = entered_right e.sender.sending e.forward (answers_in e.back) e.receiver.receiving.next (cargo_of t mark) room k.numbered;
    spelled = All-push IsSpelled e.sender.sending.kept (cargo_of t mark) k.spelled (entered_spelled read t mark spells);
    under_way = k.under_way;
  },
  sym
      (ap (λ (cs : List CargoView). items_of cs) (entered_unaccepted e.sender.sending e.forward (answers_in e.back) e.receiver.receiving.next (cargo_of t mark) k.numbered)
      ∙ filter_map-append item_spelled (unaccepted_of e.sender.sending e.receiver.receiving.next) (cargo_of t mark ∷ [])
      ∙ ap (λ (o : Option Item). on_the_way e ++ cons_option o []) (entered_item read t mark spells)),
)

enter_right : IsRead → (e : LaneEndsView) (t : TlpView) (mark : ℕ) (b : Bool) → may_enter e.sender (need_of t) ≡ b → Spells (canonical t) t → IsSound e →
    IsSound (if b then record e { sender = entered e.sender t mark } else e)
    × (on_the_way e ++ (if b then (t, mark) ∷ [] else []) ≡ on_the_way (if b then record e { sender = entered e.sender t mark } else e))
enter_right read e t mark true h spells k =
    let tests = both_true (gate_covers e.sender.gate (need_of t)) (nat_lt (length e.sender.sending.kept) 2047) h in
    let room : length e.sender.sending.kept < 2047 = grind (arith, nat_tests, tests.1) in
    enter_one read e t mark spells room k
enter_right read e t mark false h spells k = (k, append-nil _)

room_right : (e : LaneEndsView) (b : Bool) → IsSound e →
    IsSound (if b then record e { sender = with_room e.sender } else e)
    × (on_the_way e ++ [] ≡ on_the_way (if b then record e { sender = with_room e.sender } else e))
room_right e true k = (
  record { numbered = reserved_right e.sender.sending e.forward (answers_in e.back) e.receiver.receiving.next k.numbered; spelled = k.spelled; under_way = k.under_way },
  append-nil _,
)
room_right e false k = (k, append-nil _)

take_right : (e : LaneEndsView) (place : ℕ) (b : Bool) → IsSound e →
    IsSound (if b then record e { receiver = after_take e.receiver place } else e)
    × (on_the_way e ++ [] ≡ on_the_way (if b then record e { receiver = after_take e.receiver place } else e))
take_right e place true k = (record { numbered = k.numbered; spelled = k.spelled; under_way = k.under_way }, append-nil _)
take_right e place false k = (k, append-nil _)

-- what is under way

got_spelled : (s : SenderView) (got : Option CargoView) → slice_get s.kept s.place ≡ got → All IsSpelled s.kept → All IsWireSpelled (packets_sent s got)
got_spelled s None e k = All-nil IsWireSpelled
got_spelled s (Some cargo) e k =
    All-cons IsWireSpelled (record { number = number_at s s.place; cargo = cargo }) []
    (subst (λ (c : CargoView). IsSpelled c) (get_or_from_slice_get s.kept s.place cargo cargo e) (k s.place cargo (slice_get_within s.kept s.place cargo e))) (All-nil IsWireSpelled)

sent_spelled : (s : SenderView) (stopped : Bool) → All IsSpelled s.kept → All IsWireSpelled (packets_sent s (if stopped then None else slice_get s.kept s.place))
sent_spelled s true k = All-nil IsWireSpelled
sent_spelled s false k = got_spelled s (slice_get s.kept s.place) refl k

transmitted_spelled : (s : SenderView) (f : List WirePacket) → All IsSpelled s.kept → All IsWireSpelled f → All IsWireSpelled (f ++ packets_sent s (next_item s))
transmitted_spelled s f k w = All-append IsWireSpelled f (packets_sent s (next_item s)) w (sent_spelled s s.stopped k)

rest_spelled : (f : List WirePacket) → All IsWireSpelled f → All IsWireSpelled (all_but_first f)
rest_spelled [] w = w
rest_spelled (p ∷ f) w = All-drop IsWireSpelled 1 (p ∷ f) w

-- each call, and any list of them

pub step_sound : IsRead → (e : LaneEndsView) (call : Call) → IsCall call → IsSound e →
    IsSound (after_call e call) × (on_the_way e ++ entered_by e call ≡ accepted_by e call ++ on_the_way (after_call e call))
step_sound read e (MakeRoom need) i k = room_right e (may_enter e.sender need) k
step_sound read e Release i k = (
  record { numbered = released_right e.sender.sending e.forward (answers_in e.back) e.receiver.receiving.next k.numbered; spelled = k.spelled; under_way = k.under_way },
  append-nil _,
)
step_sound read e (Enter t mark) i k = enter_right read e t mark (may_enter e.sender (need_of t)) refl i k
step_sound read e Transmit i k = (
  record {
    numbered = transmitted_right e.sender.sending e.forward (answers_in e.back) e.receiver.receiving.next k.numbered;
    spelled = k.spelled;
    under_way = transmitted_spelled e.sender.sending e.forward k.spelled k.under_way;
  },
  append-nil _,
)
step_sound read e (Deliver fate) i k =
    let step = deliver_right e.sender.sending e.forward (answers_in e.back) e.receiver fate k.numbered in
    (record { numbered = step.0; spelled = k.spelled; under_way = rest_spelled e.forward k.under_way }, append-nil _ ∙ step.1)
step_sound read e (SendDllp kind) i k = (
  record { numbered = send_right e.sender.sending e.forward e.back e.receiver kind k.numbered; spelled = k.spelled; under_way = k.under_way },
  append-nil _ ∙ sent_on e kind,
)
  where
    sent_on : (e : LaneEndsView) (kind : DllpKind) → on_the_way e ≡ on_the_way (after_call e (SendDllp kind))
    sent_on e kinds.Answer = refl
    sent_on e (kinds.Update class) = refl
step_sound read e (DeliverDllp fate) i k =
    let step = deliver_dllp_right e.sender e.forward e.back e.receiver.receiving.next fate k.numbered in
    (record { numbered = step.0; spelled = sender_spelled e.sender e.back fate k.spelled; under_way = k.under_way }, append-nil _ ∙ sym (ap (λ (cs : List CargoView). items_of cs) step.1))
step_sound read e Timer i k = (
  record { numbered = restarted_right e.sender.sending e.forward (answers_in e.back) e.receiver.receiving.next k.numbered; spelled = k.spelled; under_way = k.under_way },
  append-nil _,
)
step_sound read e Retrained i k = (
  record { numbered = trained_right e.sender.sending e.forward (answers_in e.back) e.receiver.receiving.next k.numbered; spelled = k.spelled; under_way = k.under_way },
  append-nil _,
)
step_sound read e (Take place) i k = take_right e place (is_takeable e.receiver.queue place) k

pub new_sound : (credits : LaneCredits) → IsSound (new_lane credits)
new_sound credits =
    record {
      numbered = record { acked_in_range = omega arith; next_in_range = omega arith; window = omega arith; place = omega arith; received = omega arith; packets = tt; dllps = omega arith };
      spelled = All-nil IsSpelled;
      under_way = All-nil IsWireSpelled;
    }

pub run_sound : IsRead → (e : LaneEndsView) (calls : List Call) → AreCalls calls → IsSound e →
    IsSound (after_calls e calls) × (on_the_way e ++ entered_in e calls ≡ accepted_in e calls ++ on_the_way (after_calls e calls))
run_sound read e [] i k = (k, append-nil _)
run_sound read e (call ∷ calls) i k =
    let step = step_sound read e call i.0 k in
    let rest = run_sound read (after_call e call) calls i.1 step.0 in (
      rest.0,
      sym (append_assoc (on_the_way e) (entered_by e call) (entered_in (after_call e call) calls))
          ∙ ap (λ (xs : List Item). xs ++ entered_in (after_call e call) calls) step.1
          ∙ append_assoc (accepted_by e call) (on_the_way (after_call e call)) (entered_in (after_call e call) calls)
          ∙ ap (λ (xs : List Item). accepted_by e call ++ xs) rest.1
          ∙ sym (append_assoc (accepted_by e call) (accepted_in (after_call e call) calls) (on_the_way (after_calls (after_call e call) calls))),
    )

pub accepted_rest : IsRead → (credits : LaneCredits) (calls : List Call) → AreCalls calls →
    accepted_in (new_lane credits) calls ++ on_the_way (after_calls (new_lane credits) calls) ≡ entered_in (new_lane credits) calls
accepted_rest read credits calls i = sym (run_sound read (new_lane credits) calls i (new_sound credits)).1
