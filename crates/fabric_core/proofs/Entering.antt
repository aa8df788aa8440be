-- A packet that enters a lane, by the answer.
use Rattle.std.proofs.Common.{ℕ, ◌≡◌, ◌<◌, ◌∙◌, Bool, true, false, List, [], ◌∷◌, ◌++◌, length, refl, sym, ap, subst, arith, Option, Some, None, Result, Ok, Err, if◌then◌else◌}
use Rattle.std.specs.Prelude.{nat_lt, ◌&&◌, ◌==◌, slice_get, option_map}
use Rattle.std.proofs.lemmas.Bool.Decides.{nat_tests}
use Rattle.std.proofs.lemmas.List.{length-append}
use Rattle.tlp_core.specs.TlpView.{TlpView}
use Rattle.tlp_core.specs.Ops.{Op}
use Rattle.tlp_core.specs.Operation.{op_fault}
use Rattle.tlp_core.specs.declared.fault.TlpFault.{TlpFault}
use Rattle.requester_core.specs.Request.{request_for}
use Rattle.requester_core.specs.RequesterView.{RequesterView, prepared, prepared_by, tag_for, lacks_tag, after_opened}
use Rattle.requester_core.specs.declared.fault.SubmitRefusal.{SubmitRefusal}
use Rattle.requester_core.specs.declared.fault.SubmitRefusal.TheVariants as causes
use Rattle.tlp_core.specs.Layout.{Spells, canonical}
use Rattle.flow_control.specs.declared.needs.Need.{Need}
use Rattle.seq_memory.specs.History.{MemoryView}
use Rattle.completer_core.specs.Serving.{completion_to, after_serving}
use Rattle.link_replay.specs.CargoView.{CargoView}
use Rattle.flow_control.specs.Needs.{need_of}
use Rattle.flow_control.specs.Credits.{gate_covers}
use Rattle.flow_control.specs.Queue.{is_takeable}
use Rattle.lane_core.specs.Content.{cargo_of}
use Rattle.lane_core.specs.declared.packet.LaneRefusal.{LaneRefusal}
use Rattle.lane_core.specs.declared.packet.LaneRefusal.TheVariants as no_room
use Rattle.lane_core.specs.Refusals.{LacksRoom}
use Rattle.lane_core.specs.Steps.{ReceiverEndView, SenderEndView, may_enter, entered}
use Rattle.fabric_steps.specs.declared.fault.Refusal.{Refusal}
use Rattle.fabric_steps.specs.declared.fault.Refusal.TheVariants as refusals
use Rattle.fabric_core.specs.ByParts.{Enters}
use Rattle.fabric_core.specs.Answers.{Refuses, lane_grows, serving_grows, and_then, map_ok, map_err, enter_on, enter_if_any, item_at, submit_on, act_on, ActFits}

both : {X : Type 0} (a b : Bool) (x y z : X) → (a && b) ≡ true → (if a then (if b then x else y) else z) ≡ x
both true true x y z e = refl
both true false x y z e = absurd cc
both false b x y z e = absurd cc

pub enters_on : (s : SenderEndView) (t : TlpView) (mark : ℕ) (s' : SenderEndView) → may_enter s (need_of t) ≡ true → s' ≡ entered s t mark → enter_on s t mark ≡ Ok s'
enters_on s t mark s' may now =
    both (gate_covers s.gate (need_of t)) (nat_lt (length s.sending.kept) 2047) (Ok (entered s t mark)) (Err (refusals.Lane no_room.WindowFull)) (Err (refusals.Lane (no_room.NoCredits (need_of t).class))) may
    ∙ ap Ok (sym now)

-- the packet of a takeable place
pub item_is : (r : ReceiverEndView) (place : ℕ) (t : TlpView) (mark : ℕ) → is_takeable r.queue place ≡ true → slice_get r.queue place ≡ Some (t, mark) → item_at r place ≡ Ok (t, mark)
item_is r place t mark takeable there = rw (takeable, there) refl

-- what a lane has no room for doesn't enter; what finds no memory would
pub room_answers : {A : Type 0} (grows : A → Refusal → Type 0) (f : SenderEndView → A) (s : SenderEndView) (t : TlpView) (mark : ℕ) (x : LaneRefusal) → grows (f (entered s t mark)) (refusals.Lane no_room.Memory)
    → LacksRoom s (need_of t) x → Refuses grows (map_ok (enter_on s t mark) f) (refusals.Lane x)
room_answers grows f s t mark (no_room.NoCredits class) g h = rw h.1 (ap (λ c. refusals.Lane (no_room.NoCredits c)) h.0)
room_answers grows f s t mark no_room.WindowFull g h = let full : nat_lt (length s.sending.kept) 2047 ≡ false = grind (arith, nat_tests) in rw (h.0, full) refl
room_answers grows f s t mark no_room.Memory g h = rw (enters_on s t mark (entered s t mark) h refl) g

longer : (xs : List CargoView) (x : CargoView) → length xs < length (xs ++ x ∷ [])
longer xs x = omega (arith, length-append xs (x ∷ []))

-- a completion for which there is no room
pub act_lacks : (m : MemoryView) (t : TlpView) (mark : ℕ) (s : SenderEndView) (c : TlpView) (x : LaneRefusal) → completion_to m t ≡ Some c → LacksRoom s (need_of c) x
    → Refuses (λ (y : ℕ × MemoryView × SenderEndView). serving_grows s y.2) (act_on m t mark s) (refusals.Lane x)
act_lacks m t mark s c x is h =
    rw is (room_answers (λ (y : ℕ × MemoryView × SenderEndView). serving_grows s y.2) (λ s'. (length m.entries, after_serving m t mark, s')) s c mark x (longer s.sending.kept (cargo_of c mark)) h)

-- the history can't grow for a request that may act
pub act_memory : (m : MemoryView) (t : TlpView) (mark : ℕ) (s : SenderEndView) (need : Need) → option_map need_of (completion_to m t) ≡ Some need → may_enter s need ≡ true
    → Refuses (λ (y : ℕ × MemoryView × SenderEndView). serving_grows s y.2) (act_on m t mark s) refusals.Memory
act_memory m t mark s need is may = by_completion (completion_to m t) is
  where
    by_completion : (o : Option TlpView) → option_map need_of o ≡ Some need → Refuses (λ (y : ℕ × MemoryView × SenderEndView). serving_grows s y.2) (map_ok (enter_if_any s o mark) (λ s'. (length m.entries, after_serving m t mark, s'))) refusals.Memory
    by_completion None e = absurd cc
    by_completion (Some c) e =
        let same : need_of c ≡ need = cc in
        rw (enters_on s c mark (entered s c mark) (subst (λ (n : Need). may_enter s n ≡ true) (sym same) may) refl) tt

pub ok_is : {A E : Type 0} (x y : A) → ◌≡◌ {A = Result A E} (Ok x) (Ok y) → x ≡ y
ok_is x y e = cc

-- a request acts, and its completion enters
pub act_answers : (m m' : MemoryView) (t : TlpView) (mark place : ℕ) (s s' : SenderEndView) (c : TlpView) → completion_to m t ≡ Some c → Enters s c mark s' → place ≡ length m.entries → m' ≡ after_serving m t mark
    → act_on m t mark s ≡ Ok (place, m', s')
act_answers m m' t mark place s s' c is e at now = rw (is, enters_on s c mark s' e.may e.now, at, now) refl

pub act_fits : (m : MemoryView) (t c : TlpView) → completion_to m t ≡ Some c → Spells (canonical c) c → ActFits m t
act_fits m t c is spelled = record { spelled = λ o e. subst (λ (p : TlpView). Spells (canonical p) p) (same o e) spelled }
  where
    same : (o : TlpView) → completion_to m t ≡ Some o → c ≡ o
    same o e = let both : Some c ≡ Some o = sym is ∙ e in cc

-- an operation for whose request the sender has no credits
pub no_credits : (q : RequesterView) (s : SenderEndView) (op : Op) (need : Need) (r : Refusal) → ((port tag : ℕ) → need_of (request_for port tag op) ≡ need) → gate_covers s.gate need ≡ false
    → ((n : ℕ) (t : TlpView) → prepared q op ≡ Ok (n, t) → r ≡ refusals.Lane (no_room.NoCredits need.class)) → ((x : SubmitRefusal) → prepared q op ≡ Err x → r ≡ refusals.Submit x)
    → Refuses lane_grows (submit_on q s op) r
no_credits q s op need r asked lacks lane cause = by (request_for q.port (tag_for q op) op) (asked q.port (tag_for q op)) (op_fault op) (lacks_tag q op) (q.next == 4294967295) lane cause
  where
    by : (t : TlpView) → need_of t ≡ need → (f : Option TlpFault) (a b : Bool)
        → ((n : ℕ) (p : TlpView) → prepared_by f a b q.next t ≡ Ok (n, p) → r ≡ refusals.Lane (no_room.NoCredits need.class)) → ((x : SubmitRefusal) → prepared_by f a b q.next t ≡ Err x → r ≡ refusals.Submit x)
        → Refuses {A = ℕ × RequesterView × SenderEndView} lane_grows (and_then (map_err refusals.Submit (prepared_by f a b q.next t)) (λ p. map_ok (enter_on s p.1 p.0) (λ s'. (p.0, after_opened q p.1, s')))) r
    by t h (Some f) a b l e = e (causes.Profile f) refl
    by t h None true b l e = e causes.TagsUsed refl
    by t h None false true l e = e causes.NumbersUsed refl
    by t h None false false l e = rw (h, lacks) (l q.next t refl)
