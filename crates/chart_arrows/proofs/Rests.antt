-- The sender of a stopped link stands before its oldest packet.
use Rattle.std.proofs.Common.{◌≡◌, ℕ, zero, suc, ◌-◌, Some, Bool, true, false, List, [], ◌∷◌, refl, ap, subst, Ok, arith}
use Rattle.std.specs.Prelude.{if◌then◌else◌, slice_get}
use Rattle.seq12.specs.Numbers.{distance_of}
use Rattle.dllp_core.specs.declared.packet.Dllp.{Dllp}
use Rattle.dllp_core.specs.declared.packet.Dllp.TheVariants.{Ack, Nak, Update}
use Rattle.link_replay.specs.SenderView.{SenderView, acknowledged, from_oldest, is_outstanding}
use Rattle.flow_control.specs.declared.limits.LaneCredits.{LaneCredits}
use Rattle.flow_control.specs.Needs.{need_of}
use Rattle.flow_control.specs.Queue.{is_takeable}
use Rattle.lane_core.specs.declared.packet.Fate.{Fate}
use Rattle.lane_core.specs.declared.packet.Fate.TheVariants.{Good, Failed, Lost}
use Rattle.lane_core.specs.Steps.{LaneEndsView, SenderEndView, new_lane, may_enter, entered, with_room, sender_after, after_take}
use Rattle.lane_core.specs.Calls.{Call, MakeRoom, Release, Enter, Transmit, Deliver, SendDllp, DeliverDllp, Timer, Retrained, Take, after_call, after_calls, IsRightWith}
use Rattle.fabric_steps.specs.Fabric.{Fabric}
use Rattle.fabric_steps.specs.declared.event.LaneName.{LaneName}
use Rattle.fabric_steps.specs.declared.event.LaneName.TheVariants as lanes
use Rattle.fabric_steps.specs.declared.fault.Refusal.TheVariants as refusals
use Rattle.fabric_core.specs.Answers.{part_at}
use Rattle.fabric_core.specs.Answers as parts
use Rattle.fabric_core.specs.Kept.{IsSoundFabric}
use Rattle.chart_arrows.proofs.Parts.{ok_or, in_set}

abbrev pub Rests : SenderView → Type 0
Rests s = s.stopped ≡ true → s.place ≡ 0

either : {X : Type 0} (P : X → Type 0) (b : Bool) (x y : X) → P x → P y → P (if b then x else y)
either P true x y p q = p
either P false x y p q = q

sent_by : (stopped : Bool) (place other : ℕ) → stopped ≡ true → place ≡ 0 → (if stopped then place else other) ≡ 0
sent_by true place other is rests = rests
sent_by false place other is rests = absurd cc

none_less : (place fewer : ℕ) → place ≡ 0 → place - fewer ≡ 0
none_less place fewer is = omega (arith, is)

pub dropped : (s : SenderView) (number : ℕ) → Rests s → Rests (acknowledged s number)
dropped s number rests = λ stopped. none_less s.place (distance_of number s.acked) (rests stopped)

told : (back : List Dllp) (s : SenderEndView) (fate : Fate) → Rests s.sending → Rests (sender_after back s fate).sending
told [] s fate rests = rests
told (Ack number ∷ ds) s Good rests = either Rests (is_outstanding s.sending number) (acknowledged s.sending number) s.sending (dropped s.sending number rests) rests
told (Nak number ∷ ds) s Good rests = either Rests (is_outstanding s.sending number) (from_oldest (acknowledged s.sending number)) s.sending (λ stopped. refl) rests
told (Update class headers units ∷ ds) s Good rests = rests
told (d ∷ ds) s Failed rests = rests
told (d ∷ ds) s Lost rests = rests

abbrev RestsAt : LaneEndsView → Type 0
RestsAt e = Rests e.sender.sending

called : (e : LaneEndsView) (call : Call) → RestsAt e → RestsAt (after_call e call)
called e (MakeRoom need) rests = either RestsAt (may_enter e.sender need) (record e { sender = with_room e.sender }) e rests rests
called e Release rests = rests
called e (Enter t mark) rests = either RestsAt (may_enter e.sender (need_of t)) (record e { sender = entered e.sender t mark }) e rests rests
called e Transmit rests = λ stopped. sent_by e.sender.sending.stopped e.sender.sending.place _ stopped (rests stopped)
called e (Deliver fate) rests = rests
called e (SendDllp kind) rests = rests
called e (DeliverDllp fate) rests = told e.back e.sender fate rests
called e Timer rests = λ stopped. refl
called e Retrained rests = λ stopped. absurd cc
called e (Take place) rests = either RestsAt (is_takeable e.receiver.queue place) (record e { receiver = after_take e.receiver place }) e rests rests

all_called : (calls : List Call) (e : LaneEndsView) → RestsAt e → RestsAt (after_calls e calls)
all_called [] e rests = rests
all_called (call ∷ calls) e rests = all_called calls (after_call e call) (called e call rests)

right : (credits : LaneCredits) (e : LaneEndsView) → IsRightWith credits e → RestsAt e
right credits e is = subst RestsAt is.leads (all_called is.calls (new_lane credits) (λ stopped. absurd cc))

part_rests : (xs : List LaneEndsView) (port : ℕ) (credits : LaneCredits) (e : LaneEndsView) → ((i : ℕ) (e : LaneEndsView) → slice_get xs i ≡ Some e → IsRightWith credits e) → part_at xs port ≡ Ok e → RestsAt e
part_rests xs zero credits e all has = absurd cc
part_rests xs (suc i) credits e all has = right credits e (all i e (in_set xs i e refusals.NoSuchPart has))

-- on each lane of a fabric
pub rests_at : (f : Fabric) (lane : LaneName) (e : LaneEndsView) → IsSoundFabric f → parts.lane_at f lane ≡ Ok e → Rests e.sender.sending
rests_at f (lanes.Up port) e sound has = part_rests f.up port f.credits e sound.up has
rests_at f (lanes.Down port) e sound has = part_rests f.down port _ e sound.down has
rests_at f lanes.Inward e sound has = subst RestsAt (ap (ok_or e) has) (right f.credits f.inward sound.inward)
rests_at f lanes.Outward e sound has = subst RestsAt (ap (ok_or e) has) (right f.credits f.outward sound.outward)
