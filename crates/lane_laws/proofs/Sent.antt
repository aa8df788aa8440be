-- What a receiver sends fits its fields, and so does all that is under way.
use Rattle.std.proofs.Common.{◌≡◌, ◌<◌, ◌+◌, ◌%◌, ◌==◌, ℕ, All, Bool, true, false, List, [], ◌∷◌, refl, sym, subst, arith}
use Rattle.std.specs.Prelude.{if◌then◌else◌}
use Rattle.std.proofs.lemmas.List.Elements.{All-nil, All-push, All-tail}
use Rattle.dllp_core.specs.declared.packet.Dllp.{Dllp}
use Rattle.dllp_core.specs.Layout.{FitsFields}
use Rattle.link_replay.specs.declared.receiver.NakScheduled.{NakScheduled}
use Rattle.link_replay.specs.declared.receiver.NakScheduled.TheVariants as naks
use Rattle.link_replay.specs.ReceiverView.{dllp_by}
use Rattle.seq12.specs.Numbers.{previous_of}
use Rattle.flow_control.specs.Credits.{ledger_of}
use Rattle.flow_control.specs.Needs.{need_of}
use Rattle.flow_control.specs.Queue.{is_takeable}
use Rattle.lane_core.specs.declared.packet.DllpKind.{DllpKind}
use Rattle.lane_core.specs.declared.packet.DllpKind.TheVariants as kinds
use Rattle.lane_core.specs.Steps.{LaneEndsView, ReceiverEndView, all_but_first, dllp_of, may_enter, new_lane}
use Rattle.lane_core.specs.Calls.{Call, MakeRoom, Release, Enter, Transmit, Deliver, SendDllp, DeliverDllp, Timer, Retrained, Take, after_call, after_calls, IsRight}

-- ---- one DLLP

by_nak : (nak : NakScheduled) (number : ℕ) → number < 4096 → FitsFields (dllp_by nak number)
by_nak naks.Clear number h = h
by_nak naks.Due number h = h
by_nak naks.Sent number h = h

before_is_small : (n : ℕ) → previous_of n < 4096
before_is_small n = omega arith

-- 0 for an infinite counter, and else a remainder
header_is_small : (b : Bool) (n : ℕ) → (if b then 0 else n % 256) < 256
header_is_small true n = omega arith
header_is_small false n = omega arith

units_are_small : (b : Bool) (n : ℕ) → (if b then 0 else n % 4096) < 4096
units_are_small true n = omega arith
units_are_small false n = omega arith

sent_fits : (r : ReceiverEndView) (kind : DllpKind) → FitsFields (dllp_of r kind)
sent_fits r kinds.Answer = by_nak r.receiving.nak (previous_of r.receiving.next) (before_is_small r.receiving.next)
sent_fits r (kinds.Update class) =
    let own = ledger_of class r.ledger in
    (header_is_small (own.header.first == 0) (own.header.first + own.header.freed), units_are_small (own.units.first == 0) (own.units.first + own.units.freed))

-- ---- all of a wire

same_wire : (b : Bool) (e f : LaneEndsView) → f.back ≡ e.back → All FitsFields e.back → All FitsFields (if b then f else e).back
same_wire true e f same h = subst (λ (ds : List Dllp). All FitsFields ds) (sym same) h
same_wire false e f same h = h

rest_fit : (ds : List Dllp) → All FitsFields ds → All FitsFields (all_but_first ds)
rest_fit [] h = h
rest_fit (d ∷ ds) h = All-tail FitsFields d ds h

call_fits : (e : LaneEndsView) (call : Call) → All FitsFields e.back → All FitsFields (after_call e call).back
call_fits e (MakeRoom need) h = same_wire (may_enter e.sender need) e _ refl h
call_fits e Release h = h
call_fits e (Enter t mark) h = same_wire (may_enter e.sender (need_of t)) e _ refl h
call_fits e Transmit h = h
call_fits e (Deliver fate) h = h
call_fits e (SendDllp kind) h = All-push FitsFields e.back (dllp_of e.receiver kind) h (sent_fits e.receiver kind)
call_fits e (DeliverDllp fate) h = rest_fit e.back h
call_fits e Timer h = h
call_fits e Retrained h = h
call_fits e (Take place) h = same_wire (is_takeable e.receiver.queue place) e _ refl h

calls_fit : (e : LaneEndsView) (calls : List Call) → All FitsFields e.back → All FitsFields (after_calls e calls).back
calls_fit e [] h = h
calls_fit e (call ∷ calls) h = calls_fit (after_call e call) calls (call_fits e call h)

pub all_fit : (e : LaneEndsView) → IsRight e → All FitsFields e.back
all_fit e r = subst (λ (x : LaneEndsView). All FitsFields x.back) r.right.leads (calls_fit (new_lane r.credits) r.right.calls (All-nil FitsFields))
