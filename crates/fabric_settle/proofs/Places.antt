-- A sender has sent at most what it keeps.
use Rattle.std.proofs.Common.{◌≡◌, ℕ, ◌+◌, ◌-◌, ◌<◌, ◌≤◌, Bool, true, false, List, [], ◌∷◌, ◌++◌, length, drop, refl, sym, ap, subst, arith, length-drop, if◌then◌else◌}
use Rattle.std.specs.Prelude.{nat_lt}
use Rattle.std.proofs.lemmas.Bool.Decides.{nat_tests}
use Rattle.std.proofs.lemmas.List.{length_push}
use Rattle.dllp_core.specs.declared.packet.Dllp.{Dllp}
use Rattle.dllp_core.specs.declared.packet.Dllp.TheVariants.{Ack, Nak, Update}
use Rattle.flow_control.specs.declared.limits.LaneCredits.{LaneCredits}
use Rattle.flow_control.specs.Needs.{need_of}
use Rattle.seq12.specs.Numbers.{distance_of}
use Rattle.link_replay.specs.CargoView.{CargoView}
use Rattle.link_replay.specs.SenderView.{SenderView, with_accepted, after_transmit, acknowledged, from_oldest, is_outstanding}
use Rattle.flow_control.specs.Queue.{is_takeable}
use Rattle.lane_core.specs.declared.packet.Fate.{Fate}
use Rattle.lane_core.specs.declared.packet.Fate.TheVariants.{Good, Failed, Lost}
use Rattle.lane_core.specs.Content.{cargo_of}
use Rattle.lane_core.specs.Steps.{LaneEndsView, SenderEndView, new_lane, may_enter, entered, with_room, after_take, sender_after, sending_told}
use Rattle.lane_core.specs.Calls.{Call, MakeRoom, Release, Enter, Transmit, Deliver, SendDllp, DeliverDllp, Timer, Retrained, Take, after_call, after_calls, IsRightWith}

abbrev Within : SenderView → Type 0
Within s = s.place ≤ length s.kept

accepted_within : (s : SenderView) (c : CargoView) → Within s → Within (with_accepted s c)
accepted_within s c h = let longer : length (s.kept ++ c ∷ []) ≡ length s.kept + 1 = length_push s.kept c in omega arith

transmitted_within : (s : SenderView) → Within s → Within (after_transmit s)
transmitted_within s h = by_tests s.stopped (nat_lt s.place (length s.kept)) refl
  where
    by_tests : (a b : Bool) → nat_lt s.place (length s.kept) ≡ b → (if a then s.place else (if b then s.place + 1 else s.place)) ≤ length s.kept
    by_tests true b k = h
    by_tests false true k = let less : s.place < length s.kept = grind (arith, nat_tests) in omega arith
    by_tests false false k = h

acknowledged_within : (s : SenderView) (number : ℕ) → Within s → Within (acknowledged s number)
acknowledged_within s number h =
    let left : length (drop (distance_of number s.acked) s.kept) ≡ length s.kept - distance_of number s.acked = length-drop (distance_of number s.acked) s.kept in
    subst (λ n. s.place - distance_of number s.acked ≤ n) (sym left) (less (distance_of number s.acked) s.place (length s.kept) h)
  where
    less : (d a b : ℕ) → a ≤ b → a - d ≤ b - d
    less d a b k = omega arith

told_within : (s : SenderView) (d : Dllp) → Within s → Within (sending_told s d)
told_within s (Ack number) h = by_test (is_outstanding s number)
  where
    by_test : (b : Bool) → Within (if b then acknowledged s number else s)
    by_test true = acknowledged_within s number h
    by_test false = h
told_within s (Nak number) h = by_test (is_outstanding s number)
  where
    by_test : (b : Bool) → Within (if b then from_oldest (acknowledged s number) else s)
    by_test true = omega arith
    by_test false = h
told_within s (Update class header units) h = h

dllp_within : (s : SenderEndView) (back : List Dllp) (fate : Fate) → Within s.sending → Within (sender_after back s fate).sending
dllp_within s [] fate h = h
dllp_within s (d ∷ ds) Good h = told_within s.sending d h
dllp_within s (d ∷ ds) Failed h = h
dllp_within s (d ∷ ds) Lost h = h

abbrev Holds : LaneEndsView → Type 0
Holds e = Within e.sender.sending

by_choice : (b : Bool) (d e : LaneEndsView) → Holds d → Holds e → Holds (if b then d else e)
by_choice true d e h k = h
by_choice false d e h k = k

call_within : (e : LaneEndsView) (call : Call) → Holds e → Holds (after_call e call)
call_within e (MakeRoom need) h = by_choice (may_enter e.sender need) (record e { sender = with_room e.sender }) e h h
call_within e Release h = h
call_within e (Enter t mark) h = by_choice (may_enter e.sender (need_of t)) (record e { sender = entered e.sender t mark }) e (accepted_within e.sender.sending (cargo_of t mark) h) h
call_within e Transmit h = transmitted_within e.sender.sending h
call_within e (Deliver fate) h = h
call_within e (SendDllp kind) h = h
call_within e (DeliverDllp fate) h = dllp_within e.sender e.back fate h
call_within e Timer h = omega arith
call_within e Retrained h = h
call_within e (Take place) h = by_choice (is_takeable e.receiver.queue place) (record e { receiver = after_take e.receiver place }) e h h

calls_within : (e : LaneEndsView) (calls : List Call) → Holds e → Holds (after_calls e calls)
calls_within e [] h = h
calls_within e (call ∷ calls) h = calls_within (after_call e call) calls (call_within e call h)

pub within : (credits : LaneCredits) (e : LaneEndsView) → IsRightWith credits e → Holds e
within credits e r = subst Holds r.leads (calls_within (new_lane credits) r.calls (omega arith))

-- what keeps nothing has nothing to send again
pub nothing_sent : (credits : LaneCredits) (e : LaneEndsView) → IsRightWith credits e → e.sender.sending.kept ≡ [] → e.sender.sending.place ≡ 0
nothing_sent credits e r none =
    let few : e.sender.sending.place ≤ length e.sender.sending.kept = within credits e r in
    let zero_kept : length e.sender.sending.kept ≡ 0 = ap (λ (kept : List CargoView). length kept) none in
    omega arith
