-- A turn leaves a lane flushed, and all that it holds in the queue.
use Rattle.std.proofs.Common.{◌≡◌, ℕ, zero, suc, ◌+◌, ◌≤◌, List, [], ◌∷◌, ◌++◌, length, drop, refl, sym, ◌∙◌, ap, subst, arith}
use Rattle.std.proofs.lemmas.List.{append-nil, length-append, drop_all}
use Rattle.dllp_core.specs.declared.packet.Dllp.{Dllp}
use Rattle.dllp_core.specs.declared.packet.Class.TheVariants.{Posted, NonPosted, Completion}
use Rattle.link_replay.specs.CargoView.{CargoView}
use Rattle.link_replay.specs.ReceiverView.{acknowledgment_of}
use Rattle.flow_control.specs.declared.limits.LaneCredits.{LaneCredits}
use Rattle.flow_control.specs.Credits.{update_of}
use Rattle.lane_core.specs.declared.packet.WirePacket.{WirePacket}
use Rattle.lane_core.specs.declared.packet.Fate.TheVariants.{Good}
use Rattle.lane_core.specs.Content.{items_of, received_of, unaccepted_of}
use Rattle.lane_core.specs.Steps.{LaneEndsView, SenderEndView, ReceiverEndView}
use Rattle.lane_core.specs.Calls.{Call, Transmit, Deliver, DeliverDllp, Timer, Retrained, IsCall, AreCalls, after_call, after_calls, content, content_after, IsRightWith, IsRight}
use Rattle.lane_core.specs.Flushed.{IsFlushed, IsEnough, times, replayed, with_packets, sends, with_sent, with_dllps, turned}
use Rattle.lane_core.proofs.Below.{IsRead, Below}
use Rattle.lane_core.proofs.UnderWay.{AreNumbered}
use Rattle.lane_core.proofs.Sound.{answers_in, IsSound}
use Rattle.lane_core.proofs.Kept.{sound, right_with, right_by, content_by}
use Rattle.lane_core.proofs.Resent.{numbered, Resent, all_sent}
use Rattle.lane_core.proofs.Idle.{ends}
use Rattle.lane_core.proofs.Arrived.{after_wire, all_arrive, all_received}
use Rattle.lane_core.proofs.Acknowledged.{after_back, all_told, back_append, stale_told, acknowledges_all}
use Rattle.lane_core.proofs.Learned.{IsKept, all_learned}

-- ---- a turn keeps a lane right, and what it holds

times_right : (credits : LaneCredits) (n : ℕ) (e : LaneEndsView) (call : Call) → IsCall call → IsRightWith credits e → IsRightWith credits (times n e call)
unfolding times
times_right credits zero e call i r = r
times_right credits (suc n) e call i r = times_right credits n (after_call e call) call i (right_with credits e call i r)

calls_right : (credits : LaneCredits) (e : LaneEndsView) (calls : List Call) → AreCalls calls → IsRightWith credits e → IsRightWith credits (after_calls e calls)
calls_right credits e [] i r = r
calls_right credits e (call ∷ calls) i r = calls_right credits (after_call e call) calls i.1 (right_with credits e call i.0 r)

replayed_right : (credits : LaneCredits) (e : LaneEndsView) → IsRightWith credits e → IsRightWith credits (replayed e)
replayed_right credits e r = calls_right credits e (Timer ∷ Retrained ∷ []) (tt, (tt, tt)) r

resent_right : (credits : LaneCredits) (n : ℕ) (e : LaneEndsView) → IsRightWith credits e → IsRightWith credits (times n (replayed e) Transmit)
resent_right credits n e r = times_right credits n (replayed e) Transmit tt (replayed_right credits e r)

packets_right : (credits : LaneCredits) (n : ℕ) (e : LaneEndsView) → IsRightWith credits e → IsRightWith credits (with_packets n (replayed e))
packets_right credits n e r = times_right credits n (times n (replayed e) Transmit) (Deliver Good) tt (resent_right credits n e r)

sent_right : (credits : LaneCredits) (e : LaneEndsView) → IsRightWith credits e → IsRightWith credits (with_sent e)
sent_right credits e r = calls_right credits e sends (tt, (tt, (tt, (tt, tt)))) r

dllps_right : (credits : LaneCredits) (n : ℕ) (e : LaneEndsView) → IsRightWith credits e → IsRightWith credits (with_dllps n e)
dllps_right credits n e r = times_right credits n (with_sent e) (DeliverDllp Good) tt (sent_right credits e r)

pub turned_right : (credits : LaneCredits) (e : LaneEndsView) (n : ℕ) → IsRightWith credits e → IsRightWith credits (turned n e)
unfolding turned
turned_right credits e n r = dllps_right credits n (with_packets n (replayed e)) (packets_right credits n e r)

right : (credits : LaneCredits) (e : LaneEndsView) → IsRightWith credits e → IsRight e
right credits e r = record { credits = credits; right = r }

times_content : IsRead → (n : ℕ) (e : LaneEndsView) (call : Call) → IsCall call → ((m : LaneEndsView) → content_after m call ≡ content m) → IsRight e → content (times n e call) ≡ content e
unfolding times
times_content read zero e call i same r = refl
times_content read (suc n) e call i same r = times_content read n (after_call e call) call i same (right_by e call i r) ∙ content_by read e call i r ∙ same e

pub turned_content : IsRead → (e : LaneEndsView) (n : ℕ) → IsRight e → content (turned n e) ≡ content e
unfolding turned
turned_content read e n r =
    let sent = times n (replayed e) Transmit in
    let arrived = with_packets n (replayed e) in
    times_content read n (with_sent arrived) (DeliverDllp Good) tt (λ m. refl) (right r.credits _ (sent_right r.credits arrived (packets_right r.credits n e r.right)))
    ∙ times_content read n sent (Deliver Good) tt (λ m. refl) (right r.credits _ (resent_right r.credits n e r.right))
    ∙ times_content read n (replayed e) Transmit tt (λ m. refl) (right r.credits _ (replayed_right r.credits e r.right))

-- ---- after the packets all is received

numbered_length : (acked place : ℕ) (cs : List CargoView) → length (numbered acked place cs) ≡ length cs
numbered_length acked place [] = refl
numbered_length acked place (c ∷ cs) = let rest : length (numbered acked (place + 1) cs) ≡ length cs = numbered_length acked (place + 1) cs in omega (arith, rest)

record AllReceived (e : LaneEndsView) (new : LaneEndsView) : Type 0 where
  forward : new.forward ≡ []
  back : new.back ≡ e.back
  received : unaccepted_of new.sender.sending new.receiver.receiving.next ≡ []

receives_all : (n : ℕ) (e : LaneEndsView) (f : List WirePacket) → AreNumbered e.sender.sending e.forward (answers_in e.back) e.receiver.receiving.next →
    e.forward ≡ f ++ numbered e.sender.sending.acked 0 e.sender.sending.kept → length f + 2047 ≤ n → AllReceived e (times n e (Deliver Good))
receives_all n e f k h l =
    let s = e.sender.sending in
    let mine : length (numbered s.acked 0 s.kept) ≡ length s.kept = numbered_length s.acked 0 s.kept in
    let both : length e.forward ≡ length f + length (numbered s.acked 0 s.kept) = ap (λ (ps : List WirePacket). length ps) h ∙ length-append f (numbered s.acked 0 s.kept) in
    let window : length s.kept ≤ 2047 = k.window in
    let all = all_arrive n e.sender e.forward e.back e.receiver (omega (arith, mine, both, window, l)) in
    let none = all_received s f (answers_in e.back) e.receiver (subst (λ (ps : List WirePacket). AreNumbered s ps (answers_in e.back) e.receiver.receiving.next) h k) in
    subst (λ (m : LaneEndsView). AllReceived e m) (sym all)
    (record { forward = refl; back = refl; received = subst (λ (ps : List WirePacket). unaccepted_of s (after_wire e.receiver ps).receiving.next ≡ []) (sym h) none })

packets_received : IsRead → (credits : LaneCredits) (n : ℕ) (e : LaneEndsView) → IsRightWith credits e → length e.forward + 2047 ≤ n → AllReceived e (with_packets n (replayed e))
packets_received read credits n e r l =
    let mid = times n (replayed e) Transmit in
    let window : length e.sender.sending.kept ≤ 2047 = (sound read e (right credits e r)).numbered.window in
    let sent : Resent (replayed e) e.sender.sending.kept mid = all_sent n (replayed e) e.sender.sending.kept refl refl (omega (arith, window, l)) in
    let wire : mid.forward ≡ e.forward ++ numbered mid.sender.sending.acked 0 mid.sender.sending.kept = rw (sent.acked, sent.kept) sent.forward in
    let done = receives_all n mid e.forward (sound read mid (right credits mid (resent_right credits n e r))).numbered wire l in
    record { forward = done.forward; back = done.back ∙ sent.back; received = done.received }

-- ---- after the DLLPs all is acknowledged, and all credit is known

four_more : (xs : List Dllp) (a b c d : Dllp) → (((xs ++ a ∷ []) ++ b ∷ []) ++ c ∷ []) ++ d ∷ [] ≡ xs ++ a ∷ b ∷ c ∷ d ∷ []
four_more [] a b c d = refl
four_more (x ∷ xs) a b c d = ap (λ (ds : List Dllp). x ∷ ds) (four_more xs a b c d)

-- what a turn puts on the back wire
abbrev told_by : ReceiverEndView → List Dllp
told_by r = acknowledgment_of r.receiving ∷ update_of r.ledger Posted ∷ update_of r.ledger NonPosted ∷ update_of r.ledger Completion ∷ []

sent_is : (e : LaneEndsView) → (with_sent e).back ≡ e.back ++ told_by e.receiver
sent_is e = four_more e.back (acknowledgment_of e.receiver.receiving) (update_of e.receiver.ledger Posted) (update_of e.receiver.ledger NonPosted) (update_of e.receiver.ledger Completion)

told_is : (n : ℕ) (e : LaneEndsView) → length e.back + 4 ≤ n →
    with_dllps n e ≡ ends (after_back (after_back e.sender e.back) (told_by e.receiver)) e.forward [] (with_sent e).receiver
told_is n e l =
    let four : length (told_by e.receiver) ≡ 4 = refl in
    let both : length (with_sent e).back ≡ length e.back + length (told_by e.receiver) = ap (λ (ds : List Dllp). length ds) (sent_is e) ∙ length-append e.back (told_by e.receiver) in
    all_told n e.sender e.forward (with_sent e).back (with_sent e).receiver (omega (arith, both, four, l))
    ∙ ap (λ (s : SenderEndView). ends s e.forward [] (with_sent e).receiver) (ap (λ (ds : List Dllp). after_back e.sender ds) (sent_is e) ∙ back_append e.sender e.back (told_by e.receiver))

dllps_flush : Below → IsKept → (credits : LaneCredits) (n : ℕ) (e : LaneEndsView) → IsRightWith credits e → e.forward ≡ [] → unaccepted_of e.sender.sending e.receiver.receiving.next ≡ [] → length e.back + 4 ≤ n →
    IsFlushed (with_dllps n e)
dllps_flush laws keeps credits n e r f u l =
    let next = e.receiver.receiving.next in
    let is = told_is n e l in
    let sent : IsSound (with_sent e) = sound laws.read (with_sent e) (right credits (with_sent e) (sent_right credits e r)) in
    let k : AreNumbered e.sender.sending e.forward (answers_in (e.back ++ told_by e.receiver)) next =
    subst (λ (ds : List Dllp). AreNumbered e.sender.sending e.forward (answers_in ds) next) (sent_is e) sent.numbered in
    let stale = stale_told e.sender e.forward e.back (told_by e.receiver) next k in
    let updates = update_of e.receiver.ledger Posted ∷ update_of e.receiver.ledger NonPosted ∷ update_of e.receiver.ledger Completion ∷ [] in
    let kept = acknowledges_all (after_back e.sender e.back) e.forward updates e.receiver.receiving stale.0 (stale.1 ∙ u) in
    let back : (with_dllps n e).back ≡ [] = ap (λ (m : LaneEndsView). m.back) is in
    record {
      forward = ap (λ (m : LaneEndsView). m.forward) is ∙ f;
      back = back;
      kept = ap (λ (m : LaneEndsView). m.sender.sending.kept) is ∙ kept;
      known = all_learned laws keeps credits n e r sent back;
    }

-- ---- a turn

pub turned_flushed : Below → IsKept → (credits : LaneCredits) (e : LaneEndsView) (n : ℕ) → IsRightWith credits e → IsEnough n e → IsFlushed (turned n e)
unfolding turned
turned_flushed laws keeps credits e n r enough =
    let mid = with_packets n (replayed e) in
    let done = packets_received laws.read credits n e r enough.packets in
    let few : length mid.back + 4 ≤ n = subst (λ (ds : List Dllp). length ds + 4 ≤ n) (sym done.back) enough.dllps in
    dllps_flush laws keeps credits n mid (packets_right credits n e r) done.forward done.received few

flushed_queue : (e : LaneEndsView) → IsFlushed e → e.receiver.queue ≡ content e
flushed_queue e h =
    let none : drop (received_of e.sender.sending e.receiver.receiving.next) e.sender.sending.kept ≡ [] =
    drop_all (received_of e.sender.sending e.receiver.receiving.next) e.sender.sending.kept (let empty : length e.sender.sending.kept ≡ 0 = ap (λ (cs : List CargoView). length cs) h.kept in omega (arith, empty)) in
    sym (append-nil e.receiver.queue) ∙ ap (λ (cs : List CargoView). e.receiver.queue ++ items_of cs) (sym none)

pub turned_queue : Below → IsKept → (e : LaneEndsView) (n : ℕ) → IsRight e → IsEnough n e → (turned n e).receiver.queue ≡ content e
turned_queue laws keeps e n r enough = flushed_queue (turned n e) (turned_flushed laws keeps r.credits e n r.right enough) ∙ turned_content laws.read e n r
