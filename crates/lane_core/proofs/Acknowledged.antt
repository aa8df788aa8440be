-- All DLLPs of the wire arrive, the last Ack or Nak among them.
use Rattle.std.proofs.Common.{◌≡◌, ℕ, zero, suc, ◌≤◌, List, [], ◌∷◌, ◌++◌, length, drop, refl, ◌∙◌, ap, arith}
use Rattle.dllp_core.specs.declared.packet.Dllp.{Dllp}
use Rattle.seq12.specs.Numbers.{previous_of, distance_of}
use Rattle.link_replay.specs.SenderView.{SenderView}
use Rattle.link_replay.specs.declared.receiver.NakScheduled.{NakScheduled}
use Rattle.link_replay.specs.declared.receiver.NakScheduled.TheVariants.{Clear, Due, Sent}
use Rattle.link_replay.specs.ReceiverView.{ReceiverView, acknowledgment_of, dllp_by}
use Rattle.lane_core.specs.declared.packet.WirePacket.{WirePacket}
use Rattle.lane_core.specs.declared.packet.Fate.TheVariants.{Good}
use Rattle.lane_core.specs.Content.{unaccepted_of}
use Rattle.lane_core.specs.Steps.{SenderEndView, ReceiverEndView, after_dllp}
use Rattle.lane_core.specs.Calls.{DeliverDllp}
use Rattle.lane_core.specs.Flushed.{times}
use Rattle.lane_core.proofs.UnderWay.{AreNumbered}
use Rattle.lane_core.proofs.Arithmetic.{last_distance}
use Rattle.lane_core.proofs.Sound.{answers_in, named, deliver_dllp_right}
use Rattle.lane_core.proofs.Idle.{ends, times_idle}

-- the sender after these DLLPs
abbrev pub after_back : SenderEndView → List Dllp → SenderEndView
after_back s [] = s
after_back s (d ∷ ds) = after_back (after_dllp s d Good) ds

pub all_told : (n : ℕ) (s : SenderEndView) (f : List WirePacket) (b : List Dllp) (r : ReceiverEndView) → length b ≤ n → times n (ends s f b r) (DeliverDllp Good) ≡ ends (after_back s b) f [] r
unfolding times
all_told n s f [] r l = times_idle n (ends s f [] r) (DeliverDllp Good) refl
all_told zero s f (d ∷ b) r l = absurd (omega (arith, l))
all_told (suc n) s f (d ∷ b) r l = all_told n (after_dllp s d Good) f b r (omega (arith, l))

pub back_append : (s : SenderEndView) (b c : List Dllp) → after_back s (b ++ c) ≡ after_back (after_back s b) c
back_append s [] c = refl
back_append s (d ∷ b) c = back_append (after_dllp s d Good) b c

-- whatever is stale
pub stale_told : (s : SenderEndView) (f : List WirePacket) (b c : List Dllp) (next : ℕ) → AreNumbered s.sending f (answers_in (b ++ c)) next →
    AreNumbered (after_back s b).sending f (answers_in c) next × (unaccepted_of (after_back s b).sending next ≡ unaccepted_of s.sending next)
stale_told s f [] c next k = (k, refl)
stale_told s f (d ∷ b) c next k =
    let step = deliver_dllp_right s f (d ∷ (b ++ c)) next Good k in
    let rest = stale_told (after_dllp s d Good) f b c next step.0 in
    (rest.0, rest.1 ∙ step.1)

-- the last Ack or Nak is of all that is received
none_kept : (s : SenderView) (f : List WirePacket) (b : List ℕ) (next : ℕ) → AreNumbered s f (previous_of next ∷ b) next → unaccepted_of s next ≡ [] → drop (distance_of (previous_of next) s.acked) s.kept ≡ []
none_kept s f b next k u =
    ap (λ (n : ℕ). drop n s.kept) (last_distance s.acked next k.acked_in_range k.next_in_range) ∙ u

pub acknowledges_all : (s : SenderEndView) (f : List WirePacket) (b : List Dllp) (r : ReceiverView) → AreNumbered s.sending f (answers_in (acknowledgment_of r ∷ b)) r.next → unaccepted_of s.sending r.next ≡ [] →
    (after_dllp s (acknowledgment_of r) Good).sending.kept ≡ []
acknowledges_all s f b r k u = by_nak r.nak k
  where
    number : ℕ
    number = previous_of r.next

    by_nak : (nak : NakScheduled) → AreNumbered s.sending f (answers_in (dllp_by nak number ∷ b)) r.next → (after_dllp s (dllp_by nak number) Good).sending.kept ≡ []
    by_nak Clear k = rw (named s.sending f number (answers_in b) r.next k) (none_kept s.sending f (answers_in b) r.next k u)
    by_nak Due k = rw (named s.sending f number (answers_in b) r.next k) (none_kept s.sending f (answers_in b) r.next k u)
    by_nak Sent k = rw (named s.sending f number (answers_in b) r.next k) (none_kept s.sending f (answers_in b) r.next k u)
