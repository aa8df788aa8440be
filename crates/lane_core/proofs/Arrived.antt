-- All packets of the wire arrive.
use Rattle.std.proofs.Common.{◌≡◌, ℕ, zero, suc, ◌+◌, ◌-◌, ◌%◌, ◌<◌, ◌≤◌, Bool, true, false, List, [], ◌∷◌, ◌++◌, length, refl, arith}
use Rattle.std.specs.Prelude.{nat_le, if◌then◌else◌, ◌==◌}
use Rattle.std.proofs.lemmas.List.{drop_all}
use Rattle.std.proofs.lemmas.Bool.Decides.{nat_tests}
use Rattle.dllp_core.specs.declared.packet.Dllp.{Dllp}
use Rattle.seq12.specs.Numbers.{next_of, distance_of}
use Rattle.seq12.specs.declared.class.SequenceClass.TheVariants.{Expected, Duplicate as Older, Ahead}
use Rattle.link_replay.specs.CargoView.{CargoView}
use Rattle.link_replay.specs.SenderView.{SenderView}
use Rattle.link_replay.specs.declared.receiver.NakScheduled.{NakScheduled}
use Rattle.link_replay.specs.declared.receiver.NakScheduled.TheVariants.{Clear, Due, Sent}
use Rattle.link_replay.specs.ReceiverView.{ReceiverView, answer_by, next_after}
use Rattle.lane_core.specs.declared.packet.WirePacket.{WirePacket}
use Rattle.lane_core.specs.declared.packet.Fate.TheVariants.{Good}
use Rattle.lane_core.specs.Content.{received_of, unaccepted_of}
use Rattle.lane_core.specs.Steps.{SenderEndView, ReceiverEndView, arrival_of, receiving_on, after_arrival}
use Rattle.lane_core.specs.Calls.{Deliver}
use Rattle.lane_core.specs.Flushed.{times}
use Rattle.lane_core.proofs.UnderWay.{AreNumbered}
use Rattle.lane_core.proofs.Right.{one_received}
use Rattle.lane_core.proofs.Sound.{deliver_right}
use Rattle.lane_core.proofs.Idle.{ends, times_idle}
use Rattle.lane_core.proofs.Resent.{numbered}

-- the receiver after these packets
abbrev pub after_wire : ReceiverEndView → List WirePacket → ReceiverEndView
after_wire r [] = r
after_wire r (p ∷ f) = after_wire (after_arrival r p.cargo (arrival_of r.receiving p.number Good)) f

pub all_arrive : (n : ℕ) (s : SenderEndView) (f : List WirePacket) (b : List Dllp) (r : ReceiverEndView) → length f ≤ n → times n (ends s f b r) (Deliver Good) ≡ ends s [] b (after_wire r f)
unfolding times
all_arrive n s [] b r l = times_idle n (ends s [] b r) (Deliver Good) refl
all_arrive zero s (p ∷ f) b r l = absurd (omega (arith, l))
all_arrive (suc n) s (p ∷ f) b r l = all_arrive n s f b (after_arrival r p.cargo (arrival_of r.receiving p.number Good)) (omega (arith, l))

-- ---- a packet that arrives at its place is received then, or was before

-- a number that isn't waited for leaves NEXT_RCV_SEQ
other_next : (next : ℕ) (near : Bool) (nak : NakScheduled) → next_after next (answer_by (if near then Older else Ahead) nak) ≡ next
other_next next true nak = refl
other_next next false Clear = refl
other_next next false Due = refl
other_next next false Sent = refl

-- the number of a place is waited for exactly where all before it are received
place_of : (acked next place : ℕ) → acked < 4096 → next < 4096 → (next + 4095 - acked) % 4096 ≡ place → (acked + 1 + place) % 4096 ≡ next
place_of acked next place a n h = omega (arith, a, n, h)

later_place : (acked next place : ℕ) (same : Bool) → acked < 4096 → next < 4096 → place ≤ (next + 4095 - acked) % 4096 → ((acked + 1 + place) % 4096 == next) ≡ same → same ≡ false →
    place + 1 ≤ (next + 4095 - acked) % 4096
later_place acked next place same a n h e f =
    let other : (next + 4095 - acked) % 4096 ≡ place → (acked + 1 + place) % 4096 ≡ next = place_of acked next place a n in
    grind (arith, nat_tests)

by_test : (s : SenderView) (next got place : ℕ) (nak : NakScheduled) (same near : Bool) → s.acked < 4096 → next < 4096 → received_of s (next_of next) ≡ received_of s next + 1 → got ≡ (s.acked + 1 + place) % 4096 →
    place ≤ received_of s next → (got == next) ≡ same → place + 1 ≤ received_of s (next_after next (answer_by (if same then Expected else (if near then Older else Ahead)) nak))
by_test s next got place nak true near a n one g h e = omega (arith, one, h)
by_test s next got place nak false near a n one g h e =
    let test : ((s.acked + 1 + place) % 4096 == next) ≡ false = rw g at e in
    rw (other_next next near nak) (later_place s.acked next place false a n h test refl)

gains : (s : SenderView) (p : WirePacket) (f : List WirePacket) (b : List ℕ) (r : ReceiverView) (place : ℕ) → AreNumbered s (p ∷ f) b r.next → p.number ≡ (s.acked + 1 + place) % 4096 →
    place ≤ received_of s r.next → place + 1 ≤ received_of s (receiving_on r (arrival_of r p.number Good)).next
gains s p f b r place k g h =
    by_test s r.next p.number place r.nak (p.number == r.next) (nat_le (distance_of r.next p.number) 2048) k.acked_in_range k.next_in_range (one_received s p f b r.next k) g h refl

-- ---- the whole wire

-- whatever is stale
pub stale_arrive : (s : SenderView) (f g : List WirePacket) (b : List ℕ) (r : ReceiverEndView) → AreNumbered s (f ++ g) b r.receiving.next → AreNumbered s g b (after_wire r f).receiving.next
stale_arrive s [] g b r k = k
stale_arrive s (p ∷ f) g b r k =
    stale_arrive s f g b (after_arrival r p.cargo (arrival_of r.receiving p.number Good)) (deliver_right s (p ∷ (f ++ g)) b r Good k).0

-- and all that is kept
kept_arrive : (s : SenderView) (place : ℕ) (cs : List CargoView) (b : List ℕ) (r : ReceiverEndView) → AreNumbered s (numbered s.acked place cs) b r.receiving.next → place ≤ received_of s r.receiving.next →
    place + length cs ≤ received_of s (after_wire r (numbered s.acked place cs)).receiving.next
kept_arrive s place [] b r k h = omega (arith, h)
kept_arrive s place (c ∷ cs) b r k h =
    let p : WirePacket = record { number = (s.acked + 1 + place) % 4096; cargo = c } in
    let f = numbered s.acked (place + 1) cs in
    let rest = kept_arrive s (place + 1) cs b (after_arrival r c (arrival_of r.receiving p.number Good)) (deliver_right s (p ∷ f) b r Good k).0 (gains s p f b r.receiving place k refl h) in
    omega (arith, rest)

wire_append : (r : ReceiverEndView) (f g : List WirePacket) → after_wire r (f ++ g) ≡ after_wire (after_wire r f) g
wire_append r [] g = refl
wire_append r (p ∷ f) g = wire_append (after_arrival r p.cargo (arrival_of r.receiving p.number Good)) f g

-- then all that is kept is received
pub all_received : (s : SenderView) (f : List WirePacket) (b : List ℕ) (r : ReceiverEndView) → AreNumbered s (f ++ numbered s.acked 0 s.kept) b r.receiving.next →
    unaccepted_of s (after_wire r (f ++ numbered s.acked 0 s.kept)).receiving.next ≡ []
all_received s f b r k =
    let r' = after_wire r f in
    let all = kept_arrive s 0 s.kept b r' (stale_arrive s f (numbered s.acked 0 s.kept) b r k) (omega arith) in
    rw (wire_append r f (numbered s.acked 0 s.kept))
    (drop_all (received_of s (after_wire r' (numbered s.acked 0 s.kept)).receiving.next) s.kept (omega (arith, all)))
