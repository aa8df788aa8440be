-- Each call keeps a lane right, and the list of what is entered and not yet accepted.
use Rattle.std.proofs.Common.{◌≡◌, ℕ, zero, suc, zero-add, ◌+◌, ◌-◌, ◌%◌, ◌<◌, ◌≤◌, max, Bool, true, false, List, [], ◌∷◌, ◌++◌, length, drop, Option, Some, None, refl, sym, ◌∙◌, ap, subst, arith}
use Rattle.std.specs.Prelude.{slice_get, nat_lt, if◌then◌else◌}
use Rattle.std.proofs.lemmas.Option.{slice_get_within}
use Rattle.std.proofs.lemmas.List.{drop-drop, drop-append-le, length-drop, length_push, append-nil}
use Rattle.std.proofs.lemmas.Bool.Decides.{nat_tests}
use Rattle.seq12.specs.Numbers.{next_of, distance_of}
use Rattle.link_replay.specs.SenderView.{SenderView, number_at, with_accepted, after_transmit, next_item, with_reserved, released, acknowledged, from_oldest, trained}
use Rattle.lane_core.specs.declared.packet.WirePacket.{WirePacket}
use Rattle.link_replay.specs.CargoView.{CargoView}
use Rattle.lane_core.specs.Content.{received_of, unaccepted_of}
use Rattle.lane_core.proofs.UnderWay.{ahead_of, IsForward, AreNumbered}
use Rattle.lane_core.specs.Steps.{packets_sent}
use Rattle.lane_core.proofs.Arithmetic.{ahead_same, ahead_sent, received_step, last_distance, received_acked}
use Rattle.lane_core.proofs.Forward as forward
use Rattle.lane_core.proofs.Backward as backward

-- enter

pub entered_unaccepted : (s : SenderView) (f : List WirePacket) (b : List ℕ) (next : ℕ) (item : CargoView) → AreNumbered s f b next →
    unaccepted_of (with_accepted s item) next ≡ unaccepted_of s next ++ item ∷ []
entered_unaccepted s f b next item r = drop-append-le (received_of s next) s.kept (item ∷ []) r.received

pub entered_right : (s : SenderView) (f : List WirePacket) (b : List ℕ) (next : ℕ) (item : CargoView) → length s.kept < 2047 → AreNumbered s f b next →
    AreNumbered (with_accepted s item) f b next
entered_right s f b next item room r =
    let longer : length (s.kept ++ item ∷ []) ≡ length s.kept + 1 = length_push s.kept item in
    record {
      acked_in_range = r.acked_in_range;
      next_in_range = r.next_in_range;
      window = omega arith;
      place = (let place : s.place ≤ length s.kept = r.place in omega arith);
      received = (let received : received_of s next ≤ length s.kept = r.received in omega arith);
      packets = rw (entered_unaccepted s f b next item r) (forward.longer next (unaccepted_of s next) (item ∷ []) 2048 f r.packets);
      dllps = r.dllps;
    }

-- timer

pub restarted_right : (s : SenderView) (f : List WirePacket) (b : List ℕ) (next : ℕ) → AreNumbered s f b next → AreNumbered (from_oldest s) f b next
restarted_right s f b next r =
    record {
      acked_in_range = r.acked_in_range;
      next_in_range = r.next_in_range;
      window = r.window;
      place = omega arith;
      received = r.received;
      packets = r.packets;
      dllps = r.dllps;
    }

pub trained_right : (s : SenderView) (f : List WirePacket) (b : List ℕ) (next : ℕ) → AreNumbered s f b next → AreNumbered (trained s) f b next
trained_right s f b next r =
    record {
      acked_in_range = r.acked_in_range;
      next_in_range = r.next_in_range;
      window = r.window;
      place = r.place;
      received = r.received;
      packets = r.packets;
      dllps = r.dllps;
    }

-- make_room

pub reserved_right : (s : SenderView) (f : List WirePacket) (b : List ℕ) (next : ℕ) → AreNumbered s f b next → AreNumbered (with_reserved s) f b next
reserved_right s f b next r =
    record {
      acked_in_range = r.acked_in_range;
      next_in_range = r.next_in_range;
      window = r.window;
      place = r.place;
      received = r.received;
      packets = r.packets;
      dllps = r.dllps;
    }

-- release

pub released_right : (s : SenderView) (f : List WirePacket) (b : List ℕ) (next : ℕ) → AreNumbered s f b next → AreNumbered (released s) f b next
released_right s f b next r =
    record {
      acked_in_range = r.acked_in_range;
      next_in_range = r.next_in_range;
      window = r.window;
      place = r.place;
      received = r.received;
      packets = r.packets;
      dllps = r.dllps;
    }

-- transmit

pub slice_get-drop : (xs : List CargoView) (n k : ℕ) → slice_get (drop n xs) k ≡ slice_get xs (n + k)
slice_get-drop xs zero k = ap (slice_get xs) (sym (zero-add k))
slice_get-drop [] (suc n) k = refl
slice_get-drop (x ∷ xs) (suc n) k = let e : suc n + k ≡ suc (n + k) = omega arith in rw e (slice_get-drop xs n k)

wire_right : (s : SenderView) (f : List WirePacket) (next : ℕ) (got : Option CargoView) → slice_get s.kept s.place ≡ got →
    s.acked < 4096 → next < 4096 → length s.kept ≤ 2047 → received_of s next ≤ length s.kept →
    IsForward next (unaccepted_of s next) 2048 f → IsForward next (unaccepted_of s next) 2048 (f ++ packets_sent s got)
wire_right s f next None e a n w r p = rw (append-nil f) p
wire_right s f next (Some item) e a n w r p =
    let inside : s.place < length s.kept = slice_get_within s.kept s.place item e in
    let sent : ahead_of (number_at s s.place) next + received_of s next ≡ s.place + 2048 =
    ahead_sent s.acked next s.place a n (omega arith) (omega arith) in
    let left : length (unaccepted_of s next) ≡ length s.kept - received_of s next = length-drop (received_of s next) s.kept in
    forward.one_more next (unaccepted_of s next) 2048 f (record { number = number_at s s.place; cargo = item }) (omega arith) p
    (record {
      in_range = omega arith;
      near = omega arith;
      cargo = λ far.
          let back : received_of s next + (ahead_of (number_at s s.place) next - 2048) ≡ s.place = omega arith in
          slice_get-drop s.kept (received_of s next) (ahead_of (number_at s s.place) next - 2048) ∙ ap (slice_get s.kept) back ∙ e;
    })

sent_right : (s : SenderView) (f : List WirePacket) (next : ℕ) (stopped : Bool) →
    s.acked < 4096 → next < 4096 → length s.kept ≤ 2047 → received_of s next ≤ length s.kept →
    IsForward next (unaccepted_of s next) 2048 f → IsForward next (unaccepted_of s next) 2048 (f ++ packets_sent s (if stopped then None else slice_get s.kept s.place))
sent_right s f next true a n w r p = rw (append-nil f) p
sent_right s f next false a n w r p = wire_right s f next (slice_get s.kept s.place) refl a n w r p

place_right : (place count : ℕ) (stopped : Bool) → place ≤ count → (if stopped then place else (if nat_lt place count then place + 1 else place)) ≤ count
place_right place count true h = h
place_right place count false h = grind (arith, nat_tests)

pub transmitted_right : (s : SenderView) (f : List WirePacket) (b : List ℕ) (next : ℕ) → AreNumbered s f b next →
    AreNumbered (after_transmit s) (f ++ packets_sent s (next_item s)) b next
transmitted_right s f b next r =
    record {
      acked_in_range = r.acked_in_range;
      next_in_range = r.next_in_range;
      window = r.window;
      place = place_right s.place (length s.kept) s.stopped r.place;
      received = r.received;
      packets = sent_right s f next s.stopped r.acked_in_range r.next_in_range r.window r.received r.packets;
      dllps = r.dllps;
    }

-- deliver

-- a packet is lost or discarded
pub discarded_right : (s : SenderView) (p : WirePacket) (f : List WirePacket) (b : List ℕ) (next : ℕ) → AreNumbered s (p ∷ f) b next → AreNumbered s f b next
discarded_right s p f b next r =
    record {
      acked_in_range = r.acked_in_range;
      next_in_range = r.next_in_range;
      window = r.window;
      place = r.place;
      received = r.received;
      packets = forward.weaker next (unaccepted_of s next) (max 2048 (ahead_of p.number next + 1)) 2048 f (omega arith) r.packets.1;
      dllps = r.dllps;
    }

pub first_is : (xs : List CargoView) (x : CargoView) → slice_get xs 0 ≡ Some x → xs ≡ x ∷ drop 1 xs
first_is [] x h = cc
first_is (y ∷ xs) x h = cc

here : (s : SenderView) (p : WirePacket) (f : List WirePacket) (b : List ℕ) (next : ℕ) → AreNumbered s (p ∷ f) b next → p.number ≡ next → ahead_of p.number next ≡ 2048
here s p f b next r e = rw e (ahead_same next r.next_in_range)

first_unaccepted : (s : SenderView) (p : WirePacket) (f : List WirePacket) (b : List ℕ) (next : ℕ) → AreNumbered s (p ∷ f) b next → p.number ≡ next →
    slice_get (unaccepted_of s next) 0 ≡ Some p.cargo
first_unaccepted s p f b next r e =
    let h : ahead_of p.number next ≡ 2048 = here s p f b next r e in
    rw h at (r.packets.0.cargo (omega arith))

pub one_received : (s : SenderView) (p : WirePacket) (f : List WirePacket) (b : List ℕ) (next : ℕ) → AreNumbered s (p ∷ f) b next →
    received_of s (next_of next) ≡ received_of s next + 1
one_received s p f b next r =
    let window : length s.kept ≤ 2047 = r.window in
    let received : received_of s next ≤ length s.kept = r.received in
    received_step s.acked next r.acked_in_range r.next_in_range (omega arith)

-- the packet that is taken is the first that was not
pub taken_first : (s : SenderView) (p : WirePacket) (f : List WirePacket) (b : List ℕ) (next : ℕ) → AreNumbered s (p ∷ f) b next → p.number ≡ next →
    unaccepted_of s next ≡ p.cargo ∷ unaccepted_of s (next_of next)
taken_first s p f b next r e =
    first_is (unaccepted_of s next) p.cargo (first_unaccepted s p f b next r e)
    ∙ ap (λ (rest : List CargoView). p.cargo ∷ rest)
    (drop-drop 1 (received_of s next) s.kept ∙ ap (λ (k : ℕ). drop k s.kept) (sym (one_received s p f b next r)))

pub taken_right : (s : SenderView) (p : WirePacket) (f : List WirePacket) (b : List ℕ) (next : ℕ) → AreNumbered s (p ∷ f) b next → p.number ≡ next →
    AreNumbered s f b (next_of next)
taken_right s p f b next r e =
    let h : ahead_of p.number next ≡ 2048 = here s p f b next r e in
    let one : received_of s (next_of next) ≡ received_of s next + 1 = one_received s p f b next r in
    let left : length (unaccepted_of s next) ≡ length s.kept - received_of s next = length-drop (received_of s next) s.kept in
    let some : 0 < length (unaccepted_of s next) = slice_get_within (unaccepted_of s next) 0 p.cargo (first_unaccepted s p f b next r e) in
    record {
      acked_in_range = r.acked_in_range;
      next_in_range = omega arith;
      window = r.window;
      place = r.place;
      received = omega arith;
      packets =
          forward.accepted next p.cargo (unaccepted_of s (next_of next)) 2048 f r.next_in_range (omega arith)
          (subst (λ (u : List CargoView). IsForward next u 2049 f) (taken_first s p f b next r e)
          (forward.weaker next (unaccepted_of s next) (max 2048 (ahead_of p.number next + 1)) 2049 f (omega arith) r.packets.1));
      dllps = backward.more_received s.acked 0 (received_of s next) (received_of s (next_of next)) b (omega arith) r.dllps;
    }

-- send_dllp

pub answered_right : (s : SenderView) (f : List WirePacket) (b : List ℕ) (next : ℕ) (d : ℕ) → d ≡ (next + 4095) % 4096 →
    AreNumbered s f b next → AreNumbered s f (b ++ d ∷ []) next
answered_right s f b next d e r =
    record {
      acked_in_range = r.acked_in_range;
      next_in_range = r.next_in_range;
      window = r.window;
      place = r.place;
      received = r.received;
      packets = r.packets;
      dllps = backward.one_more s.acked 0 (received_of s next) b d (omega (arith, e)) (rw e (last_distance s.acked next r.acked_in_range r.next_in_range)) r.dllps;
    }

-- deliver_dllp

-- a DLLP is lost
pub forgotten_right : (s : SenderView) (f : List WirePacket) (d : ℕ) (b : List ℕ) (next : ℕ) → AreNumbered s f (d ∷ b) next → AreNumbered s f b next
forgotten_right s f d b next r =
    record {
      acked_in_range = r.acked_in_range;
      next_in_range = r.next_in_range;
      window = r.window;
      place = r.place;
      received = r.received;
      packets = r.packets;
      dllps = backward.earlier s.acked (distance_of d s.acked) 0 (received_of s next) b (omega arith) r.dllps.1;
    }

-- what comes back names a kept packet, or the last acknowledged one
pub outstanding : (s : SenderView) (f : List WirePacket) (d : ℕ) (b : List ℕ) (next : ℕ) → AreNumbered s f (d ∷ b) next →
    distance_of d s.acked ≤ received_of s next
outstanding s f d b next r = backward.least_below s.acked (distance_of d s.acked) (received_of s next) b r.dllps.1

pub acknowledged_received : (s : SenderView) (f : List WirePacket) (d : ℕ) (b : List ℕ) (next : ℕ) → AreNumbered s f (d ∷ b) next →
    received_of (acknowledged s d) next + distance_of d s.acked ≡ received_of s next
acknowledged_received s f d b next r =
    received_acked next d s.acked r.next_in_range r.dllps.0.in_range r.acked_in_range (outstanding s f d b next r)

pub acknowledged_unaccepted : (s : SenderView) (f : List WirePacket) (d : ℕ) (b : List ℕ) (next : ℕ) → AreNumbered s f (d ∷ b) next →
    unaccepted_of (acknowledged s d) next ≡ unaccepted_of s next
acknowledged_unaccepted s f d b next r =
    let count = acknowledged_received s f d b next r in
    drop-drop (received_of (acknowledged s d) next) (distance_of d s.acked) s.kept
    ∙ ap (λ (k : ℕ). drop k s.kept) (omega arith)

pub acknowledged_right : (s : SenderView) (f : List WirePacket) (d : ℕ) (b : List ℕ) (next : ℕ) → AreNumbered s f (d ∷ b) next →
    AreNumbered (acknowledged s d) f b next
acknowledged_right s f d b next r =
    let count = acknowledged_received s f d b next r in
    let shorter : length (drop (distance_of d s.acked) s.kept) ≡ length s.kept - distance_of d s.acked =
    length-drop (distance_of d s.acked) s.kept in
    let window : length s.kept ≤ 2047 = r.window in
    let place : s.place ≤ length s.kept = r.place in
    let received : received_of s next ≤ length s.kept = r.received in
    record {
      acked_in_range = r.dllps.0.in_range;
      next_in_range = r.next_in_range;
      window = omega arith;
      place = omega arith;
      received = omega arith;
      packets = rw (acknowledged_unaccepted s f d b next r) r.packets;
      dllps =
          backward.acknowledged s.acked d 0 (received_of (acknowledged s d) next) (distance_of d s.acked) b
          r.acked_in_range r.dllps.0.in_range refl
          (rw count (backward.earlier s.acked (distance_of d s.acked) (0 + distance_of d s.acked) (received_of s next) b (omega arith) r.dllps.1));
    }
