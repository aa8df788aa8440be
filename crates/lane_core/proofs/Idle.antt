-- A call that finds nothing to do leaves the lane as it is.
use Rattle.std.proofs.Common.{◌≡◌, ℕ, zero, suc, ◌+◌, ◌≤◌, Bool, true, false, List, [], ◌∷◌, length, Option, Some, None, Ok, refl, sym, ◌∙◌, ap, arith}
use Rattle.std.specs.Prelude.{slice_get, nat_lt, if◌then◌else◌}
use Rattle.std.specs.Option.{option_map}
use Rattle.std.proofs.lemmas.List.{append-nil}
use Rattle.std.proofs.lemmas.Bool.Decides.{nat_tests}
use Rattle.dllp_core.specs.declared.packet.Dllp.{Dllp}
use Rattle.link_replay.specs.CargoView.{CargoView}
use Rattle.link_replay.specs.SenderView.{SenderView, number_at, next_item, from_oldest, trained, replays_after, stopped_after}
use Rattle.lane_core.specs.declared.packet.WirePacket.{WirePacket}
use Rattle.lane_core.specs.declared.packet.Fate.{Fate}
use Rattle.lane_core.specs.declared.packet.Fate.TheVariants.{Good, Failed, Lost}
use Rattle.lane_core.specs.Steps.{LaneEndsView, SenderEndView, ReceiverEndView, transmitted, delivered, is_expected, seen_by, dllp_seen}
use Rattle.lane_core.specs.Calls.{Call, Transmit, Deliver, DeliverDllp, Timer, Retrained, after_call}
use Rattle.lane_core.specs.Flushed.{times}

abbrev pub ends : SenderEndView → List WirePacket → List Dllp → ReceiverEndView → LaneEndsView
ends s f b r = record { sender = s; forward = f; back = b; receiver = r }

-- however often it is made
pub times_idle : (n : ℕ) (e : LaneEndsView) (call : Call) → after_call e call ≡ e → times n e call ≡ e
unfolding times
times_idle zero e call h = refl
times_idle (suc n) e call h = ap (λ (m : LaneEndsView). times n m call) h ∙ times_idle n e call h

-- nothing is left to send

none_past : (xs : List CargoView) (i : ℕ) → slice_get xs i ≡ None → length xs ≤ i
none_past [] i h = omega arith
none_past (x ∷ xs) zero h = cc
none_past (x ∷ xs) (suc i) h = let rest : length xs ≤ i = none_past xs i h in omega arith

place_stays : (kept : List CargoView) (place : ℕ) (stopped : Bool) → (if stopped then None else slice_get kept place) ≡ None →
    (if stopped then place else (if nat_lt place (length kept) then place + 1 else place)) ≡ place
place_stays kept place true h = refl
place_stays kept place false h = let past : length kept ≤ place = none_past kept place h in grind (arith, nat_tests)

pub sends_none : (e : LaneEndsView) → next_item e.sender.sending ≡ None → after_call e Transmit ≡ e
sends_none e h =
    let s = e.sender.sending in
    rw (place_stays s.kept s.place s.stopped h, h, append-nil e.forward) refl

unmapped : {X Y : Type 0} (f : X → Y) (o : Option X) → option_map f o ≡ None → o ≡ None
unmapped f None h = refl
unmapped f (Some x) h = cc

pub transmit_idle : (e : LaneEndsView) → transmitted e.sender ≡ None → after_call e Transmit ≡ e
transmit_idle e h = sends_none e (unmapped (λ (cargo : CargoView). number_at e.sender.sending e.sender.sending.place) (next_item e.sender.sending) h)

-- the wire is empty

no_packet : (s : SenderEndView) (f : List WirePacket) (b : List Dllp) (r : ReceiverEndView) (fate : Fate) → delivered f r fate ≡ None → after_call (ends s f b r) (Deliver fate) ≡ ends s f b r
no_packet s [] b r fate h = refl
no_packet s (p ∷ f) b r fate h = cc

pub deliver_idle : (e : LaneEndsView) (fate : Fate) → delivered e.forward e.receiver fate ≡ None → after_call e (Deliver fate) ≡ e
deliver_idle e fate h = no_packet e.sender e.forward e.back e.receiver fate h

something : (d : Dllp) (expected : Bool) (fate : Fate) → seen_by d expected fate ≡ Ok None → ⊥
something d true Good h = cc
something d false Good h = cc
something d expected Failed h = cc
something d expected Lost h = cc

no_dllp : (s : SenderEndView) (f : List WirePacket) (b : List Dllp) (r : ReceiverEndView) (fate : Fate) → dllp_seen b s fate ≡ Ok None → after_call (ends s f b r) (DeliverDllp fate) ≡ ends s f b r
no_dllp s f [] r fate h = refl
no_dllp s f (d ∷ b) r fate h = absurd (something d (is_expected s.sending d) fate h)

pub deliver_dllp_idle : (e : LaneEndsView) (fate : Fate) → dllp_seen e.back e.sender fate ≡ Ok None → after_call e (DeliverDllp fate) ≡ e
deliver_dllp_idle e fate h = no_dllp e.sender e.forward e.back e.receiver fate h

-- the sender is at its oldest packet, or isn't stopped

same_sender : (s : SenderView) (place replays : ℕ) (stopped : Bool) → place ≡ s.place → replays ≡ s.replays → stopped ≡ s.stopped →
    ◌≡◌ {A = SenderView} (record { acked = s.acked; kept = s.kept; place = place; replays = replays; stopped = stopped; reserved = s.reserved }) s
same_sender s place replays stopped p r t = rw (p, r, t) refl

with_sending : (e : LaneEndsView) (s : SenderView) → s ≡ e.sender.sending → ◌≡◌ {A = LaneEndsView} (record e { sender = record { sending = s; gate = e.sender.gate } }) e
with_sending e s h = rw h refl

pub timer_idle : (e : LaneEndsView) → e.sender.sending.place ≡ 0 → after_call e Timer ≡ e
timer_idle e h =
    let s = e.sender.sending in
    with_sending e (from_oldest s) (same_sender s 0 (replays_after s) (stopped_after s) (sym h) (rw h refl) (rw h refl))

pub retrained_idle : (e : LaneEndsView) → e.sender.sending.stopped ≡ false → after_call e Retrained ≡ e
retrained_idle e h =
    let s = e.sender.sending in
    with_sending e (trained s) (same_sender s s.place s.replays false refl refl (sym h))
