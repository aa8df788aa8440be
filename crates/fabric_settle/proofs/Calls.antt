-- A call of a link that is refused leaves its lane, and one that isn't leaves what the call does.
use Rattle.std.proofs.Common.{◌≡◌, ◌∙◌, ◌⊎◌, inl, inr, ℕ, zero, suc, ◌+◌, ◌<◌, Bool, true, false, List, [], ◌∷◌, ◌++◌, length, refl, sym, ap, ap₂, subst, arith, append-nil, Option, Some, None, Ok, Err, IsOk, if◌then◌else◌}
use Rattle.std.specs.Prelude.{slice_get, nat_lt, ◌==◌}
use Rattle.std.proofs.lemmas.Bool.Decides.{nat_tests}
use Rattle.dllp_core.specs.declared.packet.Dllp.{Dllp}
use Rattle.link_replay.specs.CargoView.{CargoView}
use Rattle.link_replay.specs.SenderView.{SenderView, next_item, after_transmit, number_at}
use Rattle.lane_core.specs.declared.packet.DllpSeen.TheVariants as dllps
use Rattle.lane_core.specs.declared.packet.Fate.{Fate}
use Rattle.lane_core.specs.declared.packet.Fate.TheVariants.{Good}
use Rattle.lane_core.specs.declared.packet.WirePacket.{WirePacket}
use Rattle.lane_core.specs.Steps.{LaneEndsView, dllp_seen, dllp_of, is_expected, seen_by, arrival_of, packets_sent}
use Rattle.lane_core.specs.Calls.{after_call, IsRight}
use Rattle.fabric_steps.specs.declared.event.LinkEvent.{LinkEvent}
use Rattle.fabric_steps.specs.declared.event.LinkEvent.TheVariants as links
use Rattle.fabric_steps.specs.Event.{Seen}
use Rattle.fabric_steps.specs.declared.event.SeenOf.TheVariants as seen
use Rattle.fabric_steps.specs.declared.fault.Refusal.{Refusal}
use Rattle.fabric_steps.specs.declared.fault.Refusal.TheVariants as refusals
use Rattle.fabric_core.specs.Answers.{link_on}
use Rattle.fabric_core.specs.ByParts.{call_of}

-- nothing is lost and nothing fails
abbrev pub IsGood : LinkEvent → Type 0
IsGood (links.Deliver fate) = fate ≡ Good
IsGood (links.DeliverDllp fate) = fate ≡ Good
IsGood _ = Unit {0}

abbrev pub Outcome : LaneEndsView → LinkEvent → Type 0
Outcome e event =
    ((what : Seen) × (link_on e event ≡ Ok (what, after_call e (call_of event)))) ⊎ ((r : Refusal) × (link_on e event ≡ Err r) × (after_call e (call_of event) ≡ e))

-- no Ack or Nak is of no packet
abbrev pub NeverStrange : Type 0
NeverStrange = (e : LaneEndsView) (fate : Fate) → IsRight e → IsOk (dllp_seen e.back e.sender fate)

-- ---- Transmit

stays_by : (stopped less : Bool) (s : SenderView) → s.stopped ≡ stopped → nat_lt s.place (length s.kept) ≡ less → next_item s ≡ None → after_transmit s ≡ s
stays_by true less s h k n = ap (λ (place : ℕ). record s { place = place }) (ap (λ (b : Bool). if b then s.place else (if nat_lt s.place (length s.kept) then s.place + 1 else s.place)) h)
stays_by false false s h k n =
    ap (λ (place : ℕ). record s { place = place })
    (ap (λ (b : Bool). if b then s.place else (if nat_lt s.place (length s.kept) then s.place + 1 else s.place)) h ∙ ap (λ (b : Bool). if b then s.place + 1 else s.place) k)
stays_by false true s h k n =
    let there : slice_get s.kept s.place ≡ None = sym (ap (λ (b : Bool). if b then None else slice_get s.kept s.place) h) ∙ n in
    let inside : s.place < length s.kept = grind (arith, nat_tests) in
    absurd (some_there s.kept s.place inside there)
  where
    some_there : (xs : List CargoView) (i : ℕ) → i < length xs → slice_get xs i ≡ None → ⊥
    some_there [] i l e = omega arith
    some_there (x ∷ xs) zero l e = cc
    some_there (x ∷ xs) (suc i) l e = some_there xs i (omega arith) e

transmits : (e : LaneEndsView) → Outcome e links.Transmit
transmits e = by_item (next_item e.sender.sending) refl
  where
    by_item : (o : Option CargoView) → next_item e.sender.sending ≡ o → Outcome e links.Transmit
    by_item (Some c) h = inl (seen.Sent (number_at e.sender.sending e.sender.sending.place), rw h refl)
    by_item None h = inr (
      refusals.Idle,
      rw h refl,
      ap₂ (λ (s : SenderView) (w : List WirePacket). record e { sender = record { sending = s; gate = e.sender.gate }; forward = w })
          (stays_by e.sender.sending.stopped (nat_lt e.sender.sending.place (length e.sender.sending.kept)) e.sender.sending refl refl h)
          (ap (λ (o : Option CargoView). e.forward ++ packets_sent e.sender.sending o) h ∙ append-nil e.forward),
    )

-- ---- Deliver

delivers : (e : LaneEndsView) (fate : Fate) → Outcome e (links.Deliver fate)
delivers e fate = by_wire e.forward
  where
    by_wire : (w : List WirePacket) → Outcome (record e { forward = w }) (links.Deliver fate)
    by_wire [] = inr (refusals.Idle, refl, refl)
    by_wire (p ∷ ps) = inl (seen.Delivered (arrival_of e.receiver.receiving p.number fate), refl)

-- ---- DeliverDllp

delivers_one : (e : LaneEndsView) (d : Dllp) (ds : List Dllp) (b : Bool) → is_expected e.sender.sending d ≡ b → IsOk (seen_by d b Good) → Outcome (record e { back = d ∷ ds }) (links.DeliverDllp Good)
delivers_one e d ds true h k = inl (seen.SeenDllp (dllps.Took d), rw h refl)
delivers_one e d ds false h k = absurd cc

delivers_dllp : (e : LaneEndsView) → IsOk (dllp_seen e.back e.sender Good) → Outcome e (links.DeliverDllp Good)
delivers_dllp e ok = by_wire e.back ok
  where
    by_wire : (w : List Dllp) → IsOk (dllp_seen w e.sender Good) → Outcome (record e { back = w }) (links.DeliverDllp Good)
    by_wire [] k = inr (refusals.Idle, refl, refl)
    by_wire (d ∷ ds) k = delivers_one e d ds (is_expected e.sender.sending d) refl k

-- ---- Timer

expires : (e : LaneEndsView) → Outcome e links.Timer
expires e = by_test (e.sender.sending.place == 0) refl
  where
    by_test : (b : Bool) → (e.sender.sending.place == 0) ≡ b → Outcome e links.Timer
    by_test true h =
        let place : e.sender.sending.place ≡ 0 = grind (arith, nat_tests) in inr (
          refusals.Idle,
          rw h refl,
          ap (λ (s : SenderView). record e { sender = record { sending = s; gate = e.sender.gate } })
              (ap (λ (b : Bool). record { acked = e.sender.sending.acked; kept = e.sender.sending.kept; place = 0; replays = if b then e.sender.sending.replays else (if e.sender.sending.replays == 3 then 0 else e.sender.sending.replays + 1); stopped = if b then e.sender.sending.stopped else (if e.sender.sending.replays == 3 then true else e.sender.sending.stopped); reserved = e.sender.sending.reserved }) h
              ∙ ap (λ (n : ℕ). record e.sender.sending { place = n }) (sym place)),
        )
    by_test false h = inl (seen.Back e.sender.sending.place, rw h refl)

-- ---- Retrained

retrains : (e : LaneEndsView) → Outcome e links.Retrained
retrains e = by_test e.sender.sending.stopped refl
  where
    by_test : (b : Bool) → e.sender.sending.stopped ≡ b → Outcome e links.Retrained
    by_test true h = inl (seen.Retrained, rw h refl)
    by_test false h = inr (refusals.Idle, rw h refl, ap (λ (b : Bool). record e { sender = record { sending = record e.sender.sending { stopped = b }; gate = e.sender.gate } }) (sym h))

-- ---- all calls

pub outcome : NeverStrange → (e : LaneEndsView) (event : LinkEvent) → IsGood event → IsRight e → Outcome e event
outcome law e links.Transmit good r = transmits e
outcome law e (links.Deliver fate) good r = delivers e fate
outcome law e (links.SendDllp kind) good r = inl (seen.SentDllp (dllp_of e.receiver kind), refl)
outcome law e (links.DeliverDllp fate) good r = subst (λ (x : Fate). Outcome e (links.DeliverDllp x)) (sym good) (delivers_dllp e (law e Good r))
outcome law e links.Timer good r = expires e
outcome law e links.Retrained good r = retrains e
