-- A packet that is sent has its true number.
use Rattle.std.proofs.Common.{◌≡◌, ◌∙◌, ℕ, ◌+◌, ◌-◌, ◌%◌, ◌<◌, ◌≤◌, Bool, true, false, List, [], ◌∷◌, ◌++◌, length, Option, Some, None, refl, sym, subst, arith}
use Rattle.std.specs.Prelude.{slice_get, if◌then◌else◌}
use Rattle.std.specs.Option.{option_map}
use Rattle.std.proofs.lemmas.List.{length-append, length-drop}
use Rattle.std.proofs.lemmas.Bool.Decides.{nat_tests}
use Rattle.tlp_core.specs.TlpView.{TlpView}
use Rattle.seq12.specs.Numbers.{distance_of}
use Rattle.dllp_core.specs.declared.packet.Dllp.{Dllp}
use Rattle.dllp_core.specs.declared.packet.Dllp.TheVariants.{Ack, Nak, Update}
use Rattle.link_replay.specs.CargoView.{CargoView}
use Rattle.link_replay.specs.SenderView.{SenderView, number_at, is_outstanding, acknowledged, from_oldest}
use Rattle.flow_control.specs.declared.limits.LaneCredits.{LaneCredits}
use Rattle.flow_control.specs.Needs.{need_of}
use Rattle.flow_control.specs.Queue.{Item, is_takeable}
use Rattle.lane_core.specs.declared.packet.WirePacket.{WirePacket}
use Rattle.lane_core.specs.declared.packet.Fate.{Fate}
use Rattle.lane_core.specs.declared.packet.Fate.TheVariants.{Good, Failed, Lost}
use Rattle.lane_core.specs.Content.{cargo_of}
use Rattle.lane_core.specs.Steps.{LaneEndsView, SenderEndView, new_lane, may_enter, entered, with_room, transmitted, after_dllp, sender_after, after_take}
use Rattle.lane_core.specs.Calls.{Call, MakeRoom, Release, Enter, Transmit, Deliver, SendDllp, DeliverDllp, Timer, Retrained, Take, AreCalls, after_call, entered_by, after_calls, entered_in}
use Rattle.lane_core.specs.Windows.{oldest_unacknowledged}
use Rattle.lane_core.proofs.Below.{IsRead}
use Rattle.lane_core.proofs.UnderWay.{AreNumbered}
use Rattle.lane_core.proofs.Sound.{IsSound, answers_in, step_sound, new_sound}

-- of so many packets that were entered, the kept ones are the last: the next number is how many they are, in 12 bits
abbrev Counts : SenderView → ℕ → Type 0
Counts s n = (length s.kept ≤ n) × ((s.acked + 1 + length s.kept) % 4096 ≡ n % 4096)

-- ---- numbers alone

one_more : (acked kept n : ℕ) → (acked + 1 + kept) % 4096 ≡ n % 4096 → (acked + 1 + (kept + 1)) % 4096 ≡ (n + 1) % 4096
one_more acked kept n h = omega (arith, h)

dropped : (number acked kept n : ℕ) → number < 4096 → acked < 4096 → (number + 4096 - acked) % 4096 ≤ kept → (acked + 1 + kept) % 4096 ≡ n % 4096 →
    (number + 1 + (kept - (number + 4096 - acked) % 4096)) % 4096 ≡ n % 4096
dropped number acked kept n a b d h = omega (arith, h)

from_the_oldest : (acked kept n place : ℕ) → kept ≤ n → (acked + 1 + kept) % 4096 ≡ n % 4096 → (acked + 1 + place) % 4096 ≡ (n - kept + place) % 4096
from_the_oldest acked kept n place l h = omega (arith, h)

none_more : (n : ℕ) → n ≡ n + 0
none_more n = omega arith

from_none : (n : ℕ) → 0 + n ≡ n
from_none n = omega arith

-- ---- each call

no_more : (s : SenderView) (n : ℕ) → Counts s n → Counts s (n + 0)
no_more s n c = subst (Counts s) (none_more n) c

pushed : (s : SenderView) (cargo : CargoView) → length (s.kept ++ cargo ∷ []) ≡ length s.kept + 1
pushed s cargo = length-append s.kept (cargo ∷ [])

enter_counts : (e : LaneEndsView) (t : TlpView) (mark n : ℕ) (b : Bool) → Counts e.sender.sending n →
    Counts (if b then record e { sender = entered e.sender t mark } else e).sender.sending (n + length {A = Item} (if b then (t, mark) ∷ [] else []))
enter_counts e t mark n true c =
    let s = e.sender.sending in
    let more = pushed s (cargo_of t mark) in
    let room : length (s.kept ++ cargo_of t mark ∷ []) ≤ n + 1 = omega (arith, more, c.0) in
    (room, subst (λ (l : ℕ). (s.acked + 1 + l) % 4096 ≡ (n + 1) % 4096) (sym more) (one_more s.acked (length s.kept) n c.1))
enter_counts e t mark n false c = no_more e.sender.sending n c

room_counts : (e : LaneEndsView) (n : ℕ) (b : Bool) → Counts e.sender.sending n → Counts (if b then record e { sender = with_room e.sender } else e).sender.sending n
room_counts e n true c = c
room_counts e n false c = c

take_counts : (e : LaneEndsView) (place n : ℕ) (b : Bool) → Counts e.sender.sending n → Counts (if b then record e { receiver = after_take e.receiver place } else e).sender.sending n
take_counts e place n true c = c
take_counts e place n false c = c

acknowledged_counts : (s : SenderView) (number n : ℕ) → number < 4096 → s.acked < 4096 → is_outstanding s number ≡ true → Counts s n → Counts (acknowledged s number) n
acknowledged_counts s number n a b h c =
    let near : distance_of number s.acked ≤ length s.kept = grind (arith, nat_tests) in
    let fewer = length-drop (distance_of number s.acked) s.kept in
    (omega (arith, fewer, c.0), subst (λ (l : ℕ). (number + 1 + l) % 4096 ≡ n % 4096) (sym fewer) (dropped number s.acked (length s.kept) n a b near c.1))

ack_counts : (s : SenderView) (number n : ℕ) (b : Bool) → is_outstanding s number ≡ b → number < 4096 → s.acked < 4096 → Counts s n → Counts (if b then acknowledged s number else s) n
ack_counts s number n true h a r c = acknowledged_counts s number n a r h c
ack_counts s number n false h a r c = c

nak_counts : (s : SenderView) (number n : ℕ) (b : Bool) → is_outstanding s number ≡ b → number < 4096 → s.acked < 4096 → Counts s n → Counts (if b then from_oldest (acknowledged s number) else s) n
nak_counts s number n true h a r c = acknowledged_counts s number n a r h c
nak_counts s number n false h a r c = c

dllp_counts : (s : SenderEndView) (f : List WirePacket) (d : Dllp) (back : List Dllp) (next : ℕ) (fate : Fate) (n : ℕ) → AreNumbered s.sending f (answers_in (d ∷ back)) next → Counts s.sending n →
    Counts (after_dllp s d fate).sending n
dllp_counts s f (Ack number) back next Good n r c = ack_counts s.sending number n (is_outstanding s.sending number) refl r.dllps.0.in_range r.acked_in_range c
dllp_counts s f (Nak number) back next Good n r c = nak_counts s.sending number n (is_outstanding s.sending number) refl r.dllps.0.in_range r.acked_in_range c
dllp_counts s f (Update class header units) back next Good n r c = c
dllp_counts s f d back next Failed n r c = c
dllp_counts s f d back next Lost n r c = c

deliver_counts : (s : SenderEndView) (f : List WirePacket) (back : List Dllp) (next : ℕ) (fate : Fate) (n : ℕ) → AreNumbered s.sending f (answers_in back) next → Counts s.sending n →
    Counts (sender_after back s fate).sending n
deliver_counts s f [] next fate n r c = c
deliver_counts s f (d ∷ back) next fate n r c = dllp_counts s f d back next fate n r c

step_counts : (e : LaneEndsView) (call : Call) (n : ℕ) → IsSound e → Counts e.sender.sending n → Counts (after_call e call).sender.sending (n + length (entered_by e call))
step_counts e (MakeRoom need) n k c = no_more (after_call e (MakeRoom need)).sender.sending n (room_counts e n (may_enter e.sender need) c)
step_counts e Release n k c = no_more e.sender.sending n c
step_counts e (Enter t mark) n k c = enter_counts e t mark n (may_enter e.sender (need_of t)) c
step_counts e Transmit n k c = no_more e.sender.sending n c
step_counts e (Deliver fate) n k c = no_more e.sender.sending n c
step_counts e (SendDllp kind) n k c = no_more e.sender.sending n c
step_counts e (DeliverDllp fate) n k c =
    no_more (sender_after e.back e.sender fate).sending n (deliver_counts e.sender e.forward e.back e.receiver.receiving.next fate n k.numbered c)
step_counts e Timer n k c = no_more e.sender.sending n c
step_counts e Retrained n k c = no_more e.sender.sending n c
step_counts e (Take place) n k c = no_more (after_call e (Take place)).sender.sending n (take_counts e place n (is_takeable e.receiver.queue place) c)

-- ---- a whole list of calls

run_counts : IsRead → (e : LaneEndsView) (calls : List Call) (n : ℕ) → AreCalls calls → IsSound e → Counts e.sender.sending n →
    Counts (after_calls e calls).sender.sending (n + length (entered_in e calls))
run_counts read e [] n i k c = no_more e.sender.sending n c
run_counts read e (call ∷ calls) n i k c =
    let step = step_counts e call n k c in
    let rest = run_counts read (after_call e call) calls (n + length (entered_by e call)) i.1 (step_sound read e call i.0 k).0 step in
    let both = length-append (entered_by e call) (entered_in (after_call e call) calls) in
    let sum : (n + length (entered_by e call)) + length (entered_in (after_call e call) calls) ≡ n + length (entered_by e call ++ entered_in (after_call e call) calls) = omega (arith, both) in
    subst (Counts (after_calls (after_call e call) calls).sender.sending) sum rest

-- ---- the packet that is sent

sent_at : (kept : List CargoView) (place : ℕ) (stopped : Bool) (f : CargoView → ℕ) (own number : ℕ) → ((cargo : CargoView) → f cargo ≡ own) →
    option_map f (if stopped then None else slice_get kept place) ≡ Some number → number ≡ own
sent_at kept place true f own number k h = absurd cc
sent_at kept place false f own number k h = by_place (slice_get kept place) h
  where
    by_place : (o : Option CargoView) → option_map f o ≡ Some number → number ≡ own
    by_place None g = absurd cc
    by_place (Some cargo) g =
        let same : f cargo ≡ number = cc in
        sym same ∙ k cargo

pub sent_under_its_number : IsRead → (credits : LaneCredits) (before : List Call) (number : ℕ) → AreCalls before → transmitted (after_calls (new_lane credits) before).sender ≡ Some number →
    number ≡ (oldest_unacknowledged credits before + (after_calls (new_lane credits) before).sender.sending.place) % 4096
sent_under_its_number read credits before number i h =
    let e = after_calls (new_lane credits) before in
    let s = e.sender.sending in
    let n = length (entered_in (new_lane credits) before) in
    let c : Counts s n = subst (Counts s) (from_none n) (run_counts read (new_lane credits) before 0 i (new_sound credits) (omega arith, refl)) in
    let is : number ≡ number_at s s.place = sent_at s.kept s.place s.stopped (λ cargo. number_at s s.place) (number_at s s.place) number (λ cargo. refl) h in
    is ∙ from_the_oldest s.acked (length s.kept) n s.place c.0 c.1
