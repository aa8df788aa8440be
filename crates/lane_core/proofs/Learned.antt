-- The updates of each class tell all that was given.
use Rattle.std.proofs.Common.{◌≡◌, ℕ, zero, suc, ◌%◌, ◌<◌, Bool, true, false, List, [], ◌∷◌, ◌++◌, map, filter, refl, sym, ◌∙◌, ap, subst}
use Rattle.dllp_core.specs.declared.packet.Class.{Class}
use Rattle.dllp_core.specs.declared.packet.Class.TheVariants.{Posted, NonPosted, Completion}
use Rattle.dllp_core.specs.declared.packet.Dllp.{Dllp}
use Rattle.dllp_core.specs.declared.packet.Dllp.TheVariants.{Ack, Nak, Update}
use Rattle.flow_control.specs.declared.limits.LaneCredits.{LaneCredits}
use Rattle.flow_control.specs.Credits.{same, modulus, allowance, grant, allocated, first_of}
use Rattle.flow_control.specs.Account.{Account, Accounts, Direction, Event, HasCredit, updates_in, learns, known_to, told_to, after_event, numbers_after, after_events, numbers_in}
use Rattle.lane_core.specs.declared.packet.Fate.TheVariants.{Good}
use Rattle.lane_core.specs.Steps.{LaneEndsView, new_lane}
use Rattle.lane_core.specs.Calls.{DeliverDllp, after_call, IsRightWith}
use Rattle.lane_core.specs.Credit.{is_update, direction_of, dllp_events, events_in, numbers_of}
use Rattle.lane_core.specs.Flushed.{times, sends, with_sent}
use Rattle.lane_core.proofs.Below.{Below}
use Rattle.lane_core.proofs.Sound.{IsSound, step_sound}
use Rattle.lane_core.proofs.Kept.{sound}
use Rattle.lane_core.proofs.Directions.{lane_direction, run_direction, step_direction}

-- ---- one account

-- the last number of a list, or the one before it
abbrev last_of : ℕ → List ℕ → ℕ
last_of n [] = n
last_of n (v ∷ vs) = last_of v vs

last_push : (n : ℕ) (vs : List ℕ) (v : ℕ) → last_of n (vs ++ v ∷ []) ≡ v
last_push n [] v = refl
last_push n (w ∷ vs) v = last_push w vs v

-- the newest update, under way or learned, tells all that was given
abbrev IsTold : Account → Type 0
IsTold n = last_of n.known n.sent ≡ n.given

learned_told : (n : Account) (vs : List ℕ) → n.sent ≡ vs → last_of n.known vs ≡ n.given → IsTold (learns n vs)
learned_told n [] e h = rw e h
learned_told n (v ∷ vs) e h = h

known_told : (b : Bool) (n : Account) → IsTold n → IsTold (known_to b n)
known_told true n h = learned_told n n.sent refl h
known_told false n h = h

-- an update of each class was sent
each_told : (c : Class) (n : Account) → IsTold (told_to (same c Completion) (told_to (same c NonPosted) (told_to (same c Posted) n)))
each_told Posted n = last_push n.known n.sent n.given
each_told NonPosted n = last_push n.known n.sent n.given
each_told Completion n = last_push n.known n.sent n.given

-- ---- the accounts of a lane

abbrev IsAccount : LaneCredits → Direction → Accounts → Type 0
IsAccount credits d numbers = HasCredit credits d.gate d.ledger numbers d.queue d.on_the_way d.wire

-- each event keeps the accounts, as the law of credits says
abbrev pub IsKept : Type 0
IsKept =
    (credits : LaneCredits) (d : Direction) (numbers : Accounts) (event : Event) → HasCredit credits d.gate d.ledger numbers d.queue d.on_the_way d.wire →
    HasCredit credits (after_event d event).gate (after_event d event).ledger (numbers_after d numbers event) (after_event d event).queue (after_event d event).on_the_way (after_event d event).wire

kept_in : IsKept → (credits : LaneCredits) (d : Direction) (numbers : Accounts) (events : List Event) → IsAccount credits d numbers → IsAccount credits (after_events d events) (numbers_in d numbers events)
kept_in keeps credits d numbers [] a = a
kept_in keeps credits d numbers (event ∷ events) a = kept_in keeps credits (after_event d event) (numbers_after d numbers event) events (keeps credits d numbers event a)

-- the accounts of a lane, of each of which the newest update tells all
record AllTold (credits : LaneCredits) (e : LaneEndsView) : Type 0 where
  numbers : Accounts
  account : IsAccount credits (direction_of e) numbers
  told : (c : Class) (p : _) → IsTold (numbers c p)

sent_told : Below → IsKept → (credits : LaneCredits) (e : LaneEndsView) → IsRightWith credits e → AllTold credits (with_sent e)
sent_told laws keeps credits e r =
    let d = direction_of e in
    let numbers = numbers_of credits r.calls in
    let before : IsAccount credits d numbers =
    subst (λ (m : LaneEndsView). IsAccount credits (direction_of m) numbers) r.leads
    (subst (λ (d : Direction). IsAccount credits d numbers) (sym (lane_direction laws credits r.calls r.are_calls)) (laws.account credits (events_in (new_lane credits) r.calls) r.limits)) in
    let run : direction_of (with_sent e) ≡ after_events d (events_in e sends) =
    run_direction laws e sends (tt, (tt, (tt, (tt, tt)))) (sound laws.read e (record { credits = credits; right = r })) in
    record {
      numbers = numbers_in d numbers (events_in e sends);
      account = subst (λ (d : Direction). IsAccount credits d (numbers_in (direction_of e) numbers (events_in e sends))) (sym run) (kept_in keeps credits d numbers (events_in e sends) before);
      told = λ c p. each_told c (numbers c p);
    }

step_told : (d : Direction) (numbers : Accounts) (back : List Dllp) (c : Class) (p : _) → d.wire ≡ filter is_update back → IsTold (numbers c p) → IsTold (numbers_in d numbers (dllp_events back Good) c p)
step_told d numbers [] c p e h = h
step_told d numbers (Ack number ∷ ds) c p e h = h
step_told d numbers (Nak number ∷ ds) c p e h = h
step_told d numbers (Update class header units ∷ ds) c p e h = rw e (known_told (same c class) (numbers c p) h)

delivered_told : Below → IsKept → (credits : LaneCredits) (e : LaneEndsView) → IsSound e → AllTold credits e → AllTold credits (after_call e (DeliverDllp Good))
delivered_told laws keeps credits e k t =
    let events = dllp_events e.back Good in
    record {
      numbers = numbers_in (direction_of e) t.numbers events;
      account = subst (λ (d : Direction). IsAccount credits d (numbers_in (direction_of e) t.numbers events)) (sym (step_direction laws e (DeliverDllp Good) tt k)) (kept_in keeps credits (direction_of e) t.numbers events t.account);
      told = λ c p. step_told (direction_of e) t.numbers e.back c p refl (t.told c p);
    }

times_told : Below → IsKept → (credits : LaneCredits) (n : ℕ) (e : LaneEndsView) → IsSound e → AllTold credits e → AllTold credits (times n e (DeliverDllp Good))
unfolding times
times_told laws keeps credits zero e k t = t
times_told laws keeps credits (suc n) e k t = times_told laws keeps credits n (after_call e (DeliverDllp Good)) (step_sound laws.read e (DeliverDllp Good) tt k).0 (delivered_told laws keeps credits e k t)

-- ---- once all updates are learned

none_sent : (m : ℕ) (vs : List ℕ) → [] ≡ map (λ v. v % m) vs → vs ≡ []
none_sent m [] h = refl
none_sent m (v ∷ vs) h = cc

learned_all : (credits : LaneCredits) (e : LaneEndsView) → e.back ≡ [] → AllTold credits e → (c : Class) (p : _) → 0 < (allowance c p e.sender.gate).first → (allowance c p e.sender.gate).limit ≡ allocated p (grant c p e.receiver.ledger)
learned_all credits e h t c p some =
    let credit = t.account c p in
    let first : 0 < first_of c p credits = rw credit.gate_first at some in
    let n = credit.counted first in
    let carried : [] ≡ map (λ v. v % modulus p) (t.numbers c p).sent =
    subst (λ (ds : List Dllp). updates_in c p (filter is_update ds) ≡ map (λ v. v % modulus p) (t.numbers c p).sent) h n.carried in
    let known : (t.numbers c p).known ≡ (t.numbers c p).given = rw (none_sent (modulus p) (t.numbers c p).sent carried) at (t.told c p) in
    n.limit ∙ ap (λ (k : ℕ). k % modulus p) known ∙ sym n.allocated

pub all_learned : Below → IsKept → (credits : LaneCredits) (n : ℕ) (e : LaneEndsView) → IsRightWith credits e → IsSound (with_sent e) → (times n (with_sent e) (DeliverDllp Good)).back ≡ [] →
    (c : Class) (p : _) → 0 < (allowance c p (times n (with_sent e) (DeliverDllp Good)).sender.gate).first →
    (allowance c p (times n (with_sent e) (DeliverDllp Good)).sender.gate).limit ≡ allocated p (grant c p (times n (with_sent e) (DeliverDllp Good)).receiver.ledger)
all_learned laws keeps credits n e r k h =
    learned_all credits (times n (with_sent e) (DeliverDllp Good)) h (times_told laws keeps credits n (with_sent e) k (sent_told laws keeps credits e r))
