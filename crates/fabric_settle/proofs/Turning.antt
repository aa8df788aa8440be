-- The turn of a lane in a fabric is the calls of a turn on that lane.
use Rattle.std.proofs.Common.{◌≡◌, ◌∙◌, inl, inr, ℕ, zero, suc, Bool, true, false, List, [], ◌∷◌, refl, sym, ap, subst, Result, Ok, Err}
use Rattle.std.specs.Prelude.{◌-◌, ◌^◌, fold}
use Rattle.dllp_core.specs.declared.packet.Class.TheVariants.{Posted, NonPosted, Completion}
use Rattle.flow_control.specs.declared.limits.LaneCredits.{LaneCredits}
use Rattle.lane_core.specs.declared.packet.Fate.TheVariants.{Good}
use Rattle.lane_core.specs.declared.packet.DllpKind.TheVariants as kinds
use Rattle.lane_core.specs.Steps.{LaneEndsView}
use Rattle.lane_core.specs.Calls.{Call, Timer, Retrained, IsCall, after_call, IsRightWith, IsRight}
use Rattle.lane_core.specs.Flushed.{IsFlushed, turned}
use Rattle.lane_core.specs.Flushed as lane_turns
use Rattle.fabric_steps.specs.Fabric.{Fabric}
use Rattle.fabric_steps.specs.Lists.{Each}
use Rattle.fabric_steps.specs.Event.{Event, Seen}
use Rattle.fabric_steps.specs.declared.event.EventOf.TheVariants as events
use Rattle.fabric_steps.specs.declared.event.LaneName.{LaneName}
use Rattle.fabric_steps.specs.declared.event.LinkEvent.{LinkEvent}
use Rattle.fabric_steps.specs.declared.event.LinkEvent.TheVariants as links
use Rattle.fabric_steps.specs.declared.fault.Refusal.{Refusal}
use Rattle.fabric_steps.specs.declared.fault.Refusal.TheVariants as refusals
use Rattle.fabric_core.specs.Answers.{answer, and_then, map_ok, lane_at, with_lane, link_on, link_at}
use Rattle.fabric_core.specs.ByParts.{call_of}
use Rattle.fabric_settle.specs.declared.attempt.Attempt.{Attempt}
use Rattle.fabric_settle.specs.declared.attempt.Attempt.TheVariants as attempts
use Rattle.fabric_settle.specs.Rounds.{Settling, tried, times, attempted, lane_attempts, lane_turn}
use Rattle.fabric_settle.proofs.Form.{fabric_after, refused_stays, times_none, times_next, lane_turn_is}
use Rattle.fabric_settle.proofs.Trying.{event_of, attempt_refused, times_refused, still_tried, still_times}
use Rattle.fabric_settle.proofs.Calls.{IsGood, NeverStrange, outcome}
use Rattle.fabric_settle.proofs.Lanes.{lane_same, lane_twice, lane_there}

-- ---- one call

pub record LaneLaws : Type 0 where
  pub strange : NeverStrange
  pub right : (credits : LaneCredits) (e : LaneEndsView) (call : Call) → IsCall call → IsRightWith credits e → IsRightWith credits (after_call e call)

abbrev event_on : LaneName → LinkEvent → Event
event_on lane links.Transmit = events.Transmit lane
event_on lane (links.Deliver fate) = events.Deliver lane fate
event_on lane (links.SendDllp kind) = events.SendDllp lane kind
event_on lane (links.DeliverDllp fate) = events.DeliverDllp lane fate
event_on lane links.Timer = events.Timer lane
event_on lane links.Retrained = events.Retrained lane

answer_on : (f : Fabric) (lane : LaneName) (event : LinkEvent) → answer f (event_on lane event) ≡ link_at f lane event
answer_on f lane links.Transmit = refl
answer_on f lane (links.Deliver fate) = refl
answer_on f lane (links.SendDllp kind) = refl
answer_on f lane (links.DeliverDllp fate) = refl
answer_on f lane links.Timer = refl
answer_on f lane links.Retrained = refl

is_call : (event : LinkEvent) → IsCall (call_of event)
is_call links.Transmit = tt
is_call (links.Deliver fate) = tt
is_call (links.SendDllp kind) = tt
is_call (links.DeliverDllp fate) = tt
is_call links.Timer = tt
is_call links.Retrained = tt

link_ok : (f : Fabric) (lane : LaneName) (event : LinkEvent) (e e' : LaneEndsView) (what : Seen) → lane_at f lane ≡ Ok e → link_on e event ≡ Ok (what, e') → answer f (event_on lane event) ≡ Ok (what, with_lane f lane e')
link_ok f lane event e e' what h k =
    answer_on f lane event ∙ ap (λ (a : Result LaneEndsView Refusal). and_then a (λ x. map_ok (link_on x event) (λ y. (y.0, with_lane f lane y.1)))) h
    ∙ ap (λ (a : Result (Seen × LaneEndsView) Refusal). map_ok a (λ y. (y.0, with_lane f lane y.1))) k

link_err : (f : Fabric) (lane : LaneName) (event : LinkEvent) (e : LaneEndsView) (r : Refusal) → lane_at f lane ≡ Ok e → link_on e event ≡ Err r → answer f (event_on lane event) ≡ Err r
link_err f lane event e r h k =
    answer_on f lane event ∙ ap (λ (a : Result LaneEndsView Refusal). and_then a (λ x. map_ok (link_on x event) (λ y. (y.0, with_lane f lane y.1)))) h
    ∙ ap (λ (a : Result (Seen × LaneEndsView) Refusal). map_ok a (λ y. (y.0, with_lane f lane y.1))) k

no_lane : (f : Fabric) (lane : LaneName) (event : LinkEvent) (r : Refusal) → lane_at f lane ≡ Err r → answer f (event_on lane event) ≡ Err r
no_lane f lane event r h =
    answer_on f lane event ∙ ap (λ (a : Result LaneEndsView Refusal). and_then a (λ x. map_ok (link_on x event) (λ y. (y.0, with_lane f lane y.1)))) h

-- the fabric f, but that this lane has come to e
record At (credits : LaneCredits) (f : Fabric) (lane : LaneName) (e : LaneEndsView) (s : Settling) : Type 0 where
  right : IsRightWith credits e
  there : lane_at s.fabric lane ≡ Ok e
  fabric : s.fabric ≡ with_lane f lane e

is_right : (credits : LaneCredits) (e : LaneEndsView) → IsRightWith credits e → IsRight e
is_right credits e r = record { credits = credits; right = r }

tried_at : LaneLaws → (credits : LaneCredits) (f : Fabric) (lane : LaneName) (event : LinkEvent) (e : LaneEndsView) (s : Settling) → IsGood event → At credits f lane e s
    → At credits f lane (after_call e (call_of event)) (tried s (event_on lane event))
tried_at l credits f lane event e s good a = elim (outcome l.strange e event good (is_right credits e a.right)) [
  | inl o ↦
      let now : (tried s (event_on lane event)).fabric ≡ with_lane s.fabric lane (after_call e (call_of event)) =
      fabric_after s (event_on lane event) (o.0, with_lane s.fabric lane (after_call e (call_of event))) (link_ok s.fabric lane event e (after_call e (call_of event)) o.0 a.there o.1) in
      record {
        right = l.right credits e (call_of event) (is_call event) a.right;
        there = ap (λ (g : Fabric). lane_at g lane) now ∙ lane_there s.fabric lane e (after_call e (call_of event)) a.there;
        fabric = now ∙ ap (λ (g : Fabric). with_lane g lane (after_call e (call_of event))) a.fabric ∙ lane_twice f lane e (after_call e (call_of event));
      }
  | inr o ↦
      subst (λ (t : Settling). At credits f lane (after_call e (call_of event)) t) (sym (refused_stays s (event_on lane event) o.0 (link_err s.fabric lane event e o.0 a.there o.1)))
      (subst (λ (x : LaneEndsView). At credits f lane x s) (sym o.2) a)
]

times_at : LaneLaws → (n : ℕ) (credits : LaneCredits) (f : Fabric) (lane : LaneName) (event : LinkEvent) (e : LaneEndsView) (s : Settling) → IsGood event → At credits f lane e s
    → At credits f lane (lane_turns.times n e (call_of event)) (times n s (event_on lane event))
unfolding lane_turns.times
times_at l zero credits f lane event e s good a = subst (λ (t : Settling). At credits f lane e t) (sym (times_none s (event_on lane event))) a
times_at l (suc n) credits f lane event e s good a =
    subst (λ (t : Settling). At credits f lane (lane_turns.times n (after_call e (call_of event)) (call_of event)) t) (sym (times_next n s (event_on lane event)))
    (times_at l n credits f lane event (after_call e (call_of event)) (tried s (event_on lane event)) good (tried_at l credits f lane event e s good a))

-- ---- a turn

turn_at : LaneLaws → (credits : LaneCredits) (f : Fabric) (lane : LaneName) (e : LaneEndsView) (s : Settling) → At credits f lane e s → At credits f lane (turned (2 ^ 64 - 1) e) (lane_turn s lane)
unfolding turned
turn_at l credits f lane e s a =
    let a1 = tried_at l credits f lane links.Timer e s tt a in
    let a2 = tried_at l credits f lane links.Retrained _ _ tt a1 in
    let a3 = times_at l (2 ^ 64 - 1) credits f lane links.Transmit _ _ tt a2 in
    let a4 = times_at l (2 ^ 64 - 1) credits f lane (links.Deliver Good) _ _ refl a3 in
    let a5 = tried_at l credits f lane (links.SendDllp kinds.Answer) _ _ tt a4 in
    let a6 = tried_at l credits f lane (links.SendDllp (kinds.Update Posted)) _ _ tt a5 in
    let a7 = tried_at l credits f lane (links.SendDllp (kinds.Update NonPosted)) _ _ tt a6 in
    let a8 = tried_at l credits f lane (links.SendDllp (kinds.Update Completion)) _ _ tt a7 in
    subst (λ (t : Settling). At credits f lane (turned (2 ^ 64 - 1) e) t) (sym (lane_turn_is s lane))
    (times_at l (2 ^ 64 - 1) credits f lane (links.DeliverDllp Good) _ _ refl a8)

pub turn_is : LaneLaws → (credits : LaneCredits) (s : Settling) (lane : LaneName) (e : LaneEndsView) → IsRightWith credits e → lane_at s.fabric lane ≡ Ok e
    → (lane_turn s lane).fabric ≡ with_lane s.fabric lane (turned (2 ^ 64 - 1) e)
turn_is l credits s lane e r h =
    (turn_at l credits s.fabric lane e s (record { right = r; there = h; fabric = sym (lane_same s.fabric lane e h) })).fabric

-- what isn't there has no turn

all_refused : (xs : List Attempt) (s : Settling) → Each (λ a. (r : Refusal) × (answer s.fabric (event_of a) ≡ Err r)) xs → fold attempted s xs ≡ s
all_refused [] s h = refl
all_refused (a ∷ xs) s h = ap (λ (t : Settling). fold attempted t xs) (attempt_refused s a h.0.0 h.0.1) ∙ all_refused xs s h.1

pub turn_of_none : (s : Settling) (lane : LaneName) (r : Refusal) → lane_at s.fabric lane ≡ Err r → lane_turn s lane ≡ s
turn_of_none s lane r h =
    let no : (event : LinkEvent) → (q : Refusal) × (answer s.fabric (event_on lane event) ≡ Err q) = λ event. (r, no_lane s.fabric lane event r h) in
    lane_turn_is s lane ∙ all_refused (lane_attempts lane) s (no links.Timer, (no links.Retrained, (no links.Transmit, (no (links.Deliver Good), (no (links.SendDllp kinds.Answer), (no (links.SendDllp (kinds.Update Posted)), (no (links.SendDllp (kinds.Update NonPosted)), (no (links.SendDllp (kinds.Update Completion)), (no (links.DeliverDllp Good), tt)))))))))

-- ---- a turn of a flushed lane moves nothing

expects_no_replay : (e : LaneEndsView) → e.sender.sending.place ≡ 0 → link_on e links.Timer ≡ Err refusals.Idle
expects_no_replay e h = rw h refl

sends_nothing : (e : LaneEndsView) → e.sender.sending.kept ≡ [] → link_on e links.Transmit ≡ Err refusals.Idle
sends_nothing e h = by_stopped e.sender.sending.stopped refl
  where
    by_stopped : (b : Bool) → e.sender.sending.stopped ≡ b → link_on e links.Transmit ≡ Err refusals.Idle
    by_stopped true k = rw k refl
    by_stopped false k = rw (k, h) refl

gets_nothing : (e : LaneEndsView) → e.forward ≡ [] → link_on e (links.Deliver Good) ≡ Err refusals.Idle
gets_nothing e h = rw h refl

-- what follows on the packets
abbrev told : LaneName → Settling → Settling
told lane t =
    fold attempted t
    (attempts.Once (events.SendDllp lane kinds.Answer) ∷ attempts.Once (events.SendDllp lane (kinds.Update Posted)) ∷ attempts.Once (events.SendDllp lane (kinds.Update NonPosted))
    ∷ attempts.Once (events.SendDllp lane (kinds.Update Completion)) ∷ attempts.All (events.DeliverDllp lane Good) ∷ [])

pub still_turn : LaneLaws → (credits : LaneCredits) (s : Settling) (lane : LaneName) (e : LaneEndsView) → IsRightWith credits e → lane_at s.fabric lane ≡ Ok e → IsFlushed e → e.sender.sending.place ≡ 0
    → (lane_turn s lane).moved ≡ s.moved
still_turn l credits s lane e r h flushed place =
    let a0 : At credits s.fabric lane e s = record { right = r; there = h; fabric = sym (lane_same s.fabric lane e h) } in
    let a1 = tried_at l credits s.fabric lane links.Timer e s tt a0 in
    let a2 = tried_at l credits s.fabric lane links.Retrained _ _ tt a1 in
    let s1 = tried s (events.Timer lane) in
    let s2 = tried s1 (events.Retrained lane) in
    let m1 : s1.moved ≡ s.moved = ap (λ (t : Settling). t.moved) (refused_stays s (events.Timer lane) refusals.Idle (link_err s.fabric lane links.Timer e refusals.Idle h (expects_no_replay e place))) in
    let m2 : s2.moved ≡ s.moved = still_tried s1 (events.Retrained lane) refl ∙ m1 in
    let e2 = after_call (after_call e Timer) Retrained in
    let none_sent : times (2 ^ 64 - 1) s2 (events.Transmit lane) ≡ s2 =
    times_refused (2 ^ 64 - 1) s2 (events.Transmit lane) refusals.Idle (link_err s2.fabric lane links.Transmit e2 refusals.Idle a2.there (sends_nothing e2 flushed.kept)) in
    let none_got : times (2 ^ 64 - 1) s2 (events.Deliver lane Good) ≡ s2 =
    times_refused (2 ^ 64 - 1) s2 (events.Deliver lane Good) refusals.Idle (link_err s2.fabric lane (links.Deliver Good) e2 refusals.Idle a2.there (gets_nothing e2 flushed.forward)) in
    let t1 = tried s2 (events.SendDllp lane kinds.Answer) in
    let t2 = tried t1 (events.SendDllp lane (kinds.Update Posted)) in
    let t3 = tried t2 (events.SendDllp lane (kinds.Update NonPosted)) in
    let t4 = tried t3 (events.SendDllp lane (kinds.Update Completion)) in
    ap (λ (t : Settling). t.moved) (lane_turn_is s lane
    ∙ ap (λ (t : Settling). told lane (times (2 ^ 64 - 1) t (events.Deliver lane Good))) none_sent ∙ ap (told lane) none_got)
    ∙ still_times (2 ^ 64 - 1) t4 (events.DeliverDllp lane Good) refl
    ∙ still_tried t3 (events.SendDllp lane (kinds.Update Completion)) refl
    ∙ still_tried t2 (events.SendDllp lane (kinds.Update NonPosted)) refl
    ∙ still_tried t1 (events.SendDllp lane (kinds.Update Posted)) refl
    ∙ still_tried s2 (events.SendDllp lane kinds.Answer) refl
    ∙ m2
