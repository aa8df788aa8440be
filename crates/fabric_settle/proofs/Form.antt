-- What is tried of a fabric, in the form in which the proofs use it. Only this file reads the form of the rounds.
use Rattle.std.proofs.Common.{◌≡◌, ℕ, suc, false, refl, ap, Result, Ok, Err}
use Rattle.std.specs.Prelude.{◌||◌, fold}
use Rattle.fabric_steps.specs.Fabric.{Fabric}
use Rattle.fabric_steps.specs.Event.{Event, Seen}
use Rattle.fabric_steps.specs.declared.event.LaneName.{LaneName}
use Rattle.fabric_steps.specs.declared.fault.Refusal.{Refusal}
use Rattle.fabric_core.specs.Answers.{answer}
use Rattle.fabric_settle.specs.Rounds.{Settling, at, answered, tried, times, is_move, round, attempted, lane_attempts, after_lanes, lane_turn, all_lanes}

-- ---- one event

pub fabric_after : (s : Settling) (e : Event) (p : Seen × Fabric) → answer s.fabric e ≡ Ok p → (tried s e).fabric ≡ p.1
unfolding tried
fabric_after s e p h = ap (λ (a : Result (Seen × Fabric) Refusal). (answered s e a).fabric) h

pub moved_after : (s : Settling) (e : Event) (p : Seen × Fabric) → answer s.fabric e ≡ Ok p → (tried s e).moved ≡ (s.moved || is_move e)
unfolding tried
moved_after s e p h = ap (λ (a : Result (Seen × Fabric) Refusal). (answered s e a).moved) h

pub refused_stays : (s : Settling) (e : Event) (r : Refusal) → answer s.fabric e ≡ Err r → tried s e ≡ s
unfolding tried
refused_stays s e r h = ap (answered s e) h

-- ---- one event until it is refused

pub times_none : (s : Settling) (e : Event) → times 0 s e ≡ s
unfolding times
times_none s e = refl

pub times_next : (n : ℕ) (s : Settling) (e : Event) → times (suc n) s e ≡ times n (tried s e) e
unfolding times
times_next n s e = refl

-- ---- a round

pub lane_turn_is : (s : Settling) (lane : LaneName) → lane_turn s lane ≡ fold attempted s (lane_attempts lane)
unfolding lane_turn
lane_turn_is s lane = refl

-- as a round begins, it has moved nothing
abbrev pub began : Settling → Settling
began s = at s.fabric s.happened false

pub round_is : (s : Settling) → round s ≡ fold attempted (fold lane_turn (began s) all_lanes) after_lanes
unfolding round
round_is s = refl
