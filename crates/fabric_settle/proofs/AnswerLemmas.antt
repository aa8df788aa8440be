-- What happens while a fabric is settled are its answers.
use Rattle.std.proofs.Common.{◌≡◌, ℕ, zero, suc, Bool, true, false, if◌then◌else◌, List, [], ◌∷◌, ◌++◌, refl, Result, Ok, Err}
use Rattle.std.specs.Prelude.{fold}
use Rattle.fabric_steps.specs.Fabric.{Fabric}
use Rattle.fabric_steps.specs.Event.{Event, Seen}
use Rattle.fabric_steps.specs.declared.event.LaneName.{LaneName}
use Rattle.fabric_steps.specs.declared.fault.Refusal.{Refusal}
use Rattle.fabric_core.specs.Answers.{answer}
use Rattle.fabric_settle.specs.declared.attempt.Attempt.{Attempt}
use Rattle.fabric_settle.specs.declared.attempt.Attempt.TheVariants as attempts
use Rattle.fabric_settle.specs.Happenings.{Happening, happening, Answers, Leads}
use Rattle.fabric_settle.specs.Rounds.{Settling, at, answered, tried, times, attempted, lane_attempts, after_lanes, lane_turn, all_lanes, round, rounds, settlement}

one_more : (hs : List Happening) (f g h : Fabric) (e : Event) (what : Seen) → Leads Answers f hs g → answer g e ≡ Ok (what, h) → Leads Answers f (hs ++ happening g e what h ∷ []) h
one_more [] f g h e what r a = (r, a, refl)
one_more (x ∷ hs) f g h e what r a = (r.0, r.1, one_more hs x.after g h e what r.2 a)

abbrev IsOf : Fabric → Settling → Type 0
IsOf f s = Leads Answers f s.happened s.fabric

of_answer : (f : Fabric) (s : Settling) (e : Event) (a : Result (Seen × Fabric) Refusal) → answer s.fabric e ≡ a → IsOf f s → IsOf f (answered s e a)
of_answer f s e (Ok p) is o = one_more s.happened f s.fabric p.1 e p.0 o is
of_answer f s e (Err r) is o = o

of_tried : (f : Fabric) (s : Settling) (e : Event) → IsOf f s → IsOf f (tried s e)
unfolding tried
of_tried f s e o = of_answer f s e (answer s.fabric e) refl o

of_times : (f : Fabric) (n : ℕ) (s : Settling) (e : Event) → IsOf f s → IsOf f (times n s e)
unfolding times
of_times f zero s e o = o
of_times f (suc n) s e o = of_times f n (tried s e) e (of_tried f s e o)

of_attempt : (f : Fabric) (s : Settling) (a : Attempt) → IsOf f s → IsOf f (attempted s a)
of_attempt f s (attempts.Once e) o = of_tried f s e o
of_attempt f s (attempts.All e) o = of_times f 18446744073709551615 s e o

of_each : {X : Type 0} (f : Fabric) (step : Settling → X → Settling) → ((s : Settling) (x : X) → IsOf f s → IsOf f (step s x)) → (xs : List X) (s : Settling) → IsOf f s → IsOf f (fold step s xs)
of_each f step keeps [] s o = o
of_each f step keeps (x ∷ xs) s o = of_each f step keeps xs (step s x) (keeps s x o)

of_turn : (f : Fabric) (s : Settling) (lane : LaneName) → IsOf f s → IsOf f (lane_turn s lane)
unfolding lane_turn
of_turn f s lane o = of_each f attempted (of_attempt f) (lane_attempts lane) s o

of_round : (f : Fabric) (s : Settling) → IsOf f s → IsOf f (round s)
unfolding round
of_round f s o =
    of_each f attempted (of_attempt f) after_lanes (fold lane_turn (at s.fabric s.happened false) all_lanes) (of_each f lane_turn (of_turn f) all_lanes (at s.fabric s.happened false) o)

of_more : (f : Fabric) (more : Settling → Settling) (s : Settling) (b : Bool) → ((t : Settling) → IsOf f t → IsOf f (more t)) → IsOf f s → IsOf f (if b then more s else s)
of_more f more s true keeps o = keeps s o
of_more f more s false keeps o = o

of_rounds : (f : Fabric) (n : ℕ) (s : Settling) → IsOf f s → IsOf f (rounds n s)
unfolding rounds
of_rounds f zero s o = o
of_rounds f (suc n) s o = of_more f (rounds n) (round s) (round s).moved (λ t p. of_rounds f n t p) (of_round f s o)

pub is_of_answers : (f : Fabric) → Leads Answers f (settlement f).happened (settlement f).fabric
is_of_answers f = of_rounds f 10000 (at f [] false) refl
