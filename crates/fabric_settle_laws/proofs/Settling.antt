-- What happens in a settlement is answers to events that submit nothing.
use Rattle.std.proofs.Common.{◌≡◌, ℕ, zero, suc, Bool, true, false, if◌then◌else◌, List, [], ◌∷◌, ◌++◌, refl, sym, subst, Result, Ok, Err}
use Rattle.std.specs.Prelude.{fold}
use Rattle.fabric_steps.specs.Fabric.{Fabric}
use Rattle.fabric_steps.specs.Lists.{Each}
use Rattle.fabric_steps.specs.Event.{Event, Seen}
use Rattle.fabric_steps.specs.declared.event.LaneName.{LaneName}
use Rattle.fabric_steps.specs.declared.fault.Refusal.{Refusal}
use Rattle.fabric_core.specs.Answers.{answer, Happens}
use Rattle.fabric_core.specs.Kept.{IsSoundFabric, IsNoSubmission}
use Rattle.fabric_settle.specs.declared.attempt.Attempt.{Attempt}
use Rattle.fabric_settle.specs.declared.attempt.Attempt.TheVariants as attempts
use Rattle.fabric_settle.specs.Happenings.{Happening, happening, Answers, Leads}
use Rattle.fabric_settle.specs.Rounds.{Settling, at, answered, tried, times, attempted, lane_attempts, after_lanes, lane_turn, all_lanes, round, rounds, settlement}

abbrev By : Fabric → Event → Seen → Fabric → Type 0
By f e what g = Answers f e what g × IsNoSubmission e

abbrev IsOf : Fabric → Settling → Type 0
IsOf f s = Leads By f s.happened s.fabric

one_more : (hs : List Happening) (f g h : Fabric) (e : Event) (what : Seen) → Leads By f hs g → By g e what h → Leads By f (hs ++ happening g e what h ∷ []) h
one_more [] f g h e what r b = (r, subst (λ (x : Fabric). By x e what h) refl b, refl)
one_more (x ∷ hs) f g h e what r b = (r.0, r.1, one_more hs x.after g h e what r.2 b)

of_answer : (f : Fabric) (s : Settling) (e : Event) (a : Result (Seen × Fabric) Refusal) → IsNoSubmission e → answer s.fabric e ≡ a → IsOf f s → IsOf f (answered s e a)
of_answer f s e (Ok p) q is o = one_more s.happened f s.fabric p.1 e p.0 o (is, q)
of_answer f s e (Err r) q is o = o

of_tried : (f : Fabric) (s : Settling) (e : Event) → IsNoSubmission e → IsOf f s → IsOf f (tried s e)
unfolding tried
of_tried f s e q o = of_answer f s e (answer s.fabric e) q refl o

of_times : (f : Fabric) (n : ℕ) (s : Settling) (e : Event) → IsNoSubmission e → IsOf f s → IsOf f (times n s e)
unfolding times
of_times f zero s e q o = o
of_times f (suc n) s e q o = of_times f n (tried s e) e q (of_tried f s e q o)

abbrev TriesNone : Attempt → Type 0
TriesNone (attempts.Once e) = IsNoSubmission e
TriesNone (attempts.All e) = IsNoSubmission e

of_attempt : (f : Fabric) (s : Settling) (a : Attempt) → TriesNone a → IsOf f s → IsOf f (attempted s a)
of_attempt f s (attempts.Once e) q o = of_tried f s e q o
of_attempt f s (attempts.All e) q o = of_times f 18446744073709551615 s e q o

of_each : {X : Type 0} (f : Fabric) (step : Settling → X → Settling) (Q : X → Type 0) → ((s : Settling) (x : X) → Q x → IsOf f s → IsOf f (step s x)) → (xs : List X) → Each Q xs → (s : Settling) → IsOf f s → IsOf f (fold step s xs)
of_each f step Q keeps [] each s o = o
of_each f step Q keeps (x ∷ xs) each s o = of_each f step Q keeps xs each.1 (step s x) (keeps s x each.0 o)

of_turn : (f : Fabric) (s : Settling) (lane : LaneName) → IsOf f s → IsOf f (lane_turn s lane)
unfolding lane_turn
of_turn f s lane o = of_each f attempted TriesNone (of_attempt f) (lane_attempts lane) (tt, (tt, (tt, (tt, (tt, (tt, (tt, (tt, (tt, tt))))))))) s o

each_lane : (lanes : List LaneName) → Each (λ (lane : LaneName). Unit {0}) lanes
each_lane [] = tt
each_lane (lane ∷ lanes) = (tt, each_lane lanes)

after_submits_none : Each TriesNone after_lanes
after_submits_none = (tt, (tt, (tt, (tt, (tt, (tt, (tt, (tt, (tt, (tt, (tt, (tt, (tt, (tt, (tt, (tt, (tt, (tt, (tt, (tt, (tt, (tt, (tt, (tt, (tt, tt)))))))))))))))))))))))))

of_round : (f : Fabric) (s : Settling) → IsOf f s → IsOf f (round s)
unfolding round
of_round f s o =
    of_each f attempted TriesNone (of_attempt f) after_lanes after_submits_none (fold lane_turn (at s.fabric s.happened false) all_lanes)
    (of_each f lane_turn (λ (lane : LaneName). Unit {0}) (λ t lane u p. of_turn f t lane p) all_lanes (each_lane all_lanes) (at s.fabric s.happened false) o)

of_more : (f : Fabric) (more : Settling → Settling) (s : Settling) (b : Bool) → ((t : Settling) → IsOf f t → IsOf f (more t)) → IsOf f s → IsOf f (if b then more s else s)
of_more f more s true keeps o = keeps s o
of_more f more s false keeps o = o

of_rounds : (f : Fabric) (n : ℕ) (s : Settling) → IsOf f s → IsOf f (rounds n s)
unfolding rounds
of_rounds f zero s o = o
of_rounds f (suc n) s o = of_more f (rounds n) (round s) (round s).moved (λ t p. of_rounds f n t p) (of_round f s o)

-- ---- as happenings

pub record Laws : Type 0 where
  pub happens : (f f' : Fabric) (event : Event) (what : Seen) → IsSoundFabric f → IsNoSubmission event → answer f event ≡ Ok (what, f') → Happens f event what f'
  pub sound : (f f' : Fabric) (event : Event) (what : Seen) → IsSoundFabric f → Happens f event what f' → IsSoundFabric f'

led : Laws → (hs : List Happening) (f g : Fabric) → IsSoundFabric f → Leads By f hs g → Leads Happens f hs g
led l [] f g s r = r
led l (h ∷ hs) f g s r =
    let sound = subst IsSoundFabric (sym r.0) s in
    let happens = l.happens h.before h.after h.event h.what sound r.1.1 r.1.0 in
    (r.0, happens, led l hs h.after g (l.sound h.before h.after h.event h.what sound happens) r.2)

quietly : (hs : List Happening) (f g : Fabric) → Leads By f hs g → Each (λ (h : Happening). IsNoSubmission h.event) hs
quietly [] f g r = tt
quietly (h ∷ hs) f g r = (r.1.1, quietly hs h.after g r.2)

is_settled : (f : Fabric) → IsOf f (settlement f)
is_settled f = of_rounds f 10000 (at f [] false) refl

pub settles : Laws → (f : Fabric) → IsSoundFabric f → Leads Happens f (settlement f).happened (settlement f).fabric
settles l f s = led l (settlement f).happened f (settlement f).fabric s (is_settled f)

pub submits_none : (f : Fabric) → Each (λ (h : Happening). IsNoSubmission h.event) (settlement f).happened
submits_none f = quietly (settlement f).happened f (settlement f).fabric (is_settled f)
