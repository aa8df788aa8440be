-- Events that are tried, once and until they are refused.
use Rattle.std.proofs.Common.{◌≡◌, ◌∙◌, ℕ, zero, suc, ◌+◌, ◌-◌, ◌≤◌, ◌<◌, Bool, true, false, if◌then◌else◌, List, [], ◌∷◌, ◌++◌, length, take, get_or, refl, sym, ap, subst, Result, Ok, Err, arith}
use Rattle.std.specs.Prelude.{is_ok, ◌||◌, fold}
use Rattle.std.proofs.lemmas.List.Sums.{fold_more, fold-append}
use Rattle.fabric_steps.specs.Fabric.{Fabric}
use Rattle.fabric_steps.specs.Event.{Event, Seen}
use Rattle.fabric_steps.specs.declared.fault.Refusal.{Refusal}
use Rattle.fabric_core.specs.Answers.{answer}
use Rattle.fabric_steps.specs.declared.event.LaneName.{LaneName}
use Rattle.fabric_settle.specs.declared.attempt.Attempt.{Attempt}
use Rattle.fabric_settle.specs.Happenings.{Happening, happening}
use Rattle.fabric_settle.specs.Keeping.{Witnessed}
use Rattle.fabric_settle.specs.Doing.{IsBeside, Does}
use Rattle.fabric_settle.specs.Rounds.{Settling, at, answered, tried, goes, times, is_move, round, rounds, if_moved, attempted, lane_attempts, after_lanes, lane_turn, all_lanes}

-- ---- one event

-- an event that happens
happened : (f f' : Fabric) (hs : List Happening) (b : Bool) (e : Event) (what : Seen) → answer f e ≡ Ok (what, f')
    → tried (at f hs b) e ≡ at f' (hs ++ happening f e what f' ∷ []) (b || is_move e)
unfolding tried
happened f f' hs b e what h = ap (answered (at f hs b) e) h

pub goes_on : (f f' : Fabric) (e : Event) (what : Seen) → answer f e ≡ Ok (what, f') → true ≡ goes f e
unfolding goes
goes_on f f' e what h = sym (ap is_ok h)

-- and one that is refused
pub refused_goes : (f : Fabric) (e : Event) (r : Refusal) → answer f e ≡ Err r → goes f e ≡ false
unfolding goes
refused_goes f e r h = ap is_ok h

by_answer : (s : Settling) (e : Event) (a : Result (Seen × Fabric) Refusal) → is_ok a ≡ false → answered s e a ≡ s
by_answer s e (Ok p) h = absurd cc
by_answer s e (Err r) h = refl

pub refused_stays : (s : Settling) (e : Event) → goes s.fabric e ≡ false → tried s e ≡ s
unfolding tried goes
refused_stays s e h = by_answer s e (answer s.fabric e) h

pub moved_before : (b x : Bool) → b ≡ true → b ≡ (b || x)
moved_before true x h = refl
moved_before false x h = absurd cc

pub moved_now : (b x y : Bool) → b ≡ false → y ≡ x → y ≡ (b || x)
moved_now true x y h e = absurd cc
moved_now false x y h e = e

-- what is refused once is refused again
times_refused : (n : ℕ) (s : Settling) (e : Event) → goes s.fabric e ≡ false → times n s e ≡ s
unfolding times
times_refused zero s e h = refl
times_refused (suc n) s e h = ap (λ (t : Settling). times n t e) (refused_stays s e h) ∙ times_refused n s e h

times_more : (i k : ℕ) (s : Settling) (e : Event) → times (i + k) s e ≡ times k (times i s e) e
unfolding times
times_more zero k s e =
    let same : 0 + k ≡ k = omega arith in
    ap (λ (n : ℕ). times n s e) same
times_more (suc i) k s e =
    let same : suc i + k ≡ suc (i + k) = omega arith in
    ap (λ (n : ℕ). times n s e) same ∙ times_more i k (tried s e) e

times_next : (i : ℕ) (s : Settling) (e : Event) → times (i + 1) s e ≡ tried (times i s e) e
unfolding times
times_next i s e = times_more i 1 s e

-- the event is tried until it is refused
times_end : (m i : ℕ) (s : Settling) (e : Event) → i ≤ m → goes (times i s e).fabric e ≡ false → times m s e ≡ times i s e
times_end m i s e le h =
    let same : m ≡ i + (m - i) = omega arith in
    ap (λ (n : ℕ). times n s e) same ∙ times_more i (m - i) s e ∙ times_refused (m - i) (times i s e) e h

times_none : (s : Settling) (e : Event) → s ≡ times 0 s e
unfolding times
times_none s e = refl

-- ---- calls that do a step

-- nothing
pub rests : {K : Type 0} (saw : K → Happening → K) (f : Fabric) (k : K) (b : Bool) → Does saw f k b (λ s. s) f k b
rests saw f k b = λ start hs h. record { same = refl; kept = h }

-- the same by another name
pub named : {K : Type 0} (saw : K → Happening → K) (f f' : Fabric) (k k' : K) (b b' : Bool) (step other : Settling → Settling) → ((s : Settling) → step s ≡ other s)
    → Does saw f k b step f' k' b' → Does saw f k b other f' k' b'
named saw f f' k k' b b' step other same d = λ start hs h. subst (λ (s : Settling). IsBeside saw start f' k' b' s) (same (at f hs b)) (d start hs h)

-- one and then another
pub chain : {K : Type 0} (saw : K → Happening → K) (f g h : Fabric) (k x y : K) (b c d : Bool) (step next : Settling → Settling)
    → Does saw f k b step g x c → Does saw g x c next h y d → Does saw f k b (λ s. next (step s)) h y d
chain saw f g h k x y b c d step next p q = λ start hs e.
    let one = p start hs e in
    subst (λ (s : Settling). IsBeside saw start h y d (next s)) one.same (q start (step (at f hs b)).happened one.kept)

-- the same that is left
pub again : {K : Type 0} (saw : K → Happening → K) (f h h' : Fabric) (k y y' : K) (b d d' : Bool) (step : Settling → Settling) → h' ≡ h → y' ≡ y → d' ≡ d
    → Does saw f k b step h y d → Does saw f k b step h' y' d'
again saw f h h' k y y' b d d' step eh ey ed p = λ start hs o.
    let s = p start hs o in
    let now = (step (at f hs b)).happened in
    record { same = ap (λ (g : Fabric). at g now d') eh ∙ ap (λ (x : Bool). at h now x) ed ∙ s.same; kept = ey ∙ s.kept }

-- the same event
pub of_event : {K : Type 0} {saw : K → Happening → K} {f f' : Fabric} {k k' : K} {d e : Event} → d ≡ e → Witnessed saw f k d f' k' → Witnessed saw f k e f' k'
of_event {saw = saw} {f = f} {f' = f'} {k = k} {k' = k'} same w = subst (λ (x : Event). Witnessed saw f k x f' k') same w

-- an event that happens
pub does_happen : {K : Type 0} (saw : K → Happening → K) (f f' : Fabric) (k k' : K) (b b' : Bool) (e : Event) → Witnessed saw f k e f' k'
    → b' ≡ (b || is_move e) → Does saw f k b (λ s. tried s e) f' k' b'
does_happen {K = K} saw f f' k k' b b' e w m = λ start hs h.
    let one = happening f e w.what f' in
    let now = hs ++ one ∷ [] in
    subst (λ (s : Settling). IsBeside saw start f' k' b' s) (sym (happened f f' hs b e w.what w.happens.0))
    (record { same = ap (λ (x : Bool). at f' now x) m; kept = w.now ∙ ap (λ (x : K). saw x one) h ∙ sym (fold-append saw start hs (one ∷ [])) })

-- and one that is refused
pub does_stay : {K : Type 0} (saw : K → Happening → K) (f f' : Fabric) (k k' : K) (b : Bool) (e : Event) (r : Refusal) → answer f e ≡ Err r → f' ≡ f → k' ≡ k
    → Does saw f k b (λ s. tried s e) f' k' b
does_stay saw f f' k k' b e r h same kept = λ start hs p.
    subst (λ (s : Settling). IsBeside saw start f' k' b s) (sym (refused_stays (at f hs b) e (refused_goes f e r h)))
    (record { same = ap (λ (g : Fabric). at g hs b) same; kept = kept ∙ p })

-- ---- an event until it is refused

pub none_yet : {K : Type 0} (saw : K → Happening → K) (f : Fabric) (k : K) (b : Bool) (e : Event) → Does saw f k b (λ s. times 0 s e) f k b
none_yet saw f k b e = named saw f f k k b b (λ s. s) (λ s. times 0 s e) (λ s. times_none s e) (rests saw f k b)

pub one_more : {K : Type 0} (saw : K → Happening → K) (f g h : Fabric) (k x y : K) (b c d : Bool) (e : Event) (i : ℕ)
    → Does saw f k b (λ s. times i s e) g x c → Does saw g x c (λ s. tried s e) h y d → Does saw f k b (λ s. times (i + 1) s e) h y d
one_more saw f g h k x y b c d e i p q =
    named saw f h k y b d (λ s. tried (times i s e) e) (λ s. times (i + 1) s e) (λ s. sym (times_next i s e)) (chain saw f g h k x y b c d (λ s. times i s e) (λ s. tried s e) p q)

pub all_done : {K : Type 0} (saw : K → Happening → K) (f g h : Fabric) (k x y : K) (b c d : Bool) (e : Event) (m i : ℕ) → i ≤ m → goes g e ≡ false
    → Does saw f k b (λ s. times i s e) g x c → Does saw g x c (λ s. tried s e) h y d → Does saw f k b (λ s. times m s e) h y d
all_done saw f g h k x y b c d e m i le stop p q = λ start hs o.
    let s = at f hs b in
    let t = times i s e in
    let ends : goes t.fabric e ≡ false = ap (λ (u : Settling). goes u.fabric e) (sym (p start hs o).same) ∙ stop in
    subst (λ (u : Settling). IsBeside saw start h y d u) (refused_stays t e ends ∙ sym (times_end m i s e le ends))
    (chain saw f g h k x y b c d (λ s. times i s e) (λ s. tried s e) p q start hs o)

-- ---- what is done to each of a list in turn

pub next_item : {K X : Type 0} (saw : K → Happening → K) (f g h : Fabric) (k x y : K) (b c d : Bool) (step : Settling → X → Settling) (xs : List X) (i : ℕ) (item : X) (a : X)
    → i < length xs → get_or xs i item ≡ a
    → Does saw f k b (λ s. fold step s (take i xs)) g x c → Does saw g x c (λ s. step s a) h y d → Does saw f k b (λ s. fold step s (take (i + 1) xs)) h y d
next_item {X = X} saw f g h k x y b c d step xs i item a inside is p q =
    named saw f h k y b d (λ s. step (fold step s (take i xs)) a) (λ s. fold step s (take (i + 1) xs))
    (λ s. ap (λ (z : X). step (fold step s (take i xs)) z) (sym is) ∙ sym (fold_more step s xs i item inside))
    (chain saw f g h k x y b c d (λ s. fold step s (take i xs)) (λ s. step s a) p q)

pub turn_done : {K : Type 0} (saw : K → Happening → K) (f f' : Fabric) (k k' : K) (b b' : Bool) (lane : LaneName) (xs : List Attempt) → xs ≡ lane_attempts lane
    → Does saw f k b (λ s. fold attempted s xs) f' k' b' → Does saw f k b (λ s. lane_turn s lane) f' k' b'
unfolding lane_turn
turn_done saw f f' k k' b b' lane xs is d = named saw f f' k k' b b' (λ s. fold attempted s xs) (λ s. lane_turn s lane) (λ s. ap (λ (ys : List Attempt). fold attempted s ys) is) d

-- a round begins with nothing moved
pub round_done : {K : Type 0} (saw : K → Happening → K) (f g h : Fabric) (k x y : K) (b c d : Bool)
    → Does saw f k false (λ s. fold lane_turn s all_lanes) g x c → Does saw g x c (λ s. fold attempted s after_lanes) h y d → Does saw f k b round h y d
unfolding round
round_done saw f g h k x y b c d p q = λ start hs o.
    chain saw f g h k x y false c d (λ s. fold lane_turn s all_lanes) (λ s. fold attempted s after_lanes) p q start hs o

-- ---- rounds

pub rounds_none : (s : Settling) → rounds 0 s ≡ s
unfolding rounds
rounds_none s = refl

-- a round that moves nothing is the last
pub rounds_stop : (m : ℕ) (s t : Settling) → 0 < m → t ≡ round s → t.moved ≡ false → rounds m s ≡ t
unfolding rounds
rounds_stop zero s t pos e h = absurd (omega arith)
rounds_stop (suc n) s t pos e h = ap (if_moved (rounds n)) (sym e) ∙ ap (λ (b : Bool). if b then rounds n t else t) h

-- and others follow on one that moves something
pub rounds_go : (m : ℕ) (s t : Settling) → 0 < m → t ≡ round s → t.moved ≡ true → rounds m s ≡ rounds (m - 1) t
unfolding rounds
rounds_go zero s t pos e h = absurd (omega arith)
rounds_go (suc n) s t pos e h =
    let one_less : n ≡ suc n - 1 = omega arith in
    ap (if_moved (rounds n)) (sym e) ∙ ap (λ (b : Bool). if b then rounds n t else t) h ∙ ap (λ (k : ℕ). rounds k t) one_less

-- with so many rounds left
pub record Left {K : Type 0} (saw : K → Happening → K) (start : K) (s : Settling) (f : Fabric) (k : K) (b : Bool) (n : ℕ) : Type 0 where
  pub now : Settling
  pub agrees : IsBeside saw start f k b now
  pub rest : rounds 10000 s ≡ rounds n now

abbrev pub Leaves : {K : Type 0} → (K → Happening → K) → Fabric → K → Bool → ℕ → Fabric → K → Bool → Type 0
Leaves {K} saw f k b n f' k' b' = (start : K) (hs : List Happening) → k ≡ fold saw start hs → Left saw start (at f hs b) f' k' b' n

pub all_left : {K : Type 0} (saw : K → Happening → K) (f : Fabric) (k : K) (b : Bool) → Leaves saw f k b 10000 f k b
all_left saw f k b = λ start hs h. record { now = at f hs b; agrees = record { same = refl; kept = h }; rest = refl }

pub one_less : {K : Type 0} (saw : K → Happening → K) (f g h : Fabric) (k x y : K) (b c d : Bool) (n : ℕ) → 0 < n → d ≡ true
    → Leaves saw f k b n g x c → Does saw g x c round h y d → Leaves saw f k b (n - 1) h y d
one_less saw f g h k x y b c d n pos moved p q = λ start hs o.
    let l = p start hs o in
    let s = l.now in
    let r = subst (λ (t : Settling). IsBeside saw start h y d (round t)) l.agrees.same (q start s.happened l.agrees.kept) in
    record {
      now = round s;
      agrees = r;
      rest = l.rest ∙ rounds_go n s (round s) pos refl (ap (λ (t : Settling). t.moved) (sym r.same) ∙ moved);
    }

pub stopped : {K : Type 0} (saw : K → Happening → K) (f g h : Fabric) (k x y : K) (b c d : Bool) (n : ℕ) → 0 < n → d ≡ false
    → Leaves saw f k b n g x c → Does saw g x c round h y d → Does saw f k b (rounds 10000) h y d
stopped saw f g h k x y b c d n pos moved p q = λ start hs o.
    let l = p start hs o in
    let s = l.now in
    let r = subst (λ (t : Settling). IsBeside saw start h y d (round t)) l.agrees.same (q start s.happened l.agrees.kept) in
    subst (λ (t : Settling). IsBeside saw start h y d t) (sym (l.rest ∙ rounds_stop n s (round s) pos refl (ap (λ (t : Settling). t.moved) (sym r.same) ∙ moved))) r

pub none_left : {K : Type 0} (saw : K → Happening → K) (f g : Fabric) (k x : K) (b c : Bool) (n : ℕ) → n ≡ 0 → Leaves saw f k b n g x c → Does saw f k b (rounds 10000) g x c
none_left saw f g k x b c n none p = λ start hs o.
    let l = p start hs o in
    subst (λ (t : Settling). IsBeside saw start g x c t) (sym (l.rest ∙ ap (λ (m : ℕ). rounds m l.now) none ∙ rounds_none l.now)) l.agrees
