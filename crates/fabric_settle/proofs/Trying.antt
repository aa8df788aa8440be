-- What stays, and what is lowered, where events are tried.
use Rattle.std.proofs.Common.{◌≡◌, ◌∙◌, ◌⊎◌, inl, inr, ℕ, zero, suc, ◌+◌, ◌<◌, ◌≤◌, Bool, true, false, List, [], ◌∷◌, refl, sym, ap, subst, arith, Result, Ok, Err, IsOk}
use Rattle.std.specs.Prelude.{◌||◌, ◌-◌, ◌^◌, fold, is_ok}
use Rattle.fabric_steps.specs.Fabric.{Fabric}
use Rattle.fabric_steps.specs.Lists.{Each}
use Rattle.fabric_steps.specs.Event.{Event, Seen}
use Rattle.fabric_steps.specs.declared.event.EventOf.TheVariants as events
use Rattle.fabric_steps.specs.declared.fault.Refusal.{Refusal}
use Rattle.fabric_core.specs.Answers.{answer, Happens}
use Rattle.fabric_core.specs.Kept.{IsSoundFabric, IsNoSubmission}
use Rattle.fabric_settle.specs.Hops.{IsHop, IsOfLink, hops_left}
use Rattle.fabric_settle.specs.declared.attempt.Attempt.{Attempt}
use Rattle.fabric_settle.specs.declared.attempt.Attempt.TheVariants as attempts
use Rattle.fabric_settle.specs.Rounds.{Settling, tried, times, is_move, attempted}
use Rattle.fabric_settle.specs.Rest.{Reaches}
use Rattle.fabric_settle.proofs.Reaching.{itself, by_one, then_on}
use Rattle.fabric_settle.proofs.Form.{fabric_after, moved_after, refused_stays, times_none, times_next}

-- the laws of the layers below
pub record Laws : Type 0 where
  pub happens : (f f' : Fabric) (event : Event) (what : Seen) → IsSoundFabric f → IsNoSubmission event → answer f event ≡ Ok (what, f') → Happens f event what f'
  pub sound : (f f' : Fabric) (event : Event) (what : Seen) → IsSoundFabric f → Happens f event what f' → IsSoundFabric f'
  pub hop : (f f' : Fabric) (event : Event) (what : Seen) → IsSoundFabric f → IsHop event → answer f event ≡ Ok (what, f') → hops_left f' + 1 ≡ hops_left f
  pub link : (f f' : Fabric) (event : Event) (what : Seen) → IsSoundFabric f → IsOfLink event → answer f event ≡ Ok (what, f') → hops_left f' ≡ hops_left f

-- ---- hops

pub hop_submits_nothing : (e : Event) → IsHop e → IsNoSubmission e
hop_submits_nothing (events.Submit port op) h = absurd h
hop_submits_nothing (events.Transmit lane) h = absurd h
hop_submits_nothing (events.Deliver lane fate) h = absurd h
hop_submits_nothing (events.SendDllp lane kind) h = absurd h
hop_submits_nothing (events.DeliverDllp lane fate) h = absurd h
hop_submits_nothing (events.Timer lane) h = absurd h
hop_submits_nothing (events.Retrained lane) h = absurd h
hop_submits_nothing (events.Forward lane place) h = tt
hop_submits_nothing (events.Serve place) h = tt
hop_submits_nothing (events.Collect port) h = tt

hop_is_move : (e : Event) → IsHop e → is_move e ≡ true
hop_is_move (events.Submit port op) h = absurd h
hop_is_move (events.Transmit lane) h = absurd h
hop_is_move (events.Deliver lane fate) h = absurd h
hop_is_move (events.SendDllp lane kind) h = absurd h
hop_is_move (events.DeliverDllp lane fate) h = absurd h
hop_is_move (events.Timer lane) h = absurd h
hop_is_move (events.Retrained lane) h = absurd h
hop_is_move (events.Forward lane place) h = refl
hop_is_move (events.Serve place) h = refl
hop_is_move (events.Collect port) h = refl

or_true : (a b : Bool) → b ≡ true → (a || b) ≡ true
or_true true b h = refl
or_true false b h = h

true_or : (a b : Bool) → a ≡ true → (a || b) ≡ true
true_or true b h = refl
true_or false b h = absurd cc

-- what holds after events that are hops, whether or not they happen
pub record Keeps (s t : Settling) : Type 0 where
  pub sound : IsSoundFabric t.fabric
  pub fewer : hops_left t.fabric ≤ hops_left s.fabric
  pub moved : s.moved ≡ true → t.moved ≡ true
  pub reaches : Reaches s.fabric t.fabric

-- and where one of them happened
pub record Went (s t : Settling) : Type 0 where
  pub sound : IsSoundFabric t.fabric
  pub fewer : hops_left t.fabric < hops_left s.fabric
  pub moved : t.moved ≡ true
  pub reaches : Reaches s.fabric t.fabric

not_more : (n : ℕ) → n ≤ n
not_more n = omega arith

still_fewer : (a b c : ℕ) → b ≤ a → c ≤ b → c ≤ a
still_fewer a b c p q = omega arith

stays : (s : Settling) → IsSoundFabric s.fabric → Keeps s s
stays s h = record { sound = h; fewer = not_more (hops_left s.fabric); moved = λ m. m; reaches = itself s.fabric }

then_keeps : (s t u : Settling) → Keeps s t → Keeps t u → Keeps s u
then_keeps s t u h k = record { sound = k.sound; fewer = still_fewer (hops_left s.fabric) (hops_left t.fabric) (hops_left u.fabric) h.fewer k.fewer; moved = λ m. k.moved (h.moved m); reaches = then_on s.fabric t.fabric u.fabric h.reaches k.reaches }

went_then : (s t u : Settling) → Went s t → Keeps t u → Went s u
went_then s t u h k = record { sound = k.sound; fewer = lower (hops_left s.fabric) (hops_left t.fabric) (hops_left u.fabric) h.fewer k.fewer; moved = k.moved h.moved; reaches = then_on s.fabric t.fabric u.fabric h.reaches k.reaches }
  where
    lower : (a b c : ℕ) → b < a → c ≤ b → c < a
    lower a b c p q = omega arith

went : Laws → (s : Settling) (e : Event) (p : Seen × Fabric) → IsHop e → IsSoundFabric s.fabric → answer s.fabric e ≡ Ok p → Went s (tried s e)
went l s e p is sound h =
    let now : (tried s e).fabric ≡ p.1 = fabric_after s e p h in
    let less : hops_left p.1 + 1 ≡ hops_left s.fabric = l.hop s.fabric p.1 e p.0 sound is h in
    let happens = l.happens s.fabric p.1 e p.0 sound (hop_submits_nothing e is) h in
    record {
      sound = subst IsSoundFabric (sym now) (l.sound s.fabric p.1 e p.0 sound happens);
      reaches = subst (Reaches s.fabric) (sym now) (by_one s.fabric p.1 e p.0 happens);
      fewer = subst (λ (f : Fabric). hops_left f < hops_left s.fabric) (sym now) (one_less (hops_left p.1) (hops_left s.fabric) less);
      moved = moved_after s e p h ∙ or_true s.moved (is_move e) (hop_is_move e is);
    }
  where
    one_less : (a b : ℕ) → a + 1 ≡ b → a < b
    one_less a b q = omega arith

kept_of : (s t : Settling) → Went s t → Keeps s t
kept_of s t h = record { sound = h.sound; fewer = weaker (hops_left t.fabric) (hops_left s.fabric) h.fewer; moved = λ m. h.moved; reaches = h.reaches }
  where
    weaker : (a b : ℕ) → a < b → a ≤ b
    weaker a b q = omega arith

pub keeps_tried : Laws → (s : Settling) (e : Event) → IsHop e → IsSoundFabric s.fabric → Keeps s (tried s e)
keeps_tried l s e is sound = by_answer (answer s.fabric e) refl
  where
    by_answer : (a : Result (Seen × Fabric) Refusal) → answer s.fabric e ≡ a → Keeps s (tried s e)
    by_answer (Ok p) h = kept_of s (tried s e) (went l s e p is sound h)
    by_answer (Err r) h = subst (Keeps s) (sym (refused_stays s e r h)) (stays s sound)

keeps_times : Laws → (n : ℕ) (s : Settling) (e : Event) → IsHop e → IsSoundFabric s.fabric → Keeps s (times n s e)
keeps_times l zero s e is sound = subst (Keeps s) (sym (times_none s e)) (stays s sound)
keeps_times l (suc n) s e is sound =
    let k = keeps_tried l s e is sound in
    subst (Keeps s) (sym (times_next n s e)) (then_keeps s (tried s e) (times n (tried s e) e) k (keeps_times l n (tried s e) e is k.sound))

-- ---- attempts

abbrev pub event_of : Attempt → Event
event_of (attempts.Once e) = e
event_of (attempts.All e) = e

abbrev pub AreHops : List Attempt → Type 0
AreHops xs = Each (λ a. IsHop (event_of a)) xs

pub keeps_attempted : Laws → (s : Settling) (a : Attempt) → IsHop (event_of a) → IsSoundFabric s.fabric → Keeps s (attempted s a)
keeps_attempted l s (attempts.Once e) is sound = keeps_tried l s e is sound
keeps_attempted l s (attempts.All e) is sound = keeps_times l (2 ^ 64 - 1) s e is sound

pub keeps_all : Laws → (xs : List Attempt) (s : Settling) → AreHops xs → IsSoundFabric s.fabric → Keeps s (fold attempted s xs)
keeps_all l [] s are sound = stays s sound
keeps_all l (a ∷ xs) s are sound =
    let k = keeps_attempted l s a are.0 sound in
    then_keeps s (attempted s a) (fold attempted (attempted s a) xs) k (keeps_all l xs (attempted s a) are.1 k.sound)

pub times_refused : (n : ℕ) (s : Settling) (e : Event) (r : Refusal) → answer s.fabric e ≡ Err r → times n s e ≡ s
times_refused zero s e r h = times_none s e
times_refused (suc n) s e r h = times_next n s e ∙ ap (λ (t : Settling). times n t e) (refused_stays s e r h) ∙ times_refused n s e r h

pub attempt_refused : (s : Settling) (a : Attempt) (r : Refusal) → answer s.fabric (event_of a) ≡ Err r → attempted s a ≡ s
attempt_refused s (attempts.Once e) r h = refused_stays s e r h
attempt_refused s (attempts.All e) r h = times_refused (2 ^ 64 - 1) s e r h

times_went : Laws → (n : ℕ) (s : Settling) (e : Event) (p : Seen × Fabric) → 0 < n → IsHop e → IsSoundFabric s.fabric → answer s.fabric e ≡ Ok p → Went s (times n s e)
times_went l zero s e p pos is sound h = absurd (omega arith)
times_went l (suc n) s e p pos is sound h =
    let k = went l s e p is sound h in
    subst (Went s) (sym (times_next n s e)) (went_then s (tried s e) (times n (tried s e) e) k (keeps_times l n (tried s e) e is k.sound))

attempt_went : Laws → (s : Settling) (a : Attempt) (p : Seen × Fabric) → IsHop (event_of a) → IsSoundFabric s.fabric → answer s.fabric (event_of a) ≡ Ok p → Went s (attempted s a)
attempt_went l s (attempts.Once e) p is sound h = went l s e p is sound h
attempt_went l s (attempts.All e) p is sound h = times_went l (2 ^ 64 - 1) s e p (omega arith) is sound h

-- the event is one of those that are tried
abbrev pub Has : List Attempt → Event → Type 0
Has [] e = ⊥
Has (a ∷ xs) e = (event_of a ≡ e) ⊎ Has xs e

-- where one of them can happen, it or an earlier one does
pub some_goes : Laws → (xs : List Attempt) (s : Settling) (e : Event) → AreHops xs → IsSoundFabric s.fabric → Has xs e → IsOk (answer s.fabric e) → Went s (fold attempted s xs)
some_goes l [] s e are sound has ok = absurd has
some_goes l (a ∷ xs) s e are sound has ok = by_answer (answer s.fabric (event_of a)) refl (λ later. some_goes l xs s e are.1 sound later ok)
  where
    by_answer : (x : Result (Seen × Fabric) Refusal) → answer s.fabric (event_of a) ≡ x → (Has xs e → Went s (fold attempted s xs)) → Went s (fold attempted (attempted s a) xs)
    by_answer (Ok p) h others =
        let k = attempt_went l s a p are.0 sound h in
        went_then s (attempted s a) (fold attempted (attempted s a) xs) k (keeps_all l xs (attempted s a) are.1 k.sound)
    by_answer (Err r) h others = elim has [
      | inl same ↦ absurd (let no : is_ok (answer s.fabric e) ≡ false = ap (λ (x : Event). is_ok (answer s.fabric x)) (sym same) ∙ ap is_ok h in cc)
      | inr later ↦ subst (λ (t : Settling). Went s (fold attempted t xs)) (sym (attempt_refused s a r h)) (others later)
    ]

-- where no hop is left, none happens
pub none_goes : Laws → (xs : List Attempt) (s : Settling) → AreHops xs → IsSoundFabric s.fabric → hops_left s.fabric ≡ 0 → fold attempted s xs ≡ s
none_goes l [] s are sound zero_left = refl
none_goes l (a ∷ xs) s are sound zero_left = by_answer (answer s.fabric (event_of a)) refl (none_goes l xs s are.1 sound zero_left)
  where
    no : (m n : ℕ) → m + 1 ≡ n → n ≡ 0 → ⊥
    no m n p q = omega arith

    by_answer : (x : Result (Seen × Fabric) Refusal) → answer s.fabric (event_of a) ≡ x → fold attempted s xs ≡ s → fold attempted (attempted s a) xs ≡ s
    by_answer (Ok p) h others = absurd (no (hops_left p.1) (hops_left s.fabric) (l.hop s.fabric p.1 (event_of a) p.0 sound are.0 h) zero_left)
    by_answer (Err r) h others = ap (λ (t : Settling). fold attempted t xs) (attempt_refused s a r h) ∙ others

-- ---- calls of links

link_submits_nothing : (e : Event) → IsOfLink e → IsNoSubmission e
link_submits_nothing (events.Submit port op) h = absurd h
link_submits_nothing (events.Transmit lane) h = tt
link_submits_nothing (events.Deliver lane fate) h = tt
link_submits_nothing (events.SendDllp lane kind) h = tt
link_submits_nothing (events.DeliverDllp lane fate) h = tt
link_submits_nothing (events.Timer lane) h = tt
link_submits_nothing (events.Retrained lane) h = tt
link_submits_nothing (events.Forward lane place) h = absurd h
link_submits_nothing (events.Serve place) h = absurd h
link_submits_nothing (events.Collect port) h = absurd h

-- what holds after calls of links, whether or not they happen
pub record Stays (s t : Settling) : Type 0 where
  pub sound : IsSoundFabric t.fabric
  pub same : hops_left t.fabric ≡ hops_left s.fabric
  pub reaches : Reaches s.fabric t.fabric

pub same_stays : (s : Settling) → IsSoundFabric s.fabric → Stays s s
same_stays s h = record { sound = h; same = refl; reaches = itself s.fabric }

pub then_stays : (s t u : Settling) → Stays s t → Stays t u → Stays s u
then_stays s t u h k = record { sound = k.sound; same = k.same ∙ h.same; reaches = then_on s.fabric t.fabric u.fabric h.reaches k.reaches }

stays_tried : Laws → (s : Settling) (e : Event) → IsOfLink e → IsSoundFabric s.fabric → Stays s (tried s e)
stays_tried l s e is sound = by_answer (answer s.fabric e) refl
  where
    by_answer : (a : Result (Seen × Fabric) Refusal) → answer s.fabric e ≡ a → Stays s (tried s e)
    by_answer (Ok p) h =
        let now : (tried s e).fabric ≡ p.1 = fabric_after s e p h in
        let happens = l.happens s.fabric p.1 e p.0 sound (link_submits_nothing e is) h in
        record {
          sound = subst IsSoundFabric (sym now) (l.sound s.fabric p.1 e p.0 sound happens);
          reaches = subst (Reaches s.fabric) (sym now) (by_one s.fabric p.1 e p.0 happens);
          same = ap hops_left now ∙ l.link s.fabric p.1 e p.0 sound is h;
        }
    by_answer (Err r) h = subst (Stays s) (sym (refused_stays s e r h)) (same_stays s sound)

stays_times : Laws → (n : ℕ) (s : Settling) (e : Event) → IsOfLink e → IsSoundFabric s.fabric → Stays s (times n s e)
stays_times l zero s e is sound = subst (Stays s) (sym (times_none s e)) (same_stays s sound)
stays_times l (suc n) s e is sound =
    let k = stays_tried l s e is sound in
    subst (Stays s) (sym (times_next n s e)) (then_stays s (tried s e) (times n (tried s e) e) k (stays_times l n (tried s e) e is k.sound))

stays_attempted : Laws → (s : Settling) (a : Attempt) → IsOfLink (event_of a) → IsSoundFabric s.fabric → Stays s (attempted s a)
stays_attempted l s (attempts.Once e) is sound = stays_tried l s e is sound
stays_attempted l s (attempts.All e) is sound = stays_times l (2 ^ 64 - 1) s e is sound

pub stays_all : Laws → (xs : List Attempt) (s : Settling) → Each (λ a. IsOfLink (event_of a)) xs → IsSoundFabric s.fabric → Stays s (fold attempted s xs)
stays_all l [] s are sound = same_stays s sound
stays_all l (a ∷ xs) s are sound =
    let k = stays_attempted l s a are.0 sound in
    then_stays s (attempted s a) (fold attempted (attempted s a) xs) k (stays_all l xs (attempted s a) are.1 k.sound)

-- ---- events that move nothing

pub still_tried : (s : Settling) (e : Event) → is_move e ≡ false → (tried s e).moved ≡ s.moved
still_tried s e is = by_answer (answer s.fabric e) refl
  where
    or_false : (a b : Bool) → b ≡ false → (a || b) ≡ a
    or_false true b h = refl
    or_false false b h = h

    by_answer : (a : Result (Seen × Fabric) Refusal) → answer s.fabric e ≡ a → (tried s e).moved ≡ s.moved
    by_answer (Ok p) h = moved_after s e p h ∙ or_false s.moved (is_move e) is
    by_answer (Err r) h = ap (λ (t : Settling). t.moved) (refused_stays s e r h)

pub still_times : (n : ℕ) (s : Settling) (e : Event) → is_move e ≡ false → (times n s e).moved ≡ s.moved
still_times zero s e is = ap (λ (t : Settling). t.moved) (times_none s e)
still_times (suc n) s e is = ap (λ (t : Settling). t.moved) (times_next n s e) ∙ still_times n (tried s e) e is ∙ still_tried s e is
