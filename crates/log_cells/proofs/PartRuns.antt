-- A run of a log, seen from a part of it.
use Rattle.std.proofs.Common.{◌≡◌, ◌∙◌, ℕ, zero, suc, ◌+◌, ◌-◌, ◌<◌, ◌≤◌, ◌⊎◌, true, false, List, [], ◌∷◌, length, get_or, Option, Some, refl, sym, ap, subst, inl, inr, arith}
use Rattle.std.specs.Prelude.{slice_get, slice_set, replicate}
use Rattle.std.proofs.lemmas.Bool.{cases_eq, cases_lt}
use Rattle.std.proofs.lemmas.Option.{slice_get_within, same_Some}
use Rattle.std.proofs.lemmas.List.{length-replicate}
use Rattle.tlp_core.specs.Ops.{Op}
use Rattle.seq_memory.specs.Entries.{Reply}
use Rattle.log_runs.specs.EventView.{EventView}
use Rattle.log_runs.specs.EventView as events
use Rattle.log_runs.specs.declared.Step.{Step}
use Rattle.log_runs.specs.declared.Step.TheVariants as steps
use Rattle.log_runs.specs.LogView.{LogView}
use Rattle.log_runs.specs.Runs.{State, MayPass, MayAct, Allowed, Leads, Live, next, start, reply_of, bytes_after, acted_on}
use Rattle.log_cells.specs.Parts.{IsInside, IsOutside, IsKept, IsPart}
use Rattle.log_cells.proofs.Window.{Laws, Agree, same_answer, agree_outside, agree_inside}

-- ---- lists

set_here : {X : Type 0} → (xs : List X) (i : ℕ) (v w : X) → slice_get xs i ≡ Some w → slice_get (slice_set xs i v) i ≡ Some v
set_here [] i v w e = cc
set_here (x ∷ xs) zero v w e = refl
set_here (x ∷ xs) (suc i) v w e = set_here xs i v w e

set_there : {X : Type 0} → (xs : List X) (i j : ℕ) (v : X) → (i ≡ j → ⊥) → slice_get (slice_set xs i v) j ≡ slice_get xs j
set_there [] i j v n = refl
set_there (x ∷ xs) zero zero v n = absurd (n refl)
set_there (x ∷ xs) zero (suc j) v n = refl
set_there (x ∷ xs) (suc i) zero v n = refl
set_there (x ∷ xs) (suc i) (suc j) v n = set_there xs i j v (λ e. n (ap suc e))

get_replicate : {X : Type 0} → (n i : ℕ) (v : X) → i < n → slice_get (replicate n v) i ≡ Some v
get_replicate zero i v l = absurd (omega arith)
get_replicate (suc n) zero v l = refl
get_replicate (suc n) (suc i) v l = get_replicate n i v (omega arith)

some_at : {X : Type 0} → (xs : List X) (i : ℕ) → i < length xs → (x : X) × (slice_get xs i ≡ Some x)
some_at [] i l = absurd (omega arith)
some_at (x ∷ xs) zero l = (x, refl)
some_at (x ∷ xs) (suc i) l = some_at xs i (omega arith)

zeros_at : (n i : ℕ) → get_or {A = ℕ} (replicate n 0) i 0 ≡ 0
zeros_at zero i = refl
zeros_at (suc n) zero = refl
zeros_at (suc n) (suc i) = zeros_at n i

-- whether a number is in a list
find : (xs : List ℕ) (b : ℕ) → ((j : ℕ) × (slice_get xs j ≡ Some b)) ⊎ ((j : ℕ) → slice_get xs j ≡ Some b → ⊥)
find [] b = inr (λ j e. cc)
find (x ∷ xs) b = elim (cases_eq x b) [
  | inl same ↦ inl (zero, ap Some same)
  | inr other ↦ elim (find xs b) [
    | inl there ↦ inl (suc there.0, there.1)
    | inr never ↦ inr (λ j e. here_or_later other never j e)
  ]
]
  where
    here_or_later : (x ≡ b → ⊥) → ((j : ℕ) → slice_get xs j ≡ Some b → ⊥) → (j : ℕ) → slice_get (x ∷ xs) j ≡ Some b → ⊥
    here_or_later other never zero e = other (same_Some x b e)
    here_or_later other never (suc j) e = never j e

-- a submission that is kept
record KeptSub (i : ℕ) (op : Op) (told : Option Reply) (f : EventView) : Type 0 where
  heard : Option Reply
  is : f ≡ events.Sub i op heard
  less : (r : Reply) → heard ≡ Some r → told ≡ Some r

kept_sub : (names : List ℕ) (i : ℕ) (op : Op) (told : Option Reply) (f : EventView) → IsKept names (events.Sub i op told) f → KeptSub i op told f
kept_sub names i op told (events.Sub j w heard) k = record { heard = heard; is = rw (k.0, k.1) refl; less = k.2 }
kept_sub names i op told (events.Due c) k = absurd k
kept_sub names i op told events.Free k = absurd k

-- a submission of the part is one of the log
record WasSub (i : ℕ) (op : Op) (e : EventView) : Type 0 where
  told : Option Reply
  is : e ≡ events.Sub i op told

was_sub : (names : List ℕ) (i : ℕ) (op : Op) (heard : Option Reply) (e : EventView) → IsKept names e (events.Sub i op heard) → WasSub i op e
was_sub names i op heard (events.Sub j w told) k = record { told = told; is = rw (k.0, k.1) refl }
was_sub names i op heard (events.Due c) k = absurd k
was_sub names i op heard events.Free k = absurd k

module _ (laws : Laws) (log part : LogView) (low high : ℕ) (names : List ℕ) (p : IsPart log part low high names) where
  -- the state of the part beside that of the log
  record Beside (s t : State) : Type 0 where
    within : t.event ≤ length part.events
    passed : (j a : ℕ) → slice_get names j ≡ Some a → j < t.event → a < s.event
    ahead : (j a : ℕ) → slice_get names j ≡ Some a → t.event ≤ j → s.event ≤ a
    acted : (j a : ℕ) → slice_get names j ≡ Some a → slice_get t.acted j ≡ slice_get s.acted a
    bytes : Agree log.extent part.extent low high s.bytes t.bytes

  name_at : (j : ℕ) → j < length part.events → (a : ℕ) × (slice_get names j ≡ Some a)
  name_at j l = some_at names j (subst (λ n. j < n) (sym p.len) l)

  event_at : (j a : ℕ) → slice_get names j ≡ Some a → (f : EventView) × (slice_get part.events j ≡ Some f)
  event_at j a n = some_at part.events j (subst (λ k. j < k) p.len (slice_get_within names j a n))

  begins : Beside (start log) (start part)
  begins = record {
    within = omega arith;
    passed = λ j a n l. absurd (omega (arith, l));
    ahead = λ j a n l. omega arith;
    acted = λ j a n.
        let (f, at) = event_at j a n in
        let (e, there, k) = p.kept j a f n at in
        get_replicate (length part.events) j false (slice_get_within part.events j f at)
        ∙ sym (get_replicate (length log.events) a false (slice_get_within log.events a e there));
    bytes = record {
      len_x = length-replicate log.extent.size 0;
      len_y = length-replicate part.extent.size 0;
      at = λ k l g. zeros_at log.extent.size (k - log.extent.base) ∙ sym (zeros_at part.extent.size (k - part.extent.base));
    };
  }

  -- one name has one place
  one_place : (j k a b : ℕ) → slice_get names j ≡ Some a → slice_get names k ≡ Some b → a ≡ b → j ≡ k
  one_place j k a b at there same = elim (cases_lt j k) [
    | inl l ↦ absurd (let h : a < b = p.rises j k a b l at there in omega (arith, h, same))
    | inr g ↦ elim (cases_lt k j) [
      | inl l ↦ absurd (let h : b < a = p.rises k j b a l there at in omega (arith, h, same))
      | inr e ↦ omega (arith, g, e)
    ]
  ]

  -- ---- a record is passed

  -- the part passes its event, too
  passes : (s t : State) (e f : EventView) → Beside s t → IsKept names e f → MayPass s (Some e) → MayPass t (Some f)
  passes s t (events.Sub i op told) (events.Sub j w heard) h k m = tt
  passes s t (events.Sub i op told) (events.Due c) h k m = absurd k
  passes s t (events.Sub i op told) events.Free h k m = absurd k
  passes s t (events.Due b) (events.Sub j w heard) h k m = absurd k
  passes s t (events.Due b) (events.Due c) h k m = h.acted c b k ∙ m
  passes s t (events.Due b) events.Free h k m = tt
  passes s t events.Free (events.Sub j w heard) h k m = absurd k
  passes s t events.Free (events.Due c) h k m = absurd k
  passes s t events.Free events.Free h k m = tt

  passed_with : (s t : State) (a : ℕ) → Beside s t → slice_get names t.event ≡ Some a → a ≡ s.event → t.event < length part.events → Beside (next log s steps.Pass) (next part t steps.Pass)
  passed_with s t a h n same l = record {
    within = omega (arith, l);
    passed = λ j b m g. elim (cases_eq j t.event) [
      | inl here ↦
          let is : b ≡ a = same_Some b a (sym m ∙ ap (slice_get names) here ∙ n) in
          omega (arith, is, same)
      | inr other ↦ let r : b < s.event = h.passed j b m (omega (arith, g, other)) in omega (arith, r)
    ];
    ahead = λ j b m g. let r : a < b = p.rises t.event j a b (omega (arith, g)) n m in omega (arith, r, same);
    acted = h.acted;
    bytes = h.bytes;
  }

  passed_alone : (s t : State) → Beside s t → ((j b : ℕ) → slice_get names j ≡ Some b → t.event ≤ j → s.event + 1 ≤ b) → Beside (next log s steps.Pass) t
  passed_alone s t h later = record {
    within = h.within;
    passed = λ j b m g. let r : b < s.event = h.passed j b m g in omega (arith, r);
    ahead = later;
    acted = h.acted;
    bytes = h.bytes;
  }

  -- what comes later if the part's next event comes later
  all_later : (s t : State) (a : ℕ) → slice_get names t.event ≡ Some a → s.event < a → (j b : ℕ) → slice_get names j ≡ Some b → t.event ≤ j → s.event + 1 ≤ b
  all_later s t a n l j b m g = elim (cases_eq j t.event) [
    | inl here ↦
        let is : b ≡ a = same_Some b a (sym m ∙ ap (slice_get names) here ∙ n) in
        omega (arith, is, l)
    | inr other ↦ let r : a < b = p.rises t.event j a b (omega (arith, g, other)) n m in omega (arith, r, l)
  ]

  -- ---- a request acts

  module _ (s t : State) (h : Beside s t) (b : ℕ) (m : MayAct log s b) where
    acted_outside : IsOutside low high m.op → ((j : ℕ) → slice_get names j ≡ Some b → ⊥) → Beside (next log s (steps.Act b)) t
    unfolding acted_on bytes_after
    acted_outside o never = record {
      within = h.within;
      passed = h.passed;
      ahead = h.ahead;
      acted = λ j a n. h.acted j a n ∙ sym (set_there s.acted b a true (λ e. never j (n ∙ ap Some (sym e))));
      bytes = subst (λ y. Agree log.extent part.extent low high y t.bytes) (sym (ap (acted_on log.extent s.bytes) m.submitted))
          (agree_outside log.extent part.extent low high p.of_log p.of_part laws log.extent.block s.bytes t.bytes m.op o h.bytes);
    }

    module _ (j : ℕ) (n : slice_get names j ≡ Some b) (f : EventView) (at : slice_get part.events j ≡ Some f) (k : KeptSub m.requester m.op m.told f) where
      submitted : slice_get part.events j ≡ Some (events.Sub m.requester m.op k.heard)
      submitted = at ∙ ap Some k.is

      inside : IsInside low high m.op
      inside = p.inside j m.requester m.op k.heard submitted

      may_act : MayAct part t j
      unfolding reply_of
      may_act = record {
        requester = m.requester;
        op = m.op;
        told = k.heard;
        submitted = submitted;
        since = elim (cases_lt j t.event) as (λ w. j < t.event) [
          | inl l ↦ l
          | inr g ↦ absurd (let r : s.event ≤ b = h.ahead j b n (omega (arith, g)) in omega (arith, r, m.since))
        ];
        once = h.acted j b n ∙ m.once;
        ordered = λ c w r l there posted.
            let (a, na) = name_at c (slice_get_within part.events c (events.Sub m.requester w r) there) in
            let (e, ea, ke) = p.kept c a (events.Sub m.requester w r) na there in
            let was = was_sub names m.requester w r e ke in
            h.acted c a na ∙ m.ordered a w was.told (p.rises c j a b l na n) (ea ∙ ap Some was.is) posted;
        replied = λ r told.
            ap (λ z. reply_of (record { base = part.extent.base; size = part.extent.size; block = z }) t.bytes m.op) p.block
            ∙ sym (same_answer log.extent part.extent low high p.of_log p.of_part log.extent.block s.bytes t.bytes m.op inside h.bytes)
            ∙ m.replied r (k.less r told);
      }

      acted_with : Beside (next log s (steps.Act b)) (next part t (steps.Act j))
      unfolding acted_on bytes_after
      acted_with = record {
        within = h.within;
        passed = h.passed;
        ahead = h.ahead;
        acted = λ i a na. elim (cases_eq j i) [
          | inl same ↦
              let is : a ≡ b = same_Some a b (sym na ∙ ap (slice_get names) (sym same) ∙ n) in
              ap (slice_get (slice_set t.acted j true)) (sym same) ∙ set_here t.acted j true false (h.acted j b n ∙ m.once)
              ∙ sym (ap (slice_get (slice_set s.acted b true)) is ∙ set_here s.acted b true false m.once)
          | inr other ↦
              set_there t.acted j i true other ∙ h.acted i a na
              ∙ sym (set_there s.acted b a true (λ e. other (one_place j i b a n na e)))
        ];
        bytes =
            let both = agree_inside log.extent part.extent low high p.of_log p.of_part laws log.extent.block s.bytes t.bytes m.op inside h.bytes in
            let block = ap (λ z. bytes_after (record { base = part.extent.base; size = part.extent.size; block = z }) t.bytes m.op) (sym p.block) in
            subst (λ y. Agree log.extent part.extent low high y (acted_on part.extent t.bytes (slice_get part.events j))) (sym (ap (acted_on log.extent s.bytes) m.submitted))
            (subst (λ y. Agree log.extent part.extent low high (bytes_after log.extent s.bytes m.op) y) (block ∙ sym (ap (acted_on part.extent t.bytes) submitted)) both);
      }

  -- ---- the whole run

  front : (t : State) (x : Step) → Allowed part t x → Live part (next part t x) → Live part t
  front t x a l = record { steps = x ∷ l.steps; last = l.last; leads = (a, l.leads); over = l.over }

  seen : (xs : List Step) (s t u : State) → Leads log s xs u → u.event ≡ length log.events → Beside s t → Live part t
  seen [] s t u leads over h = record { steps = []; last = t; leads = refl; over = ended }
    where
      ended : t.event ≡ length part.events
      ended = elim (cases_lt t.event (length part.events)) [
        | inl l ↦
            let (a, n) = name_at t.event l in
            let (f, at) = event_at t.event a n in
            let (e, there, k) = p.kept t.event a f n at in
            let inside = slice_get_within log.events a e there in
            let behind : s.event ≤ a = h.ahead t.event a n (omega arith) in
            let all : s.event ≡ length log.events = ap (λ (w : State). w.event) leads ∙ over in
            absurd (omega (arith, inside, behind, all))
        | inr g ↦ let w = h.within in omega (arith, g, w)
      ]
  seen (steps.Pass ∷ xs) s t u leads over h = elim (cases_lt t.event (length part.events)) [
    | inl l ↦
        let (a, n) = name_at t.event l in
        let behind : s.event ≤ a = h.ahead t.event a n (omega arith) in
        elim (cases_eq a s.event) [
          | inl same ↦
              let (f, at) = event_at t.event a n in
              let (e, there, k) = p.kept t.event a f n at in
              let here : slice_get log.events s.event ≡ Some e = ap (slice_get log.events) (sym same) ∙ there in
              front t steps.Pass (subst (MayPass t) (sym at) (passes s t e f h k (subst (MayPass s) here leads.0)))
              (seen xs (next log s steps.Pass) (next part t steps.Pass) u leads.1 over (passed_with s t a h n same l))
          | inr other ↦ seen xs (next log s steps.Pass) t u leads.1 over (passed_alone s t h (all_later s t a n (omega (arith, behind, other))))
        ]
    | inr g ↦
        seen xs (next log s steps.Pass) t u leads.1 over (passed_alone s t h (λ j b n l.
        let (f, at) = event_at j b n in
        let inside = slice_get_within part.events j f at in
        absurd (omega (arith, g, l, inside))))
  ]
  seen (steps.Act b ∷ xs) s t u leads over h =
      let m = leads.0 in
      elim (find names b) [
        | inl there ↦
            let (f, at) = event_at there.0 b there.1 in
            let (e, ea, ke) = p.kept there.0 b f there.1 at in
            let is : e ≡ events.Sub m.requester m.op m.told = same_Some e (events.Sub m.requester m.op m.told) (sym ea ∙ m.submitted) in
            let k = kept_sub names m.requester m.op m.told f (subst (λ z. IsKept names z f) is ke) in
            front t (steps.Act there.0) (may_act s t h b m there.0 there.1 f at k)
            (seen xs (next log s (steps.Act b)) (next part t (steps.Act there.0)) u leads.1 over (acted_with s t h b m there.0 there.1 f at k))
        | inr never ↦ elim (p.others b m.requester m.op m.told m.submitted) [
          | inl out ↦ seen xs (next log s (steps.Act b)) t u leads.1 over (acted_outside s t h b m out never)
          | inr there ↦ absurd (never there.0 there.1)
        ]
      ]

  pub part_run : Live log (start log) → Live part (start part)
  part_run l = seen l.steps (start log) (start part) l.last l.leads l.over begins
