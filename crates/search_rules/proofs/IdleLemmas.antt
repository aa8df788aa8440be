-- A request that was never answered may wait, where nobody needs what it leaves.
use Rattle.std.proofs.Common.{◌≡◌, ◌∙◌, ◌⊎◌, inl, inr, ℕ, zero, suc, ◌+◌, ◌<◌, ◌≤◌, Bool, true, false, List, [], ◌∷◌, Some, None, Option, length, refl, sym, ap, subst, arith}
use Rattle.std.specs.Prelude.{slice_get, slice_set, slice_index}
use Rattle.std.proofs.lemmas.Bool.{cases_eq}
use Rattle.std.proofs.lemmas.Option.{same_Some}
use Rattle.tlp_core.specs.Ops.{Op}
use Rattle.tlp_core.specs.Operation.{address_of, count_of}
use Rattle.seq_memory.specs.Entries.{Reply}
use Rattle.seq_memory.specs.Limits.{Extent}
use Rattle.seq_memory.specs.Step.{after, refusal}
use Rattle.search_effects.specs.Effects.{Agrees, AreApart, AreSameAt, AreSameBut}
use Rattle.log_runs.specs.EventView.{EventView}
use Rattle.log_runs.specs.EventView as events
use Rattle.log_runs.specs.declared.Step.{Step}
use Rattle.log_runs.specs.declared.Step.TheVariants as steps
use Rattle.log_runs.specs.LogView.{LogView}
use Rattle.log_runs.specs.Runs.{State, has_acted, MayPass, MayAct, Allowed, Leads, Live, Dead, next, acted_on, reply_of, bytes_after}
use Rattle.search_rules.specs.Junk.{IsJunk, LeavesJunk}
use Rattle.search_rules.specs.Rules.{Answers, Suits, AllOthers}
use Rattle.search_rules.specs.Idle.{IsUndue, HasMore, PassesOver, IsIdle, GoesOrIdles, IsJunkBehind, RestsBehind}
use Rattle.search_rules.specs.Alike.{AreAlike, GoesFirst}
use Rattle.search_rules.proofs.AlikeLemmas.{same_requester, leaves_same}
use Rattle.search_rules.proofs.AlikeLemmas.{apart as no_post}
use Rattle.search_rules.proofs.AlikeLemmas.{acts_by as by_its_event}
use Rattle.search_rules.proofs.FirstLemmas.{Kept, Swaps, Others}
use Rattle.search_rules.proofs.MissLemmas.{one_op, one_reply}
use Rattle.search_rules.proofs.RuleLemmas.{Sizes, clash, set_here, set_there, set_swap, acted_kept, gone_by, same_state, run}

acts_by : (x : Extent) (m : List ℕ) (i : ℕ) (op : Op) (told : Option Reply) (o : Option EventView) → o ≡ Some (events.Sub i op told) → acted_on x m o ≡ after x.base x.block m op
unfolding bytes_after
acts_by x m i op told o e = by_its_event x m i op told o e

flipped : (one other : Op) → AreApart one other → AreApart other one
flipped one other (inl low) = inr low
flipped one other (inr high) = inl high

-- ---- more have acted

module _ (log : LogView) where
  -- it is still so behind one event more
  undue_later : (k b : ℕ) → IsUndue log k b → IsUndue log (k + 1) b
  undue_later k b u = record { requester = u.requester; op = u.op; submitted = u.submitted; unposted = u.unposted; never = λ a l e. u.never a (omega (arith, l)) e }

  pass_less : (s t : State) → HasMore log s t → (a : ℕ) (o : Option EventView) → s.event ≤ a → slice_get log.events a ≡ o → MayPass t o → MayPass s o
  pass_less s t h a (Some (events.Sub i op told)) l e p = tt
  pass_less s t h a (Some (events.Due b)) l e p = elim (h.acted b) [
    | inl same ↦ sym same ∙ p
    | inr g ↦ absurd (g.2.never a l e)
  ]
  pass_less s t h a (Some events.Free) l e p = tt
  pass_less s t h a None l e p = absurd p

  left_less : (s t : State) → HasMore log s t → (c : ℕ) → slice_get t.acted c ≡ Some false → slice_get s.acted c ≡ Some false
  left_less s t h c e = elim (h.acted c) [
    | inl same ↦ sym same ∙ e
    | inr g ↦ absurd (clash refl (same_Some true false (sym g.1 ∙ e)))
  ]

  may_less : (s t : State) → HasMore log s t → (c : ℕ) → MayAct log t c → MayAct log s c
  may_less s t h c m = record {
    requester = m.requester;
    op = m.op;
    told = m.told;
    submitted = m.submitted;
    since = omega (arith, m.since, h.event);
    once = left_less s t h c m.once;
    ordered = λ d w r l at posted. elim (h.acted d) [
      | inl same ↦ sym same ∙ m.ordered d w r l at posted
      | inr g ↦
          let u = g.2 in
          absurd (no_post (slice_get log.events d) u.requester m.requester u.op w None r u.submitted at u.unposted posted)
    ];
    replied = subst (λ k. Suits log.extent k (Some (events.Sub m.requester m.op m.told))) h.bytes m.replied;
  }

  act_less : (s t : State) → HasMore log s t → (c : ℕ) → MayAct log t c → HasMore log (next log s (steps.Act c)) (next log t (steps.Act c))
  act_less s t h c m = record {
    event = h.event;
    bytes = ap (λ k. acted_on log.extent k (slice_get log.events c)) h.bytes;
    acted = λ b. elim (cases_eq c b) [
      | inl same ↦
          let done : slice_get (slice_set t.acted c true) c ≡ slice_get (slice_set s.acted c true) c = set_here t.acted c true false m.once ∙ sym (set_here s.acted c true false (left_less s t h c m.once)) in
          inl (subst (λ d. slice_get (slice_set t.acted c true) d ≡ slice_get (slice_set s.acted c true) d) same done)
      | inr distinct ↦ elim (h.acted b) [
        | inl e ↦ inl (set_there t.acted c b true distinct ∙ e ∙ sym (set_there s.acted c b true distinct))
        | inr g ↦ inr (set_there s.acted c b true distinct ∙ g.0, set_there t.acted c b true distinct ∙ g.1, g.2)
      ]
    ];
  }

  -- the steps to the end lead there, too, where fewer have acted
  record Ends (s : State) (xs : List Step) : Type 0 where
    pub last : State
    pub leads : Leads log s xs last
    pub over : last.event ≡ length log.events

  ends_less : (xs : List Step) (s t u : State) → Leads log t xs u → u.event ≡ length log.events → HasMore log s t → Ends s xs
  ends_less [] s t u leads over h = record { last = s; leads = refl; over = sym h.event ∙ ap (λ (w : State). w.event) leads ∙ over }
  ends_less (steps.Pass ∷ xs) s t u leads over h =
      let p : MayPass s (slice_get log.events s.event) = subst (λ e. MayPass s (slice_get log.events e)) h.event (pass_less s t h t.event (slice_get log.events t.event) (omega (arith, h.event)) refl leads.0) in
      let r = ends_less xs (next log s steps.Pass) (next log t steps.Pass) u leads.1 over (record {
        event = ap (λ e. e + 1) h.event;
        bytes = h.bytes;
        acted = λ b. elim (h.acted b) [
          | inl e ↦ inl e
          | inr g ↦ inr (g.0, g.1, undue_later s.event b g.2)
        ];
      }) in
      record { last = r.last; leads = (p, r.leads); over = r.over }
  ends_less (steps.Act c ∷ xs) s t u leads over h =
      let m : MayAct log t c = leads.0 in
      let r = ends_less xs (next log s (steps.Act c)) (next log t (steps.Act c)) u leads.1 over (act_less s t h c m) in
      record { last = r.last; leads = (may_less s t h c m, r.leads); over = r.over }

pub more_is_no_better : (log : LogView) (s t : State) → HasMore log s t → Dead log s → Dead log t
more_is_no_better log s t h dead live =
    let r = ends_less log live.steps s t live.last live.leads live.over h in
    dead (run log s r.last live.steps r.leads r.over)

-- ---- a request waits

-- how many act before the first event is passed
abbrev lead : List Step → ℕ
lead [] = 0
lead (steps.Pass ∷ xs) = 0
lead (steps.Act c ∷ xs) = suc (lead xs)

-- steps that lead to the end, where fewer act before the first event is passed
record Fewer (log : LogView) (s : State) (n : ℕ) : Type 0 where
  pub steps : List Step
  pub last : State
  pub leads : Leads log s steps last
  pub over : last.event ≡ length log.events
  pub fewer : lead steps < n

module _ (kept : Kept) (swaps : Swaps) (others : Others) (sizes : Sizes) (log : LogView) (first : State) (b : ℕ) (undue : IsUndue log first.event b) (may : MayAct log first b)
    (more : first.event ≡ length log.events → ⊥) where
  abbrev met : List ℕ
  met = acted_on log.extent first.bytes (slice_get log.events b)

  by : (m : List ℕ) → acted_on log.extent m (slice_get log.events b) ≡ after log.extent.base log.extent.block m undue.op
  by m = acts_by log.extent m undue.requester undue.op None (slice_get log.events b) undue.submitted

  -- s is t after b; others acted in both since b was to act first
  record Stepped (s t : State) : Type 0 where
    pub event : s.event ≡ first.event
    pub same : t.event ≡ s.event
    pub left : slice_get t.acted b ≡ Some false
    pub acted : s.acted ≡ slice_set t.acted b true
    pub bytes : s.bytes ≡ acted_on log.extent t.bytes (slice_get log.events b)
    pub size : length t.bytes ≡ log.extent.size
    pub there : AreSameAt log.extent.base undue.op met s.bytes
    pub since : (c : ℕ) → slice_get s.acted c ≡ Some false → slice_get first.acted c ≡ Some false
    pub grown : (c : ℕ) → has_acted first c → has_acted t c

  size_of : (s t : State) → Stepped s t → length s.bytes ≡ log.extent.size
  size_of s t h = ap length h.bytes ∙ ap length (by t.bytes) ∙ sizes log.extent.base log.extent.block t.bytes undue.op ∙ h.size

  -- another has acted in t if it has in s
  back : (s t : State) → Stepped s t → (c : ℕ) → (b ≡ c → ⊥) → (v : Option Bool) → slice_get s.acted c ≡ v → slice_get t.acted c ≡ v
  back s t h c distinct v e = sym (set_there t.acted b c true distinct) ∙ sym (ap (λ xs. slice_get xs c) h.acted) ∙ e

  acted_there : (s t : State) → Stepped s t → slice_get s.acted b ≡ Some true
  acted_there s t h = ap (λ xs. slice_get xs b) h.acted ∙ set_here t.acted b true false h.left

  passes : (s t : State) → Stepped s t → (o : Option EventView) → slice_get log.events s.event ≡ o → MayPass s o → MayPass t o
  passes s t h (Some (events.Sub i op told)) e a = tt
  passes s t h (Some (events.Due c)) e a = elim (cases_eq b c) [
    | inl same ↦ absurd (undue.never s.event (omega (arith, h.event)) (e ∙ ap (λ d. Some (events.Due d)) (sym same)))
    | inr distinct ↦ back s t h c distinct (Some true) a
  ]
  passes s t h (Some events.Free) e a = tt
  passes s t h None e a = absurd a

  -- b acts behind the next event
  later : (s t : State) → Stepped s t → MayAct log (next log t steps.Pass) b
  later s t h = record {
    requester = undue.requester;
    op = undue.op;
    told = None;
    submitted = undue.submitted;
    since = omega (arith, may.since, h.event, h.same);
    once = h.left;
    ordered = λ c w r l at posted.
        h.grown c (may.ordered c w r l
        (at ∙ ap (λ i. Some (events.Sub i w r)) (same_requester (slice_get log.events b) undue.requester may.requester undue.op may.op None may.told undue.submitted may.submitted))
        posted);
    replied = λ r e. absurd (cc);
  }

  -- another acts in t as in s
  may_too : (s t : State) → Stepped s t → (c : ℕ) → (b ≡ c → ⊥) → (m : MayAct log s c) → Answers log.extent t.bytes m.op m.told → MayAct log t c
  may_too s t h c distinct m replied = record {
    requester = m.requester;
    op = m.op;
    told = m.told;
    submitted = m.submitted;
    since = omega (arith, m.since, h.same);
    once = back s t h c distinct (Some false) m.once;
    ordered = λ d w r l at posted. elim (cases_eq b d) [
      | inl same ↦ absurd (no_post (slice_get log.events d) undue.requester m.requester undue.op w None r (ap (slice_get log.events) (sym same) ∙ undue.submitted) at undue.unposted posted)
      | inr other ↦ back s t h d other (Some true) (m.ordered d w r l at posted)
    ];
    replied = replied;
  }

  both_act : (s t : State) → Stepped s t → (c : ℕ) → (b ≡ c → ⊥) → (m : MayAct log s c)
      → acted_on log.extent s.bytes (slice_get log.events c) ≡ acted_on log.extent (acted_on log.extent t.bytes (slice_get log.events c)) (slice_get log.events b)
      → AreSameAt log.extent.base undue.op met (acted_on log.extent s.bytes (slice_get log.events c))
      → Stepped (next log s (steps.Act c)) (next log t (steps.Act c))
  both_act s t h c distinct m bytes there = record {
    event = h.event;
    same = h.same;
    left = set_there t.acted c b true (λ e. distinct (sym e)) ∙ h.left;
    acted = ap (λ xs. slice_set xs c true) h.acted ∙ set_swap t.acted b c true true distinct;
    bytes = bytes;
    size = ap length (acts_by log.extent t.bytes m.requester m.op m.told (slice_get log.events c) m.submitted) ∙ sizes log.extent.base log.extent.block t.bytes m.op ∙ h.size;
    there = there;
    since = λ d e. h.since d (gone_by s.acted c d m.once e).1;
    grown = λ d e. acted_kept t.acted c d (h.grown d e);
  }

  same_but : (s t : State) → Stepped s t → AreSameBut log.extent.base undue.op s.bytes t.bytes
  same_but s t h =
      let e = h.bytes ∙ by t.bytes in
      record {
        size = h.size ∙ sym (size_of s t h);
        others = λ k out. sym (ap (λ xs. slice_index xs k) e ∙ others log.extent.base log.extent.block k t.bytes undue.op out);
      }

  -- c, which is apart from b, leaves the bytes of b
  apart_there : (n : List ℕ) (c i : ℕ) (op : Op) (told : Option Reply) → slice_get log.events c ≡ Some (events.Sub i op told) → AreApart op undue.op → AreSameAt log.extent.base undue.op met n
      → AreSameAt log.extent.base undue.op met (acted_on log.extent n (slice_get log.events c))
  apart_there n c i op told at apart there k low high =
      ap (λ xs. slice_index xs k) (acts_by log.extent n i op told (slice_get log.events c) at)
      ∙ others log.extent.base log.extent.block k n op (out apart) ∙ there k low high
    where
      out : AreApart op undue.op → (log.extent.base + k < address_of op) ⊎ (address_of op + count_of op ≤ log.extent.base + k)
      out (inl before) = inr (omega (arith, before, low))
      out (inr behind) = inl (omega (arith, behind, high))

  apart_bytes : (s t : State) → Stepped s t → (c i : ℕ) (op : Op) (told : Option Reply) → slice_get log.events c ≡ Some (events.Sub i op told) → AreApart op undue.op
      → acted_on log.extent s.bytes (slice_get log.events c) ≡ acted_on log.extent (acted_on log.extent t.bytes (slice_get log.events c)) (slice_get log.events b)
  apart_bytes s t h c i op told at apart =
      let x = log.extent in
      let own : (n : List ℕ) → acted_on x n (slice_get log.events c) ≡ after x.base x.block n op = λ n. acts_by x n i op told (slice_get log.events c) at in
      own s.bytes ∙ ap (λ n. after x.base x.block n op) (h.bytes ∙ by t.bytes)
      ∙ swaps x.base x.block t.bytes undue.op op (flipped op undue.op apart)
      ∙ sym (by (after x.base x.block t.bytes op)) ∙ ap (λ n. acted_on x n (slice_get log.events b)) (sym (own t.bytes))

  -- one to which no answer comes is taken out
  without : (s t : State) (c : ℕ) → IsUndue log s.event c → slice_get s.acted c ≡ Some false → t.event ≡ s.event → t.bytes ≡ s.bytes → t.acted ≡ slice_set s.acted c true → HasMore log s t
  without s t c u left event bytes acted = record {
    event = event;
    bytes = bytes;
    acted = λ d. elim (cases_eq c d) [
      | inl same ↦ inr (
        subst (λ k. slice_get s.acted k ≡ Some false) same left,
        subst (λ k. slice_get t.acted k ≡ Some true) same (ap (λ xs. slice_get xs c) acted ∙ set_here s.acted c true false left),
        subst (IsUndue log s.event) same u,
      )
      | inr distinct ↦ inl (ap (λ xs. slice_get xs d) acted ∙ set_there s.acted c d true distinct)
    ];
  }

  abbrev Walked : State → State → ℕ → Type 0
  Walked s t n = Fewer log t (suc n) ⊎ Fewer log s n

  more_act : (s t : State) (c n : ℕ) → MayAct log s c → MayAct log t c → Walked (next log s (steps.Act c)) (next log t (steps.Act c)) n → Walked s t (suc n)
  more_act s t c n m k (inl f) = inl (record { steps = steps.Act c ∷ f.steps; last = f.last; leads = (k, f.leads); over = f.over; fewer = omega (arith, f.fewer) })
  more_act s t c n m k (inr f) = inr (record { steps = steps.Act c ∷ f.steps; last = f.last; leads = (m, f.leads); over = f.over; fewer = omega (arith, f.fewer) })

  module _ (over_all : AllOthers first b first.event (PassesOver log first.event met undue.op)) where
    walk : (ys : List Step) (s t u : State) → Leads log s ys u → u.event ≡ length log.events → Stepped s t → Walked s t (lead ys)
    unfolding reply_of
    walk [] s t u leads over h = absurd (more (sym h.event ∙ ap (λ (w : State). w.event) leads ∙ over))
    walk (steps.Pass ∷ ys) s t u leads over h =
        let p : MayPass t (slice_get log.events t.event) = subst (λ e. MayPass t (slice_get log.events e)) (sym h.same) (passes s t h (slice_get log.events s.event) refl leads.0) in
        let e : next log s steps.Pass ≡ next log (next log t steps.Pass) (steps.Act b) =
        same_state (next log s steps.Pass) (next log (next log t steps.Pass) (steps.Act b)) (ap (λ k. k + 1) (sym h.same)) h.acted h.bytes in
        inl (record { steps = steps.Pass ∷ steps.Act b ∷ ys; last = u; leads = (p, (later s t h, subst (λ (k : State). Leads log k ys u) e leads.1)); over = over; fewer = omega arith })
    walk (steps.Act c ∷ ys) s t u leads over h =
        let m : MayAct log s c = leads.0 in
        let x = log.extent in
        let o = slice_get log.events c in
        let distinct : b ≡ c → ⊥ = λ e. clash refl (same_Some true false (sym (acted_there s t h) ∙ ap (slice_get s.acted) e ∙ m.once)) in
        let on : MayAct log t c → acted_on x s.bytes o ≡ acted_on x (acted_on x t.bytes o) (slice_get log.events b) → AreSameAt x.base undue.op met (acted_on x s.bytes o) → Walked s t (suc (lead ys)) =
        λ k bytes there. more_act s t c (lead ys) m k (walk ys (next log s (steps.Act c)) (next log t (steps.Act c)) u leads.1 over (both_act s t h c distinct m bytes there)) in
        elim (over_all c (omega (arith, m.since, h.event)) distinct (h.since c m.once)) [
          | inr (q, rests) ↦
              let r = ends_less log ys s (next log s (steps.Act c)) u leads.1 over (without s (next log s (steps.Act c)) c (subst (λ k. IsUndue log k c) (sym h.event) q) m.once refl (rests s.bytes (size_of s t h) h.there) refl) in
              inr (record { steps = ys; last = r.last; leads = r.leads; over = r.over; fewer = omega arith })
          | inl junk ↦ elim (junk m.requester m.op m.told m.submitted) [
            | inl apart ↦
                let same = kept x.base x.block t.bytes undue.op m.op (flipped m.op undue.op apart) in
                let answered : Answers x t.bytes m.op m.told = λ r e. sym same ∙ sym (ap (λ n. reply_of x n m.op) (h.bytes ∙ by t.bytes)) ∙ m.replied r e in
                on (may_too s t h c distinct m answered) (apart_bytes s t h c m.requester m.op m.told m.submitted apart) (apart_there s.bytes c m.requester m.op m.told m.submitted apart h.there)
            | inr (inl overlooks) ↦
                let own : (n : List ℕ) → acted_on x n o ≡ after x.base x.block n m.op = λ n. acts_by x n m.requester m.op m.told o m.submitted in
                let (answered, does) = overlooks s.bytes t.bytes (size_of s t h) (same_but s t h) m.replied in
                let k : MayAct log t c = may_too s t h c distinct m answered in
                elim does [
                  | inl same ↦
                      let r = ends_less log ys (next log t (steps.Act c)) (next log s (steps.Act c)) u leads.1 over
                      (without (next log t (steps.Act c)) (next log s (steps.Act c)) b (subst (λ k. IsUndue log k b) (sym h.event ∙ sym h.same) undue) (set_there t.acted c b true (λ e. distinct (sym e)) ∙ h.left) (sym h.same)
                      (own s.bytes ∙ sym same ∙ sym (own t.bytes)) (ap (λ xs. slice_set xs c true) h.acted ∙ set_swap t.acted b c true true distinct)) in
                      inl (record { steps = steps.Act c ∷ ys; last = r.last; leads = (k, r.leads); over = r.over; fewer = omega arith })
                  | inr (in_s, in_t) ↦
                      let rest_s : acted_on x s.bytes o ≡ s.bytes = own s.bytes ∙ in_s in
                      let rest_t : acted_on x t.bytes o ≡ t.bytes = own t.bytes ∙ in_t in
                      on k (rest_s ∙ h.bytes ∙ ap (λ n. acted_on x n (slice_get log.events b)) (sym rest_t)) (λ j low high. ap (λ xs. slice_index xs j) rest_s ∙ h.there j low high)
                ]
            | inr (inr misses) ↦ absurd (misses s.bytes h.there m.replied)
          ]
        ]

  -- b, which acts first, acts later or not at all; or another doesn't act
  waits : length first.bytes ≡ log.extent.size → (met ≡ first.bytes) ⊎ AllOthers first b first.event (PassesOver log first.event met undue.op)
      → (ys : List Step) (u : State) → Leads log (next log first (steps.Act b)) ys u → u.event ≡ length log.events → Fewer log first (suc (lead ys))
  waits size (inl nothing) ys u leads over =
      let r = ends_less log ys first (next log first (steps.Act b)) u leads over (without first (next log first (steps.Act b)) b undue may.once refl nothing refl) in
      record { steps = ys; last = r.last; leads = r.leads; over = r.over; fewer = omega arith }
  waits size (inr all) ys u leads over = elim (walk all ys (next log first (steps.Act b)) first u leads over (record {
    event = refl;
    same = refl;
    left = may.once;
    acted = refl;
    bytes = refl;
    size = size;
    there = λ k low high. refl;
    since = λ c e. (gone_by first.acted b c may.once e).1;
    grown = λ c e. e;
  })) [
    | inl f ↦ f
    | inr f ↦ record { steps = steps.Act b ∷ f.steps; last = f.last; leads = (may, f.leads); over = f.over; fewer = omega (arith, f.fewer) }
  ]

module _ (kept : Kept) (swaps : Swaps) (others : Others) (sizes : Sizes) (log : LogView) (s : State) (more : s.event ≡ length log.events → ⊥) (G : Type 0)
    (all : (x : Step) → Allowed log s x → GoesOrIdles log s G x) where
  goes : (n : ℕ) (zs : List Step) (v : State) → lead zs < n → Leads log s zs v → v.event ≡ length log.events → G
  goes zero zs v l leads over = absurd (omega (arith, l))
  goes (suc n) [] v l leads over = absurd (more (ap (λ (w : State). w.event) leads ∙ over))
  goes (suc n) (x ∷ zs) v l leads over = elim (all x leads.0) [
    | inl g ↦ g (run log (next log s x) v zs leads.1 over)
    | inr (b, is, idle) ↦
        let (may, rest) = subst (λ y. Leads log s (y ∷ zs) v) is leads in
        let f = waits kept swaps others sizes log s b idle.undue may more idle.size idle.others zs v rest over in
        goes n f.steps f.last (omega (arith, f.fewer, l, ap (λ y. lead (y ∷ zs)) is)) f.leads f.over
  ]

  pub idle_may_wait : Live log s → G
  idle_may_wait live = goes (suc (lead live.steps)) live.steps live.last (omega arith) live.leads live.over

-- ---- requests that are alike

module _ (log : LogView) (s : State) (p b : ℕ) (h : GoesFirst log s p b) (may : MayAct log s b) (idle : IsIdle log s p) where
  like : AreAlike log p b
  like = h.alike

  second : slice_get log.events b ≡ Some (events.Sub like.other idle.undue.op None)
  second =
      let e : Some (events.Sub like.requester like.op like.told) ≡ Some (events.Sub idle.undue.requester idle.undue.op None) = sym like.first ∙ idle.undue.submitted in
      let op : like.op ≡ idle.undue.op = cc in
      let told : like.told ≡ None = cc in
      subst (λ o. slice_get log.events b ≡ Some (events.Sub like.other o None)) op (subst (λ t. slice_get log.events b ≡ Some (events.Sub like.other like.op t)) told like.second)

  -- what the second passes over the first does
  first_over : (m : List ℕ) → PassesOver log s.event m idle.undue.op b → PassesOver log s.event m idle.undue.op p
  first_over m (inl junk) = inl (λ i one told at.
      let e : Some (events.Sub like.requester like.op like.told) ≡ Some (events.Sub i one told) = sym like.first ∙ at in
      let op : like.op ≡ one = cc in
      let same : like.told ≡ told = cc in
      subst (λ o. IsJunk log.extent m o told idle.undue.op) op (subst (λ t. IsJunk log.extent m like.op t idle.undue.op) same (junk like.other like.op like.told like.second)))
  first_over m (inr (u, rests)) = inr (idle.undue, λ n size there. leaves_same log p b n like ∙ rests n size there)

  over_second : (m : List ℕ) → (p ≡ b → ⊥) → AllOthers s p s.event (PassesOver log s.event m idle.undue.op) → AllOthers s b s.event (PassesOver log s.event m idle.undue.op)
  over_second m distinct all q low other left = elim (cases_eq p q) [
    | inl same ↦ subst (PassesOver log s.event m idle.undue.op) same (first_over m (all b may.since distinct may.once))
    | inr apart ↦ all q low apart left
  ]

  idle_second : (p ≡ b → ⊥) → IsIdle log s b
  idle_second distinct = record {
    undue = record {
      requester = like.other;
      op = idle.undue.op;
      submitted = second;
      unposted = idle.undue.unposted;
      never = λ a low at. let (d, from, before, there) = h.due a low at in idle.undue.never d from there;
    };
    size = idle.size;
    others = elim idle.others [
      | inl nothing ↦ inl (sym (leaves_same log p b s.bytes like) ∙ nothing)
      | inr all ↦ inr (over_second (acted_on log.extent s.bytes (slice_get log.events b)) distinct (subst (λ m. AllOthers s p s.event (PassesOver log s.event m idle.undue.op)) (leaves_same log p b s.bytes like) all))
    ];
  }

pub idle_alike : (log : LogView) (s : State) (p b : ℕ) → GoesFirst log s p b → MayAct log s b → IsIdle log s p → IsIdle log s b
idle_alike log s p b h may idle = elim (cases_eq p b) [
  | inl same ↦ subst (IsIdle log s) same idle
  | inr distinct ↦ idle_second log s p b h may idle distinct
]

-- ---- what a request leaves that is answered so

pub junk_behind : (log : LogView) (q i : ℕ) (one third : Op) (told : Option Reply) (made : Reply) → slice_get log.events q ≡ Some (events.Sub i one told)
    → LeavesJunk log.extent one told third third (Some made) → IsJunkBehind log third made q
junk_behind log q i one third told made seen junk i2 one2 told2 at =
    let x = log.extent in
    subst (λ z. LeavesJunk x one2 z third third (Some made)) (one_reply (slice_get log.events q) i i2 one one2 told told2 seen at)
    (subst (λ z. LeavesJunk x z told third third (Some made)) (one_op (slice_get log.events q) i i2 one one2 told told2 seen at) junk)

pub rests_by : (log : LogView) (q i block : ℕ) (one third : Op) (told : Option Reply) (made : Reply) → slice_get log.events q ≡ Some (events.Sub i one told) → block ≡ log.extent.block
    → refusal log.extent.base log.extent.size log.extent.block third ≡ None
    → ((base : ℕ) (m n : List ℕ) → refusal base (length m) block third ≡ None → Agrees base block m third (Some made) → AreSameAt base third (after base block m third) n → after base block n one ≡ n)
    → RestsBehind log.extent third made (slice_get log.events q)
rests_by log q i block one third told made at eb served rests k n size agrees same =
    let x = log.extent in
    let here : (m n : List ℕ) → refusal x.base (length m) x.block third ≡ None → Agrees x.base x.block m third (Some made) → AreSameAt x.base third (after x.base x.block m third) n → after x.base x.block n one ≡ n =
    subst (λ z. (m n : List ℕ) → refusal x.base (length m) z third ≡ None → Agrees x.base z m third (Some made) → AreSameAt x.base third (after x.base z m third) n → after x.base z n one ≡ n) eb (rests x.base) in
    acts_by x n i one told (slice_get log.events q) at ∙ here k n (ap (λ z. refusal x.base z x.block third) size ∙ served) agrees same
