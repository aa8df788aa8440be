-- Of requests that are alike the first acts first.
use Rattle.std.proofs.Common.{◌≡◌, ◌∙◌, ℕ, ◌+◌, ◌<◌, ◌≤◌, Bool, true, false, List, [], ◌∷◌, Some, None, Option, length, refl, sym, ap, subst, inl, inr, arith}
use Rattle.std.specs.Prelude.{slice_get, slice_set}
use Rattle.std.proofs.lemmas.Bool.{cases_eq}
use Rattle.std.proofs.lemmas.Option.{same_Some}
use Rattle.tlp_core.specs.Ops.{Op}
use Rattle.tlp_core.specs.Operation.{is_posted}
use Rattle.seq_memory.specs.Entries.{Reply}
use Rattle.seq_memory.specs.Limits.{Extent}
use Rattle.log_runs.specs.EventView.{EventView}
use Rattle.log_runs.specs.EventView as events
use Rattle.log_runs.specs.declared.Step.{Step}
use Rattle.log_runs.specs.declared.Step.TheVariants as steps
use Rattle.log_runs.specs.LogView.{LogView}
use Rattle.log_runs.specs.Runs.{State, MayPass, MayAct, Leads, Live, next, acted_on, bytes_after}
use Rattle.search_rules.specs.Rules.{Suits}
use Rattle.search_rules.specs.Alike.{AreAlike, IsDueBefore, GoesFirst}
use Rattle.search_rules.proofs.RuleLemmas.{clash, set_here, set_there, set_swap, acted_kept, same_state, suits, run, before}

-- a posted write is no other request
pub apart : (x : Option EventView) (i j : ℕ) (one other : Op) (told asked : Option Reply) → x ≡ Some (events.Sub i one told) → x ≡ Some (events.Sub j other asked)
    → is_posted one ≡ false → is_posted other ≡ true → ⊥
apart x i j one other told asked e f unposted posted =
    let same : one ≡ other = cc in
    clash posted (ap is_posted (sym same) ∙ unposted)

pub same_requester : (x : Option EventView) (i j : ℕ) (one other : Op) (told asked : Option Reply) → x ≡ Some (events.Sub i one told) → x ≡ Some (events.Sub j other asked) → i ≡ j
same_requester x i j one other told asked e f = cc

pub acts_by : (x : Extent) (m : List ℕ) (i : ℕ) (op : Op) (told : Option Reply) (o : Option EventView) → o ≡ Some (events.Sub i op told) → acted_on x m o ≡ bytes_after x m op
unfolding acted_on
acts_by x m i op told o e = ap (acted_on x m) e

-- requests that are alike leave the same
pub leaves_same : (log : LogView) (b c : ℕ) (m : List ℕ) → AreAlike log b c → acted_on log.extent m (slice_get log.events b) ≡ acted_on log.extent m (slice_get log.events c)
leaves_same log b c m h =
    acts_by log.extent m h.requester h.op h.told (slice_get log.events b) h.first ∙ sym (acts_by log.extent m h.other h.op h.told (slice_get log.events c) h.second)

module _ (log : LogView) (b c : ℕ) (alike : AreAlike log b c) (distinct : b ≡ c → ⊥) where
  -- of those that have acted in xs or after them, c acted in s, and b in its place in t
  record Exchanged (xs : List Bool) (s t : State) : Type 0 where
    pub event : t.event ≡ s.event
    pub one : s.acted ≡ slice_set xs c true
    pub other : t.acted ≡ slice_set xs b true
    pub bytes : t.bytes ≡ s.bytes
    pub left : slice_get xs b ≡ Some false
    pub left-c : slice_get xs c ≡ Some false
    pub since : c < s.event
    pub ordered : (w : ℕ) (o : Op) (r : Option Reply) → w < c → slice_get log.events w ≡ Some (events.Sub alike.other o r) → is_posted o ≡ true → slice_get xs w ≡ Some true
    pub due : IsDueBefore log s.event b c

  -- who has acted in s, but for c, has acted in t
  moved : (xs : List Bool) (s t : State) → Exchanged xs s t → (w : ℕ) → (c ≡ w → ⊥) → slice_get s.acted w ≡ Some true → slice_get t.acted w ≡ Some true
  moved xs s t h w n e =
      let was : slice_get xs w ≡ Some true = sym (set_there xs c w true n) ∙ sym (ap (λ ys. slice_get ys w) h.one) ∙ e in
      ap (λ ys. slice_get ys w) h.other ∙ acted_kept xs b w was

  left_there : (xs : List Bool) (s t : State) → Exchanged xs s t → slice_get s.acted b ≡ Some false
  left_there xs s t h = ap (λ ys. slice_get ys b) h.one ∙ set_there xs c b true (λ e. distinct (sym e)) ∙ h.left

  pass_there : (xs : List Bool) (s t : State) → Exchanged xs s t → (o : Option EventView) → slice_get log.events s.event ≡ o → MayPass s o → MayPass t o
  pass_there xs s t h (Some (events.Sub i op told)) e a = tt
  pass_there xs s t h (Some (events.Due d)) e a = elim (cases_eq c d) [
    | inl same ↦
        let at : slice_get log.events s.event ≡ Some (events.Due c) = e ∙ ap (λ k. Some (events.Due k)) (sym same) in
        let (k, low, high, there) = h.due s.event (omega arith) at in
        absurd (omega (arith, low, high))
    | inr other ↦ moved xs s t h d other a
  ]
  pass_there xs s t h (Some events.Free) e a = tt
  pass_there xs s t h None e a = absurd a

  due_later : (xs : List Bool) (s t : State) → Exchanged xs s t → MayPass s (slice_get log.events s.event) → IsDueBefore log (s.event + 1) b c
  due_later xs s t h a at from is =
      let (d, low, high, there) = h.due at (omega (arith, from)) is in
      elim (cases_eq s.event d) as (λ z. (k : ℕ) × (s.event + 1 ≤ k) × (k < at) × (slice_get log.events k ≡ Some (events.Due b))) [
        | inl now ↦
            let acted : slice_get s.acted b ≡ Some true = subst (MayPass s) (ap (slice_get log.events) now ∙ there) a in
            absurd (clash refl (same_Some true false (sym acted ∙ left_there xs s t h)))
        | inr other ↦ (d, omega (arith, low, other), high, there)
      ]

  -- where b may act in s, c may in t
  may_there : (xs : List Bool) (s t : State) → Exchanged xs s t → MayAct log s b → MayAct log t c
  may_there xs s t h m =
      let answered : Suits log.extent s.bytes (Some (events.Sub alike.requester alike.op alike.told)) = subst (Suits log.extent s.bytes) alike.first (suits log s b m) in
      record {
        requester = alike.other;
        op = alike.op;
        told = alike.told;
        submitted = alike.second;
        since = omega (arith, h.since, h.event);
        once = ap (λ ys. slice_get ys c) h.other ∙ set_there xs b c true distinct ∙ h.left-c;
        ordered = λ w o r l at posted. ap (λ ys. slice_get ys w) h.other ∙ acted_kept xs b w (h.ordered w o r l at posted);
        replied = subst (λ k. Suits log.extent k (Some (events.Sub alike.requester alike.op alike.told))) (sym h.bytes) answered;
      }

  -- where another may act in s, it may in t
  other_there : (xs : List Bool) (s t : State) → Exchanged xs s t → (d : ℕ) → (b ≡ d → ⊥) → (c ≡ d → ⊥) → MayAct log s d → MayAct log t d
  other_there xs s t h d not-b not-c m = record {
    requester = m.requester;
    op = m.op;
    told = m.told;
    submitted = m.submitted;
    since = omega (arith, m.since, h.event);
    once =
        ap (λ ys. slice_get ys d) h.other ∙ set_there xs b d true not-b
        ∙ sym (set_there xs c d true not-c) ∙ sym (ap (λ ys. slice_get ys d) h.one) ∙ m.once;
    ordered = λ w o r l at posted.
        moved xs s t h w
        (λ e. apart (slice_get log.events w) alike.other m.requester alike.op o alike.told r (ap (slice_get log.events) (sym e) ∙ alike.second) at alike.unposted posted)
        (m.ordered w o r l at posted);
    replied = subst (λ k. Suits log.extent k (Some (events.Sub m.requester m.op m.told))) (sym h.bytes) m.replied;
  }

  exchanged_live : (ys : List Step) (xs : List Bool) (s t u : State) → Leads log s ys u → u.event ≡ length log.events → Exchanged xs s t → Live log t
  exchanged_live [] xs s t u leads over h = run log t t [] refl (h.event ∙ ap (λ (w : State). w.event) leads ∙ over)
  exchanged_live (steps.Pass ∷ ys) xs s t u leads over h =
      before log t steps.Pass (subst (λ e. MayPass t (slice_get log.events e)) (sym h.event) (pass_there xs s t h (slice_get log.events s.event) refl leads.0))
      (exchanged_live ys xs (next log s steps.Pass) (next log t steps.Pass) u leads.1 over (record {
        event = ap (λ e. e + 1) h.event;
        one = h.one;
        other = h.other;
        bytes = h.bytes;
        left = h.left;
        left-c = h.left-c;
        since = omega (arith, h.since);
        ordered = h.ordered;
        due = due_later xs s t h leads.0;
      }))
  exchanged_live (steps.Act d ∷ ys) xs s t u leads over h = elim (cases_eq b d) [
    | inl same ↦
        let m : MayAct log s b = subst (MayAct log s) (sym same) leads.0 in
        let e : next log s (steps.Act b) ≡ next log t (steps.Act c) =
        same_state (next log s (steps.Act b)) (next log t (steps.Act c)) (sym h.event)
        (ap (λ zs. slice_set zs b true) h.one ∙ set_swap xs c b true true (λ f. distinct (sym f)) ∙ sym (ap (λ zs. slice_set zs c true) h.other))
        (leaves_same log b c s.bytes alike ∙ ap (λ k. acted_on log.extent k (slice_get log.events c)) (sym h.bytes)) in
        before log t (steps.Act c) (may_there xs s t h m)
        (subst (Live log) (ap (λ k. next log s (steps.Act k)) (sym same) ∙ e) (run log (next log s (steps.Act d)) u ys leads.1 over))
    | inr not-b ↦
        let m : MayAct log s d = leads.0 in
        elim (cases_eq c d) [
          | inl same ↦
              let acted : slice_get s.acted d ≡ Some true = ap (λ zs. slice_get zs d) h.one ∙ ap (slice_get (slice_set xs c true)) (sym same) ∙ set_here xs c true false h.left-c in
              absurd (clash refl (same_Some true false (sym acted ∙ m.once)))
          | inr not-c ↦
              before log t (steps.Act d) (other_there xs s t h d not-b not-c m)
              (exchanged_live ys (slice_set xs d true) (next log s (steps.Act d)) (next log t (steps.Act d)) u leads.1 over (record {
                event = h.event;
                one = ap (λ zs. slice_set zs d true) h.one ∙ set_swap xs c d true true not-c;
                other = ap (λ zs. slice_set zs d true) h.other ∙ set_swap xs b d true true not-b;
                bytes = ap (λ k. acted_on log.extent k (slice_get log.events d)) h.bytes;
                left = set_there xs d b true (λ e. not-b (sym e)) ∙ h.left;
                left-c = set_there xs d c true (λ e. not-c (sym e)) ∙ h.left-c;
                since = h.since;
                ordered = λ w o r l at posted. acted_kept xs d w (h.ordered w o r l at posted);
                due = h.due;
              }))
        ]
  ]

  exchanged_first : (s : State) → IsDueBefore log s.event b c → MayAct log s b → MayAct log s c → Exchanged s.acted (next log s (steps.Act c)) (next log s (steps.Act b))
  exchanged_first s due one other = record {
    event = refl;
    one = refl;
    other = refl;
    bytes = leaves_same log b c s.bytes alike;
    left = one.once;
    left-c = other.once;
    since = other.since;
    ordered = λ w o r l at posted.
        other.ordered w o r l
        (at ∙ ap (λ i. Some (events.Sub i o r)) (same_requester (slice_get log.events c) alike.other other.requester alike.op other.op alike.told other.told alike.second other.submitted))
        posted;
    due = due;
  }

pub first_of_alike : (log : LogView) (s : State) (b c : ℕ) → GoesFirst log s b c → MayAct log s c → Live log (next log s (steps.Act c)) → Live log (next log s (steps.Act b))
first_of_alike log s b c h may live = elim (cases_eq b c) [
  | inl same ↦ subst (λ k. Live log (next log s (steps.Act k))) (sym same) live
  | inr distinct ↦
      exchanged_live log b c h.alike distinct live.steps s.acted (next log s (steps.Act c)) (next log s (steps.Act b)) live.last live.leads live.over
      (exchanged_first log b c h.alike distinct s h.due h.may may)
]
