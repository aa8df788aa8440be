-- A request over bytes that nobody needs acts at once, with those that need what it puts.
use Rattle.std.proofs.Common.{◌≡◌, ◌∙◌, ◌⊎◌, inl, inr, ℕ, suc, ◌+◌, true, false, List, [], ◌∷◌, Some, None, Option, length, refl, sym, ap, subst, arith}
use Rattle.std.specs.Prelude.{slice_get, slice_set, slice_index}
use Rattle.std.proofs.lemmas.Bool.{cases_eq}
use Rattle.std.proofs.lemmas.Option.{same_Some}
use Rattle.tlp_core.specs.Ops.{Op}
use Rattle.seq_memory.specs.Entries.{Reply}
use Rattle.seq_memory.specs.Limits.{Extent}
use Rattle.seq_memory.specs.Step.{after}
use Rattle.search_effects.specs.Effects.{AreSameBut}
use Rattle.log_runs.specs.EventView.{EventView}
use Rattle.log_runs.specs.EventView as events
use Rattle.log_runs.specs.declared.Step.{Step}
use Rattle.log_runs.specs.declared.Step.TheVariants as steps
use Rattle.log_runs.specs.LogView.{LogView}
use Rattle.log_runs.specs.Runs.{State, has_acted, MayPass, MayAct, Leads, Live, IsForced, next, acted_on, reply_of, bytes_after}
use Rattle.search_rules.specs.Rules.{Suits, Names, IsJunkAt, LeavesNothing, AllLeft, acts, IsOverJunk}
use Rattle.search_rules.proofs.FirstLemmas.{Others}
use Rattle.search_rules.proofs.WordLemmas.{Answered, Bytes, Sizes, Alike, changed_there, both, own, over}
use Rattle.search_rules.proofs.RuleLemmas.{clash, set_here, set_there, gone_by, suits, run, before}

acted_is : (x : Extent) (m : List ℕ) (o : Option EventView) (i : ℕ) (op : Op) (told : Option Reply) → o ≡ Some (events.Sub i op told) → acted_on x m o ≡ after x.base x.block m op
unfolding acted_on bytes_after
acted_is x m o i op told at = ap (acted_on x m) at

module _ (answered : Answered) (bytes_of : Bytes) (others : Others) (sizes : Sizes) where
  -- steps that may be taken in turn
  back : (log : LogView) (xs : List Step) (s t : State) → Leads log s xs t → Live log t → Live log s
  back log [] s t leads live = subst (Live log) (sym leads) live
  back log (x ∷ xs) s t leads live = before log s x leads.0 (back log xs (next log s x) t leads.1 live)

  module _ (log : LogView) (q : ℕ) (end : State) (j : ℕ) (other : Op) (asked : Option Reply) (there : slice_get log.events q ≡ Some (events.Sub j other asked)) where
    Left : Op → Option Reply → Type 0
    Left one told = (b : ℕ) × (i : ℕ) × (slice_get end.acted b ≡ Some false) × (slice_get log.events b ≡ Some (events.Sub i one told))

    With : List ℕ → List ℕ → Type 0
    With m n = Alike log.extent Left m n

    -- those that have acted in t alone leave nothing
    Acted : State → State → Type 0
    Acted s t = (b : ℕ) → (slice_get t.acted b ≡ slice_get s.acted b) ⊎ ((slice_get s.acted b ≡ Some false) × (slice_get t.acted b ≡ Some true) × LeavesNothing log end q b)

    -- in t some of the group have acted, which are still to act in s; else they are the same, but for junk
    record Beside (s t : State) : Type 0 where
      pub event : t.event ≡ s.event
      pub size : length s.bytes ≡ log.extent.size
      pub table : Acted s t
      pub left : (b : ℕ) → slice_get t.acted b ≡ Some false → slice_get end.acted b ≡ Some false
      pub bytes : With s.bytes t.bytes

    ahead : (s t : State) → Beside s t → (b : ℕ) → has_acted s b → has_acted t b
    unfolding Acted
    ahead s t h b e = elim (h.table b) [
      | inl same ↦ same ∙ e
      | inr g ↦ absurd (clash refl (same_Some true false (sym e ∙ g.0)))
    ]

    pass : (s t : State) → Beside s t → (o : Option EventView) → MayPass s o → MayPass t o
    pass s t h (Some (events.Sub i op told)) a = tt
    pass s t h (Some (events.Due b)) a = ahead s t h b a
    pass s t h (Some events.Free) a = tt
    pass s t h None a = absurd a

    may : (s t : State) → Beside s t → (c : ℕ) (m : MayAct log s c) → slice_get t.acted c ≡ Some false → Suits log.extent t.bytes (slice_get log.events c) → MayAct log t c
    may s t h c m fresh suited = record {
      requester = m.requester;
      op = m.op;
      told = m.told;
      submitted = m.submitted;
      since = omega (arith, m.since, h.event);
      once = fresh;
      ordered = λ d w r l at posted. ahead s t h d (m.ordered d w r l at posted);
      replied = subst (Suits log.extent t.bytes) m.submitted suited;
    }

    length_acted : (m : List ℕ) (c i : ℕ) (op : Op) (told : Option Reply) → slice_get log.events c ≡ Some (events.Sub i op told) → length (acted_on log.extent m (slice_get log.events c)) ≡ length m
    length_acted m c i op told at = ap length (acted_is log.extent m (slice_get log.events c) i op told at) ∙ sizes log.extent.base log.extent.block m op

    -- it acts in both
    both_act : (s t : State) → Beside s t → (c : ℕ) (m : MayAct log s c) → slice_get t.acted c ≡ Some false → With (next log s (steps.Act c)).bytes (next log t (steps.Act c)).bytes
        → Beside (next log s (steps.Act c)) (next log t (steps.Act c))
    unfolding Acted
    both_act s t h c m fresh alike = record {
      event = h.event;
      size = length_acted s.bytes c m.requester m.op m.told m.submitted ∙ h.size;
      table = λ b. elim (cases_eq c b) [
        | inl same ↦
            let done : slice_get (slice_set t.acted c true) c ≡ slice_get (slice_set s.acted c true) c = set_here t.acted c true false fresh ∙ sym (set_here s.acted c true false m.once) in
            inl (subst (λ d. slice_get (slice_set t.acted c true) d ≡ slice_get (slice_set s.acted c true) d) same done)
        | inr distinct ↦ elim (h.table b) [
          | inl e ↦ inl (set_there t.acted c b true distinct ∙ e ∙ sym (set_there s.acted c b true distinct))
          | inr g ↦ inr (set_there s.acted c b true distinct ∙ g.0, set_there t.acted c b true distinct ∙ g.1, g.2)
        ]
      ];
      left = λ b e. h.left b (gone_by t.acted c b fresh e).1;
      bytes = alike;
    }

    -- one that has acted in t acts in s
    one_acts : (s t : State) → Beside s t → (c : ℕ) (m : MayAct log s c) → slice_get t.acted c ≡ Some true → With (next log s (steps.Act c)).bytes t.bytes → Beside (next log s (steps.Act c)) t
    unfolding Acted
    one_acts s t h c m done alike = record {
      event = h.event;
      size = length_acted s.bytes c m.requester m.op m.told m.submitted ∙ h.size;
      table = λ b. elim (cases_eq c b) [
        | inl same ↦
            let now : slice_get t.acted c ≡ slice_get (slice_set s.acted c true) c = done ∙ sym (set_here s.acted c true false m.once) in
            inl (subst (λ d. slice_get t.acted d ≡ slice_get (slice_set s.acted c true) d) same now)
        | inr distinct ↦ elim (h.table b) [
          | inl e ↦ inl (e ∙ sym (set_there s.acted c b true distinct))
          | inr g ↦ inr (set_there s.acted c b true distinct ∙ g.0, g.1, g.2)
        ]
      ];
      left = h.left;
      bytes = alike;
    }

    -- what both do
    both_with : (s : State) (n : List ℕ) (c : ℕ) → length s.bytes ≡ log.extent.size → With s.bytes n → (m : MayAct log s c) → slice_get end.acted c ≡ Some false
        → Suits log.extent n (slice_get log.events c) × With (acted_on log.extent s.bytes (slice_get log.events c)) (acted_on log.extent n (slice_get log.events c))
    unfolding With Left reply_of
    both_with s n c size alike m left =
        let x = log.extent in
        let o = slice_get log.events c in
        let (suited, still) = both answered bytes_of others sizes x Left s.bytes n m.op m.told size alike m.replied (c, m.requester, left, m.submitted) in
        let in_s : acted_on x s.bytes o ≡ after x.base x.block s.bytes m.op = acted_is x s.bytes o m.requester m.op m.told m.submitted in
        let in_n : acted_on x n o ≡ after x.base x.block n m.op = acted_is x n o m.requester m.op m.told m.submitted in (
          subst (Suits x n) (sym m.submitted) suited,
          subst (λ k. Alike x Left k (acted_on x n o)) (sym in_s) (subst (Alike x Left (after x.base x.block s.bytes m.op)) (sym in_n) still),
        )

    -- what one of the group does alone
    alone : (s : State) (n : List ℕ) (c : ℕ) → length s.bytes ≡ log.extent.size → With s.bytes n → MayAct log s c → LeavesNothing log end q c → With (acted_on log.extent s.bytes (slice_get log.events c)) n
    unfolding With Left reply_of
    alone s n c size alike m (inl quiet) = subst (λ k. Alike log.extent Left k n) (sym (quiet s.bytes size (suits log s c m))) alike
    alone s n c size alike m (inr (within, leaves)) =
        let x = log.extent in
        subst (λ k. Alike x Left k n) (sym (acted_is x s.bytes (slice_get log.events c) m.requester m.op m.told m.submitted))
        (own answered bytes_of others sizes x Left s.bytes n m.op m.told (λ w touches one told (b, i, left, at). leaves w (m.requester, m.op, m.told, m.submitted, touches) b left i m.requester one m.op told m.told at m.submitted)
        size alike m.replied)

    beside_live : (xs : List Step) (s t u : State) → Leads log s xs u → u.event ≡ length log.events → Beside s t → Live log t
    unfolding Acted
    beside_live [] s t u leads over h = run log t t [] refl (h.event ∙ ap (λ (w : State). w.event) leads ∙ over)
    beside_live (steps.Pass ∷ xs) s t u leads over h =
        before log t steps.Pass (subst (λ e. MayPass t (slice_get log.events e)) (sym h.event) (pass s t h (slice_get log.events s.event) leads.0))
        (beside_live xs (next log s steps.Pass) (next log t steps.Pass) u leads.1 over
        (record { event = ap (λ e. e + 1) h.event; size = h.size; table = h.table; left = h.left; bytes = h.bytes }))
    beside_live (steps.Act c ∷ xs) s t u leads over h = elim (h.table c) [
      | inl same ↦
          let m : MayAct log s c = leads.0 in
          let fresh : slice_get t.acted c ≡ Some false = same ∙ m.once in
          let (suited, alike) = both_with s t.bytes c h.size h.bytes m (h.left c fresh) in
          before log t (steps.Act c) (may s t h c m fresh suited)
          (beside_live xs (next log s (steps.Act c)) (next log t (steps.Act c)) u leads.1 over (both_act s t h c m fresh alike))
      | inr g ↦
          let m : MayAct log s c = leads.0 in
          beside_live xs (next log s (steps.Act c)) t u leads.1 over (one_acts s t h c m g.1 (alone s t.bytes c h.size h.bytes m g.2))
    ]

    -- ---- the group acts

    -- in t the group has acted
    record Gathered (s t : State) : Type 0 where
      pub event : t.event ≡ s.event
      pub table : Acted s t
      pub bytes : AreSameBut log.extent.base other s.bytes t.bytes

    changed : (s : State) (c : ℕ) → length s.bytes ≡ log.extent.size → MayAct log s c → LeavesNothing log end q c
        → AreSameBut log.extent.base other s.bytes (acted_on log.extent s.bytes (slice_get log.events c))
    changed s c size m (inl quiet) = subst (AreSameBut log.extent.base other s.bytes) (sym (quiet s.bytes size (suits log s c m))) (record { size = refl; others = λ k out. refl })
    changed s c size m (inr (within, leaves)) =
        let x = log.extent in
        subst (AreSameBut x.base other s.bytes) (sym (acted_is x s.bytes (slice_get log.events c) m.requester m.op m.told m.submitted))
        (changed_there answered bytes_of others sizes x s.bytes m.op other (within m.requester j m.op other m.told asked m.submitted there))

    gather : (cs : List ℕ) (s t : State) → length s.bytes ≡ log.extent.size → Leads log s (acts cs) t → ((i c : ℕ) → slice_get cs i ≡ Some c → LeavesNothing log end q c) → Gathered s t
    unfolding Acted
    gather [] s t size leads nothing = record {
      event = ap (λ (w : State). w.event) (sym leads);
      table = λ b. inl (ap (λ (w : State). slice_get w.acted b) (sym leads));
      bytes = record { size = ap (λ (w : State). length w.bytes) (sym leads); others = λ k out. ap (λ (w : State). slice_index w.bytes k) (sym leads) };
    }
    gather (c ∷ cs) s t size leads nothing =
        let m : MayAct log s c = leads.0 in
        let g = gather cs (next log s (steps.Act c)) t (length_acted s.bytes c m.requester m.op m.told m.submitted ∙ size) leads.1 (λ i d e. nothing (suc i) d e) in
        let here = nothing 0 c refl in
        let one = changed s c size m here in
        record {
          event = g.event;
          table = λ b. elim (cases_eq c b) [
            | inl same ↦ inr (
              subst (λ d. slice_get s.acted d ≡ Some false) same m.once,
              subst (λ d. slice_get t.acted d ≡ Some true) same (elim (g.table c) [
                | inl e ↦ e ∙ set_here s.acted c true false m.once
                | inr e ↦ e.1
              ]),
              subst (LeavesNothing log end q) same here,
            )
            | inr distinct ↦ elim (g.table b) [
              | inl e ↦ inl (e ∙ set_there s.acted c b true distinct)
              | inr e ↦ inr (sym (set_there s.acted c b true distinct) ∙ e.0, e.1, e.2)
            ]
          ];
          bytes = record { size = g.bytes.size ∙ one.size; others = λ k out. g.bytes.others k out ∙ one.others k out };
        }

    start : (s : State) → length s.bytes ≡ log.extent.size → ((w : ℕ) → Names log q w → AllLeft end (λ b. IsJunkAt log s.bytes b w)) → Gathered s end → Beside s end
    unfolding With Left
    start s size junk g = record {
      event = g.event;
      size = size;
      table = g.table;
      left = λ b e. e;
      bytes = over answered bytes_of others sizes log.extent Left s.bytes end.bytes other g.bytes
          (λ w touches one told (b, i, left, at). junk w (j, other, asked, there, touches) b left i one told at);
    }

  pub over_junk_is_forced : (log : LogView) (s : State) (q : ℕ) (group : List ℕ) → IsOverJunk log s q group → IsForced log s (steps.Act q)
  over_junk_is_forced log s q group h =
      let m : MayAct log s q = h.leads.0 in
      let beside = start log q h.last m.requester m.op m.told m.submitted s h.size h.old (gather log q h.last m.requester m.op m.told m.submitted (q ∷ group) s h.last h.size h.leads h.new) in
      record {
        allowed = m;
        live = λ l. back log (acts group) (next log s (steps.Act q)) h.last h.leads.1
            (beside_live log q h.last m.requester m.op m.told m.submitted l.steps s h.last l.last l.leads l.over beside);
      }
