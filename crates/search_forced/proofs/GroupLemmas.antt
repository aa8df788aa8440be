-- Groups of requests that act in turn.
use Rattle.std.proofs.Common.{◌≡◌, ◌∙◌, ℕ, zero, suc, ◌+◌, ◌<◌, Bool, true, false, List, [], ◌∷◌, ◌++◌, Some, length, get_or, refl, sym, ap, subst, inl, inr, arith}
use Rattle.std.specs.Prelude.{slice_get, slice_set}
use Rattle.std.proofs.lemmas.Bool.{cases_eq}
use Rattle.std.proofs.lemmas.Option.{same_Some, get_or_from_slice_get}
use Rattle.log_runs.specs.declared.Step.TheVariants as steps
use Rattle.log_runs.specs.LogView.{LogView}
use Rattle.log_runs.specs.Runs.{State, MayAct, Leads, next}
use Rattle.search_places.specs.PlaceView.{PlaceView}
use Rattle.search_places.specs.Places.{IsPlace}
use Rattle.search_places.specs.Undo.{MayCome, CameBy, LeadsBy}
use Rattle.search_places.specs.declared.steps.Done.{Done}
use Rattle.search_rules.specs.Rules.{Names, IsJunkAt, LeavesNothing, acts, IsOverJunk}
use Rattle.search_forced.specs.Groups.{IsGroup}
use Rattle.search_forced.specs.declared.groups.Group.{Group}
use Rattle.search_forced.proofs.Lists.{clash, set_here, set_there}

-- ---- steps, one after another

pub one_more : (log : LogView) (s m t : State) (ds : List Done) (d : Done) → LeadsBy log s ds m → CameBy log m t d → LeadsBy log s (ds ++ d ∷ []) t
one_more log s m t [] d leads c =
    let e : s ≡ m = leads in
    subst (λ u. MayCome log u d × (next log u d.step ≡ t)) (sym e) (c.may, sym c.led)
one_more log s m t (x ∷ ds) d leads c = (leads.0, one_more log (next log s x.step) m t ds d leads.1 c)

pub one_less : (log : LogView) (s t : State) (ds : List Done) (d : Done) → LeadsBy log s (ds ++ d ∷ []) t → (m : State) × LeadsBy log s ds m × CameBy log m t d
one_less log s t [] d leads = (s, refl, record { may = leads.0; led = sym leads.1 })
one_less log s t (x ∷ ds) d leads =
    let (m, before, last) = one_less log (next log s x.step) t ds d leads.1 in
    (m, (leads.0, before), last)

-- ---- requests, one after another

-- P holds of the first and of all others
pub all_with : (P : ℕ → Type 0) (request : ℕ) (rest : List ℕ) → P request → ((i member : ℕ) → slice_get rest i ≡ Some member → P member) → (i member : ℕ) → slice_get (request ∷ rest) i ≡ Some member → P member
all_with P request rest first others zero member at = subst P (same_Some request member at) first
all_with P request rest first others (suc i) member at = others i member at

-- P holds of one more
pub each_next : (P : ℕ → Type 0) (gs : List ℕ) (n : ℕ) → P (get_or gs n 0) → ((i member : ℕ) → i < n → slice_get gs i ≡ Some member → P member) → (i member : ℕ) → i < n + 1 → slice_get gs i ≡ Some member → P member
each_next P gs n here before i member l at = elim (cases_eq n i) [
  | inl same ↦ subst P (ap (λ k. get_or gs k 0) same ∙ get_or_from_slice_get gs i member 0 at) here
  | inr distinct ↦ before i member (omega (arith, l, distinct)) at
]

not_in : (c b : ℕ) (cs : List ℕ) → (c ≡ b → ⊥) → ((i : ℕ) → slice_get cs i ≡ Some b → ⊥) → (i : ℕ) → slice_get (c ∷ cs) i ≡ Some b → ⊥
not_in c b cs distinct out zero at = distinct (same_Some c b at)
not_in c b cs distinct out (suc i) at = out i at

none_in : (b i : ℕ) → slice_get [] i ≡ Some b → ⊥
none_in b i at = cc

gone_by : (xs : List Bool) (b c : ℕ) → slice_get xs b ≡ Some false → slice_get (slice_set xs b true) c ≡ Some false → (b ≡ c → ⊥) × (slice_get xs c ≡ Some false)
gone_by xs b c was e = elim (cases_eq b c) [
  | inl same ↦ absurd (clash refl (same_Some true false (sym (set_here xs b true false was) ∙ ap (slice_get (slice_set xs b true)) same ∙ e)))
  | inr other ↦ (other, sym (set_there xs b c true other) ∙ e)
]

module _ (log : LogView) where
  -- one more acts
  acts_more : (s m : State) (bs : List ℕ) (b : ℕ) → Leads log s (acts bs) m → MayAct log m b → Leads log s (acts (bs ++ b ∷ [])) (next log m (steps.Act b))
  acts_more s m [] b leads may = let e : s ≡ m = leads in (subst (λ u. MayAct log u b) (sym e) may, ap (λ u. next log u (steps.Act b)) e)
  acts_more s m (c ∷ cs) b leads may = (leads.0, acts_more (next log s (steps.Act c)) m cs b leads.1 may)

  -- who is left was left before, and isn't one of those that acted
  left_before : (bs : List ℕ) (s t : State) (b : ℕ) → Leads log s (acts bs) t → slice_get t.acted b ≡ Some false → (slice_get s.acted b ≡ Some false) × ((i : ℕ) → slice_get bs i ≡ Some b → ⊥)
  left_before [] s t b leads e = (ap (λ (u : State). slice_get u.acted b) leads ∙ e, none_in b)
  left_before (c ∷ cs) s t b leads e =
      let m : MayAct log s c = leads.0 in
      let (still, out) = left_before cs (next log s (steps.Act c)) t b leads.1 e in
      let (distinct, was) = gone_by s.acted c b m.once still in
      (was, not_in c b cs distinct out)

  -- one more joins the group
  pub joined : (b : ℕ) (g h : Group) (p r : PlaceView) (d : Done) → MayAct log p.state b → CameBy log p.state r.state d → d.step ≡ steps.Act b → h.done.items ≡ g.done.items ++ d ∷ []
      → h.others.items ≡ g.others.items ++ b ∷ [] → IsPlace log r → (s : State) (request : ℕ) → IsGroup log s request g p → IsGroup log s request h r
  joined b g h p r d may came is done others place s request group =
      let e : next log p.state (steps.Act b) ≡ r.state = ap (next log p.state) (sym is) ∙ sym came.led in
      record {
        may = group.may;
        leads = subst (λ bs. Leads log (next log s (steps.Act request)) (acts bs) r.state) (sym others)
            (subst (Leads log (next log s (steps.Act request)) (acts (g.others.items ++ b ∷ []))) e (acts_more (next log s (steps.Act request)) p.state g.others.items b group.leads may));
        back = subst (λ ds. LeadsBy log s ds r.state) (sym done) (one_more log s p.state r.state g.done.items d group.back came);
        place = place;
      }

  -- the last step is taken back
  pub undone : (ds : List Done) (d : Done) (t u : State) → ((m : State) → CameBy log m t d → u ≡ m) → (s : State) → LeadsBy log s (ds ++ d ∷ []) t → LeadsBy log s ds u
  undone ds d t u back s leads =
      let (m, before, came) = one_less log s t ds d leads in
      subst (LeadsBy log s ds) (sym (back m came)) before

  -- what the request and its group overwrite and leave is junk
  pub over : (s : State) (request : ℕ) (g : Group) (p : PlaceView) → IsGroup log s request g p → length s.bytes ≡ log.extent.size
      → ((w : ℕ) → Names log request w → (b : ℕ) → (request ≡ b → ⊥) → ((i : ℕ) → slice_get g.others.items i ≡ Some b → ⊥) → slice_get s.acted b ≡ Some false → IsJunkAt log s.bytes b w)
      → ((i member : ℕ) → slice_get (request ∷ g.others.items) i ≡ Some member → LeavesNothing log p.state request member)
      → IsOverJunk log s request g.others.items
  over s request g p group size old new = record {
    last = p.state;
    size = size;
    leads = (group.may, group.leads);
    old = λ w names b left.
        let (still, out) = left_before g.others.items (next log s (steps.Act request)) p.state b group.leads left in
        let (distinct, was) = gone_by s.acted request b group.may.once still in
        old w names b distinct out was;
    new = new;
  }
