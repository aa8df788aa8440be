-- The way through the frames.
use Rattle.std.proofs.Common.{◌≡◌, ◌∙◌, ℕ, suc, Bool, true, false, List, [], ◌∷◌, ◌++◌, Some, length, refl, sym, ap, subst, append_assoc, arith, length-append}
use Rattle.std.proofs.lemmas.Bool.{false≢true}
use Rattle.std.proofs.lemmas.List.{append-nil}
use Rattle.std.specs.List.{All}
use Rattle.std.proofs.lemmas.List.Elements.{All-push, All-append, All-nil, All-pop}
use Rattle.log_runs.specs.LogView.{LogView}
use Rattle.log_runs.specs.declared.Step.{Step}
use Rattle.log_runs.specs.Runs.{State, Allowed, Leads, Live, Dead, AllDead, IsForced, next, start}
use Rattle.search_places.specs.declared.steps.Done.{Done}
use Rattle.search_run.specs.StackView.{FrameView, StackView}
use Rattle.search_places.specs.Undo.{MayCome, CameBy, LeadsBy}
use Rattle.search_run.specs.Outcomes.{IsRun}
use Rattle.search_run.specs.Watched.{Is, IsReached, Saw}
use Rattle.search_run.specs.declared.walk.Walk.{Walk}
use Rattle.search_run.specs.Frames.{Path, PathFrom, Here, Back, LeadsNowhere, IsAt, IsOpen, AreLost}
use Rattle.search_run.specs.Stacked.{steps_of, Forgets, Reopens}
use Rattle.search_run.specs.Trails.{steps_by}

-- ---- steps, one after another

pub one_more : (log : LogView) (s m t : State) (ds : List Done) (d : Done) → LeadsBy log s ds m → CameBy log m t d → LeadsBy log s (ds ++ d ∷ []) t
one_more log s m t [] d leads c =
    let e : s ≡ m = leads in
    subst (λ u. MayCome log u d × (next log u d.step ≡ t)) (sym e) (c.may, sym c.led)
one_more log s m t (x ∷ ds) d leads c = (leads.0, one_more log (next log s x.step) m t ds d leads.1 c)

pub one_less : (log : LogView) (s t : State) (ds : List Done) (d : Done) → LeadsBy log s (ds ++ d ∷ []) t → (m : State) × LeadsBy log s ds m × CameBy log m t d
one_less log s t [] d leads = (s, refl, record { may = leads.0; led = sym leads.1 })
one_less log s t (x ∷ ds) d leads =
    let (m, before, last) = one_less log (next log s x.step) t ds d leads.1 in
    (m, (leads.0, before), last)

-- ---- frames

pub not_nil : {X : Type 0} → (xs : List X) (x : X) → xs ++ x ∷ [] ≡ [] → ⊥
not_nil [] x e = cc
not_nil (y ∷ xs) x e = cc

pub as_many : {X : Type 0} → (xs : List X) (x y : X) → length (xs ++ x ∷ []) ≡ length (xs ++ y ∷ [])
as_many [] x y = refl
as_many (z ∷ xs) x y = ap suc (as_many xs x y)

-- a list that isn't empty has a last element
pub has_last : {X : Type 0} → (xs : List X) → (xs ≡ [] → ⊥) → (ys : List X) × (y : X) × (xs ≡ ys ++ y ∷ [])
has_last [] some = absurd (some refl)
has_last (x ∷ []) some = ([], x, refl)
has_last (x ∷ z ∷ xs) some = let (ys, y, e) = has_last (z ∷ xs) (λ n. cc) in (x ∷ ys, y, ap (λ zs. x ∷ zs) e)

module _ (log : LogView) where
  -- ---- a frame more, a frame less, and what follows at the end

  -- how the way goes on at a frame
  abbrev pub At : FrameView → (State → Type 0 → Type 0) → State → Type 0 → Type 0
  At f K s P =
      (m : State) × LeadsBy log s f.done m × (m.event ≡ length log.events → ⊥) × (Dead log m → P) × K m (AllDead log m f.noted)

  path_pop : (P : Type 0) (s : State) (fs : List FrameView) (f : FrameView) (K : State → Type 0 → Type 0) → Path log P s (fs ++ f ∷ []) K → Path log P s fs (At f K)
  path_pop P s [] f K h = h
  path_pop P s (g ∷ gs) f K h =
      (h.0, h.1, h.2, h.3, path_pop (AllDead log h.0 g.noted) h.0 gs f K h.4)

  path_push : (P : Type 0) (s : State) (fs : List FrameView) (f : FrameView) (K : State → Type 0 → Type 0) → Path log P s fs (At f K) → Path log P s (fs ++ f ∷ []) K
  path_push P s [] f K h = h
  path_push P s (g ∷ gs) f K h =
      (h.0, h.1, h.2, h.3, path_push (AllDead log h.0 g.noted) h.0 gs f K h.4)

  path_map : (P : Type 0) (s : State) (fs : List FrameView) (K L : State → Type 0 → Type 0) → ((m : State) (Q : Type 0) → K m Q → L m Q) → Path log P s fs K → Path log P s fs L
  path_map P s [] K L f h = f s P h
  path_map P s (g ∷ gs) K L f h =
      (h.0, h.1, h.2, h.3, path_map (AllDead log h.0 g.noted) h.0 gs K L f h.4)

  -- what holds wherever the way ends
  path_end : (P : Type 0) (s : State) (fs : List FrameView) (K : State → Type 0 → Type 0) (R : Type 0) → ((m : State) (Q : Type 0) → K m Q → R) → Path log P s fs K → R
  path_end P s [] K R f h = f s P h
  path_end P s (g ∷ gs) K R f h = path_end (AllDead log h.0 g.noted) h.0 gs K R f h.4

  -- ---- the moves of the search

  pub begun : (fs : List FrameView) (ds : List Done) (t : State) → fs ≡ [] → ds ≡ [] → t ≡ start log → PathFrom log fs (Here log ds t)
  begun fs ds t ef ed et =
      subst (λ gs. PathFrom log gs (Here log ds t)) (sym ef)
      (subst (λ es. LeadsBy log (start log) es t × (Dead log t → Dead log (start log))) (sym ed) (sym et, λ dead. subst (Dead log) et dead))

  pub moved : (fs : List FrameView) (ds : List Done) (t u : State) (d : Done) → PathFrom log fs (Here log ds t) → IsForced log t d.step → CameBy log t u d → PathFrom log fs (Here log (ds ++ d ∷ []) u)
  moved fs ds t u d h f c =
      path_map (Dead log (start log)) (start log) fs (Here log ds t) (Here log (ds ++ d ∷ []) u)
      (λ m Q e. (one_more log m t u ds d e.0 c, λ dead. e.1 (λ live. dead (subst (Live log) (sym c.led) (f.live live))))) h

  -- the place becomes a frame
  pub kept : (fs : List FrameView) (ds : List Done) (t : State) → PathFrom log fs (Here log ds t) → (t.event ≡ length log.events → ⊥)
      → PathFrom log (fs ++ record { done = ds; noted = [] } ∷ []) (λ m P. (m ≡ t) × P)
  kept fs ds t h more =
      let f : FrameView = record { done = ds; noted = [] } in
      path_push (Dead log (start log)) (start log) fs f (λ m P. (m ≡ t) × P)
      (path_map (Dead log (start log)) (start log) fs (Here log ds t) (At f (λ m P. (m ≡ t) × P))
      (λ m Q e. (t, e.0, more, e.1, (refl, All-nil (LeadsNowhere log t)))) h)

  -- the place is dead
  pub turned : (fs : List FrameView) (ds : List Done) (t : State) → PathFrom log fs (Here log ds t) → Dead log t → PathFrom log fs (Back log ds t)
  turned fs ds t h dead = path_map (Dead log (start log)) (start log) fs (Here log ds t) (Back log ds t) (λ m Q e. (e.0, e.1 dead)) h

  -- a step is taken back
  pub came : (fs : List FrameView) (ds : List Done) (d : Done) (t : State) → PathFrom log fs (Back log (ds ++ d ∷ []) t) → (m : State) × CameBy log m t d
  came fs ds d t h =
      path_end (Dead log (start log)) (start log) fs (Back log (ds ++ d ∷ []) t) ((m : State) × CameBy log m t d)
      (λ m Q e. let (n, before, last) = one_less log m t ds d e.0 in (n, last)) h

  pub rewound : (fs : List FrameView) (ds : List Done) (d : Done) (t u : State) → PathFrom log fs (Back log (ds ++ d ∷ []) t) → ((m : State) → CameBy log m t d → u ≡ m) → PathFrom log fs (Back log ds u)
  rewound fs ds d t u h back =
      path_map (Dead log (start log)) (start log) fs (Back log (ds ++ d ∷ []) t) (Back log ds u)
      (λ m Q e. let (n, before, last) = one_less log m t ds d e.0 in (subst (LeadsBy log m ds) (sym (back n last)) before, e.1)) h

  pub led_back : (s t u : State) (ds : List Done) (d : Done) → LeadsBy log s (ds ++ d ∷ []) t → ((m : State) → CameBy log m t d → u ≡ m) → LeadsBy log s ds u
  led_back s t u ds d leads back = let (n, before, last) = one_less log s t ds d leads in subst (LeadsBy log s ds) (sym (back n last)) before

  -- at the last frame
  module _ (fs : List FrameView) (f : FrameView) (t : State) (h : PathFrom log (fs ++ f ∷ []) (λ m P. (m ≡ t) × P)) where
    last : PathFrom log fs (At f (λ m P. (m ≡ t) × P))
    last = path_pop (Dead log (start log)) (start log) fs f (λ m P. (m ≡ t) × P) h

    pub more_there : t.event ≡ length log.events → ⊥
    more_there =
        path_end (Dead log (start log)) (start log) fs (At f (λ m P. (m ≡ t) × P)) (t.event ≡ length log.events → ⊥)
        (λ m Q e. subst (λ (n : State). n.event ≡ length log.events → ⊥) e.4.0 e.2) last

    pub dead_there : AllDead log t f.noted
    dead_there =
        path_end (Dead log (start log)) (start log) fs (At f (λ m P. (m ≡ t) × P)) (AllDead log t f.noted)
        (λ m Q e. subst (λ n. AllDead log n f.noted) e.4.0 e.4.1) last

    -- a step is noted
    pub noted : (x : Step) → PathFrom log (fs ++ record { done = f.done; noted = f.noted ++ x ∷ [] } ∷ []) (λ m P. (m ≡ t) × (Dead log (next log t x) → P))
    noted x =
        let g : FrameView = record { done = f.done; noted = f.noted ++ x ∷ [] } in
        let Then : State → Type 0 → Type 0 = λ m P. (m ≡ t) × (Dead log (next log t x) → P) in
        path_push (Dead log (start log)) (start log) fs g Then
        (path_map (Dead log (start log)) (start log) fs (At f (λ m P. (m ≡ t) × P)) (At g Then)
        (λ m Q e. (
          t,
          subst (LeadsBy log m f.done) e.4.0 e.1,
          subst (λ (n : State). n.event ≡ length log.events → ⊥) e.4.0 e.2,
          λ dead. e.3 (subst (Dead log) (sym e.4.0) dead),
          (refl, λ dead. All-push (LeadsNowhere log t) f.noted x (subst (λ n. AllDead log n f.noted) e.4.0 e.4.1) (λ a. dead)),
        )) last)

    -- the last that is noted isn't any more
    pub forgot : (r : List Step) (x : Step) → f.noted ≡ r ++ x ∷ [] → PathFrom log (fs ++ record { done = f.done; noted = r } ∷ []) (λ m P. (m ≡ t) × P)
    forgot r x er =
        let g : FrameView = record { done = f.done; noted = r } in
        path_push (Dead log (start log)) (start log) fs g (λ m P. (m ≡ t) × P)
        (path_map (Dead log (start log)) (start log) fs (At f (λ m P. (m ≡ t) × P)) (At g (λ m P. (m ≡ t) × P))
        (λ m Q e. (
          e.0,
          e.1,
          e.2,
          e.3,
          (e.4.0, (All-pop (LeadsNowhere log e.0) f.noted r (Some x) er e.4.1).0),
        )) last)

    pub dropped : Dead log t → PathFrom log fs (Back log f.done t)
    dropped dead =
        path_map (Dead log (start log)) (start log) fs (At f (λ m P. (m ≡ t) × P)) (Back log f.done t)
        (λ m Q e. (subst (LeadsBy log m f.done) e.4.0 e.1, e.3 (subst (Dead log) (sym e.4.0) dead))) last

  pub taken : (fs : List FrameView) (x : Step) (t u : State) (d : Done) → PathFrom log fs (λ m P. (m ≡ t) × (Dead log (next log t x) → P))
      → CameBy log t u d → d.step ≡ x → PathFrom log fs (Here log (d ∷ []) u)
  taken fs x t u d h c ex =
      let led : next log t x ≡ u = sym (c.led ∙ ap (next log t) ex) in
      path_map (Dead log (start log)) (start log) fs (λ m P. (m ≡ t) × (Dead log (next log t x) → P)) (Here log (d ∷ []) u)
      (λ m Q e. (one_more log m t u [] d e.0 c, λ dead. e.1 (subst (Dead log) (sym led) dead))) h

  -- ---- the end

  -- there is no frame
  pub none_left : (fs : List FrameView) (t : State) → PathFrom log fs (λ m P. (m ≡ t) × P) → fs ≡ [] → Dead log (start log)
  none_left fs t h none =
      let there : PathFrom log [] (λ m P. (m ≡ t) × P) = subst (λ (gs : List FrameView). PathFrom log gs (λ m P. (m ≡ t) × P)) none h in
      there.1

  leads_on : (xs : List Step) (s t u : State) (ys : List Step) → Leads log s xs t → Leads log t ys u → Leads log s (xs ++ ys) u
  leads_on [] s t u ys a b = subst (λ v. Leads log v ys u) (sym a) b
  leads_on (x ∷ xs) s t u ys a b = (a.0, leads_on xs (next log s x) t u ys a.1 b)

  told : (ds : List Done) (s t : State) → LeadsBy log s ds t → Leads log s (steps_by ds) t
  told [] s t h = h
  told (d ∷ ds) s t h = (h.0.allowed, told ds (next log s d.step) t h.1)

  whole : (P : Type 0) (s : State) (fs : List FrameView) (ds : List Done) (t : State) → Path log P s fs (Here log ds t) → Leads log s (steps_of fs ++ steps_by ds) t
  whole P s [] ds t h = told ds s t h.0
  whole P s (g ∷ gs) ds t h =
      subst (λ xs. Leads log s xs t) (sym (append_assoc (steps_by g.done) (steps_of gs) (steps_by ds)))
      (leads_on (steps_by g.done) s h.0 t (steps_of gs ++ steps_by ds) (told g.done s h.0 h.1)
      (whole (AllDead log h.0 g.noted) h.0 gs ds t h.4))

  pub found : (fs : List FrameView) (ds : List Done) (t : State) (xs : List Step) → PathFrom log fs (Here log ds t) → t.event ≡ length log.events
      → xs ≡ steps_of fs ++ steps_by ds → IsRun log xs
  found fs ds t xs h over e =
      record { last = t; leads = subst (λ ys. Leads log (start log) ys t) (sym e) (whole (Dead log (start log)) (start log) fs ds t h); over = over }

  -- the search stands at a state that is reached
  pub reached : (fs : List FrameView) (ds : List Done) (t : State) → PathFrom log fs (Here log ds t) → (t.event ≡ length log.events → ⊥) → IsReached log t
  reached fs ds t h more = record { steps = steps_of fs ++ steps_by ds; leads = whole (Dead log (start log)) (start log) fs ds t h; more = more }

-- one choice more was seen, where the search stands before the end
pub sees_more : {A : Type 0} (sees : LogView → State → A → A → Type 0) (log : LogView) (w : Walk) (n : ℕ) (x y z : A) (over : Bool) → Saw sees (Is log) n x y → IsAt log w
    → (w.here.state.event ≡ length log.events → over ≡ true) → over ≡ false → sees log w.here.state y z → Saw sees (Is log) (suc n) x z
sees_more sees log w n x y z over saw at ends isnt seen = (
  y,
  saw,
  record {
    log = log;
    of = refl;
    place = w.here.state;
    reached = reached log w.stack.frames w.stack.done w.here.state at.path (λ e. false≢true (sym isnt ∙ ends e));
    saw = seen;
  },
)

-- ---- steps that are lost

module _ (log : LogView) (w v : Walk) (xs : List Step) (lost : AreLost log w v xs) where
  pub lost_more : (u : Walk) (ys : List Step) → AreLost log v u ys → AreLost log w u (xs ++ ys)
  lost_more u ys more = record {
    at = more.at;
    state = more.state ∙ lost.state;
    dead = All-append (LeadsNowhere log w.here.state) xs ys lost.dead (subst (λ s. All (LeadsNowhere log s) ys) lost.state more.dead);
    same = more.same ∙ lost.same;
  }

  pub lost_too : (x : Step) → LeadsNowhere log v.here.state x → AreLost log w v (xs ++ x ∷ [])
  lost_too x nowhere = record {
    at = lost.at;
    state = lost.state;
    dead = All-push (LeadsNowhere log w.here.state) xs x lost.dead (subst (λ s. LeadsNowhere log s x) lost.state nowhere);
    same = lost.same;
  }

pub none_lost : (log : LogView) (w : Walk) → IsOpen log w → AreLost log w w []
none_lost log w stands = record { at = stands; state = refl; dead = All-nil (LeadsNowhere log w.here.state); same = refl }

-- the last that is noted isn't any more, or all is as it was
pub spared : (log : LogView) (w : Walk) (t : StackView) (b : Bool) → IsOpen log w → (b ≡ true → Forgets w.stack t) → (b ≡ false → t ≡ w.stack)
    → AreLost log w (record { stack = t; here = w.here; memo = w.memo; losses = w.losses; look = w.look; reach = w.reach; work = w.work }) []
spared log w t true stands some none =
    let f = some refl in
    let here = subst (λ (fs : List FrameView). PathFrom log fs (λ (m : State) (P : Type 0). (m ≡ w.here.state) × P)) f.old stands.ready.path in
    record {
      at = record {
        ready = record {
          path = subst (λ (fs : List FrameView). PathFrom log fs (λ (m : State) (P : Type 0). (m ≡ w.here.state) × P)) (sym f.new)
              (forgot log f.before f.frame w.here.state here f.rest f.step f.at);
          none = f.done ∙ stands.ready.none;
          place = stands.ready.place;
          known = stands.ready.known;
        };
        some = λ none. not_nil f.before (record { done = f.frame.done; noted = f.rest }) (sym f.new ∙ none);
      };
      state = refl;
      dead = All-nil (LeadsNowhere log w.here.state);
      same = ap length f.new ∙ as_many f.before (record { done = f.frame.done; noted = f.rest }) f.frame ∙ sym (ap length f.old);
    }
spared log w t false stands some none =
    let e = none refl in
    record {
      at = record {
        ready = record {
          path = subst (λ (s : StackView). PathFrom log s.frames (λ (m : State) (P : Type 0). (m ≡ w.here.state) × P)) (sym e) stands.ready.path;
          none = ap (λ (s : StackView). s.done) e ∙ stands.ready.none;
          place = stands.ready.place;
          known = stands.ready.known;
        };
        some = λ none. stands.some (sym (ap (λ (s : StackView). s.frames) e) ∙ none);
      };
      state = refl;
      dead = All-nil (LeadsNowhere log w.here.state);
      same = ap (λ (s : StackView). length s.frames) e;
    }

-- each that is noted at the last frame leads nowhere
pub noted_dead : (log : LogView) (w : Walk) (xs : List Step) → IsOpen log w → ((fs : List FrameView) (f : FrameView) → w.stack.frames ≡ fs ++ f ∷ [] → xs ≡ f.noted) → All (LeadsNowhere log w.here.state) xs
noted_dead log w xs stands is =
    let (fs, f, e) = has_last w.stack.frames stands.some in
    let here = subst (λ (gs : List FrameView). PathFrom log gs (λ (m : State) (P : Type 0). (m ≡ w.here.state) × P)) e stands.ready.path in
    subst (All (LeadsNowhere log w.here.state)) (sym (is fs f e)) (dead_there log fs f w.here.state here)

-- it isn't the end
pub more_here : (log : LogView) (w : Walk) → IsOpen log w → w.here.state.event ≡ length log.events → ⊥
more_here log w stands =
    let (fs, f, e) = has_last w.stack.frames stands.some in
    more_there log fs f w.here.state (subst (λ (gs : List FrameView). PathFrom log gs (λ (m : State) (P : Type 0). (m ≡ w.here.state) × P)) e stands.ready.path)

-- the last frame is dropped, from which nothing leads to the end
reopens : (s t : StackView) (b : Bool) → (s.frames ≡ [] → ⊥) → (b ≡ true → Reopens s t) → (b ≡ false → s.frames ≡ []) → Reopens s t
reopens s t true stands some none = some refl
reopens s t false stands some none = absurd (stands (none refl))

pub reopened_back : (log : LogView) (w : Walk) (t : StackView) (b : Bool) → IsOpen log w → Dead log w.here.state → (b ≡ true → Reopens w.stack t) → (b ≡ false → w.stack.frames ≡ [])
    → PathFrom log t.frames (Back log t.done w.here.state) × (suc (length t.frames) ≡ length w.stack.frames)
reopened_back log w t b stands dead some none =
    let r = reopens w.stack t b stands.some some none in
    let here = subst (λ (gs : List FrameView). PathFrom log gs (λ (m : State) (P : Type 0). (m ≡ w.here.state) × P)) r.old stands.ready.path in
    let steps : t.done ≡ r.frame.done = r.done ∙ ap (λ (ds : List Done). r.frame.done ++ ds) stands.ready.none ∙ append-nil r.frame.done in (
      subst (λ (ds : List Done). PathFrom log t.frames (Back log ds w.here.state)) (sym steps) (dropped log t.frames r.frame w.here.state here dead),
      sym (ap length r.old ∙ length-append t.frames (r.frame ∷ []) ∙ omega arith),
    )
