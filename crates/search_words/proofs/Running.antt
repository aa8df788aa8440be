-- Runs, and how often requests took and put.
use Rattle.std.proofs.Common.{◌≡◌, ◌∙◌, ℕ, zero, suc, ◌+◌, ◌≤◌, ◌<◌, Bool, true, false, List, [], ◌∷◌, Some, None, Option, length, replicate, refl, sym, ap, subst, inl, inr, arith}
use Rattle.std.specs.Prelude.{slice_get, slice_set}
use Rattle.std.proofs.lemmas.Bool.{cases_eq}
use Rattle.std.proofs.lemmas.List.{length-replicate}
use Rattle.std.proofs.lemmas.Option.{same_Some, slice_get_within}
use Rattle.tlp_core.specs.Ops.{Op}
use Rattle.seq_memory.specs.Limits.{Extent}
use Rattle.seq_memory.specs.Step.{after}
use Rattle.log_runs.specs.EventView.{EventView}
use Rattle.log_runs.specs.EventView as events
use Rattle.log_runs.specs.declared.Step.{Step}
use Rattle.log_runs.specs.declared.Step.TheVariants as steps
use Rattle.log_runs.specs.LogView.{LogView}
use Rattle.log_runs.specs.Runs.{State, MayPass, MayAct, Leads, Dead, next, start, acted_on, bytes_after}
use Rattle.search_rules.specs.Rules.{Suits}
use Rattle.search_words.specs.declared.roles.Role.{Role}
use Rattle.search_words.specs.declared.roles.Role.TheVariants as roles
use Rattle.search_words.specs.Counts.{AreRoles, IsFirst, IsOverdrawn, IsRole, Takes, puts_of, sum_of, takes_of}

abbrev pub Sizes : Type 0
Sizes = (base block : ℕ) (m : List ℕ) (op : Op) → length (after base block m op) ≡ length m

length_after : Sizes → (x : Extent) (m : List ℕ) (o : Option EventView) → length (acted_on x m o) ≡ length m
unfolding acted_on bytes_after
length_after sizes x m (Some (events.Sub i op told)) = sizes x.base x.block m op
length_after sizes x m (Some (events.Due b)) = refl
length_after sizes x m (Some events.Free) = refl
length_after sizes x m None = refl

-- ---- who has acted

set_here : {X : Type 0} → (xs : List X) (i : ℕ) (v w : X) → slice_get xs i ≡ Some w → slice_get (slice_set xs i v) i ≡ Some v
set_here [] i v w e = cc
set_here (x ∷ xs) zero v w e = refl
set_here (x ∷ xs) (suc i) v w e = set_here xs i v w e

set_there : {X : Type 0} → (xs : List X) (i j : ℕ) (v : X) → (i ≡ j → ⊥) → slice_get (slice_set xs i v) j ≡ slice_get xs j
set_there [] i j v n = refl
set_there (x ∷ xs) zero zero v n = absurd (n refl)
set_there (x ∷ xs) zero (suc j) v n = refl
set_there (x ∷ xs) (suc i) zero v n = refl
set_there (x ∷ xs) (suc i) (suc j) v n = set_there xs i j v (λ e. n (ap suc e))

set_long : {X : Type 0} → (xs : List X) (i : ℕ) (v : X) → length (slice_set xs i v) ≡ length xs
set_long [] i v = refl
set_long (x ∷ xs) zero v = refl
set_long (x ∷ xs) (suc i) v = ap suc (set_long xs i v)

acted_kept : (xs : List Bool) (b c : ℕ) → slice_get xs c ≡ Some true → slice_get (slice_set xs b true) c ≡ Some true
acted_kept xs b c e = elim (cases_eq b c) [
  | inl same ↦ rw same (set_here xs c true true e)
  | inr other ↦ set_there xs b c true other ∙ e
]

-- ---- sums over those who have acted

abbrev counted : Bool → ℕ → ℕ
counted true n = n
counted false n = 0

abbrev acted_sum : (Role → ℕ) → List Bool → List Role → ℕ
acted_sum f [] rs = 0
acted_sum f (a ∷ acts) [] = 0
acted_sum f (a ∷ acts) (r ∷ rs) = counted a (f r) + acted_sum f acts rs

-- one more has acted
sum_more : (f : Role → ℕ) (acts : List Bool) (rs : List Role) (b : ℕ) (r : Role) → slice_get acts b ≡ Some false → slice_get rs b ≡ Some r
    → acted_sum f (slice_set acts b true) rs ≡ f r + acted_sum f acts rs
sum_more f [] rs b r e g = cc
sum_more f (a ∷ acts) [] b r e g = cc
sum_more f (true ∷ acts) (q ∷ rs) zero r e g = cc
sum_more f (false ∷ acts) (q ∷ rs) zero r e g = let is : f q ≡ f r = ap f (same_Some q r g) in omega (arith, is)
sum_more f (a ∷ acts) (q ∷ rs) (suc b) r e g =
    let rest = sum_more f acts rs b r e g in
    omega (arith, rest)

-- nobody has acted
sum_none : (f : Role → ℕ) (n : ℕ) (rs : List Role) → acted_sum f (replicate n false) rs ≡ 0
sum_none f zero rs = refl
sum_none f (suc n) [] = refl
sum_none f (suc n) (r ∷ rs) = let rest = sum_none f n rs in omega (arith, rest)

sum_part : (f : Role → ℕ) (acts : List Bool) (rs : List Role) → acted_sum f acts rs ≤ sum_of f rs
sum_part f [] rs = omega arith
sum_part f (a ∷ acts) [] = omega arith
sum_part f (true ∷ acts) (r ∷ rs) = let rest = sum_part f acts rs in omega (arith, rest)
sum_part f (false ∷ acts) (r ∷ rs) = let rest = sum_part f acts rs in omega (arith, rest)

-- all who take have acted
taken_all : (acts : List Bool) (rs : List Role) → length rs ≡ length acts → ((b : ℕ) → slice_get rs b ≡ Some roles.Takes → slice_get acts b ≡ Some true)
    → sum_of takes_of rs ≤ acted_sum takes_of acts rs
taken_all [] [] e all = omega arith
taken_all [] (r ∷ rs) e all = absurd (omega (arith, e))
taken_all (a ∷ acts) [] e all = omega arith
taken_all (a ∷ acts) (roles.Takes ∷ rs) e all =
    let is : a ≡ true = same_Some a true (all zero refl) in
    let rest = taken_all acts rs (omega (arith, e)) (λ b g. all (suc b) g) in
    rw is (omega (arith, rest))
taken_all (a ∷ acts) (roles.Keeps ∷ rs) e all = let rest = taken_all acts rs (omega (arith, e)) (λ b g. all (suc b) g) in omega (arith, rest)
taken_all (a ∷ acts) (roles.MayPut ∷ rs) e all = let rest = taken_all acts rs (omega (arith, e)) (λ b g. all (suc b) g) in omega (arith, rest)

-- ---- runs

there : {X : Type 0} → (xs : List X) (i : ℕ) → i < length xs → (x : X) × (slice_get xs i ≡ Some x)
there [] i l = absurd (omega (arith, l))
there (x ∷ xs) zero l = (x, refl)
there (x ∷ xs) (suc i) l = there xs i (omega (arith, l))

suits : (log : LogView) (s : State) (b : ℕ) → MayAct log s b → Suits log.extent s.bytes (slice_get log.events b)
suits log s b m = subst (Suits log.extent s.bytes) (sym m.submitted) m.replied

acted_stays : (log : LogView) (b : ℕ) (xs : List Step) (s t : State) → Leads log s xs t → slice_get s.acted b ≡ Some true → slice_get t.acted b ≡ Some true
acted_stays log b [] s t leads e = subst (λ (u : State). slice_get u.acted b ≡ Some true) leads e
acted_stays log b (steps.Pass ∷ xs) s t leads e = acted_stays log b xs (next log s steps.Pass) t leads.1 e
acted_stays log b (steps.Act c ∷ xs) s t leads e = acted_stays log b xs (next log s (steps.Act c)) t leads.1 (acted_kept s.acted c b e)

due_acts : (log : LogView) (b a : ℕ) → slice_get log.events a ≡ Some (events.Due b) → (xs : List Step) (s t : State) → Leads log s xs t
    → s.event ≤ a → t.event ≡ length log.events → slice_get t.acted b ≡ Some true
due_acts log b a due [] s t leads since over =
    absurd (omega (arith, ap (λ (u : State). u.event) leads, over, since, slice_get_within log.events a (events.Due b) due))
due_acts log b a due (steps.Pass ∷ xs) s t leads since over = elim (cases_eq s.event a) [
  | inl now ↦
      let acted : slice_get s.acted b ≡ Some true = subst (MayPass s) (ap (slice_get log.events) now ∙ due) leads.0 in
      acted_stays log b xs (next log s steps.Pass) t leads.1 acted
  | inr later ↦ due_acts log b a due xs (next log s steps.Pass) t leads.1 (omega (arith, since, later)) over
]
due_acts log b a due (steps.Act c ∷ xs) s t leads since over = due_acts log b a due xs (next log s (steps.Act c)) t leads.1 since over

module _ (sizes : Sizes) (log : LogView) (q : ℕ) (rs : List Role) (are : AreRoles log q (length log.events) rs) (first : ℕ) where
  -- no more was taken than was there, and less if it is there
  record Balanced (s : State) : Type 0 where
    pub size : length s.bytes ≡ log.extent.size
    pub long : length s.acted ≡ length log.events
    pub most : acted_sum takes_of s.acted rs ≤ first + acted_sum puts_of s.acted rs
    pub less : Suits log.extent s.bytes (slice_get log.events q) → acted_sum takes_of s.acted rs + 1 ≤ first + acted_sum puts_of s.acted rs

  after_act : (s : State) (b : ℕ) (m : MayAct log s b) (r : Role) → slice_get rs b ≡ Some r → IsRole log q b r → Balanced s → Balanced (next log s (steps.Act b))
  after_act s b m roles.Takes at role h =
      let took = sum_more takes_of s.acted rs b roles.Takes m.once at in
      let put = sum_more puts_of s.acted rs b roles.Takes m.once at in
      let was = h.less (role.finds s.bytes h.size (suits log s b m)) in
      record {
        size = length_after sizes log.extent s.bytes (slice_get log.events b) ∙ h.size;
        long = set_long s.acted b true ∙ h.long;
        most = omega (arith, took, put, was);
        less = λ still. absurd (role.leaves s.bytes h.size (suits log s b m) still);
      }
  after_act s b m roles.Keeps at role h =
      let took = sum_more takes_of s.acted rs b roles.Keeps m.once at in
      let put = sum_more puts_of s.acted rs b roles.Keeps m.once at in
      record {
        size = length_after sizes log.extent s.bytes (slice_get log.events b) ∙ h.size;
        long = set_long s.acted b true ∙ h.long;
        most = omega (arith, took, put, h.most);
        less = λ still. let was = h.less (role s.bytes (suits log s b m) still) in omega (arith, took, put, was);
      }
  after_act s b m roles.MayPut at role h =
      let took = sum_more takes_of s.acted rs b roles.MayPut m.once at in
      let put = sum_more puts_of s.acted rs b roles.MayPut m.once at in
      record {
        size = length_after sizes log.extent s.bytes (slice_get log.events b) ∙ h.size;
        long = set_long s.acted b true ∙ h.long;
        most = omega (arith, took, put, h.most);
        less = λ still. omega (arith, took, put, h.most);
      }

  balanced : (xs : List Step) (s t : State) → Leads log s xs t → Balanced s → Balanced t
  balanced [] s t leads h = subst Balanced leads h
  balanced (steps.Pass ∷ xs) s t leads h = balanced xs (next log s steps.Pass) t leads.1 (record { size = h.size; long = h.long; most = h.most; less = h.less })
  balanced (steps.Act b ∷ xs) s t leads h =
      let m : MayAct log s b = leads.0 in
      let inside = slice_get_within log.events b _ m.submitted in
      let r = there rs b (omega (arith, inside, are.long)) in
      balanced xs (next log s (steps.Act b)) t leads.1 (after_act s b m r.0 r.1 (are.each b r.0 r.1) h)

  start_bytes : length (start log).bytes ≡ log.extent.size
  start_bytes = length-replicate {A = ℕ} log.extent.size 0

  begun : IsFirst log q first → Balanced (start log)
  begun is_first =
      let took = sum_none takes_of (length log.events) rs in
      let put = sum_none puts_of (length log.events) rs in
      record {
        size = start_bytes;
        long = length-replicate {A = Bool} (length log.events) false;
        most = omega (arith, took, put);
        less = λ here. let one = is_first here in omega (arith, took, put, one);
      }

  takes_due : (b : ℕ) → slice_get rs b ≡ Some roles.Takes → Takes log q b
  takes_due b at = are.each b roles.Takes at

  no_run : IsFirst log q first → first + sum_of puts_of rs < sum_of takes_of rs → Dead log (start log)
  no_run is_first more live =
      let h = balanced live.steps (start log) live.last live.leads (begun is_first) in
      let acted : (b : ℕ) → slice_get rs b ≡ Some roles.Takes → slice_get live.last.acted b ≡ Some true =
      λ b at. let t = takes_due b at in due_acts log b t.place t.due live.steps (start log) live.last live.leads (omega arith) live.over in
      let all = taken_all live.last.acted rs (are.long ∙ sym h.long) acted in
      let few = sum_part puts_of live.last.acted rs in
      omega (arith, h.most, all, few, more)

pub overdrawn_is_dead : Sizes → (log : LogView) (q : ℕ) → IsOverdrawn log q → Dead log (start log)
overdrawn_is_dead sizes log q over = no_run sizes log q over.roles over.are over.first over.start over.more
