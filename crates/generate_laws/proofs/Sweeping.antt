-- A sweep, in which no seed fails.
use Rattle.std.proofs.Common.{◌≡◌, ◌∙◌, ℕ, suc, ◌+◌, ◌-◌, ◌^◌, ◌≤◌, Bool, true, false, List, [], ◌∷◌, length, inl, inr, Option, refl, ap, arith, min}
use Rattle.std.specs.Prelude.{◌⊎◌, ◌&&◌, nat_eq, fold, if◌then◌else◌}
use Rattle.std.proofs.lemmas.Bool.Decides.{nat_tests}
use Rattle.fabric_steps.specs.Fabric.{Fabric}
use Rattle.fabric_core.specs.declared.config.Config.{Config}
use Rattle.trace_engine.specs.Check.{out_check, out_check_clocked, out_check_with}
use Rattle.step_engine.specs.Step.{out_step}
use Rattle.generate_engine.specs.Script.{IsScriptOf, config_of}
use Rattle.sweep_engine.specs.declared.options.Sweep.{Sweep}
use Rattle.sweep_engine.specs.declared.piping.Said.{Said}
use Rattle.sweep_engine.specs.Pipe.{traced, is_ok, storm_of, IsSaid, AreSaid}
use Rattle.sweep_engine.specs.Sweep.{Swept, one_more, failed, after_said, swept, seeds_in, IsWhole}

-- what is generated ends well
pub record EndsWell : Type 0 where
  pub step : (c : Config) (count : ℕ) (text : List ℕ) (f : Fabric) → IsScriptOf c count text f → (out_step true text).status ≡ 0
  pub check : (c : Config) (count : ℕ) (text : List ℕ) (f : Fabric) → IsScriptOf c count text f → (out_check (out_step true text).text).status ≡ 0
  pub clocked : (c : Config) (count : ℕ) (text : List ℕ) (f : Fabric) → IsScriptOf c count text f → (out_check_clocked (out_step true text).text).status ≡ 0

checks : EndsWell → (is_clocked : Bool) (c : Config) (count : ℕ) (text : List ℕ) (f : Fabric) → IsScriptOf c count text f → (out_check_with is_clocked (traced text)).status ≡ 0
checks w true c count text f s = w.clocked c count text f s
checks w false c count text f s = w.check c count text f s

both : (m n : ℕ) → m ≡ 0 → n ≡ 0 → (nat_eq m 0 && nat_eq n 0) ≡ true
both m n e h = rw (e, h) refl

seed_ok : EndsWell → (o : Sweep) (n : ℕ) (x : Said) → IsSaid o n x → x.is_ok ≡ true
seed_ok w o n x s =
    let g = s.piped.generated in
    let c = config_of (storm_of o n) in
    let count = (storm_of o n).events in
    s.piped.ends ∙ ap (is_ok o.is_clocked) g.written
    ∙ both (out_step true g.text).status (out_check_with o.is_clocked (traced g.text)).status
    (w.step c count g.text g.fabric g.script) (checks w o.is_clocked c count g.text g.fabric g.script)

-- so many seeds, each ok
abbrev counted : ℕ → Swept
counted k = record { ok = k; text = []; status = 0; has_ended = false }

no_more : (most k : ℕ) → k ≤ most → k ≡ min (k + 0) most
no_more most k h = grind (arith, nat_tests)

one_counted : (most k : ℕ) → min (k + 1) most ≤ most
one_counted most k = grind (arith, nat_tests)

more_counted : (most k l : ℕ) → k ≤ most → min (min (k + 1) most + l) most ≡ min (k + suc l) most
more_counted most k l h = grind (arith, nat_tests)

all_ok : EndsWell → (o : Sweep) (saids : List Said) (n k : ℕ) → AreSaid o n saids → k ≤ 2 ^ 64 - 1
    → fold (after_said o) (counted k) saids ≡ counted (min (k + length saids) (2 ^ 64 - 1))
all_ok w o [] n k h fits = ap counted (no_more (2 ^ 64 - 1) k fits)
all_ok w o (x ∷ saids) n k h fits =
    ap (λ (b : Bool). fold (after_said o) (if b then one_more (counted k) else failed o (counted k) x) saids) (seed_ok w o n x h.0)
    ∙ all_ok w o saids (n + 1) (min (k + 1) (2 ^ 64 - 1)) h.1 (one_counted (2 ^ 64 - 1) k)
    ∙ ap counted (more_counted (2 ^ 64 - 1) k (length saids) fits)

many : (saids : List Said) (all : ℕ) (s : Swept) (k : ℕ) → s ≡ counted k → (length saids ≡ all) ⊎ (s.has_ended ≡ true) → length saids ≡ all
many saids all s k e (inl h) = h
many saids all s k e (inr h) = absurd cc

none : (n : ℕ) → 0 + n ≡ n
none n = omega arith

bounded : 0 ≤ 2 ^ 64 - 1
bounded = omega arith

-- all seeds are, and each is ok
pub whole : EndsWell → (o : Sweep) (out out' : Option (List ℕ)) (exit : ℕ) (w : IsWhole o out out' exit) → swept o w.saids ≡ counted (min (seeds_in o) (2 ^ 64 - 1))
whole ends o out out' exit w =
    let e = all_ok ends o w.saids o.storm.seed 0 w.said bounded in
    e ∙ ap (λ (n : ℕ). counted (min n (2 ^ 64 - 1))) (none (length w.saids) ∙ many w.saids (seeds_in o) (swept o w.saids) _ e w.all)
