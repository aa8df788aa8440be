use Rattle.std.proofs.Common.{◌≡◌, ◌∙◌, ◌++◌, ◌∷◌, [], ◌+◌, ◌<◌, ℕ, List, length, get_or, refl, sym, ap, arith, length-append, Option, Some}
use Rattle.std.proofs.lemmas.List.Sums.{fold-append}
use Rattle.sweep_engine.specs.declared.options.Sweep.{Sweep}
use Rattle.sweep_engine.specs.declared.piping.Said.{Said}
use Rattle.sweep_engine.specs.Pipe.{AreFound, AreSaid}
use Rattle.sweep_engine.specs.Sweep.{Swept, after_said}
use Rattle.sweep_engine.proofs.Sweeps.{said_then, found_at}
use Rattle.sweep_engine.proofs.sweeper.Sweeper.tell_all.Goals as goal

-- one more of what was found is told
one_more : (o : Sweep) (found : List (Option Said)) (place : ℕ) (x : Said) (d : Option Said) (saids : List Said) → length saids ≡ place → place < length found → get_or found place d ≡ Some x
    → ((first : ℕ) → AreFound o first found → AreSaid o first saids) → (first : ℕ) → AreFound o first found → AreSaid o first (saids ++ x ∷ [])
one_more o found place x d saids number below e before first a = said_then o first (first + place) saids (x ∷ []) (omega (arith, number)) (before first a) (found_at o first place found x d a below e, tt)

pub loop-one-init : goal.loop-one-init
loop-one-init c = ([], refl, refl, λ first found. tt)

pub loop-one-preserved : goal.loop-one-preserved
loop-one-preserved c =
    let h = c.loop-one.invariant in
    let o = c.args.sweep.now in
    let x = c.in-Some.said in (
      h.0 ++ x ∷ [],
      omega (arith, length-append h.0 (x ∷ []), h.1),
      c.in_ok-tell.ensures.ok ∙ ap (λ (w : Swept). after_said o w x) h.2 ∙ sym (fold-append (after_said o) c.args.self.now h.0 (x ∷ [])),
      one_more o c.args.found.now c.loop-one.one-index x _ h.0 h.1 c.loop-one-test.true (sym c.one-item.is ∙ c.in-Some.is) h.3,
    )
