use Rattle.std.proofs.Common.{subst}
use Rattle.c_fabric.specs.SessionView.{SessionView}
use Rattle.c_fabric.specs.Calls.{EventWantsMemory}
use Rattle.c_fabric.proofs.happening.happen_to.Goals.{in-Ok, in-Err}
use Rattle.c_fabric.proofs.happening.happen_to.Goals as goal

pub returns-clause-no_memory : goal.returns-clause-no_memory
returns-clause-no_memory c is_no_memory =
    let s = c.session.inside in
    subst (λ (x : SessionView). EventWantsMemory x.fabric x.is_traced c.args.event.now) c.session.view_is
    (elim c.match-step.branch as (λ _. EventWantsMemory s.fabric s.is_traced c.args.event.now) [
      | in-Ok w ↦ absurd cc
      | in-Err w ↦ w.in-Err.ensures.no_memory (w.put_refusal.ensures.no_memory cc)
    ])
