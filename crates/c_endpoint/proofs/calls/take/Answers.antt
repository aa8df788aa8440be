use Rattle.std.proofs.Common.{◌≡◌, ◌∙◌, Result, Ok, Err, refl, subst, sym}
use Rattle.endpoint_log.specs.Recordings.{came, IsOrLost}
use Rattle.c_endpoint.specs.SessionView.{SessionView}
use Rattle.endpoint_core.specs.Steps.{taken, handled}
use Rattle.endpoint_core.specs.declared.endpoint.Handled.{Handled}
use Rattle.endpoint_core.specs.declared.endpoint.Handled.TheVariants.{Waits}
use Rattle.c_buffer.specs.declared.outcome.Failure.{Failure}
use Rattle.c_buffer.specs.declared.outcome.Failure.TheVariants.{NoMemory}
use Rattle.c_endpoint.proofs.calls.take.Goals.{in-Ok, in-Err}
use Rattle.c_endpoint.proofs.calls.take.Goals as goal

pub returns-clause-recording : goal.returns-clause-recording
returns-clause-recording c =
    subst (λ (s : SessionView). IsOrLost c.take.new.self (came s.endpoint c.args.tlp.now s.recording)) c.session.view_is c.take.ensures.recording

pub returns-clause-endpoint : goal.returns-clause-endpoint
returns-clause-endpoint c = λ not.
    subst (λ (s : SessionView). c.take.new.endpoint ≡ taken s.endpoint c.args.tlp.now) c.session.view_is
    (elim c.match-take.branch [
      | in-Ok w ↦ w.in-Ok.ensures.ok
      | in-Err w ↦ absurd (not w.result-is)
    ])

pub returns-clause-no_memory : goal.returns-clause-no_memory
returns-clause-no_memory c = λ none.
    subst (λ (s : SessionView). handled s.endpoint c.args.tlp.now ≡ Waits) c.session.view_is
    (elim c.match-take.branch [
      | in-Ok w ↦ (let clash : ◌≡◌ {A = Result Handled Failure} (Ok w.in-Ok.handled) (Err NoMemory) = sym w.result-is ∙ none in cc)
      | in-Err w ↦ w.in-Err.ensures.no_memory refl
    ])
