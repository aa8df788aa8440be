use Rattle.std.proofs.Common.{◌≡◌, true, subst}
use Rattle.history_words.specs.Trace.{Explains}
use Rattle.fabric_steps.specs.Fabric.{whole_of}
use Rattle.c_fabric.specs.SessionView.{SessionView, claim}
use Rattle.c_fabric.proofs.held.explain.Goals as goal

pub returns : goal.returns
returns c =
    subst (λ (s : SessionView). s.is_traced ≡ true → Explains (claim s)) c.session.view_is
    (λ traced. c.the_trace_belongs.ensures.explained (whole_of c.session.inside.fabric) c.session.inside.witness.records.items c.sound.ensures.sound (c.session.invariant.0 traced))
