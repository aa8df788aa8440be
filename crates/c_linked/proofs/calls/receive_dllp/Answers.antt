use Rattle.std.proofs.Common.{◌≡◌, sym, ap, ◌∙◌}
use Rattle.port_core.specs.Port.{after_dllp_received}
use Rattle.linked_endpoint.specs.LinkedView.{LinkedView}
use Rattle.c_linked.specs.SessionView.{with_linked}
use Rattle.c_linked.proofs.Kept.{kept}
use Rattle.c_linked.proofs.calls.receive_dllp.Goals as goal

same : (c : goal.In-Err) → with_linked (record { linked = c.session.inside.linked; recording = c.session.inside.recording }) c.receive_dllp.new.self ≡ c.args.session.now
same c =
    let old = c.session.inside.linked in
    ap (λ (l : LinkedView). with_linked (record { linked = old; recording = c.session.inside.recording }) l)
    (kept old c.receive_dllp.new.self (after_dllp_received old.port c.args.dllp.now c.args.check) c.receive_dllp.ensures.state
    (c.a_refused_call_changes_nothing.ensures.dllp old.port c.args.dllp.now c.args.check c.in-Err.refusal
    (sym c.receive_dllp.ensures.answer ∙ c.in-Err.is)))
    ∙ c.session.view_is

pub returns-in-Err-clause-session : goal.returns-in-Err-clause-session
returns-in-Err-clause-session c = same c

pub returns-in-Err-clause-unchanged : goal.returns-in-Err-clause-unchanged
returns-in-Err-clause-unchanged c h = same c
