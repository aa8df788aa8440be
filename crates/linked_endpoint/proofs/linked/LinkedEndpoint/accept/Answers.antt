use Rattle.std.proofs.Common.{◌∙◌, ℕ, List, ap, subst, Option}
use Rattle.flow_control.specs.declared.needs.Need.{Need}
use Rattle.port_core.specs.Incoming.{tlp_in}
use Rattle.port_core.specs.Port as port
use Rattle.endpoint_core.specs.declared.endpoint.Handled.{Handled}
use Rattle.endpoint_log.specs.Recordings as recordings
use Rattle.endpoint_log.specs.Recordings.{IsOrLost}
use Rattle.linked_endpoint.specs.LinkedView.{LinkedView}
use Rattle.linked_endpoint.specs.Linked.{taken}
use Rattle.linked_endpoint.specs.declared.linked.Arrived.TheVariants as answers
use Rattle.linked_endpoint.proofs.Accepting.{made, accepted, answered}
use Rattle.linked_endpoint.proofs.linked.LinkedEndpoint.accept.Goals as goal

pub returns-clause-ok : goal.returns-clause-ok
returns-clause-ok c =
    accepted (made c.self.inside.port c.self.inside.endpoint c.self.inside.needs.items c.self.inside.held) c.args.self.now
    c.note.new.self c.free_unless.new.port c.take.new.endpoint c.reserve.new.self.items c.keep_if.new.needs.items
    c.is_waiting-waits.result c.in_ok-handled.handled c.need_in-need.result c.args.packet.now c.tlp_in.result.now c.args.judged.now
    c.self.view_is c.tlp_in.ensures c.note.ensures.state c.in_ok-handled.ensures.answer c.is_waiting-waits.ensures
    c.in_ok-handled.ensures.ok c.reserve.ensures.items c.keep_if.ensures c.free_unless.ensures
    ∙ ap (λ (n : Option Need). taken c.args.self.now (port.noted c.args.self.now.port c.args.judged.now) n (tlp_in c.args.packet.now)) c.need_in-need.ensures

pub returns-clause-answer : goal.returns-clause-answer
returns-clause-answer c =
    ap (λ (h : Handled). answers.Accepted h)
    (answered (made c.self.inside.port c.self.inside.endpoint c.self.inside.needs.items c.self.inside.held) c.args.self.now
    c.in_ok-handled.handled c.args.packet.now c.tlp_in.result.now c.self.view_is c.tlp_in.ensures c.in_ok-handled.ensures.answer)

pub returns-clause-recorded : goal.returns-clause-recorded
returns-clause-recorded c =
    let r = c.args.recording.now in
    subst (λ (l : LinkedView). IsOrLost c.take.new.self (recordings.came l.endpoint (tlp_in c.args.packet.now) r)) c.self.view_is
    (subst (λ (b : List ℕ). IsOrLost c.take.new.self (recordings.came c.self.inside.endpoint b r)) c.tlp_in.ensures c.take.ensures.recording)
