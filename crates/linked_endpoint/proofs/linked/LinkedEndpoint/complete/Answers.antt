use Rattle.std.proofs.Common.{subst}
use Rattle.endpoint_log.specs.Recordings.{acted, IsOrLost}
use Rattle.linked_endpoint.specs.LinkedView.{LinkedView}
use Rattle.linked_endpoint.proofs.linked.LinkedEndpoint.complete.Goals as goal

pub returns-clause-recorded : goal.returns-clause-recorded
returns-clause-recorded c =
    subst (λ (l : LinkedView). IsOrLost c.act-completion.new.self (acted l.endpoint c.args.recording.now)) c.self.view_is c.act-completion.ensures.recording
