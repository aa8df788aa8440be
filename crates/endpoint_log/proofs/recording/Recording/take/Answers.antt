use Rattle.endpoint_log.proofs.Recordings.{kept}
use Rattle.endpoint_log.proofs.recording.Recording.take.Goals as goal

pub returns-clause-unrecorded : goal.returns-clause-unrecorded
returns-clause-unrecorded c =
    kept c.take.result c.args.endpoint.now c.args.tlp.now c.args.self.now c.come.new.self c.take.ensures.no_memory c.come.ensures.others
