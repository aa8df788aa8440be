use Rattle.std.proofs.Common.{◌∙◌, sym}
use Rattle.endpoint_core.specs.Classes.{becomes}
use Rattle.endpoint_log.proofs.Recordings.{stays}
use Rattle.endpoint_log.proofs.recording.Recording.come.Goals as goal

pub returns-else-is_err-clause-others : goal.returns-else-is_err-clause-others
returns-else-is_err-clause-others c unposted =
    stays c.args.endpoint.now.device (becomes c.args.tlp.now) c.in-On.log c.come_in.new.log c.come_in.result
    (sym c.is_err.ensures.value ∙ c.if-is_err.false) c.come_in.ensures.ok unposted ∙ cc c.in-On.is
