use Rattle.std.proofs.Common.{◌≡◌, length, arith}
use Rattle.requester_core.specs.RequesterView.{RequesterView}
use Rattle.fabric_core.proofs.Still.{each_more, each_of_all}
use Rattle.fabric_core.proofs.parts.have_tags.Goals as goal

abbrev HasTags : RequesterView → Type 0
HasTags q = length q.open_tags ≡ 256

pub loop-requester-preserved : goal.loop-requester-preserved
loop-requester-preserved c = each_more HasTags c.args.requesters.now c.loop-requester.requester-index c.requester-item.result (omega arith) c.requester-item.is c.port-port.ensures.sound.tags c.loop-requester.invariant

pub returns : goal.returns
returns c = each_of_all HasTags c.args.requesters.now c.loop-requester.requester-index (omega arith) c.loop-requester.invariant
