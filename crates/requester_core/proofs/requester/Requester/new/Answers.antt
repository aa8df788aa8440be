use Rattle.requester_core.proofs.Tags.{sound_fresh, lowest_fresh}
use Rattle.requester_core.proofs.requester.Requester.new.Goals as goal

pub invariant_of-result : goal.invariant_of-result
invariant_of-result c = rw c.no_tags.ensures (sound_fresh c.args.port c.requires.some c.requires.few, lowest_fresh)
