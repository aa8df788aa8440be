use Rattle.std.proofs.Common.{arith}
use Rattle.requester_core.proofs.Tags.{lowest_in_range}
use Rattle.requester_core.proofs.requester.Requester.next_tag.Goals as goal
use Rattle.requester_core.proofs.requester.Requester.next_tag.Goals.{then-posted, else-posted}

pub overflow_cast-result : goal.overflow_cast-result
overflow_cast-result c = let h = lowest_in_range c.self.inside.open_tags in let i = c.self.invariant in elim c.if-posted.branch [ then-posted w ↦ grind (arith, w.tag-is) | else-posted w ↦ grind (arith, w.tag-is, h, i.1, i.0.tags, c.if-tag-eq-TAGS.false) ]
