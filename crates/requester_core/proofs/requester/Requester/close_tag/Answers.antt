use Rattle.std.proofs.Common.{◌<◌, length, arith, ◌∙◌}
use Rattle.requester_core.proofs.Tags.{sound_freed, lowest_freed}
use Rattle.requester_core.proofs.requester.Requester.close_tag.Goals as goal

pub invariant_of-self : goal.invariant_of-self
invariant_of-self c =
    let sound = c.self.invariant.0 in
    let lt : c.from-tag.result < length c.self.inside.open_tags = omega (arith, sound.tags, c.from-tag.ensures, c.ranges.tag.fits) in
    (sound_freed _ c.from-tag.result sound lt, c.min-self-inside.ensures ∙ rw c.self.invariant.1 (lowest_freed c.self.inside.open_tags c.from-tag.result lt))
