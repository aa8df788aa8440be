use Rattle.std.proofs.Common.{◌≡◌, ◌<◌, length, arith, sym, ap, ◌∙◌}
use Rattle.requester_core.specs.RequesterView.{RequesterView, lowest_free}
use Rattle.requester_core.proofs.Tags.{still_open}
use Rattle.requester_core.proofs.requester.Requester.open_tag.Goals as goal

pub free_from-self-inside-requires : goal.free_from-self-inside-requires
free_from-self-inside-requires c =
    let sound = c.self.invariant.0 in
    let lt : c.from-tag.result < length c.self.inside.open_tags = omega (arith, sound.tags, c.from-tag.ensures, c.ranges.tag.fits) in
    let low : c.from-tag.result ≡ lowest_free c.self.inside.open_tags = c.from-tag.ensures ∙ c.requires.lowest ∙ sym (ap (λ (s : RequesterView). lowest_free s.open_tags) c.self.view_is) in
    still_open c.self.inside.open_tags c.from-tag.result _ lt (omega (arith, low))
