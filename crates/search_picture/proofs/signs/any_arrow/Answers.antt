use Rattle.std.proofs.Common.{◌∙◌, Bool, ap}
use Rattle.std.specs.Prelude.{◌||◌}
use Rattle.search_picture.specs.Picture.{is_drawn}
use Rattle.search_picture.proofs.Steps.{any-next, any-past}
use Rattle.search_picture.proofs.signs.any_arrow.Goals as goal

pub loop-arrow-preserved : goal.loop-arrow-preserved
loop-arrow-preserved c =
    any-next (is_drawn c.args.requests.now) c.args.arrows.now c.loop-arrow.arrow-index c.arrow-item.result c.loop-arrow.any c.either-any.result c.loop-arrow-test.true c.arrow-item.is
    (c.either-any.ensures ∙ ap (λ (b : Bool). c.loop-arrow.any || b) c.is_drawn.ensures)
    ∙ c.loop-arrow.invariant

pub returns : goal.returns
returns c = any-past (is_drawn c.args.requests.now) c.args.arrows.now c.loop-arrow.arrow-index c.loop-arrow.any c.loop-arrow-test.false ∙ c.loop-arrow.invariant
