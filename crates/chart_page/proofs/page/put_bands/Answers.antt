use Rattle.std.proofs.Common.{◌∙◌, ◌++◌, ap, arith}
use Rattle.svg_text.specs.Shapes.{shapes_text}
use Rattle.chart_page.specs.declared.page.Band.{Band}
use Rattle.chart_page.specs.Shapes.{band}
use Rattle.chart_page.proofs.Steps.{bands-next, bands-past}
use Rattle.chart_page.proofs.page.put_bands.Goals as goal

pub loop-of-preserved : goal.loop-of-preserved
loop-of-preserved c =
    let o = c.loop-of.out.items in
    let r = c.of-item.result in
    record {
      shapes =
          bands-next c.args.frame c.args.rows.now c.loop-of.of-index c.loop-of.row c.loop-of.above r o c.put_band.new.out.items
          c.loop-of-test.true c.of-item.is (c.in_ok-put_band.ensures ∙ ap (λ (u : _). o ++ shapes_text (band (record { frame = c.args.frame; row = c.loop-of.row; is_under = u }) r)) c.is_under-is_under.ensures)
          ∙ c.loop-of.invariant.shapes;
      row = omega (arith, c.loop-of.invariant.row);
    }

pub returns : goal.returns
returns c =
    bands-past c.args.frame c.args.rows.now c.loop-of.of-index c.loop-of.row c.loop-of.above c.loop-of.out.items c.loop-of-test.false ∙ c.loop-of.invariant.shapes
