use Rattle.std.proofs.Common.{◌∙◌, arith}
use Rattle.search_picture.proofs.Steps.{frames-next, frames-past}
use Rattle.search_picture.proofs.axis.put_frames.Goals as goal

pub loop-request-preserved : goal.loop-request-preserved
loop-request-preserved c = record {
  shapes =
      frames-next c.args.width c.loop-request.before c.loop-request.row c.request-item.result c.args.requests.now c.loop-request.request-index c.loop-request.out.items c.put_frame_behind.new.out.items
      c.loop-request-test.true c.request-item.is c.in_ok-put_frame_behind.ensures
      ∙ c.loop-request.invariant.shapes;
  row = omega (arith, c.loop-request.invariant.row);
}

pub returns : goal.returns
returns c =
    frames-past c.args.width c.loop-request.before c.loop-request.row c.args.requests.now c.loop-request.request-index _ c.loop-request.out.items c.loop-request-test.false c.loop-request.invariant.shapes
