use Rattle.std.proofs.Common.{◌∙◌, arith}
use Rattle.search_picture.proofs.Steps.{rows-next, rows-past}
use Rattle.search_picture.proofs.requests.put_requests.Goals as goal

pub loop-request-preserved : goal.loop-request-preserved
loop-request-preserved c = record {
  shapes =
      rows-next c.loop-request.row c.request-item.result c.args.requests.now c.loop-request.request-index c.loop-request.out.items c.put_request.new.out.items
      c.loop-request-test.true c.request-item.is c.in_ok-put_request.ensures
      ∙ c.loop-request.invariant.shapes;
  row = omega (arith, c.loop-request.invariant.row);
}

pub returns : goal.returns
returns c = rows-past c.loop-request.row c.args.requests.now c.loop-request.request-index _ c.loop-request.out.items c.loop-request-test.false c.loop-request.invariant.shapes
