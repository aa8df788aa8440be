use Rattle.history_bars.specs.Bars.{white_shapes, said_shapes}
use Rattle.history_bars.proofs.Steps.{both}
use Rattle.history_bars.proofs.requests.put_texts.Goals as goal

pub returns : goal.returns
returns c =
    both c.args.out.now.items c.put_white.new.out.items c.put_said.new.out.items (white_shapes c.args.texts.now c.args.bar c.args.top) (said_shapes c.args.texts.now c.args.bar c.args.top)
    c.in_ok-put_white.ensures c.in_ok-put_said.ensures
