use Rattle.std.proofs.Common.{◌∙◌, sym}
use Rattle.history_bars.proofs.Steps.{frame-by}
use Rattle.history_bars.proofs.rows.put_frame_of.Goals as goal

pub returns : goal.returns
returns c =
    frame-by c.args.width c.args.requester c.args.top c.height_of.result c.args.ends.now c.args.out.now.items c.put_frame.new.out.items
    (sym c.is_empty.ensures ∙ c.if-is_empty.false) c.height_of.ensures.height c.in_ok-put_frame.ensures
