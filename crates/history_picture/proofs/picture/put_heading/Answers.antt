use Rattle.std.proofs.Common.{length}
use Rattle.history_bars.proofs.Steps.{both}
use Rattle.history_picture.specs.Legend.{legend}
use Rattle.history_picture.specs.Notes.{note_shapes}
use Rattle.history_picture.specs.Picture.{captions}
use Rattle.history_picture.proofs.picture.put_heading.Goals as goal

pub returns : goal.returns
returns c =
    let v = c.args.drawn.now.view.now in
    let rs = c.args.drawn.now.records.now in
    let h = c.args.drawn.now.history.now in
    let f = c.args.drawn.now.finding in
    let last = c.put_legend.new.out.items in
    both c.args.out.now.items c.put_captions.new.out.items last (captions v (length h) f) _ c.in_ok-put_captions.ensures
    (both c.put_captions.new.out.items c.put_note.new.out.items last (note_shapes v rs f) (legend c.args.signs) c.in_ok-put_note.ensures c.in_ok-put_legend.ensures)
