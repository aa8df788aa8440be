use Rattle.std.proofs.Common.{◌∙◌, ap, refl, arith}
use Rattle.history_bars.specs.declared.signs.Signs.{Signs}
use Rattle.history_bars.specs.Signs.{signs_of, joined}
use Rattle.history_bars.proofs.Occurring.{none-joined}
use Rattle.history_picture.specs.Picture.{entries}
use Rattle.history_picture.proofs.Steps.{entries-next, entries-signs-next, entries-signs-past}
use Rattle.history_picture.proofs.entries.put_entries.Goals as goal

pub loop-entry-init : goal.loop-entry-init
loop-entry-init c = record {
  shapes = refl;
  signs =
      ap (λ (s : Signs). joined s (signs_of (entries c.args.view.now c.args.bottom 0 c.args.shown.now))) c.none-signs.ensures
      ∙ none-joined (signs_of (entries c.args.view.now c.args.bottom 0 c.args.shown.now));
  offset = refl;
}

pub loop-entry-preserved : goal.loop-entry-preserved
loop-entry-preserved c = record {
  shapes =
      entries-next c.args.view.now c.args.bottom c.loop-entry.offset c.args.shown.now c.loop-entry.entry-index c.entry-item.result
      c.loop-entry.out.items c.put_tick.new.out.items c.put_entry.new.out.items
      c.loop-entry-test.true c.entry-item.is c.in_ok-put_tick.ensures c.in_ok-put_entry.ensures
      ∙ c.loop-entry.invariant.shapes;
  signs =
      entries-signs-next c.args.view.now c.args.bottom c.loop-entry.offset c.args.shown.now c.loop-entry.entry-index c.entry-item.result
      c.loop-entry.signs c.with_entry-signs.result c.loop-entry-test.true c.entry-item.is c.with_entry-signs.ensures
      ∙ c.loop-entry.invariant.signs;
  offset = omega (arith, c.loop-entry.invariant.offset);
}

pub returns-clause-signs : goal.returns-clause-signs
returns-clause-signs c =
    entries-signs-past c.args.view.now c.args.bottom c.loop-entry.offset c.args.shown.now c.loop-entry.entry-index c.loop-entry.signs c.loop-entry-test.false
    ∙ c.loop-entry.invariant.signs
