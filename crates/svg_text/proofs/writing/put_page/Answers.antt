use Rattle.std.proofs.Common.{refl}
use Rattle.svg_text.proofs.ShapeLemmas.{page-after}
use Rattle.svg_text.proofs.writing.put_page.Goals as goal

pub returns-clause-ok : goal.returns-clause-ok
returns-clause-ok c = λ ss is.
    rw (
      c.in_ok-put_both.ensures.ok,
      c.as_slice-2.ensures.value,
      c.as_slice.ensures.value,
      c.in_ok-extend_from_slice.ensures.items,
      c.in_ok-put_background.ensures,
      c.in_ok-put_opening.ensures,
      c.new-head.ensures.items,
    ) (page-after c.args.width c.args.height ss c.args.out.now.items _ _ _ refl refl is)
