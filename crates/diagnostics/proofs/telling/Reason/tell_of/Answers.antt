use Rattle.std.proofs.Common.{◌≡◌, ◌∙◌, refl, subst}
use Rattle.std.specs.Io.KnownBytes.{Appends}
use Rattle.std.proofs.lemmas.Result.{on_ok_weaker, on_err_weaker}
use Rattle.line_loop.specs.Run.{IsBeginning}
use Rattle.diagnostics.specs.Told.{part_line}
use Rattle.diagnostics.proofs.telling.Reason.tell_of.Goals as goal

pub returns-clause-ok : goal.returns-clause-ok
returns-clause-ok g c =
    let whole : c.as_slice.result.now ≡ part_line c.args.part c.args.number c.said.result.now = c.as_slice.ensures.value ∙ c.line_of_part-line.ensures in
    on_ok_weaker c.write_out.result
    (λ w. (c.said.result.now, c.said.ensures.reason, subst (Appends (g.E.Write.contents c.args.errors.now) (g.E.Write.contents c.write_out.new.writer)) whole w))
    c.write_out.ensures.ok

pub returns-clause-part : goal.returns-clause-part
returns-clause-part g c =
    let whole : c.as_slice.result.now ≡ part_line c.args.part c.args.number c.said.result.now = c.as_slice.ensures.value ∙ c.line_of_part-line.ensures in
    on_err_weaker c.write_out.result
    (λ w. (c.said.result.now, c.said.ensures.reason, w.0, subst (IsBeginning w.0) whole w.1, w.2))
    c.write_out.ensures.part
