use Rattle.std.proofs.Common.{◌∙◌, ◌++◌}
use Rattle.line_loop.specs.Run.{IsBeginning, run_of}
use Rattle.line_loop.proofs.LineLemmas.{on_err, either, begins-part, begins-all}
use Rattle.line_loop.proofs.engine.Engine.close.Goals as goal

pub returns-in_err-flush-clause-err : goal.returns-in_err-flush-clause-err
returns-in_err-flush-clause-err g c = on_err c.from_residual.result (
  c.in_err-flush.ensures.part.0,
  c.in_err-flush.ensures.part.2,
  λ start written read s.
      let r = g.P.Responder.responses in
      let pending = c.finish-ended.new.self.pending.items in
      let b : IsBeginning (written ++ pending) (run_of r start read).text = either c.finish-ended.result c.finish-ended.ensures.ok c.finish-ended.ensures.err
      (λ ok. begins-all _ (written ++ pending) (ok start written read s).1)
      (λ err. err start written read s) in
      begins-part written c.in_err-flush.ensures.part.0 pending _ c.in_err-flush.ensures.part.1 b,
)

pub returns-clause-ok : goal.returns-clause-ok
returns-clause-ok g c = (
  c.finish-ended.new.self.pending.items,
  c.in_ok-flush.ensures.text,
  λ start written read s.
      let h = c.in_ok-ended.ensures.ok start written read s in
      (c.flush.ensures.status ∙ h.0, h.1),
)
