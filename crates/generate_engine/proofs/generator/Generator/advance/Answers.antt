use Rattle.std.proofs.Common.{◌+◌, ◌++◌, subst, sym, arith}
use Rattle.fabric_steps.specs.Fabric.{Fabric}
use Rattle.generate_engine.specs.Choice.{ChooserView}
use Rattle.generate_engine.specs.Script.{IsUnderWay, BeginsScript}
use Rattle.generate_engine.proofs.Scripts.{begins-all, begins-part, on_err, either}
use Rattle.generate_engine.proofs.generator.Generator.advance.Goals as goal

pub returns-in_err-flush-clause-err : goal.returns-in_err-flush-clause-err
returns-in_err-flush-clause-err g c = on_err c.from_residual.result (
  c.in_err-flush.ensures.part.0,
  c.in_err-flush.ensures.part.2,
  λ storm n written u.
      let new = c.fill-filled.new.self in
      let all : BeginsScript storm (n + c.args.count) (written ++ new.pending.items) = either c.fill-filled.result c.fill-filled.ensures.ok c.fill-filled.ensures.err
      (λ ok. begins-all storm (n + c.args.count) (n + c.args.count) (written ++ new.pending.items) new.fabric new.chooser (omega arith) (ok storm n written u))
      (λ err. err storm n written u) in
      begins-part storm (n + c.args.count) written c.in_err-flush.ensures.part.0 new.pending.items c.in_err-flush.ensures.part.1 all,
)

pub returns-in_err-filled-clause-err : goal.returns-in_err-filled-clause-err
returns-in_err-filled-clause-err g c = on_err c.from_residual-in_err-filled.result (c.fill-filled.new.self.pending.items, c.in_ok-flush.ensures.text, c.in_err-filled.ensures.err)

pub returns-clause-ok : goal.returns-clause-ok
returns-clause-ok g c =
    let filled = c.fill-filled.new.self in
    let left = c.flush.new.self in (
      filled.pending.items,
      c.in_ok-flush.ensures.text,
      λ storm n written u.
          subst (λ (f : Fabric). IsUnderWay storm (n + c.args.count) (written ++ filled.pending.items) f left.chooser) (sym c.flush.ensures.fabric)
          (subst (λ (x : ChooserView). IsUnderWay storm (n + c.args.count) (written ++ filled.pending.items) filled.fabric x) (sym c.flush.ensures.chooser) (c.in_ok-filled.ensures.ok storm n written u)),
    )
