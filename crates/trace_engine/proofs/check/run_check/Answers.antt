use Rattle.trace_engine.proofs.Rewritten.{OnErr-weaker}
use Rattle.trace_engine.proofs.Ended.{part_clocked, part_plain}
use Rattle.trace_engine.proofs.check.run_check.Goals as goal

pub returns-then-is_clocked-clause-err : goal.returns-then-is_clocked-clause-err
returns-then-is_clocked-clause-err g c =
    OnErr-weaker c.run.result (λ h. part_clocked _ _ _ _ _ _ c.if-is_clocked.true c.new-checker.ensures h) c.run.ensures.err

pub returns-else-is_clocked-clause-err : goal.returns-else-is_clocked-clause-err
returns-else-is_clocked-clause-err g c =
    OnErr-weaker c.run-else-is_clocked.result (λ h. part_plain _ _ _ _ _ _ c.if-is_clocked.false c.new-checker.ensures h) c.run-else-is_clocked.ensures.err
