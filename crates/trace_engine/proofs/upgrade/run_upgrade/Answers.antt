use Rattle.std.proofs.lemmas.Result.{IfOk-weaker}
use Rattle.trace_engine.proofs.Rewritten.{whole, part, OnErr-weaker}
use Rattle.trace_engine.proofs.upgrade.run_upgrade.Goals as goal

pub returns-clause-ok : goal.returns-clause-ok
returns-clause-ok g c =
    IfOk-weaker c.run.result _ _ (λ exit h. whole c.a_rewriting_is_a_reading.ensures c.new-upgrader.result c.new-upgrader.ensures h) c.run.ensures.ok

pub returns-clause-err : goal.returns-clause-err
returns-clause-err g c =
    OnErr-weaker c.run.result (λ h. part c.a_rewriting_is_a_reading.ensures c.new-upgrader.result c.new-upgrader.ensures h) c.run.ensures.err
