use Rattle.std.proofs.Common.{sym, ◌∙◌}
use Rattle.log_text.proofs.SeenLemmas.{seen-log, else-ok, else-err, other-err}
use Rattle.log_text.proofs.reading.read_seen_with_cause.Goals as goal

pub returns-in-Ok-clause-ok : goal.returns-in-Ok-clause-ok
returns-in-Ok-clause-ok c = seen-log c.args.text.now c.in-Ok.log c.in-Ok.ensures.ok

pub returns-in-Err-clause-ok : goal.returns-in-Err-clause-ok
returns-in-Err-clause-ok c = else-ok c.args.text.now c.in-Err.misread.fault c.read_seen_trace.result (sym c.is_head.ensures ∙ c.if-is_head.true) c.in-Err.ensures.err c.read_seen_trace.ensures.ok

pub returns-in-Err-clause-err : goal.returns-in-Err-clause-err
returns-in-Err-clause-err c = else-err c.args.text.now c.in-Err.misread.fault c.read_seen_trace.result (sym c.is_head.ensures ∙ c.if-is_head.true) c.in-Err.ensures.err c.read_seen_trace.ensures.err

pub returns-in-Err-2-clause-err : goal.returns-in-Err-2-clause-err
returns-in-Err-2-clause-err c = other-err c.args.text.now c.in-Err.misread.fault (sym c.is_head.ensures ∙ c.if-is_head.false) c.in-Err.ensures.err
