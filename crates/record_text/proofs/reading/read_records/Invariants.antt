use Rattle.std.proofs.Common.{length}
use Rattle.record_text.proofs.LineLemmas.{Stands}
use Rattle.record_text.proofs.reading.read_records.Given as goal

abbrev pub invariant-loop-end : goal.invariant-loop-end
invariant-loop-end g l = Stands g.F.Form.grammar l.fn.form l.text l.reader l.rest

abbrev pub decreases-loop-end : goal.decreases-loop-end
decreases-loop-end g l = length l.rest
