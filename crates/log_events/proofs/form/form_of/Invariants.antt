use Rattle.log_events.specs.Counts.{IsCounted}
use Rattle.log_events.specs.Joined.{AreJoined}
use Rattle.log_events.proofs.form.form_of.Given as goal

abbrev pub invariant-loop-at : goal.invariant-loop-at
invariant-loop-at l = IsCounted l.tables.counts l.tables.answered.items l.records l.at × AreJoined l.tables.partners l.records l.at
