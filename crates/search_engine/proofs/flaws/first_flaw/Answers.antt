use Rattle.std.proofs.Common.{IfOk, List, length, subst}
use Rattle.std.specs.Prelude.{IfNone}
use Rattle.history_words.specs.Records.{Record}
use Rattle.log_events.specs.Formed.{AreFormed}
use Rattle.search_engine.proofs.flaws.first_flaw.Goals as goal

pub returns-clause-formed : goal.returns-clause-formed
returns-clause-formed c = subst (λ (rs : List Record). IfOk c.flaw_among.result (λ o. IfNone o (AreFormed rs (length rs)))) c.records.ensures c.flaw_among.ensures.formed
