use Rattle.std.proofs.Common.{refl, subst}
use Rattle.search_history.specs.Runs.{IsVerdictOf}
use Rattle.search_history.proofs.Runs.{seen_same}
use Rattle.search_history.proofs.searching.answered.Goals as goal
use Rattle.trace_store.specs.Changes.{seen_by}

pub returns-in-None-clause-alike : goal.returns-in-None-clause-alike
returns-in-None-clause-alike c = seen_same (seen_by c.args.store.now) (seen_by c.args.store.now) refl

pub returns-in-Limit-clause-alike : goal.returns-in-Limit-clause-alike
returns-in-Limit-clause-alike c = seen_same (seen_by c.args.store.now) (seen_by c.args.store.now) refl

pub returns-in-Limit-clause-stops : goal.returns-in-Limit-clause-stops
returns-in-Limit-clause-stops c = subst (IsVerdictOf (seen_by c.args.store.now)) c.in-Limit.is c.requires.run
