use Rattle.search_forced.proofs.RuleLemmas.{pass_is_forced}
use Rattle.search_forced.proofs.rules.forced.Goals as goal

pub returns-then-may_pass : goal.returns-then-may_pass
returns-then-may_pass c = pass_is_forced c.args.log.now c.args.place.now.state (c.may_pass.ensures.0 c.if-may_pass.true)
