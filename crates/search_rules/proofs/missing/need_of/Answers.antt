use Rattle.std.proofs.Common.{ap}
use Rattle.search_effects.specs.Effects.{told_of}
use Rattle.search_rules.proofs.ByteLemmas.{need_by}
use Rattle.search_rules.proofs.missing.need_of.Goals as goal

pub returns-in-Some-clause-value : goal.returns-in-Some-clause-value
returns-in-Some-clause-value c = need_by c.args.base c.args.op.now (told_of c.args.told) c.in-Some.reply.now (ap told_of c.in-Some.is) c.need_for.result c.need_for.ensures.value
