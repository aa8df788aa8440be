use Rattle.std.proofs.Common.{ap}
use Rattle.search_effects.specs.Effects.{told_of}
use Rattle.search_rules.proofs.answers.was_unanswerable.Goals as goal

pub returns-in-Some : goal.returns-in-Some
returns-in-Some c = λ yes m size agrees. c.is_unanswerable.ensures yes m size (agrees c.in-Some.reply.now (ap told_of c.in-Some.is))
