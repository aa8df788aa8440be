use Rattle.std.proofs.Common.{ap}
use Rattle.search_effects.specs.Effects.{told_of}
use Rattle.search_effects.proofs.waiting.waits.Goals as goal

pub returns-in-Some : goal.returns-in-Some
returns-in-Some c = λ yes block n same agrees. c.waits_for.ensures yes block n same (agrees c.in-Some.reply.now (ap told_of c.in-Some.is))
