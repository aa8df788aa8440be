use Rattle.std.proofs.Common.{ap}
use Rattle.search_effects.specs.Effects.{told_of}
use Rattle.search_effects.proofs.puts.left.Goals as goal

pub returns-in-Some : goal.returns-in-Some
returns-in-Some c = λ base at m l put served agrees. c.left_by_reply.ensures base at m l put served (agrees c.in-Some.reply.now (ap told_of c.in-Some.is))

pub returns-in-None : goal.returns-in-None
returns-in-None c = λ base at m l put served agrees. c.left_by_write.ensures base at m l put served
