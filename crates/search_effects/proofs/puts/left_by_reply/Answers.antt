use Rattle.std.proofs.Common.{◌∙◌}
use Rattle.search_effects.proofs.puts.left_by_reply.Goals as goal

pub returns-in-Data : goal.returns-in-Data
returns-in-Data c = λ base at m l put served e. c.left_by_atomic.ensures base at m l served (e ∙ c.in-Data.is)
