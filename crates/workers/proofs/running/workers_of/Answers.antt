use Rattle.std.proofs.Common.{arith}
use Rattle.workers.proofs.Rows.{jobs_count}
use Rattle.workers.proofs.running.workers_of.Goals as goal

pub returns : goal.returns
returns c = let count = jobs_count c.args.requesters in omega (arith, c.from.ensures)
