use Rattle.search_run.proofs.walk.dead_at.Goals as goal

pub returns-then-is_known : goal.returns-then-is_known
returns-then-is_known c = c.is_known.ensures c.args.log.now c.requires.at.known c.requires.at.place c.if-is_known.true
