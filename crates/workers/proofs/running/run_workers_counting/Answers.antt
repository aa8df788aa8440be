use Rattle.workers.proofs.running.run_workers_counting.Goals as goal

pub returns-clause-ran : goal.returns-clause-ran
returns-clause-ran g c = c.ended.ensures.ran c.args.plan c.in_ok-run.ensures.begun

pub returns-clause-done : goal.returns-clause-done
returns-clause-done g c = c.ended.ensures.done c.args.plan c.in_ok-run.ensures.begun

pub returns-clause-memory : goal.returns-clause-memory
returns-clause-memory g c = c.ended.ensures.memory c.args.plan c.in_ok-run.ensures.begun

pub returns-clause-config : goal.returns-clause-config
returns-clause-config g c = c.ended.ensures.config c.args.plan c.in_ok-run.ensures.begun

pub returns-clause-halt : goal.returns-clause-halt
returns-clause-halt g c = c.ended.ensures.halt c.args.plan c.in_ok-run.ensures.begun
