use Rattle.std.proofs.Common.{◌+◌, ◌∙◌, ap, rules, arith}
use Rattle.workers.proofs.Beginning.{first_seats, work_seats}
use Rattle.workers.proofs.running.begun.Goals as goal

pub returns-clause-crew : goal.returns-clause-crew
returns-clause-crew c =
    let plan = c.in_ok-fabric.ensures.ok.0 in
    let new = c.in_ok-fabric.ensures.ok.1 in
    let has = c.in-Ok-new.ensures.config in
    let number = c.in-Ok-new.ensures.requesters.number in
    let count = has.requesters in
    let made = new.requesters.number in
    let same = plan.1 in
    let few = plan.0.requesters.1 in
    record {
      count = omega (arith, c.in-Ok-new.seats.ok.0);
      few = omega arith;
      requesters = omega arith;
      some = let least = plan.0.requesters.0 in omega arith;
      all = c.in-Ok-new.ensures.seats ∙ ap (λ n. c.in-Ok-new.hall.config.requesters + n) c.workers_of.ensures;
      seats = first_seats c.in-Ok-new.hall c.in-Ok-new.seats.items c.in-Ok-new.ensures.requesters;
      shares = c.in-Ok.ensures;
      others = omega (arith, c.in-Ok-new.workers.ok.0, c.in-Ok-new.ensures.work.number, c.workers_of.ensures);
      workers = work_seats c.in-Ok-new.hall _ _ c.in-Ok-new.workers.items c.in-Ok-new.ensures.work;
      queue = search rules;
      known = search rules;
      records = search rules;
    }
