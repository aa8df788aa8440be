use Rattle.std.proofs.Common.{◌-◌, ◌∙◌, map, ap, sym, subst, vec_len, rules, arith}
use Rattle.std.proofs.lemmas.List.Elements.{All-take}
use Rattle.hall_core.specs.Views.{IsSeatOf}
use Rattle.workers.specs.Tasks.{kept_of}
use Rattle.workers.specs.Running.{AreWorkSeats}
use Rattle.workers.proofs.Starting.{last_seat, tasks_more}
use Rattle.workers.proofs.threads.tasks_of.Goals as goal

pub task_of-requires : goal.task_of-requires
task_of-requires g c =
    let was = c.loop-job.invariant in
    last_seat c.args.run.now.hall c.loop-job.seats.items c.pop.result c.unwrap-seat.result (vec_len c.loop-job.seats) was.0 (search rules) (omega (arith, was.1, c.requires.1, c.loop-job-test.true)) c.pop.ensures.value (search rules)

pub loop-job-preserved : goal.loop-job-preserved
loop-job-preserved g c = (
  subst (AreWorkSeats c.args.run.now.hall) (sym c.pop.ensures.rest) (All-take (IsSeatOf c.args.run.now.hall) (vec_len c.loop-job.seats - 1) c.loop-job.seats.items c.loop-job.invariant.0),
  search rules,
  ap (map kept_of) c.in_ok-push.ensures.items
      ∙ tasks_more c.args.run.now.hall c.args.jobs.now c.loop-job.job-index c.loop-job.tasks.items c.task_of.result c.loop-job.invariant.2 c.loop-job-test.true (search rules) c.task_of.ensures.1,
)
