use Rattle.hall_core.specs.Views.{IsSeatOf}
use Rattle.thread_tests.proofs.carrying.all_happen.Given as goal

abbrev pub invariant-loop-event : goal.invariant-loop-event
invariant-loop-event l = IsSeatOf l.hall l.worker
