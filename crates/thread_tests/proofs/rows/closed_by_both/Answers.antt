use Rattle.std.proofs.Common.{◌≡◌, [], ◌∷◌, sym, subst, rules}
use Rattle.hall_core.specs.Views.{AreSeatsOf}
use Rattle.thread_tests.proofs.Both.{one_fits}
use Rattle.thread_tests.proofs.rows.closed_by_both.Goals as goal

pub close_all-requires-clause-seats : goal.close_all-requires-clause-seats
close_all-requires-clause-seats c =
    let requesters : c.in_ok-requesters.requesters.items ≡ c.args.seat ∷ [] = search rules in
    let work : c.in_ok-work.work.items ≡ c.args.worker ∷ [] = search rules in (
      subst (AreSeatsOf c.args.hall) (sym requesters) (one_fits c.args.hall c.args.seat c.requires.seats.0),
      subst (AreSeatsOf c.args.hall) (sym work) (one_fits c.args.hall c.args.worker c.requires.seats.1),
    )
