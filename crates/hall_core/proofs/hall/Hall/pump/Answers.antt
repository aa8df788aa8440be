use Rattle.std.proofs.Common.{rules, IfErr}
use Rattle.hall_events.specs.Works.{event_of}
use Rattle.hall_events.specs.Refusals.{IsRefused, IsPossibleInHall}
use Rattle.hall_core.proofs.Possible.{each_error}
use Rattle.hall_core.proofs.hall.Hall.pump.Goals as goal

pub returns-clause-possible : goal.returns-clause-possible
returns-clause-possible c =
    let why : IfErr c.pump.result (IsRefused c.args.seat.now.knows (event_of c.args.event)) = search rules in
    each_error c.pump.result (IsRefused c.args.seat.now.knows (event_of c.args.event)) IsPossibleInHall (c.each_refusal_is_possible.ensures c.args.seat.now.knows (event_of c.args.event)) why
