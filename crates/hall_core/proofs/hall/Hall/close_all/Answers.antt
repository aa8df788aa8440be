use Rattle.std.proofs.Common.{rules, List, ◌++◌, ◌∙◌, subst}
use Rattle.fabric_steps.specs.Fabric.{Fabric}
use Rattle.hall_laws.specs.declared.token.Token.{Token}
use Rattle.hall_core.specs.Opens.{AllRan}
use Rattle.hall_core.specs.Views.{SeatView}
use Rattle.hall_core.proofs.Joined.{at_table, first_fits, all_ran, all_leave, each_ok}
use Rattle.hall_core.proofs.hall.Hall.close_all.Goals as goal

pub all_at_once-place-requires-clause-seats : goal.all_at_once-place-requires-clause-seats
all_at_once-place-requires-clause-seats c = (at_table c.args.self _ c.args.requesters.items (search rules) c.requires.seats.0, at_table c.args.self _ c.args.work.items (search rules) c.requires.seats.1)

pub close-requires-clause-table : goal.close-requires-clause-table
close-requires-clause-table c =
    let f = first_fits c.args.self c.args.requesters.items c.args.work.items c.all_at_once-place.result.me.0 c.requires.some c.requires.seats.0 c.all_at_once-place.ensures.tokens in
    (search rules, c.all_at_once-place.ensures.table, f.0, f.1 ∙ (search rules))

pub returns-clause-ran : goal.returns-clause-ran
returns-clause-ran c =
    let requesters : List SeatView = c.args.requesters.items in let work : List SeatView = c.args.work.items in
    each_ok c.close.result (λ (f : Fabric) h. all_ran c.args.self requesters work f c.requires.some c.requires.seats.0 c.requires.seats.1 c.requires.all (subst (λ (l : List Token). AllRan l f) c.all_at_once-place.ensures.tokens h)) c.close.ensures.all

pub returns-clause-closed : goal.returns-clause-closed
returns-clause-closed c =
    each_ok c.close.result (λ (f : Fabric) h. all_leave (c.args.requesters.items ++ c.args.work.items) f (subst (λ (l : List Token). AllRan l f) c.all_at_once-place.ensures.tokens h)) c.close.ensures.all
