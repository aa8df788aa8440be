use Rattle.std.proofs.Common.{length, take, Option, ℕ, subst, sym}
use Rattle.std.specs.Prelude.{IfNone, IfSome}
use Rattle.log_events.specs.Formed.{MisformedAt}
use Rattle.log_runs.specs.Explainable.{prefix}
use Rattle.log_runs.specs.Tasks.{AreAllEvents, IsWellFormed}
use Rattle.search_history.specs.Prepared.{IsLogOf, IsWholeLog}
use Rattle.search_history.specs.Runs.{IsVerdictOf}
use Rattle.search_history.proofs.Runs.{whole}
use Rattle.search_history.proofs.searching.searched.Goals as goal

pub returns-in_ok-found-in-None-clause-run : goal.returns-in_ok-found-in-None-clause-run
returns-in_ok-found-in-None-clause-run g c =
    let t = c.args.seen.now in
    let log = c.in_ok-log.field-0.log in
    let found = c.in_ok-found-in-None.found.0 in
    let all : IsWholeLog t log = subst (λ (o : Option ℕ). IfNone o (IsWholeLog t log)) c.in-None.is c.in_ok-log.ensures.right in
    whole t found
    (subst (λ (n : ℕ). IsVerdictOf (prefix n t) found) c.len.ensures
    (c.in_ok-found-in-None.ensures.run (subst (λ (n : ℕ). AreAllEvents (take n t.records) log.events) (sym c.len.ensures) all.all)
    (subst (λ (n : ℕ). IsWellFormed (take n t.records)) (sym c.len.ensures) all.formed)))

pub returns-in_ok-found-in-None-clause-saw : goal.returns-in_ok-found-in-None-clause-saw
returns-in_ok-found-in-None-clause-saw g c =
    let t = c.args.seen.now in
    let log = c.in_ok-log.field-0.log in
    let all : IsWholeLog t log = subst (λ (o : Option ℕ). IfNone o (IsWholeLog t log)) c.in-None.is c.in_ok-log.ensures.right in
    record { log = log; count = length t.records; of = all.of; saw = c.in_ok-found-in-None.ensures.saw }

pub returns-in_ok-found-in-Some-clause-saw : goal.returns-in_ok-found-in-Some-clause-saw
returns-in_ok-found-in-Some-clause-saw g c =
    let t = c.args.seen.now in
    let log = c.in_ok-log.field-0.log in
    let wrong = subst (λ (o : Option ℕ). IfSome o (λ a. MisformedAt t.records a × IsLogOf t a log)) c.in-Some.is c.in_ok-log.ensures.wrong in
    record { log = log; count = c.in-Some.count; of = wrong.1; saw = c.in_ok-found-in-Some.ensures.saw }
