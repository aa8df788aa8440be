use Rattle.std.proofs.Common.{length, take, Option, ℕ, subst, sym}
use Rattle.std.specs.Prelude.{IfNone}
use Rattle.log_events.specs.Formed.{AreFormed}
use Rattle.log_events.specs.Joined.{ArePartners}
use Rattle.log_runs.specs.Tasks.{AreAllEvents, IsWellFormed}
use Rattle.search_history.specs.Prepared.{IsLogOf}
use Rattle.search_history.proofs.Runs.{well_formed, of_all}
use Rattle.search_history.proofs.searching.prepared.Goals as goal

pub returns-clause-right : goal.returns-clause-right
returns-clause-right c =
    let lent = c.records.result in
    let t = c.args.seen.now in
    let log = c.in_ok-log-in-None.log in
    let places = c.in_ok-form.form.partners in
    let joined : ArePartners places lent = subst (λ (o : Option ℕ). IfNone o (ArePartners places lent)) c.in-None.is c.in_ok-form.ensures.joined in
    let formed : AreFormed lent (length lent) = subst (λ (o : Option ℕ). IfNone o (AreFormed lent (length lent))) c.in-None.is c.in_ok-form.ensures.formed in
    let partners = subst (λ (n : ℕ). ArePartners places (take n t.records)) (sym c.len.ensures) (of_all t.records (ArePartners places) (subst (ArePartners places) c.records.ensures joined)) in
    record {
      of = subst (λ (n : ℕ). IsLogOf t n log) c.len.ensures c.in_ok-log-in-None.ensures.log;
      formed = of_all t.records IsWellFormed (subst IsWellFormed c.records.ensures (well_formed lent formed));
      all = subst (λ (n : ℕ). AreAllEvents (take n t.records) log.events) c.len.ensures (c.in_ok-log-in-None.ensures.all partners);
    }
