use Rattle.std.proofs.Common.{◌∙◌, ap, sym, subst, take}
use Rattle.log_runs.specs.Tasks.{IsWellFormed}
use Rattle.search_history.proofs.Runs.{well_formed, formed_if}
use Rattle.search_history.proofs.shortest.explained_before.Goals as goal

pub run_of-requires-clause-formed : goal.run_of-requires-clause-formed
run_of-requires-clause-formed c =
    let lent = c.first.result in
    subst IsWellFormed (c.first.ensures ∙ ap (take c.in-Some.count) c.records.ensures)
    (well_formed lent (formed_if c.in_ok-form.form.flaw lent (sym c.is_some.ensures ∙ c.if-is_some.false) c.in_ok-form.ensures.formed))
