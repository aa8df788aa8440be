use Rattle.std.proofs.Common.{◌∙◌, ap, sym, subst, take}
use Rattle.log_runs.specs.Tasks.{IsWellFormed}
use Rattle.search_history.proofs.Runs.{well_formed, formed_if}
use Rattle.search_history.proofs.shortest.is_explained.Goals as goal

pub is_explainable-requires-clause-formed : goal.is_explainable-requires-clause-formed
is_explainable-requires-clause-formed c =
    let lent = c.first.result in
    subst IsWellFormed (c.first.ensures ∙ ap (take c.args.count) c.records.ensures)
    (well_formed lent (formed_if c.in_ok-form.form.flaw lent (sym c.is_some.ensures ∙ c.if-is_some.false) c.in_ok-form.ensures.formed))
