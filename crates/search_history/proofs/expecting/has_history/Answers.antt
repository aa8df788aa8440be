use Rattle.std.proofs.Common.{◌∙◌, ℕ, subst, sym, take}
use Rattle.log_runs.specs.Tasks.{IsWellFormed}
use Rattle.search_history.proofs.Runs.{well_formed, formed_if, of_all}
use Rattle.search_history.proofs.expecting.has_history.Goals as goal

pub is_explainable-requires-clause-formed : goal.is_explainable-requires-clause-formed
is_explainable-requires-clause-formed c =
    let rs = c.args.seen.now.records in
    let lent = c.records.result in
    let formed : IsWellFormed lent = well_formed lent (formed_if c.in_ok-form.form.flaw lent (sym c.is_some.ensures ∙ c.if-is_some.false) c.in_ok-form.ensures.formed) in
    subst (λ (k : ℕ). IsWellFormed (take k rs)) (sym c.len.ensures) (of_all rs IsWellFormed (subst IsWellFormed c.records.ensures formed))
