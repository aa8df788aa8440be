use Rattle.std.proofs.Common.{◌∙◌, ℕ, ap, subst, Option, IfOk, OnErr, option_map}
use Rattle.std.proofs.lemmas.Result.{IfErr-weaker}
use Rattle.clap.specs.Words.{found_of, rows_of, first_of, Text}
use Rattle.clap.proofs.WalkLemmas.{first_value-rows}
use Rattle.cli_options.specs.declared.refused.RefusedValue.{RefusedValue}
use Rattle.cli_options.specs.Values.{Gives}
use Rattle.cli_words.proofs.reading.number_in.Goals as goal

pub returns-clause-ok : goal.returns-clause-ok
returns-clause-ok c =
    let found = found_of c.args.values.now in
    let text_is = c.get_str.ensures ∙ first_value-rows found _ ∙ ap (λ (name : Text). first_of name (rows_of found)) c.name.ensures in
    subst (λ (t : Option Text). IfOk c.number_of.result (Gives c.args.option c.args.default t)) text_is c.number_of.ensures.ok

pub returns-clause-err : goal.returns-clause-err
returns-clause-err c =
    let found = found_of c.args.values.now in
    let text_is = c.get_str.ensures ∙ first_value-rows found _ ∙ ap (λ (name : Text). first_of name (rows_of found)) c.name.ensures in
    subst (λ (t : Option Text). OnErr c.number_of.result ((n : ℕ) → Gives c.args.option c.args.default t n → ⊥)) text_is c.number_of.ensures.err

pub returns-clause-refused : goal.returns-clause-refused
returns-clause-refused c =
    let found = found_of c.args.values.now in
    let text_is = c.get_str.ensures ∙ first_value-rows found _ ∙ ap (λ (name : Text). first_of name (rows_of found)) c.name.ensures in
    IfErr-weaker c.number_of.result _ _ (λ e h. (ap (λ (v : RefusedValue). v.option) h, ap (λ (v : RefusedValue). option_map (λ t. t.now) v.given) h ∙ text_is)) c.number_of.ensures.refused
