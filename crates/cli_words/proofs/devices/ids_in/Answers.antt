use Rattle.std.proofs.Common.{ℕ, ◌∙◌, ap, subst, codes, Option, IfOk, OnErr, option_map}
use Rattle.std.proofs.lemmas.Result.{IfErr-weaker}
use Rattle.clap.specs.Words.{found_of, Text}
use Rattle.clap.proofs.WalkLemmas.{first_value-rows}
use Rattle.cli_options.specs.declared.refused.RefusedValue.{RefusedValue}
use Rattle.cli_values.specs.Endpoints.{WritesId}
use Rattle.cli_words.proofs.devices.ids_in.Goals as goal

pub returns-clause-ok : goal.returns-clause-ok
returns-clause-ok c =
    subst (λ (t : Option Text). IfOk c.ids_of.result (WritesId t)) (c.get_str.ensures ∙ first_value-rows (found_of c.args.values.now) (codes "id")) c.ids_of.ensures.ok

pub returns-clause-err : goal.returns-clause-err
returns-clause-err c =
    subst (λ (t : Option Text). OnErr c.ids_of.result ((n : ℕ × ℕ) → WritesId t n → ⊥)) (c.get_str.ensures ∙ first_value-rows (found_of c.args.values.now) (codes "id")) c.ids_of.ensures.err

pub returns-clause-refused : goal.returns-clause-refused
returns-clause-refused c =
    let text_is = c.get_str.ensures ∙ first_value-rows (found_of c.args.values.now) (codes "id") in
    IfErr-weaker c.ids_of.result _ _ (λ e h. (ap (λ (v : RefusedValue). v.option) h, ap (λ (v : RefusedValue). option_map (λ t. t.now) v.given) h ∙ text_is)) c.ids_of.ensures.refused
