use Rattle.std.proofs.Common.{◌∙◌, ap, subst, codes, Option, IfOk, OnErr, option_map}
use Rattle.std.proofs.lemmas.Result.{IfErr-weaker}
use Rattle.clap.specs.Words.{found_of, Text}
use Rattle.clap.proofs.WalkLemmas.{first_value-rows}
use Rattle.fabric_steps.specs.declared.event.LaneName.{LaneName}
use Rattle.cli_options.specs.declared.refused.RefusedValue.{RefusedValue}
use Rattle.cli_values.specs.Lanes.{WritesLane}
use Rattle.cli_words.proofs.reading.lane_in.Goals as goal

pub returns-clause-ok : goal.returns-clause-ok
returns-clause-ok c =
    subst (λ (t : Option Text). IfOk c.lane_of.result (WritesLane t)) (c.get_str.ensures ∙ first_value-rows (found_of c.args.values.now) (codes "lane")) c.lane_of.ensures.ok

pub returns-clause-err : goal.returns-clause-err
returns-clause-err c =
    subst (λ (t : Option Text). OnErr c.lane_of.result ((l : Option LaneName) → WritesLane t l → ⊥)) (c.get_str.ensures ∙ first_value-rows (found_of c.args.values.now) (codes "lane")) c.lane_of.ensures.err

pub returns-clause-refused : goal.returns-clause-refused
returns-clause-refused c =
    let text_is = c.get_str.ensures ∙ first_value-rows (found_of c.args.values.now) (codes "lane") in
    IfErr-weaker c.lane_of.result _ _ (λ e h. (ap (λ (v : RefusedValue). v.option) h, ap (λ (v : RefusedValue). option_map (λ t. t.now) v.given) h ∙ text_is)) c.lane_of.ensures.refused
