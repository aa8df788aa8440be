use Rattle.std.proofs.Common.{◌∙◌, ap, subst, Option, IfOk, OnErr, option_map}
use Rattle.std.proofs.lemmas.Result.{IfErr-weaker}
use Rattle.clap.specs.Words.{Text}
use Rattle.flow_control.specs.declared.limits.LaneCredits.{LaneCredits}
use Rattle.cli_options.specs.declared.refused.RefusedValue.{RefusedValue}
use Rattle.cli_values.specs.Links.{WritesCredits}
use Rattle.cli_words.proofs.devices.credits_in.Goals as goal

pub returns-clause-ok : goal.returns-clause-ok
returns-clause-ok c = subst (λ (t : Option Text). IfOk c.credits_of.result (WritesCredits t)) c.given_in.ensures c.credits_of.ensures.ok

pub returns-clause-err : goal.returns-clause-err
returns-clause-err c = subst (λ (t : Option Text). OnErr c.credits_of.result ((l : LaneCredits) → WritesCredits t l → ⊥)) c.given_in.ensures c.credits_of.ensures.err

pub returns-clause-refused : goal.returns-clause-refused
returns-clause-refused c =
    IfErr-weaker c.credits_of.result _ _ (λ e h. (ap (λ (v : RefusedValue). v.option) h, ap (λ (v : RefusedValue). option_map (λ t. t.now) v.given) h ∙ c.given_in.ensures)) c.credits_of.ensures.refused
