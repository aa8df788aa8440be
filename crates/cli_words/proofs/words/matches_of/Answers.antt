use Rattle.std.proofs.Common.{ap, ◌≡◌, ◌∙◌, true, map, subst}
use Rattle.std.proofs.lemmas.Result.{IfOk-weaker, IfErr-weaker}
use Rattle.clap.specs.Words.{App, FailsBy, app_of, fault_of, is_simple, is_simple_and_free, subcommand_of, takes}
use Rattle.clap.specs.declared.builder.Command.TheViews.{out-Command}
use Rattle.cli_words.specs.Options.{the_app}
use Rattle.cli_words.proofs.GrammarLemmas.{the_app_simple, the_app_required, the_app_free}
use Rattle.cli_words.proofs.words.matches_of.Goals as goal

pub returns-clause-rows : goal.returns-clause-rows
returns-clause-rows g c =
    let parse = c.try_get_matches_from in
    let app_is : app_of c.in_ok-command.command ≡ the_app = c.in_ok-command.ensures.app in
    let words = map g.S.AsStr.text c.args.words.now in
    IfOk-weaker parse.result _ _ (λ m h. (h (ap is_simple app_is ∙ the_app_simple)).1 ∙ ap (λ (a : App). subcommand_of a words) app_is) parse.ensures.matches

pub returns-clause-err : goal.returns-clause-err
returns-clause-err g c =
    let parse = c.try_get_matches_from in
    let app_is : app_of c.in_ok-command.command ≡ the_app = c.in_ok-command.ensures.app in
    let words = map g.S.AsStr.text c.args.words.now in
    IfErr-weaker parse.result _ _ (λ e h. λ t. h (ap (λ (a : App). takes a words) app_is ∙ t)) parse.ensures.passes

pub returns-clause-there : goal.returns-clause-there
returns-clause-there g c =
    let parse = c.try_get_matches_from in
    let app_is : app_of c.in_ok-command.command ≡ the_app = c.in_ok-command.ensures.app in
    let required : (out-Command c.in_ok-command.command).subcommand_required ≡ true = ap (λ (a : App). a.top.subcommand_required) app_is ∙ the_app_required in
    IfOk-weaker parse.result _ _ (λ m p. (p.parsed (p.from.globals ∙ c.in_ok-command.ensures.globals)).checked.subcommand (p.from.needs_subcommand ∙ required)) parse.ensures.parsed

pub returns-clause-kinds : goal.returns-clause-kinds
returns-clause-kinds g c =
    let parse = c.try_get_matches_from in
    let app_is : app_of c.in_ok-command.command ≡ the_app = c.in_ok-command.ensures.app in
    let words = map g.S.AsStr.text c.args.words.now in
    subst (λ (a : App). FailsBy (fault_of a words) parse.result) app_is (parse.ensures.kinds (ap is_simple_and_free app_is ∙ the_app_free))
