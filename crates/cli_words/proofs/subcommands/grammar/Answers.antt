use Rattle.std.specs.Prelude.{fold}
use Rattle.std.proofs.Common.{ap, ◌∙◌}
use Rattle.std.proofs.lemmas.Result.{IfOk-weaker}
use Rattle.clap.specs.Words.{App}
use Rattle.cli_words.specs.Options.{the_app, subcommands, and_subcommand}
use Rattle.cli_words.proofs.subcommands.grammar.Goals as goal

pub returns-clause-app : goal.returns-clause-app
unfolding the_app
returns-clause-app c =
    IfOk-weaker c.with_subcommands.result _ _ (λ new h. h ∙ ap (λ (a : App). fold and_subcommand a subcommands) c.in_ok-top_command.ensures.app) c.with_subcommands.ensures.app
