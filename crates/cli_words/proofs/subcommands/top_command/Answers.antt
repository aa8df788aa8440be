use Rattle.std.proofs.Common.{ap, codes, true, ◌≡◌, ◌∙◌}
use Rattle.std.proofs.lemmas.Result.{IfOk-weaker}
use Rattle.clap.specs.Words.{App, app_of, new_app}
use Rattle.clap.specs.Simple.{app_of_fields}
use Rattle.cli_words.specs.Options.{top_app}
use Rattle.cli_words.proofs.subcommands.top_command.Goals as goal

pub returns-clause-app : goal.returns-clause-app
returns-clause-app c =
    let about_is : app_of c.about.result ≡ new_app (codes "pciex") = ap app_of_fields c.about.ensures ∙ c.new.ensures.app in
    let after_is : app_of c.after_help.result ≡ new_app (codes "pciex") = ap app_of_fields c.after_help.ensures ∙ about_is in
    let version_is : app_of c.version.result ≡ record (new_app (codes "pciex")) { top = record ((new_app (codes "pciex")).top) { has_version = true } } =
    ap app_of_fields c.version.ensures ∙ ap (λ (a : App). record a { top = record (a.top) { has_version = true } }) after_is in
    let required_is : app_of c.subcommand_required-command.result ≡ top_app =
    ap app_of_fields c.subcommand_required-command.ensures ∙ ap (λ (a : App). record a { top = record (a.top) { subcommand_required = true } }) version_is in
    IfOk-weaker c.bin_name.result _ _ (λ named h. ap app_of_fields h.0 ∙ required_is) c.bin_name.ensures
