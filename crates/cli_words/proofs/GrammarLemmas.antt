-- The grammar is one that clap's definitions cover.
use Rattle.std.proofs.Common.{◌≡◌, true, refl}
use Rattle.clap.specs.Words.{is_simple, is_simple_and_free}
use Rattle.clap.proofs.OnLiterals.{clap_on_literals}
use Rattle.cli_words.specs.Options.{the_app}

pub the_app_simple : is_simple the_app ≡ true
unfolding the_app clap_on_literals
the_app_simple = refl

pub the_app_required : (the_app).top.subcommand_required ≡ true
unfolding the_app
the_app_required = refl

pub the_app_free : is_simple_and_free the_app ≡ true
unfolding the_app clap_on_literals
the_app_free = refl
