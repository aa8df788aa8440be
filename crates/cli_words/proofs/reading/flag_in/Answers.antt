use Rattle.std.proofs.Common.{subst, Option}
use Rattle.clap.specs.Words.{Text}
use Rattle.cli_options.specs.Values.{WritesFlag}
use Rattle.cli_words.proofs.reading.flag_in.Goals as goal

pub returns : goal.returns
returns c = subst (λ (t : Option Text). WritesFlag t c.is_set.result) c.given_in.ensures c.is_set.ensures
