use Rattle.std.proofs.Common.{◌∙◌, refl, subst, codes, Option}
use Rattle.clap.specs.Words.{found_of, Text}
use Rattle.clap.proofs.WalkLemmas.{first_value-rows}
use Rattle.cli_options.specs.Values.{WritesFlag}
use Rattle.cli_words.proofs.words.check_of.Goals as goal

pub returns : goal.returns
returns c = (refl, subst (λ (t : Option Text). WritesFlag t c.is_set.result) (c.get_str.ensures ∙ first_value-rows (found_of c.args.check.now) (codes "clocked")) c.is_set.ensures)
