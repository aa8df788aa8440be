use Rattle.std.proofs.Common.{◌∙◌, refl, subst, codes, Option}
use Rattle.clap.specs.Words.{found_of, Text}
use Rattle.clap.proofs.WalkLemmas.{first_value-rows}
use Rattle.cli_options.specs.Values.{WritesFlag}
use Rattle.cli_words.proofs.words.step_of.Goals as goal

pub returns : goal.returns
returns c =
    let found = found_of c.args.step.now in (
      refl,
      record {
        trace_read = subst (λ (t : Option Text). WritesFlag t c.is_set.result) (c.get_str.ensures ∙ first_value-rows found (codes "trace")) c.is_set.ensures;
        keep_going_read = subst (λ (t : Option Text). WritesFlag t c.is_set-2.result) (c.get_str-2.ensures ∙ first_value-rows found (codes "keep-going")) c.is_set-2.ensures;
        echo_read = subst (λ (t : Option Text). WritesFlag t c.is_set-3.result) (c.get_str-3.ensures ∙ first_value-rows found (codes "echo")) c.is_set-3.ensures;
      },
    )
