use Rattle.std.proofs.Common.{◌∙◌, refl, sym, ap, inl, inr}
use Rattle.clap.specs.Words.{first_of, found_of, rows_of}
use Rattle.cli_options.specs.Values.{name_of}
use Rattle.cli_options.specs.declared.options.ValueOption.{ValueOption}
use Rattle.cli_words.proofs.words.generate_of.Goals as goal

pub returns-in-Err-clause-err : goal.returns-in-Err-clause-err
returns-in-Err-clause-err c =
    let refused = c.in-Err.ensures.refused in (
      refused.1 ∙ ap (λ (o : ValueOption). first_of (name_of o) (rows_of (found_of c.args.generate.now))) (sym refused.0),
      inr (inr (inl (
        refl,
        inr (
          (c.in_ok-seed.seed, c.in_ok-seed.ensures.ok),
          inr (
            (c.in_ok-events.events, c.in_ok-events.ensures.ok),
            inr (
              (c.in_ok-requesters.requesters, c.in_ok-requesters.ensures.ok),
              inr (
                (c.in_ok-lose.lose, c.in_ok-lose.ensures.ok),
                inr ((c.in_ok-corrupt.corrupt, c.in_ok-corrupt.ensures.ok), inl (refused.0, c.in-Err.ensures.err)),
              ),
            ),
          ),
        ),
      ))),
    )
