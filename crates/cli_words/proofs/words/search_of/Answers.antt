use Rattle.std.proofs.Common.{◌∙◌, refl, subst, codes, inl, inr, Option}
use Rattle.clap.specs.Words.{found_of, Text}
use Rattle.clap.proofs.WalkLemmas.{first_value-rows}
use Rattle.cli_options.specs.Values.{WritesFlag}
use Rattle.cli_words.proofs.words.search_of.Goals as goal

pub returns-clause-ok : goal.returns-clause-ok
returns-clause-ok c =
    let limit = c.in_ok-limit.ensures.ok in
    let work = c.in_ok-work.ensures.ok in (
      refl,
      record {
        limit_read = limit.0;
        least = limit.1.least;
        most = limit.1.most;
        work_read = work.0;
        some_work = work.1.least;
        most_work = work.1.most;
        granularity_read = c.in_ok-granularity.ensures.ok;
      },
      c.in_ok-output.ensures.ok,
      subst (λ (t : Option Text). WritesFlag t c.is_set.result) (c.get_str.ensures ∙ first_value-rows (found_of c.args.search.now) (codes "progress")) c.is_set.ensures,
    )
