use Rattle.std.proofs.Common.{◌∙◌, refl, sym, ap, subst, codes, inl, inr, Option}
use Rattle.std.proofs.lemmas.Option.{IfSome_then}
use Rattle.clap.specs.Words.{first_of, found_of, rows_of, Text}
use Rattle.clap.proofs.WalkLemmas.{first_value-rows}
use Rattle.cli_options.specs.Values.{WritesFlag, name_of}
use Rattle.cli_options.specs.declared.options.ValueOption.{ValueOption}
use Rattle.cli_words.proofs.words.run_of.Goals as goal

pub returns-clause-ok : goal.returns-clause-ok
returns-clause-ok c =
    let requesters = c.in_ok-requesters.ensures.ok in
    let each = c.in_ok-each.ensures.ok in
    let lose = c.in_ok-lose.ensures.ok in
    let corrupt = c.in_ok-corrupt.ensures.ok in
    let turns = c.in_ok-turns.ensures.ok in
    let workers = c.in-Ok.ensures.ok in (
      refl,
      record {
        requesters_read = requesters.0;
        each_read = each.0;
        lose_read = lose.0;
        corrupt_read = corrupt.0;
        turns_read = turns.0;
        workers_read = workers.0;
        right = record {
          requesters = (requesters.1.least, requesters.1.most);
          each = each.1.most;
          lose = lose.1.most;
          corrupt = corrupt.1.most;
          turns = (turns.1.least, turns.1.most);
          workers = IfSome_then c.in-Ok.workers workers.1 (λ n a. (a.least, a.most));
        };
      },
      subst (λ (t : Option Text). WritesFlag t c.is_set.result) (c.get_str.ensures ∙ first_value-rows (found_of c.args.run.now) (codes "progress")) c.is_set.ensures,
    )

pub returns-in-Err-clause-err : goal.returns-in-Err-clause-err
returns-in-Err-clause-err c =
    let refused = c.in-Err.ensures.refused in (
      refused.1 ∙ ap (λ (o : ValueOption). first_of (name_of o) (rows_of (found_of c.args.run.now))) (sym refused.0),
      inr (inr (inr (inl (
        refl,
        inr (
          refused.0,
          (
            (c.in_ok-requesters.requesters, c.in_ok-requesters.ensures.ok),
            (
              (c.in_ok-each.each, c.in_ok-each.ensures.ok),
              (
                (c.in_ok-lose.lose, c.in_ok-lose.ensures.ok),
                ((c.in_ok-corrupt.corrupt, c.in_ok-corrupt.ensures.ok), ((c.in_ok-turns.turns, c.in_ok-turns.ensures.ok), tt)),
              ),
            ),
          ),
          c.in-Err.ensures.err,
        ),
      )))),
    )
