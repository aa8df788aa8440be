use Rattle.std.proofs.Common.{◌∙◌, refl, sym, ap, subst, codes, inl, inr, Option}
use Rattle.std.proofs.lemmas.Option.{IfSome_then}
use Rattle.clap.specs.Words.{first_of, found_of, rows_of, Text}
use Rattle.clap.proofs.WalkLemmas.{first_value-rows}
use Rattle.cli_options.specs.Values.{WritesFlag, name_of}
use Rattle.cli_options.specs.declared.options.ValueOption.{ValueOption}
use Rattle.cli_words.proofs.RequestsAsked.{block_among}
use Rattle.cli_words.proofs.SeedLemmas.{seeds_ordered}
use Rattle.cli_words.proofs.words.sweep_of.Goals as goal

pub returns-clause-ok : goal.returns-clause-ok
returns-clause-ok c =
    let seeds = c.in_ok-seeds.ensures.ok in
    let events = c.in_ok-events.ensures.ok in
    let requesters = c.in_ok-requesters.ensures.ok in
    let lose = c.in_ok-lose.ensures.ok in
    let corrupt = c.in_ok-corrupt.ensures.ok in
    let block = c.in-Ok.ensures.ok in
    let workers = c.in-Ok-optional_in.ensures.ok in (
      refl,
      record {
        seeds_read = seeds;
        events_read = events.0;
        requesters_read = requesters.0;
        lose_read = lose.0;
        corrupt_read = corrupt.0;
        block_read = block.0;
        workers_read = workers.0;
        ordered = seeds_ordered _ c.in_ok-seeds.seeds seeds;
        right = record {
          events = events.1.most;
          requesters = (requesters.1.least, requesters.1.most);
          lose = lose.1.most;
          corrupt = corrupt.1.most;
          block = block_among _ block.1;
        };
        workers_right = IfSome_then c.in-Ok-optional_in.workers workers.1 (λ n a. (a.least, a.most));
      },
      subst (λ (t : Option Text). WritesFlag t c.is_set.result) (c.get_str.ensures ∙ first_value-rows (found_of c.args.sweep.now) (codes "clocked")) c.is_set.ensures,
      subst (λ (t : Option Text). WritesFlag t c.is_set-2.result) (c.get_str-2.ensures ∙ first_value-rows (found_of c.args.sweep.now) (codes "keep-going")) c.is_set-2.ensures,
    )

pub returns-in-Err-clause-err : goal.returns-in-Err-clause-err
returns-in-Err-clause-err c =
    let refused = c.in-Err.ensures.refused in (
      refused.1 ∙ ap (λ (o : ValueOption). first_of (name_of o) (rows_of (found_of c.args.sweep.now))) (sym refused.0),
      inr (inr (inr (inr (inr (inr (inr (
        refl,
        inr (inl (
          (c.in_ok-seeds.seeds, c.in_ok-seeds.ensures.ok),
          inr (
            (c.in_ok-events.events, c.in_ok-events.ensures.ok),
            inr (
              (c.in_ok-requesters.requesters, c.in_ok-requesters.ensures.ok),
              inr (
                (c.in_ok-lose.lose, c.in_ok-lose.ensures.ok),
                inr ((c.in_ok-corrupt.corrupt, c.in_ok-corrupt.ensures.ok), inl (refused.0, c.in-Err.ensures.err)),
              ),
            ),
          ),
        )),
      ))))))),
    )

pub returns-in-Err-optional_in-clause-err : goal.returns-in-Err-optional_in-clause-err
returns-in-Err-optional_in-clause-err c =
    let refused = c.in-Err-optional_in.ensures.refused in (
      refused.1 ∙ ap (λ (o : ValueOption). first_of (name_of o) (rows_of (found_of c.args.sweep.now))) (sym refused.0),
      inr (inr (inr (inr (inr (inr (inr (
        refl,
        inr (inr (
          refused.0,
          (c.in_ok-seeds.seeds, c.in_ok-seeds.ensures.ok),
          (
            (c.in_ok-events.events, c.in_ok-events.ensures.ok),
            (
              (c.in_ok-requesters.requesters, c.in_ok-requesters.ensures.ok),
              (
                (c.in_ok-lose.lose, c.in_ok-lose.ensures.ok),
                ((c.in_ok-corrupt.corrupt, c.in_ok-corrupt.ensures.ok), ((c.in-Ok.block, c.in-Ok.ensures.ok), tt)),
              ),
            ),
          ),
          c.in-Err-optional_in.ensures.err,
        )),
      ))))))),
    )
