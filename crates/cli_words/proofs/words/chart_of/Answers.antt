use Rattle.std.proofs.Common.{◌≡◌, ◌∙◌, arith, refl, subst, codes, inl, inr, Option}
use Rattle.clap.specs.Words.{found_of, Text}
use Rattle.clap.proofs.WalkLemmas.{first_value-rows}
use Rattle.cli_options.specs.Values.{WritesFlag}
use Rattle.cli_words.proofs.RequestsAsked.{same_number}
use Rattle.cli_words.proofs.words.chart_of.Goals as goal

pub returns-then-to-from-clause-err : goal.returns-then-to-from-clause-err
returns-then-to-from-clause-err c =
    let from = c.in_ok-from.from in
    let to = c.in_ok-to.to in
    let given = c.get_str.ensures ∙ first_value-rows (found_of c.args.chart.now) (codes "to") in (
      given,
      inr (inr (inr (inr (inl (
        refl,
        inr (inr (
          refl,
          (c.in_ok-lane.lane, c.in_ok-lane.ensures.ok),
          ((from, c.in_ok-from.ensures.ok), ((to, c.in_ok-to.ensures.ok), tt)),
          λ p q gives_p gives_q ordered.
              let same_from : p ≡ from = same_number 1 _ p from gives_p.0 c.in_ok-from.ensures.ok.0 in
              let same_to : q ≡ to = same_number 18446744073709551615 _ q to gives_q.0 c.in_ok-to.ensures.ok.0 in
              omega (arith, same_from, same_to, ordered, c.if-to-from.true),
        )),
      ))))),
    )

pub returns-clause-ok : goal.returns-clause-ok
returns-clause-ok c =
    let from = c.in_ok-from.ensures.ok in
    let to = c.in_ok-to.ensures.ok in (
      refl,
      record {
        lane_read = c.in_ok-lane.ensures.ok;
        from_read = from.0;
        to_read = to.0;
        ordered = omega (arith, c.if-to-from.false);
        fits = omega (arith, to.1.most);
        all_read = subst (λ (t : Option Text). WritesFlag t c.is_set.result) (c.get_str-2.ensures ∙ first_value-rows (found_of c.args.chart.now) (codes "all")) c.is_set.ensures;
        levels_read = subst (λ (t : Option Text). WritesFlag t c.is_set-2.result) (c.get_str-3.ensures ∙ first_value-rows (found_of c.args.chart.now) (codes "levels")) c.is_set-2.ensures;
      },
    )
