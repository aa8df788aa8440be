use Rattle.std.proofs.Common.{◌≡◌, ◌∙◌, arith, refl, codes, inl, inr}
use Rattle.clap.specs.Words.{found_of}
use Rattle.clap.proofs.WalkLemmas.{first_value-rows}
use Rattle.cli_words.proofs.RequestsAsked.{same_number}
use Rattle.cli_words.proofs.words.draw_of.Goals as goal

pub returns-then-to-from-clause-err : goal.returns-then-to-from-clause-err
returns-then-to-from-clause-err c =
    let from = c.in_ok-from.from in
    let to = c.in_ok-to.to in
    let given = c.get_str.ensures ∙ first_value-rows (found_of c.args.draw.now) (codes "to") in (
      given,
      inr (inl (
        refl,
        inr (
          refl,
          ((from, c.in_ok-from.ensures.ok), ((to, c.in_ok-to.ensures.ok), tt)),
          λ p q gives_p gives_q ordered.
              let same_from : p ≡ from = same_number 0 _ p from gives_p.0 c.in_ok-from.ensures.ok.0 in
              let same_to : q ≡ to = same_number 18446744073709551615 _ q to gives_q.0 c.in_ok-to.ensures.ok.0 in
              omega (arith, same_from, same_to, ordered, c.if-to-from.true),
        ),
      )),
    )
