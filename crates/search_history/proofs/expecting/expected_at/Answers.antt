use Rattle.std.proofs.Common.{◌∙◌, ap, subst}
use Rattle.log_runs.specs.Explainable.{IsExplainable}
use Rattle.search_history.specs.Expected as expected
use Rattle.search_history.proofs.expecting.expected_at.Goals as goal

pub returns-then-branch : goal.returns-then-branch
returns-then-branch c = λ item at.
    subst IsExplainable (c.in_ok-other.ensures item at ∙ ap (expected.replied c.args.seen.now c.args.place item) c.lend.ensures) (c.in_ok-has_history.ensures c.if-branch.true)
