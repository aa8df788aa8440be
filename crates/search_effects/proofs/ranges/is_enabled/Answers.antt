use Rattle.std.proofs.Common.{◌∙◌, ◌-◌, ◌*◌, ap, get_or, false, arith}
use Rattle.tlp_core.specs.Enables.{dw_enables}
use Rattle.search_effects.proofs.Enabling.{of_one, of_first, of_middle, of_last}
use Rattle.search_effects.proofs.ranges.is_enabled.Goals as goal

pub returns-then-dw-eq1 : goal.returns-then-dw-eq1
returns-then-dw-eq1 c = c.is_enabled_in.ensures ∙ of_one c.args.dw c.args.first c.args.last c.args.at c.if-dw-eq1.true

pub returns-then-at-lt4 : goal.returns-then-at-lt4
returns-then-at-lt4 c = c.is_enabled_in-then-at-lt4.ensures ∙ of_first c.args.dw c.args.first c.args.last c.args.at c.if-dw-eq1.false c.if-at-lt4.true

pub returns-then-inner-middle : goal.returns-then-inner-middle
returns-then-inner-middle c =
    of_middle c.args.dw c.args.first c.args.last c.args.at c.if-dw-eq1.false c.if-at-lt4.false (omega (arith, c.if-inner-middle.true, c.saturating_sub-middle.ensures))

pub returns : goal.returns
returns c =
    c.is_enabled_in-2.ensures
    ∙ ap (λ k. get_or (dw_enables c.args.last) (c.args.at - 4 - 4 * k) false) c.saturating_sub-middle.ensures
    ∙ of_last c.args.dw c.args.first c.args.last c.args.at c.if-dw-eq1.false c.if-at-lt4.false (omega (arith, c.if-inner-middle.false, c.saturating_sub-middle.ensures))
