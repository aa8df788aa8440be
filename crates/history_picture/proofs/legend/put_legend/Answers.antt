use Rattle.std.proofs.Common.{◌∙◌, ◌++◌, ap, ℕ}
use Rattle.svg_text.specs.Shapes.{shapes_text}
use Rattle.history_bars.proofs.Steps.{both}
use Rattle.history_picture.specs.Legend.{kinds, dots_sign, opens_sign, sixth, seventh}
use Rattle.history_picture.proofs.legend.put_legend.Goals as goal

pub returns : goal.returns
returns c =
    let s = c.args.signs in
    let a = c.put_kinds.new.out.items in
    let b = c.put_dots.new.out.items in
    let last = c.put_opens.new.out.items in
    both c.args.out.now.items a last (kinds s) _ c.in_ok-put_kinds.ensures
    (both a b last (dots_sign s.dots (sixth s)) (opens_sign s.opens (seventh s))
    (c.in_ok-put_dots.ensures ∙ ap (λ (x : ℕ). a ++ shapes_text (dots_sign s.dots x)) c.sixth.ensures.at)
    (c.in_ok-put_opens.ensures ∙ ap (λ (x : ℕ). b ++ shapes_text (opens_sign s.opens x)) c.seventh.ensures.at))
