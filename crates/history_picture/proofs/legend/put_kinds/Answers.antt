use Rattle.std.proofs.Common.{◌∙◌, ◌++◌, ap, ℕ}
use Rattle.std.specs.Prelude.{codes}
use Rattle.svg_text.specs.declared.colour.Colour.TheVariants as colours
use Rattle.svg_text.specs.Shapes.{shapes_text}
use Rattle.history_bars.proofs.Steps.{both}
use Rattle.history_picture.specs.Legend.{kind_sign, second, third, fourth, fifth}
use Rattle.history_picture.proofs.legend.put_kinds.Goals as goal

pub returns : goal.returns
returns c =
    let s = c.args.signs in
    let a = c.put_kind.new.out.items in
    let b = c.put_kind-2.new.out.items in
    let d = c.put_kind-3.new.out.items in
    let e = c.put_kind-4.new.out.items in
    let last = c.put_kind-5.new.out.items in
    both c.args.out.now.items a last (kind_sign s.reads 10 colours.SkyBlue (codes "read")) _ c.in_ok-put_kind.ensures
    (both a b last (kind_sign s.writes (second s) colours.Orange (codes "write")) _
    (c.in_ok-put_kind-2.ensures ∙ ap (λ (x : ℕ). a ++ shapes_text (kind_sign s.writes x colours.Orange (codes "write"))) c.second.ensures.at)
    (both b d last (kind_sign s.adds (third s) colours.Green (codes "add")) _
    (c.in_ok-put_kind-3.ensures ∙ ap (λ (x : ℕ). b ++ shapes_text (kind_sign s.adds x colours.Green (codes "add"))) c.third.ensures.at)
    (both d e last (kind_sign s.swaps (fourth s) colours.Yellow (codes "swap")) (kind_sign s.cas (fifth s) colours.Purple (codes "cas"))
    (c.in_ok-put_kind-4.ensures ∙ ap (λ (x : ℕ). d ++ shapes_text (kind_sign s.swaps x colours.Yellow (codes "swap"))) c.fourth.ensures.at)
    (c.in_ok-put_kind-5.ensures ∙ ap (λ (x : ℕ). e ++ shapes_text (kind_sign s.cas x colours.Purple (codes "cas"))) c.fifth.ensures.at))))
