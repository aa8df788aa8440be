use Rattle.std.proofs.Common.{◌∙◌, [], ◌∷◌, ◌++◌, take, get_or, ap, sym, add-one}
use Rattle.std.proofs.Math.Seq.{take-suc}
use Rattle.std.proofs.lemmas.List.{take_all}
use Rattle.search_places.proofs.memo.narrowed.Goals as goal

pub loop-number-preserved : goal.loop-number-preserved
loop-number-preserved c =
    let numbers = c.args.numbers.now in
    let i = c.loop-number.number-index in
    c.in_ok-add_narrow.ensures ∙ ap (λ ys. ys ++ get_or numbers i 0 ∷ []) c.loop-number.invariant
    ∙ sym (ap (λ k. take k numbers) (add-one i) ∙ take-suc numbers i 0 c.loop-number-test.true)

pub returns : goal.returns
returns c = c.loop-number.invariant ∙ take_all c.loop-number.number-index c.args.numbers.now c.loop-number-test.false
