use Rattle.std.proofs.Common.{◌≡◌, ◌+◌, ◌-◌, ℕ, List, ◌∷◌, length, get_or, take, drop, true, ap, sym, ◌∙◌, add-one, arith}
use Rattle.std.proofs.lemmas.List.{take_all, length-drop}
use Rattle.std.proofs.lemmas.Bool.{eq-eqb}
use Rattle.operation_text.specs.Words.{words, is_space}
use Rattle.operation_text.proofs.WordLemmas.{cut_at, one_word}
use Rattle.operation_text.proofs.fields.split_word.Goals.{then-loop-at-test+else-line-at-ne32, else-loop-at-test}
use Rattle.operation_text.proofs.fields.split_word.Goals as goal

pub returns-then-at-line : goal.returns-then-at-line
returns-then-at-line c =
    let line = c.args.line.now in
    let at = c.loop-at.at in
    let stop : is_space (get_or line at 0) ≡ true =
    elim c.loop-at-test.branch [
      | then-loop-at-test+else-line-at-ne32 w ↦ eq-eqb (get_or line at 0) 32 w.if-line-at-ne32.false
      | else-loop-at-test w ↦ absurd (let m = w.loop-at-test.false in let l = c.if-at-line.true in omega arith)
    ] in
    cut_at line at c.if-at-line.true c.loop-at.invariant.none stop
    ∙ ap (λ (rest : List ℕ). take at line ∷ words rest) (ap (λ (n : ℕ). drop n line) (sym (add-one at)) ∙ sym (take_all (length line - (at + 1)) (drop (at + 1) line) (omega (arith, length-drop (at + 1) line))))

pub returns-else-at-line : goal.returns-else-at-line
returns-else-at-line c =
    one_word c.args.line.now (λ k m. c.loop-at.invariant.none k (let h = c.if-at-line.false in omega (arith, h, m)))
