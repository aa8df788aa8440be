use Rattle.std.proofs.Common.{◌≡◌, ◌≢◌, ◌∙◌, ◌+◌, ◌-◌, ◌<◌, ℕ, List, [], ◌∷◌, length, take, drop, get_or, true, sym, ap, add-one, inl, inr, arith}
use Rattle.std.specs.Prelude.{◌⊎◌}
use Rattle.std.proofs.lemmas.List.{take_all, length-drop}
use Rattle.std.proofs.lemmas.Bool.{eq-eqb}
use Rattle.operation_text.specs.Words.{words, is_space}
use Rattle.operation_text.proofs.WordLemmas.{cut_at, one_word}
use Rattle.operation_text.proofs.OnePassLemmas.{field-is}
use Rattle.operation_text.proofs.digits.first_number.Goals.{then-count-gt1, else-count-gt1}
use Rattle.operation_text.proofs.digits.first_number.Goals as goal

pub returns-then-count-line : goal.returns-then-count-line
returns-then-count-line c =
    let line = c.args.line.now in
    let at = c.first_digits-number.result.1 in
    let whole = c.if-count-line.true in
    let first : (at ≡ 1) ⊎ (get_or line 0 0 ≢ 48) =
    elim c.if-count-gt1.branch [
      | then-count-gt1 w ↦ inr (λ e. let t = sym (eq-eqb (get_or line 0 0) 48 e) ∙ sym w.value-is ∙ c.if-line-eq48.false in cc t)
      | else-count-gt1 w ↦ inl (omega (arith, w.if-count-gt1.false, c.if-count-eq0.false))
    ] in
    let one : words line ≡ take at line ∷ [] =
    one_word line (λ k m. c.first_digits-number.ensures.digits k (omega (arith, m, whole)))
    ∙ ap (λ (w : List ℕ). w ∷ []) (sym (take_all at line (omega (arith, whole)))) in
    λ most le. field-is c.args.radix most c.first_digits-number.result.0 at line [] one (omega (arith, c.if-count-eq0.false)) (omega (arith, whole)) first
    (c.first_digits-number.ensures.value most le)

pub returns : goal.returns
returns c =
    let line = c.args.line.now in
    let at = c.first_digits-number.result.1 in
    let before : at < length line = omega (arith, c.if-count-line.false, c.first_digits-number.ensures.fits) in
    let first : (at ≡ 1) ⊎ (get_or line 0 0 ≢ 48) =
    elim c.if-count-gt1.branch [
      | then-count-gt1 w ↦ inr (λ e. let t = sym (eq-eqb (get_or line 0 0) 48 e) ∙ sym w.value-is ∙ c.if-line-eq48.false in cc t)
      | else-count-gt1 w ↦ inl (omega (arith, w.if-count-gt1.false, c.if-count-eq0.false))
    ] in
    let stop : is_space (get_or line at 0) ≡ true = eq-eqb (get_or line at 0) 32 c.if-line-count-ne32.false in
    let rest = words (take (length line - (at + 1)) (drop (at + 1) line)) in
    let split : words line ≡ take at line ∷ rest =
    cut_at line at before c.first_digits-number.ensures.digits stop
    ∙ ap (λ (r : List ℕ). take at line ∷ words r) (ap (λ (n : ℕ). drop n line) (sym (add-one at)) ∙ sym (take_all (length line - (at + 1)) (drop (at + 1) line) (omega (arith, length-drop (at + 1) line)))) in
    λ most le. field-is c.args.radix most c.first_digits-number.result.0 at line rest split (omega (arith, c.if-count-eq0.false)) (omega (arith, before)) first
    (c.first_digits-number.ensures.value most le)
