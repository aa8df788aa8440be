-- What is collected, line by line.
use Rattle.std.proofs.Common.{◌≡◌, ◌∙◌, ◌++◌, ◌+◌, ◌∷◌, ◌<◌, ◌≤◌, Bool, List, ℕ, [], zero, suc, ap, sym, drop, length, get_or, append_assoc, drop-cons, arith}
use Rattle.std.proofs.lemmas.List.{append-nil}
use Rattle.history_words.specs.Records.{Record}
use Rattle.script_text.specs.Texts.{told_text}
use Rattle.step_engine.specs.Step.{shown, told_lines}

-- one line more
pub told-next : (echoes : Bool) (line : List ℕ) (rs : List Record) (i : ℕ) (r : Record) (text text' : List ℕ) → i < length rs → r ≡ get_or rs i r
    → text' ≡ text ++ shown echoes line (told_text r) → text' ++ told_lines echoes line (drop (i + 1) rs) ≡ text ++ told_lines echoes line (drop i rs)
unfolding told_lines
told-next echoes line rs i r text text' lt is g =
    let next : i + 1 ≡ suc i = omega arith in
    let cut : drop i rs ≡ r ∷ drop (suc i) rs = drop-cons rs i r lt ∙ ap (λ (y : Record). y ∷ drop (suc i) rs) (sym is) in
    let whole : told_lines echoes line (drop i rs) ≡ shown echoes line (told_text r) ++ told_lines echoes line (drop (suc i) rs) = ap (λ (ys : List Record). told_lines echoes line ys) cut in
    ap (λ (t : List ℕ). t ++ told_lines echoes line (drop (i + 1) rs)) g
    ∙ ap (λ (n : ℕ). (text ++ shown echoes line (told_text r)) ++ told_lines echoes line (drop n rs)) next
    ∙ append_assoc text (shown echoes line (told_text r)) (told_lines echoes line (drop (suc i) rs))
    ∙ ap (λ (t : List ℕ). text ++ t) (sym whole)

-- no line is left
pub told-past : (echoes : Bool) (line : List ℕ) (rs : List Record) (i : ℕ) (text : List ℕ) → length rs ≤ i → text ≡ text ++ told_lines echoes line (drop i rs)
unfolding told_lines
told-past echoes line [] zero text le = sym (append-nil text)
told-past echoes line [] (suc i) text le = sym (append-nil text)
told-past echoes line (x ∷ xs) zero text le = absurd (omega arith)
told-past echoes line (x ∷ xs) (suc i) text le = told-past echoes line xs i text (omega arith)
