use Rattle.std.proofs.Common.{◌≡◌, ◌∙◌, ◌+◌, ◌-◌, ◌<◌, ℕ, List, Bool, length, take, drop, sym, ap, arith, length-drop, Some, None}
use Rattle.std.specs.Prelude.{codes, bytes_eq}
use Rattle.std.proofs.lemmas.List.{take_all, drop-drop}
use Rattle.packet_text.specs.Forms as forms
use Rattle.packet_text.proofs.CutLemmas.{cut-step, cut-found}
use Rattle.packet_text.proofs.reading.cut_from.Goals as goal

-- all that is left behind a place
left : (line : List ℕ) (n : ℕ) → take (length line - n) (drop n line) ≡ drop n line
left line n = take_all (length line - n) (drop n line) (omega (arith, length-drop n line))

-- the place before the last, and what was found there
found : (line : List ℕ) (at : ℕ) (r : Bool) → r ≡ bytes_eq (take 6 (take (length line - at) (drop at line))) (codes " from ") → (b : Bool) → r ≡ b → bytes_eq (take 6 (drop at line)) (codes " from ") ≡ b
found line at r e b is = ap (λ (l : List ℕ). bytes_eq (take 6 l) (codes " from ")) (sym (left line at)) ∙ sym e ∙ is

before : (line : List ℕ) (n : ℕ) → 0 < n → forms.cut_from (drop n line) ≡ None → forms.cut_from (drop (n - 1 + 1) line) ≡ None
before line n some h = let e : n - 1 + 1 ≡ n = omega arith in rw e h

pub returns-then-begins : goal.returns-then-begins
returns-then-begins c =
    let line = c.args.line.now in
    let n = c.loop-at.at in
    let h = c.loop-at.invariant in
    let some = c.loop-at-test.true in
    cut-found line (n - 1) (omega (arith, h.bound, some)) (before line n some h.none) (found line (n - 1) c.begins.result c.begins.ensures _ c.if-begins.true)
    ∙ ap (λ (l : List ℕ). Some (take (n - 1) line, l)) (drop-drop 6 (n - 1) line ∙ sym (left line (n - 1 + 6)))

pub loop-at-preserved : goal.loop-at-preserved
loop-at-preserved c =
    let line = c.args.line.now in
    let n = c.loop-at.at in
    let h = c.loop-at.invariant in
    let some = c.loop-at-test.true in
    record {
      bound = omega (arith, h.bound);
      none = cut-step line (n - 1) (omega (arith, h.bound, some)) (before line n some h.none) (found line (n - 1) c.begins.result c.begins.ensures _ c.if-begins.false);
    }
