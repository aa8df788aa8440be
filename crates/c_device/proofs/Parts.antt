-- A header and a payload that are put to the front of a buffer, one behind the other.
use Rattle.std.proofs.Common.{◌≡◌, ◌∙◌, ℕ, ◌+◌, List, ◌++◌, length, take, drop, sym, ap, append_assoc, length-append, arith}
use Rattle.std.proofs.lemmas.List.{take_at, drop_at, drop-drop}

pub laid : (a b buffer whole : List ℕ) (n : ℕ) → length a ≡ 12 → length b ≡ n → whole ≡ a ++ b
    → take 12 (a ++ drop 12 buffer) ++ (b ++ drop n (drop 12 (a ++ drop 12 buffer))) ≡ whole ++ drop (length whole) buffer
laid a b buffer whole n ea eb e =
    let len : 12 + n ≡ length (a ++ b) = omega (arith, length-append a b, ea, eb) in
    ap (λ (t : List ℕ). t ++ (b ++ drop n (drop 12 (a ++ drop 12 buffer)))) (take_at a (drop 12 buffer) 12 ea)
    ∙ ap (λ (t : List ℕ). a ++ (b ++ drop n t)) (drop_at a (drop 12 buffer) 12 ea)
    ∙ ap (λ (t : List ℕ). a ++ (b ++ t)) (drop-drop n 12 buffer)
    ∙ sym (append_assoc a b (drop (12 + n) buffer))
    ∙ ap (λ (i : ℕ). (a ++ b) ++ drop i buffer) len
    ∙ ap (λ (t : List ℕ). t ++ drop (length t) buffer) (sym e)
