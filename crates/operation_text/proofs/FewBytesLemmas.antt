-- A word of eight digits is four bytes.
use Rattle.std.proofs.Common.{◌≡◌, ◌∙◌, ℕ, ◌-◌, ◌<◌, ◌≤◌, true, false, List, [], ◌∷◌, ◌++◌, length, take, drop, get_or, refl, sym, ap, Some, arith}
use Rattle.std.specs.Prelude.{Ok}
use Rattle.std.proofs.lemmas.List.{length-take-le, get_or-take, take-append-le, take_all, length-drop}
use Rattle.std.proofs.lemmas.Bool.{eq-eqb, ne_eqb}
use Rattle.hex.specs.Hex.{decode_of, is_hex_digit}
use Rattle.hex.proofs.HexLemmas.{decode_of-ok}
use Rattle.operation_text.proofs.WordLemmas.{cut_at, one_word}
use Rattle.operation_text.specs.Words.{words, first_field, is_space}
use Rattle.operation_text.specs.Numbers.{byte_string}

-- the bytes of the first eight digits
eight-spell : (line bytes : List ℕ) → 8 ≤ length line → decode_of (take 8 line) ≡ Ok bytes → byte_string (take 8 line) ≡ Some bytes
eight-spell line bytes le h =
    let len : length (take 8 line) ≡ 8 = length-take-le 8 line le in
    rw (h, len) refl

field-of : (line bytes : List ℕ) (rest : List (List ℕ)) → 8 ≤ length line → decode_of (take 8 line) ≡ Ok bytes → words line ≡ take 8 line ∷ rest
    → first_field byte_string (words line) ≡ Some (bytes, rest)
field-of line bytes rest le h split = rw (split, eight-spell line bytes le h) refl

no-space : (line bytes : List ℕ) → 8 ≤ length line → decode_of (take 8 line) ≡ Ok bytes → (k : ℕ) → k < 8 → is_space (get_or line k 0) ≡ false
no-space line bytes le h k lt =
    let ok = decode_of-ok (take 8 line) bytes h in
    let digit : is_hex_digit (get_or (take 8 line) k 0) ≡ true = ok.1 k 0 (omega (arith, length-take-le 8 line le, lt)) in
    let same : get_or (take 8 line) k 0 ≡ get_or line k 0 = get_or-take 8 line k 0 lt in
    ne_eqb (get_or line k 0) 32 (λ e. let at : is_hex_digit 32 ≡ true = sym (ap (λ (c : ℕ). is_hex_digit c) (same ∙ e)) ∙ digit in cc at)

-- the room's first bytes
front-four : (line bytes rest : List ℕ) → 8 ≤ length line → decode_of (take 8 line) ≡ Ok bytes → take 4 (bytes ++ rest) ≡ bytes
front-four line bytes rest le h =
    let ok = decode_of-ok (take 8 line) bytes h in
    let four : length bytes ≡ 4 = omega (arith, ok.2, length-take-le 8 line le) in
    take-append-le 4 bytes rest (omega (arith, four)) ∙ take_all 4 bytes (omega (arith, four))

-- at the line's end
pub eight-last : (line bytes rest : List ℕ) → length line ≡ 8 → decode_of (take 8 line) ≡ Ok bytes
    → first_field byte_string (words line) ≡ Some (take 4 (bytes ++ rest), [])
eight-last line bytes rest whole h =
    let le : 8 ≤ length line = omega (arith, whole) in
    let split : words line ≡ take 8 line ∷ [] =
    one_word line (λ k m. no-space line bytes le h k (omega (arith, m, whole))) ∙ ap (λ (w : List ℕ). w ∷ []) (sym (take_all 8 line (omega (arith, whole)))) in
    field-of line bytes [] le h split ∙ ap (λ (b : List ℕ). Some (b, [])) (sym (front-four line bytes rest le h))

-- before a space
pub eight-first : (line bytes rest : List ℕ) → 8 < length line → get_or line 8 0 ≡ 32 → decode_of (take 8 line) ≡ Ok bytes
    → first_field byte_string (words line) ≡ Some (take 4 (bytes ++ rest), words (take (length line - 9) (drop 9 line)))
eight-first line bytes rest more space h =
    let le : 8 ≤ length line = omega (arith, more) in
    let behind = words (take (length line - 9) (drop 9 line)) in
    let split : words line ≡ take 8 line ∷ behind =
    cut_at line 8 more (no-space line bytes le h) (eq-eqb (get_or line 8 0) 32 space)
    ∙ ap (λ (r : List ℕ). take 8 line ∷ words r) (sym (take_all (length line - 9) (drop 9 line) (omega (arith, length-drop 9 line)))) in
    field-of line bytes behind le h split ∙ ap (λ (b : List ℕ). Some (b, behind)) (sym (front-four line bytes rest le h))
