use Rattle.std.proofs.Common.{◌≡◌, ◌∙◌, ◌<◌, ◌++◌, ◌∷◌, ◌==◌, false, ℕ, List, [], length, take, drop, sym, ap, append_assoc, length-drop, arith}
use Rattle.std.proofs.lemmas.List.{append-nil, take_all}
use Rattle.std.proofs.lemmas.Bool.{eqb-true}
use Rattle.std.proofs.lemmas.Bool.Decides.{nat_tests}
use Rattle.std.proofs.lemmas.Grind.{common_steps}
use Rattle.hex.specs.Hex.{encode_upper}
use Rattle.hex_text.specs.Line.{spaced}
use Rattle.hex_text.proofs.TextLemmas.{spaced-front, spaced-encode_last}
use Rattle.hex_text.proofs.writing.write_both.Goals as goal

abbrev group : List ℕ → ℕ → List ℕ
group bytes behind = encode_upper bytes ++ behind ∷ []

-- the first two groups, and what is behind them
two : (front bytes : List ℕ) → length front ≡ 12
    → spaced (encode_upper (front ++ bytes)) ≡ group (take 4 front) 32 ++ (group (take 4 (drop 4 front)) 32 ++ spaced (encode_upper (drop 8 front ++ bytes)))
two front bytes len =
    let l4 : length (drop 4 front) ≡ 8 = length-drop 4 front ∙ omega (arith, len) in
    let d : drop 4 (drop 4 front) ≡ drop 8 front = grind (arith, common_steps) in
    spaced-front front bytes (omega (arith, len)) (omega (arith, len))
    ∙ ap (λ (t : List ℕ). group (take 4 front) 32 ++ t) (spaced-front (drop 4 front) bytes (omega (arith, l4)) (omega (arith, l4))
    ∙ ap (λ (t : List ℕ). group (take 4 (drop 4 front)) 32 ++ spaced (encode_upper (t ++ bytes))) d)

-- the text that was there, two groups, and the rest
whole : (t1 t2 t3 a b rest line : List ℕ) → t1 ≡ [] ++ a → t2 ≡ t1 ++ b → t3 ≡ t2 ++ (rest ++ 10 ∷ []) → line ≡ a ++ (b ++ rest) → t3 ≡ line ++ 10 ∷ []
whole t1 t2 t3 a b rest line e1 e2 e3 e =
    e3 ∙ ap (λ (t : List ℕ). t ++ (rest ++ 10 ∷ [])) (e2 ∙ ap (λ (t : List ℕ). t ++ b) e1)
    ∙ append_assoc a b (rest ++ 10 ∷ [])
    ∙ ap (λ (t : List ℕ). a ++ t) (sym (append_assoc b rest (10 ∷ [])))
    ∙ sym (append_assoc a (b ++ rest) (10 ∷ []))
    ∙ ap (λ (t : List ℕ). t ++ 10 ∷ []) (sym e)

-- no bytes are behind
last : (front bytes : List ℕ) → length front ≡ 12 → length bytes ≡ 0 → spaced (encode_upper (drop 8 front ++ bytes)) ≡ encode_upper (take 4 (drop 8 front))
last front [] len e =
    let l8 : length (drop 8 front) ≡ 4 = length-drop 8 front ∙ omega (arith, len) in
    ap (λ (t : List ℕ). spaced (encode_upper t)) (append-nil (drop 8 front))
    ∙ spaced-encode_last (drop 8 front) (omega (arith, l8))
    ∙ ap encode_upper (sym (take_all 4 (drop 8 front) (omega (arith, l8))))
last front (b ∷ bytes) len e = absurd (omega arith)

-- some are
more : (front bytes : List ℕ) → length front ≡ 12 → 0 < length bytes
    → spaced (encode_upper (drop 8 front ++ bytes)) ≡ group (take 4 (drop 8 front)) 32 ++ spaced (encode_upper bytes)
more front bytes len lt =
    let l8 : length (drop 8 front) ≡ 4 = length-drop 8 front ∙ omega (arith, len) in
    let d : drop 4 (drop 8 front) ≡ [] = grind (arith, common_steps) in
    spaced-front (drop 8 front) bytes (omega (arith, l8)) (omega (arith, l8))
    ∙ ap (λ (t : List ℕ). group (take 4 (drop 8 front)) 32 ++ spaced (encode_upper (t ++ bytes))) d

some : (n : ℕ) → (n == 0) ≡ false → 0 < n
some n h = grind (arith, nat_tests)

pub returns-then-is_empty : goal.returns-then-is_empty
returns-then-is_empty c =
    let front = c.args.front.now in
    let bytes = c.args.bytes.now in
    let len : length front ≡ 12 = c.told-front in
    let none : length bytes ≡ 0 = eqb-true (length bytes) 0 (sym c.is_empty.ensures ∙ c.if-is_empty.true) in
    whole c.put_group.new.text c.put_group-2.new.text c.put_group-then-is_empty.new.text (group (take 4 front) 32) (group (take 4 (drop 4 front)) 32)
    (encode_upper (take 4 (drop 8 front))) (spaced (encode_upper (front ++ bytes)))
    (c.put_group.ensures.text ∙ ap (λ (t : List ℕ). t ++ group (take 4 front) 32) c.clear.ensures) c.put_group-2.ensures.text c.put_group-then-is_empty.ensures.text
    (two front bytes len ∙ ap (λ (t : List ℕ). group (take 4 front) 32 ++ (group (take 4 (drop 4 front)) 32 ++ t)) (last front bytes len none))

pub returns : goal.returns
returns c =
    let front = c.args.front.now in
    let bytes = c.args.bytes.now in
    let len : length front ≡ 12 = c.told-front in
    let lt = some (length bytes) (sym c.is_empty.ensures ∙ c.if-is_empty.false) in
    let third = group (take 4 (drop 8 front)) 32 in
    let behind = spaced (encode_upper bytes) in
    whole c.put_group.new.text c.put_group-2.new.text c.put_groups.new.text (group (take 4 front) 32) (group (take 4 (drop 4 front)) 32)
    (third ++ behind) (spaced (encode_upper (front ++ bytes)))
    (c.put_group.ensures.text ∙ ap (λ (t : List ℕ). t ++ group (take 4 front) 32) c.clear.ensures) c.put_group-2.ensures.text
    (c.put_groups.ensures ∙ ap (λ (t : List ℕ). t ++ (behind ++ 10 ∷ [])) c.put_group-3.ensures.text
    ∙ append_assoc c.put_group-2.new.text third (behind ++ 10 ∷ [])
    ∙ ap (λ (t : List ℕ). c.put_group-2.new.text ++ t) (sym (append_assoc third behind (10 ∷ []))))
    (two front bytes len ∙ ap (λ (t : List ℕ). group (take 4 front) 32 ++ (group (take 4 (drop 4 front)) 32 ++ t)) (more front bytes len lt))
