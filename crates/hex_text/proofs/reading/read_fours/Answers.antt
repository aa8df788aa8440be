use Rattle.std.proofs.Common.{◌≡◌, ◌∙◌, ℕ, true, ◌+◌, ◌-◌, ◌*◌, ◌/◌, ◌<◌, ◌≤◌, ◌==◌, List, [], ◌∷◌, length, take, drop, get_or, Ok, refl, sym, ap, arith, length-drop}
use Rattle.std.proofs.Math.ListN.{set}
use Rattle.std.proofs.lemmas.Bool.{eqb-true}
use Rattle.std.proofs.lemmas.Grind.{common_steps}
use Rattle.std.proofs.lemmas.List.{append-nil, take_all, take_more_set, length-set}
use Rattle.hex.specs.Hex.{decode_of, decode_pairs, pair_value}
use Rattle.hex.proofs.Pairs.{prepend, prepend-cons_byte, decode_pairs-ok_pair, cons_byte}
use Rattle.hex.proofs.HexLemmas.{decode_of-even}
use Rattle.hex_text.proofs.reading.read_fours.Goals as goal

-- what stands behind four
abbrev after : List ℕ → List ℕ
after xs = take (length xs - 4) (drop 4 xs)

after-drop : (xs : List ℕ) → after xs ≡ drop 4 xs
after-drop xs = grind (arith, common_steps)

-- the first four, and what stands behind them
four : (xs : List ℕ) → 4 ≤ length xs → xs ≡ get_or xs 0 0 ∷ get_or xs 1 0 ∷ get_or xs 2 0 ∷ get_or xs 3 0 ∷ after xs
four [] lt = absurd (omega arith)
four (a ∷ []) lt = absurd (omega arith)
four (a ∷ b ∷ []) lt = absurd (omega arith)
four (a ∷ b ∷ c ∷ []) lt = absurd (omega arith)
four (a ∷ b ∷ c ∷ d ∷ rest) lt =
    ap (λ (t : List ℕ). a ∷ b ∷ c ∷ d ∷ t) (sym (after-drop (a ∷ b ∷ c ∷ d ∷ rest)))

-- one byte more is read
one : (line bytes rest : List ℕ) (a b count next v : ℕ) → next ≡ count + 1 → count < length bytes → pair_value a b (2 * count) ≡ Ok v
    → decode_pairs 0 line ≡ prepend (take count bytes) (decode_pairs (2 * count) (a ∷ b ∷ rest))
    → decode_pairs 0 line ≡ prepend (take next (set bytes count v)) (decode_pairs (2 * next) rest)
one line bytes rest a b count next v e fits pair inv =
    let two : 2 * count + 2 ≡ 2 * next = omega arith in
    inv
    ∙ ap (prepend (take count bytes)) (decode_pairs-ok_pair (2 * count) a b v rest pair ∙ ap (λ (k : ℕ). cons_byte v (decode_pairs k rest)) two)
    ∙ prepend-cons_byte (take count bytes) v (decode_pairs (2 * next) rest)
    ∙ ap (λ (t : List ℕ). prepend t (decode_pairs (2 * next) rest)) (sym (take_more_set bytes count v fits) ∙ ap (λ (k : ℕ). take k (set bytes count v)) (sym e))

-- two bytes more are read
read : (line bytes rest : List ℕ) (count va vb : ℕ) → 4 ≤ length rest → 2 * count + length rest ≡ length line → length bytes ≡ length line / 2
    → pair_value (get_or rest 0 0) (get_or rest 1 0) (2 * count) ≡ Ok va → pair_value (get_or rest 2 0) (get_or rest 3 0) (2 * (count + 1)) ≡ Ok vb
    → decode_pairs 0 line ≡ prepend (take count bytes) (decode_pairs (2 * count) rest)
    → decode_pairs 0 line ≡ prepend (take (count + 2) (set (set bytes count va) (count + 1) vb)) (decode_pairs (2 * (count + 2)) (after rest))
read line bytes rest count va vb some room same pa pb inv =
    let start = inv ∙ ap (λ (t : List ℕ). prepend (take count bytes) (decode_pairs (2 * count) t)) (four rest some) in
    let b1 = set bytes count va in
    let s1 = length-set bytes count va ∙ same in
    let at : ℕ → ℕ = λ k. get_or rest k 0 in
    let r1 = one line bytes (at 2 ∷ at 3 ∷ after rest) (at 0) (at 1) count (count + 1) va refl (omega (arith, some, room, same)) pa start in
    one line b1 (after rest) (at 2) (at 3) (count + 1) (count + 2) vb (omega arith) (omega (arith, some, room, s1)) pb r1

room : (line rest : List ℕ) (count : ℕ) → 4 ≤ length rest → 2 * count + length rest ≡ length line → 2 * (count + 2) + length (after rest) ≡ length line
room line rest count some h =
    let len : length (after rest) ≡ length rest - 4 = ap length (after-drop rest) ∙ length-drop 4 rest in
    omega (arith, some, h, len)

pub loop-rest-preserved : goal.loop-rest-preserved
loop-rest-preserved c =
    let h = c.loop-rest.invariant in
    let rest = c.loop-rest.rest.now in
    let count = c.loop-rest.count in
    let some = c.in-len4-up.len_at_least in
    let pa = c.in-Some.ensures.first (2 * count) in
    let pb = c.in-Some.ensures.second (2 * (count + 1)) in
    record {
      read = read c.args.digits.now c.loop-rest.bytes rest count _ _ some h.room h.same pa pb h.read;
      room = room c.args.digits.now rest count some h.room;
      same = length-set _ (count + 1) _ ∙ length-set c.loop-rest.bytes count _ ∙ h.same;
    }

done : (line bytes rest : List ℕ) (count : ℕ) → (length rest == 0) ≡ true
    → decode_pairs 0 line ≡ prepend (take count bytes) (decode_pairs (2 * count) rest)
    → 2 * count + length rest ≡ length line → length bytes ≡ length line / 2 → decode_of line ≡ Ok bytes
unfolding decode_pairs
done line bytes [] count none read room same =
    decode_of-even line (omega (arith, room)) ∙ read
    ∙ ap Ok (append-nil (take count bytes) ∙ take_all count bytes (omega (arith, room, same)))
done line bytes (a ∷ rest) count none read room same = absurd (let z = eqb-true (length (a ∷ rest)) 0 none in omega (arith, z))

pub returns : goal.returns
returns c = λ is.
    let h = c.loop-rest.invariant in
    done c.args.digits.now c.loop-rest.bytes c.loop-rest.rest.now c.loop-rest.count (sym c.is_empty.ensures ∙ is) h.read h.room h.same
