use Rattle.std.proofs.Common.{◌≡◌, ◌≢◌, ◌∙◌, ℕ, ◌+◌, ◌-◌, ◌*◌, ◌%◌, ◌<◌, ◌≤◌, ◌==◌, true, false, List, [], ◌∷◌, length, take, drop, get_or, Ok, refl, sym, ap, arith, length-drop}
use Rattle.std.proofs.Math.ListN.{set}
use Rattle.std.proofs.lemmas.Grind.{common_steps}
use Rattle.std.proofs.lemmas.Bool.Decides.{nat_tests}
use Rattle.std.proofs.lemmas.Bool.{eqb-true}
use Rattle.std.proofs.lemmas.List.{append-nil, take_more_set, length-set}
use Rattle.hex.specs.Hex.{decode_of, decode_pairs, pair_value}
use Rattle.hex.proofs.Pairs.{prepend, prepend-cons_byte, decode_pairs-ok_pair, cons_byte}
use Rattle.hex.proofs.HexLemmas.{decode_of-even}
use Rattle.hex_text.specs.Line.{digits_of}
use Rattle.hex_text.proofs.HexLemmas.{pair_value-no_space}
use Rattle.hex_text.proofs.reading.read_groups.Goals as goal

-- what stands behind eight
abbrev after : List ℕ → List ℕ
after xs = take (length xs - 8) (drop 8 xs)

after-drop : (xs : List ℕ) → after xs ≡ drop 8 xs
after-drop xs = grind (arith, common_steps)

-- the first eight, and what stands behind them
eight : (xs : List ℕ) → 8 ≤ length xs
    → xs ≡ get_or xs 0 0 ∷ get_or xs 1 0 ∷ get_or xs 2 0 ∷ get_or xs 3 0 ∷ get_or xs 4 0 ∷ get_or xs 5 0 ∷ get_or xs 6 0 ∷ get_or xs 7 0 ∷ after xs
eight [] lt = absurd (omega arith)
eight (a ∷ []) lt = absurd (omega arith)
eight (a ∷ b ∷ []) lt = absurd (omega arith)
eight (a ∷ b ∷ c ∷ []) lt = absurd (omega arith)
eight (a ∷ b ∷ c ∷ d ∷ []) lt = absurd (omega arith)
eight (a ∷ b ∷ c ∷ d ∷ e ∷ []) lt = absurd (omega arith)
eight (a ∷ b ∷ c ∷ d ∷ e ∷ f ∷ []) lt = absurd (omega arith)
eight (a ∷ b ∷ c ∷ d ∷ e ∷ f ∷ g ∷ []) lt = absurd (omega arith)
eight (a ∷ b ∷ c ∷ d ∷ e ∷ f ∷ g ∷ h ∷ rest) lt =
    ap (λ (t : List ℕ). a ∷ b ∷ c ∷ d ∷ e ∷ f ∷ g ∷ h ∷ t) (sym (after-drop (a ∷ b ∷ c ∷ d ∷ e ∷ f ∷ g ∷ h ∷ rest)))

-- a digit
digits-cons : (b : ℕ) (rest : List ℕ) → b ≢ 32 → digits_of (b ∷ rest) ≡ b ∷ digits_of rest
digits-cons b rest ne = let test : (b == 32) ≡ false = grind (arith, nat_tests) in rw test refl

digits-two : (a b v i : ℕ) (rest : List ℕ) → pair_value a b i ≡ Ok v → digits_of (a ∷ b ∷ rest) ≡ a ∷ b ∷ digits_of rest
digits-two a b v i rest pair =
    let read = pair_value-no_space a b i v pair in
    digits-cons a (b ∷ rest) read.0 ∙ ap (λ (t : List ℕ). a ∷ t) (digits-cons b rest read.1)

-- one byte more is read
one : (line bytes rest : List ℕ) (a b count next v : ℕ) → next ≡ count + 1 → count < length bytes → pair_value a b (2 * count) ≡ Ok v
    → decode_pairs 0 line ≡ prepend (take count bytes) (decode_pairs (2 * count) (digits_of (a ∷ b ∷ rest)))
    → decode_pairs 0 line ≡ prepend (take next (set bytes count v)) (decode_pairs (2 * next) (digits_of rest))
one line bytes rest a b count next v e fits pair inv =
    let two : 2 * count + 2 ≡ 2 * next = omega arith in
    inv
    ∙ ap (λ (t : List ℕ). prepend (take count bytes) (decode_pairs (2 * count) t)) (digits-two a b v (2 * count) rest pair)
    ∙ ap (prepend (take count bytes)) (decode_pairs-ok_pair (2 * count) a b v (digits_of rest) pair ∙ ap (λ (k : ℕ). cons_byte v (decode_pairs k (digits_of rest))) two)
    ∙ prepend-cons_byte (take count bytes) v (decode_pairs (2 * next) (digits_of rest))
    ∙ ap (λ (t : List ℕ). prepend t (decode_pairs (2 * next) (digits_of rest))) (sym (take_more_set bytes count v fits) ∙ ap (λ (k : ℕ). take k (set bytes count v)) (sym e))

read : (line bytes rest behind : List ℕ) (count va vb vc vd : ℕ) → 8 ≤ length rest → digits_of behind ≡ digits_of (after rest) → 2 * count + length rest ≤ 512 → length bytes ≡ 256
    → pair_value (get_or rest 0 0) (get_or rest 1 0) (2 * count) ≡ Ok va → pair_value (get_or rest 2 0) (get_or rest 3 0) (2 * (count + 1)) ≡ Ok vb
    → pair_value (get_or rest 4 0) (get_or rest 5 0) (2 * (count + 2)) ≡ Ok vc → pair_value (get_or rest 6 0) (get_or rest 7 0) (2 * (count + 3)) ≡ Ok vd
    → decode_pairs 0 line ≡ prepend (take count bytes) (decode_pairs (2 * count) (digits_of rest))
    → decode_pairs 0 line ≡ prepend (take (count + 4) (set (set (set (set bytes count va) (count + 1) vb) (count + 2) vc) (count + 3) vd)) (decode_pairs (2 * (count + 4)) (digits_of behind))
read line bytes rest behind count va vb vc vd some space room same pa pb pc pd inv =
    let start = inv ∙ ap (λ (t : List ℕ). prepend (take count bytes) (decode_pairs (2 * count) (digits_of t))) (eight rest some) in
    let b1 = set bytes count va in
    let b2 = set b1 (count + 1) vb in
    let b3 = set b2 (count + 2) vc in
    let s1 = length-set bytes count va ∙ same in
    let s2 = length-set b1 (count + 1) vb ∙ s1 in
    let s3 = length-set b2 (count + 2) vc ∙ s2 in
    let at : ℕ → ℕ = λ k. get_or rest k 0 in
    let r1 = one line bytes (at 2 ∷ at 3 ∷ at 4 ∷ at 5 ∷ at 6 ∷ at 7 ∷ after rest) (at 0) (at 1) count (count + 1) va refl (omega (arith, some, room, same)) pa start in
    let r2 = one line b1 (at 4 ∷ at 5 ∷ at 6 ∷ at 7 ∷ after rest) (at 2) (at 3) (count + 1) (count + 2) vb (omega arith) (omega (arith, some, room, s1)) pb r1 in
    let r3 = one line b2 (at 6 ∷ at 7 ∷ after rest) (at 4) (at 5) (count + 2) (count + 3) vc (omega arith) (omega (arith, some, room, s2)) pc r2 in
    one line b3 (after rest) (at 6) (at 7) (count + 3) (count + 4) vd (omega arith) (omega (arith, some, room, s3)) pd r3
    ∙ ap (λ (t : List ℕ). prepend (take (count + 4) (set b3 (count + 3) vd)) (decode_pairs (2 * (count + 4)) t)) (sym space)

less : (n a b v i : ℕ) (rest : List ℕ) → pair_value a b i ≡ Ok v → n % 2 ≡ length (digits_of (a ∷ b ∷ rest)) % 2 → n % 2 ≡ length (digits_of rest) % 2
less n a b v i rest pair e =
    let two : length (digits_of (a ∷ b ∷ rest)) ≡ length (a ∷ b ∷ digits_of rest) = ap length (digits-two a b v i rest pair) in
    omega (arith, e, two)

even : (n : ℕ) (rest : List ℕ) (i j k l va vb vc vd : ℕ) → 8 ≤ length rest
    → pair_value (get_or rest 0 0) (get_or rest 1 0) i ≡ Ok va → pair_value (get_or rest 2 0) (get_or rest 3 0) j ≡ Ok vb
    → pair_value (get_or rest 4 0) (get_or rest 5 0) k ≡ Ok vc → pair_value (get_or rest 6 0) (get_or rest 7 0) l ≡ Ok vd
    → n % 2 ≡ length (digits_of rest) % 2 → n % 2 ≡ length (digits_of (after rest)) % 2
even n rest i j k l va vb vc vd some pa pb pc pd e =
    let at : ℕ → ℕ = λ m. get_or rest m 0 in
    let r1 = less n (at 0) (at 1) va i (at 2 ∷ at 3 ∷ at 4 ∷ at 5 ∷ at 6 ∷ at 7 ∷ after rest) pa (e ∙ ap (λ (t : List ℕ). length (digits_of t) % 2) (eight rest some)) in
    let r2 = less n (at 2) (at 3) vb j (at 4 ∷ at 5 ∷ at 6 ∷ at 7 ∷ after rest) pb r1 in
    let r3 = less n (at 4) (at 5) vc k (at 6 ∷ at 7 ∷ after rest) pc r2 in
    less n (at 6) (at 7) vd l (after rest) pd r3

room : (rest behind : List ℕ) (count : ℕ) → 8 ≤ length rest → length behind ≤ length (after rest) → 2 * count + length rest ≤ 512 → 2 * (count + 4) + length behind ≤ 512
room rest behind count some less h =
    let len : length (after rest) ≡ length rest - 8 = ap length (after-drop rest) ∙ length-drop 8 rest in
    omega (arith, some, less, h, len)

pub loop-rest-preserved : goal.loop-rest-preserved
loop-rest-preserved c =
    let h = c.loop-rest.invariant in
    let rest = c.loop-rest.rest.now in
    let count = c.loop-rest.count in
    let some = c.in-len8-up.len_at_least in
    let total = c.if-low-high-ge131072.false in
    let lo : c.number_of-low.result < 131072 = omega (arith, total) in
    let hi : c.number_of-high.result < 131072 = omega (arith, total) in
    let pa = c.number_of-low.ensures.first (2 * count) lo in
    let pb = c.number_of-low.ensures.second (2 * (count + 1)) lo in
    let pc = c.number_of-high.ensures.first (2 * (count + 2)) hi in
    let pd = c.number_of-high.ensures.second (2 * (count + 3)) hi in
    record {
      read = read _ c.loop-rest.bytes rest c.behind_space-rest.result.now count _ _ _ _ some c.behind_space-rest.ensures.digits h.room h.same pa pb pc pd h.read;
      even = even _ rest (2 * count) (2 * (count + 1)) (2 * (count + 2)) (2 * (count + 3)) _ _ _ _ some pa pb pc pd h.even ∙ ap (λ (t : List ℕ). length t % 2) (sym c.behind_space-rest.ensures.digits);
      room = room rest c.behind_space-rest.result.now count some c.behind_space-rest.ensures.len h.room;
      same = length-set _ (count + 3) _ ∙ length-set _ (count + 2) _ ∙ length-set _ (count + 1) _ ∙ length-set c.loop-rest.bytes count _ ∙ h.same;
    }

done : (line : List ℕ) (bytes rest : List ℕ) (count : ℕ) → (length rest == 0) ≡ true
    → decode_pairs 0 line ≡ prepend (take count bytes) (decode_pairs (2 * count) (digits_of rest))
    → length line % 2 ≡ length (digits_of rest) % 2 → decode_of line ≡ Ok (take count bytes)
unfolding decode_pairs
done line bytes [] count none read even = decode_of-even line even ∙ read ∙ ap Ok (append-nil (take count bytes))
done line bytes (a ∷ rest) count none read even = absurd (let z = eqb-true (length (a ∷ rest)) 0 none in omega (arith, z))

pub returns-then-is_empty-clause-read : goal.returns-then-is_empty-clause-read
returns-then-is_empty-clause-read c = done _ c.loop-rest.bytes c.loop-rest.rest.now c.loop-rest.count (sym c.is_empty.ensures ∙ c.if-is_empty.true) c.loop-rest.invariant.read c.loop-rest.invariant.even
