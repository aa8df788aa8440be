-- Bytes that stand in two parts of a line: the first four digits, and what is behind a space.
use Rattle.std.proofs.Common.{◌≡◌, ◌≢◌, ◌∙◌, ℕ, ◌+◌, ◌*◌, ◌==◌, true, false, List, [], ◌∷◌, ◌++◌, length, take, drop, ◌-◌, ◌≤◌, get_or, Option, Some, None, Result, Ok, Err, refl, sym, ap, subst, arith}
use Rattle.std.proofs.lemmas.Bool.Decides.{nat_tests}
use Rattle.std.proofs.lemmas.Grind.{common_steps}
use Rattle.std.proofs.lemmas.List.Elements.{All-head, All-tail}
use Rattle.hex.specs.Hex.{decode_of, decode_pairs, pair_value, digit_or_error, hex_digit_value, is_hex_digit, ◌>>=◌}
use Rattle.hex.specs.declared.error.FromHexError.{FromHexError}
use Rattle.hex.proofs.HexLemmas.{decode_of-even, decode_of-ok}
use Rattle.hex_text.specs.Line.{digits_of}

-- ---- digits that read, read at another place

pair_at : (a b i j v : ℕ) → pair_value a b i ≡ Ok v → pair_value a b j ≡ Ok v
pair_at a b i j v h = by (hex_digit_value a) (hex_digit_value b) h
  where
    by : (x y : Option ℕ) → (digit_or_error a i x >>= (λ u. digit_or_error b (i + 1) y >>= (λ l. Ok (u * 16 + l)))) ≡ Ok v
        → (digit_or_error a j x >>= (λ u. digit_or_error b (j + 1) y >>= (λ l. Ok (u * 16 + l)))) ≡ Ok v
    by (Some u) (Some l) h = h
    by (Some u) None h = cc h
    by None y h = cc h

both_at : (p q : Result ℕ FromHexError) (r s : Result (List ℕ) FromHexError) (bytes : List ℕ) → ((v : ℕ) → p ≡ Ok v → q ≡ Ok v) → ((xs : List ℕ) → r ≡ Ok xs → s ≡ Ok xs)
    → (p >>= (λ v. r >>= (λ xs. Ok (v ∷ xs)))) ≡ Ok bytes → (q >>= (λ v. s >>= (λ xs. Ok (v ∷ xs)))) ≡ Ok bytes
both_at (Ok v) q (Ok xs) s bytes f g h = rw (f v refl, g xs refl) h
both_at (Ok v) q (Err e) s bytes f g h = cc h
both_at (Err e) q r s bytes f g h = cc h

pairs_at : (i j : ℕ) (text bytes : List ℕ) → decode_pairs i text ≡ Ok bytes → decode_pairs j text ≡ Ok bytes
unfolding decode_pairs
pairs_at i j [] bytes h = h
pairs_at i j (a ∷ []) bytes h = cc h
pairs_at i j (a ∷ b ∷ rest) bytes h =
    both_at (pair_value a b i) (pair_value a b j) (decode_pairs (i + 2) rest) (decode_pairs (j + 2) rest) bytes (λ v e. pair_at a b i j v e) (λ xs e. pairs_at (i + 2) (j + 2) rest xs e) h

-- ---- two texts, one behind the other

bytes_of : Result (List ℕ) FromHexError → List ℕ
bytes_of (Ok bytes) = bytes
bytes_of (Err e) = []

more : (p : Result ℕ FromHexError) (r s : Result (List ℕ) FromHexError) (first second : List ℕ) → ((xs : List ℕ) → r ≡ Ok xs → s ≡ Ok (xs ++ second))
    → (p >>= (λ v. r >>= (λ xs. Ok (v ∷ xs)))) ≡ Ok first → (p >>= (λ v. s >>= (λ xs. Ok (v ∷ xs)))) ≡ Ok (first ++ second)
unfolding bytes_of
more (Ok v) (Ok xs) s first second f h =
    let is : v ∷ xs ≡ first = ap bytes_of h in
    rw (f xs refl, ← is) refl
more (Ok v) (Err e) s first second f h = cc h
more (Err e) r s first second f h = cc h

pairs_behind : (i j : ℕ) (front behind first second : List ℕ) → decode_pairs i front ≡ Ok first → decode_pairs j behind ≡ Ok second → decode_pairs i (front ++ behind) ≡ Ok (first ++ second)
unfolding bytes_of decode_pairs
pairs_behind i j [] behind first second h k =
    let is : [] ≡ first = ap bytes_of h in
    rw (← is) (pairs_at j i behind second k)
pairs_behind i j (a ∷ []) behind first second h k = cc h
pairs_behind i j (a ∷ b ∷ rest) behind first second h k =
    more (pair_value a b i) (decode_pairs (i + 2) rest) (decode_pairs (i + 2) (rest ++ behind)) first second (λ xs e. pairs_behind (i + 2) j rest behind xs second e k) h

-- ---- four digits before a space

abbrev digit_holds : ℕ → Type 0
digit_holds c = is_hex_digit c ≡ true

no_space : (x : ℕ) → is_hex_digit x ≡ true → x ≢ 32
no_space x h = λ e. let space : is_hex_digit 32 ≡ true = subst (λ (n : ℕ). is_hex_digit n ≡ true) e h in cc space

digits_cons : (x : ℕ) (rest : List ℕ) → is_hex_digit x ≡ true → digits_of (x ∷ rest) ≡ x ∷ digits_of rest
digits_cons x rest h = let other = no_space x h in let test : (x == 32) ≡ false = grind (arith, nat_tests) in rw test refl

behind_number : (a b c d : ℕ) (rest number bytes : List ℕ) → decode_of (a ∷ b ∷ c ∷ d ∷ []) ≡ Ok number → decode_of (digits_of rest) ≡ Ok bytes
    → decode_of (digits_of (a ∷ b ∷ c ∷ d ∷ 32 ∷ rest)) ≡ Ok (number ++ bytes)
behind_number a b c d rest number bytes h k =
    let front = decode_of-ok (a ∷ b ∷ c ∷ d ∷ []) number h in
    let behind = decode_of-ok (digits_of rest) bytes k in
    let all = front.1 in
    let tail1 = All-tail digit_holds a (b ∷ c ∷ d ∷ []) all in
    let tail2 = All-tail digit_holds b (c ∷ d ∷ []) tail1 in
    let tail3 = All-tail digit_holds c (d ∷ []) tail2 in
    let digits : digits_of (a ∷ b ∷ c ∷ d ∷ 32 ∷ rest) ≡ a ∷ b ∷ c ∷ d ∷ digits_of rest =
    digits_cons a (b ∷ c ∷ d ∷ 32 ∷ rest) (All-head digit_holds a (b ∷ c ∷ d ∷ []) all)
    ∙ ap (λ (t : List ℕ). a ∷ t) (digits_cons b (c ∷ d ∷ 32 ∷ rest) (All-head digit_holds b (c ∷ d ∷ []) tail1)
    ∙ ap (λ (t : List ℕ). b ∷ t) (digits_cons c (d ∷ 32 ∷ rest) (All-head digit_holds c (d ∷ []) tail2)
    ∙ ap (λ (t : List ℕ). c ∷ t) (digits_cons d (32 ∷ rest) (All-head digit_holds d [] tail3)))) in
    let even = behind.0 in
    ap decode_of digits
    ∙ decode_of-even (a ∷ b ∷ c ∷ d ∷ digits_of rest) (omega (arith, even))
    ∙ pairs_behind 0 0 (a ∷ b ∷ c ∷ d ∷ []) (digits_of rest) number bytes (sym (decode_of-even (a ∷ b ∷ c ∷ d ∷ []) front.0) ∙ h) (sym (decode_of-even (digits_of rest) even) ∙ k)

behind_five : (xs : List ℕ) → take (length xs - 5) (drop 5 xs) ≡ drop 5 xs
behind_five xs = grind (arith, common_steps)

-- the number, and what stands behind the first space
pub numbered : (line number bytes : List ℕ) → 5 ≤ length line → get_or line 4 0 ≡ 32 → decode_of (take 4 line) ≡ Ok number
    → decode_of (digits_of (take (length line - 5) (drop 5 line))) ≡ Ok bytes → decode_of (digits_of line) ≡ Ok (number ++ bytes)
numbered [] number bytes len space h k = absurd (omega (arith, len))
numbered (a ∷ []) number bytes len space h k = absurd (omega (arith, len))
numbered (a ∷ b ∷ []) number bytes len space h k = absurd (omega (arith, len))
numbered (a ∷ b ∷ c ∷ []) number bytes len space h k = absurd (omega (arith, len))
numbered (a ∷ b ∷ c ∷ d ∷ []) number bytes len space h k = absurd (omega (arith, len))
numbered (a ∷ b ∷ c ∷ d ∷ x ∷ rest) number bytes len space h k =
    let all : decode_of (digits_of rest) ≡ Ok bytes = ap (λ (t : List ℕ). decode_of (digits_of t)) (sym (behind_five (a ∷ b ∷ c ∷ d ∷ x ∷ rest))) ∙ k in
    ap (λ (s : ℕ). decode_of (digits_of (a ∷ b ∷ c ∷ d ∷ s ∷ rest))) space ∙ behind_number a b c d rest number bytes h all
