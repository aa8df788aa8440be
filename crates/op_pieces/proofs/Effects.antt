-- What the pieces of a request do to the bytes of a memory, one after another, and what they are answered.
use Rattle.std.proofs.Common.{◌≡◌, ◌∙◌, ℕ, zero, suc, ◌+◌, ◌-◌, ◌*◌, ◌≤◌, ◌++◌, ◌∷◌, [], List, Bool, true, false, cond, eqb, length, take, drop, replicate, refl, sym, ap, subst, arith, length-append, length-drop}
use Rattle.std.proofs.lemmas.Bool.Decides.{nat_tests}
use Rattle.std.proofs.lemmas.List.{append_assoc, take_at, drop_at, take-append-drop, drop-drop, length-replicate, replicate-append-replicate, length-take-le}
use Rattle.tlp_core.specs.Enables.{dw_enables, enables}
use Rattle.seq_memory.specs.Step.{merged, bytes_at, patched}
use Rattle.op_pieces.specs.Pieces.{inner, rest_first, rest_last}

-- ---- byte enables in two parts

rep : ℕ → List Bool
rep n = replicate n true

reps : (a b n : ℕ) (xs : List Bool) → a + b ≡ n → replicate n true ++ xs ≡ replicate a true ++ (replicate b true ++ xs)
reps a b n xs e =
    ap (λ k. replicate k true ++ xs) (sym e) ∙ ap (λ ys. ys ++ xs) (sym (replicate-append-replicate a b true)) ∙ append_assoc (replicate a true) (replicate b true) xs

pub enables_split : (n m f l : ℕ) → 1 ≤ n → 1 ≤ m → enables (n + m) f l ≡ enables n f (inner n) ++ enables m (rest_first m l) (rest_last m l)
unfolding enables
enables_split zero m f l a b = absurd (omega arith)
enables_split (suc n) zero f l a b = absurd (omega arith)
enables_split (suc zero) (suc zero) f l a b = refl
enables_split (suc zero) (suc (suc m)) f l a b =
    let several : eqb (1 + suc (suc m)) 1 ≡ false = grind (arith, nat_tests) in
    let more : eqb (suc (suc m)) 1 ≡ false = grind (arith, nat_tests) in
    rw (several, more) (ap (λ xs. dw_enables f ++ xs) (reps 4 (4 * (suc (suc m) - 2)) (4 * (1 + suc (suc m) - 2)) (dw_enables l) (omega arith)))
enables_split (suc (suc n)) (suc zero) f l a b =
    let several : eqb (suc (suc n) + 1) 1 ≡ false = grind (arith, nat_tests) in
    let more : eqb (suc (suc n)) 1 ≡ false = grind (arith, nat_tests) in
    let d = dw_enables l in
    let r = replicate (4 * (suc (suc n) - 2)) true in
    rw (several, more) (ap (λ xs. dw_enables f ++ xs) (reps (4 * (suc (suc n) - 2)) 4 (4 * (suc (suc n) + 1 - 2)) d (omega arith) ∙ sym (append_assoc r (replicate 4 true) d)))
enables_split (suc (suc n)) (suc (suc m)) f l a b =
    let several : eqb (suc (suc n) + suc (suc m)) 1 ≡ false = grind (arith, nat_tests) in
    let more : eqb (suc (suc n)) 1 ≡ false = grind (arith, nat_tests) in
    let most : eqb (suc (suc m)) 1 ≡ false = grind (arith, nat_tests) in
    let d = dw_enables l in
    let r = replicate (4 * (suc (suc n) - 2)) true in
    let q = replicate (4 * (suc (suc m) - 2)) true in
    let back = reps 4 (4 * (suc (suc m) - 2)) (4 + 4 * (suc (suc m) - 2)) d refl in
    let all = reps (4 * (suc (suc n) - 2)) (8 + 4 * (suc (suc m) - 2)) (4 * (suc (suc n) + suc (suc m) - 2)) d (omega arith) in
    let tail = reps 4 (4 + 4 * (suc (suc m) - 2)) (8 + 4 * (suc (suc m) - 2)) d (omega arith) in
    rw (several, more, most) (ap (λ xs. dw_enables f ++ xs) (all ∙ ap (λ xs. r ++ xs) (tail ∙ ap (λ xs. replicate 4 true ++ xs) back) ∙ sym (append_assoc r (replicate 4 true) (replicate 4 true ++ (q ++ d)))))

pub length_enables : (dw f l : ℕ) → 1 ≤ dw → length (enables dw f l) ≡ 4 * dw
unfolding enables
length_enables zero f l h = absurd (omega arith)
length_enables (suc zero) f l h = refl
length_enables (suc (suc n)) f l h =
    let several : eqb (suc (suc n)) 1 ≡ false = grind (arith, nat_tests) in
    rw several (omega (arith, length-append (dw_enables f ++ replicate (4 * (suc (suc n) - 2)) true) (dw_enables l), length-append (dw_enables f) (replicate (4 * (suc (suc n) - 2)) true), length-replicate (4 * (suc (suc n) - 2)) true))

-- ---- merging in two parts

pub merged_append : (es es' : List Bool) (xs xs' ys ys' : List ℕ) → length xs ≡ length es → length ys ≡ length es → merged (es ++ es') (xs ++ xs') (ys ++ ys') ≡ merged es xs ys ++ merged es' xs' ys'
merged_append [] es' [] xs' [] ys' h1 h2 = refl
merged_append [] es' [] xs' (y ∷ ys) ys' h1 h2 = absurd (cc)
merged_append [] es' (x ∷ xs) xs' ys ys' h1 h2 = absurd (cc)
merged_append (e ∷ es) es' [] xs' ys ys' h1 h2 = absurd (cc)
merged_append (e ∷ es) es' (x ∷ xs) xs' [] ys' h1 h2 = absurd (cc)
merged_append (e ∷ es) es' (x ∷ xs) xs' (y ∷ ys) ys' h1 h2 = ap (λ zs. cond e x y ∷ zs) (merged_append es es' xs xs' ys ys' (omega arith) (omega arith))

pub length_merged : (es : List Bool) (xs ys : List ℕ) → length xs ≡ length es → length ys ≡ length es → length (merged es xs ys) ≡ length es
length_merged [] [] ys h1 h2 = refl
length_merged [] (x ∷ xs) ys h1 h2 = refl
length_merged (e ∷ es) [] ys h1 h2 = absurd (cc)
length_merged (e ∷ es) (x ∷ xs) [] h1 h2 = absurd (cc)
length_merged (e ∷ es) (x ∷ xs) (y ∷ ys) h1 h2 = ap suc (length_merged es xs ys (omega arith) (omega arith))

-- ---- patches side by side

patch_at : (p y c new : List ℕ) (i n : ℕ) → length p ≡ i → length y ≡ n → patched (p ++ (y ++ c)) i n new ≡ p ++ new ++ c
patch_at p y c new i n h g =
    ap (λ xs. xs ++ new ++ drop (i + n) (p ++ (y ++ c))) (take_at p (y ++ c) i h)
    ∙ ap (λ xs. p ++ new ++ xs) (ap (drop (i + n)) (sym (append_assoc p y c)) ∙ drop_at (p ++ y) c (i + n) (omega (arith, length-append p y, h, g)))

bytes_there : (p y c : List ℕ) (i n : ℕ) → length p ≡ i → length y ≡ n → bytes_at (p ++ (y ++ c)) i n ≡ y
bytes_there p y c i n h g = ap (take n) (drop_at p (y ++ c) i h) ∙ take_at y c n g

divided : (m : List ℕ) (i n : ℕ) → i + n ≤ length m → m ≡ take i m ++ (take n (drop i m) ++ drop (i + n) m)
divided m i n l =
    sym (ap (λ xs. take i m ++ (take n (drop i m) ++ xs)) (sym (drop-drop n i m)) ∙ ap (λ xs. take i m ++ xs) (take-append-drop n (drop i m)) ∙ take-append-drop i m)

-- so many enabled bytes, written from an index on
abbrev pub write : List Bool → List ℕ → ℕ → List ℕ → List ℕ
write es xs i m = patched m i (length xs) (merged es xs (bytes_at m i (length xs)))

two_writes : (p y z c xs ws : List ℕ) (es fs : List Bool) (i : ℕ) → length p ≡ i → length y ≡ length xs → length z ≡ length ws → length xs ≡ length es
    → write (es ++ fs) (xs ++ ws) i (p ++ ((y ++ z) ++ c)) ≡ write fs ws (i + length xs) (write es xs i (p ++ ((y ++ z) ++ c)))
two_writes p y z c xs ws es fs i h gy gz ge =
    let all : length (y ++ z) ≡ length (xs ++ ws) = length-append y z ∙ omega (arith, gy, gz, length-append xs ws) in
    let one = merged es xs y in
    let other = merged fs ws z in
    let long : length one ≡ length xs = length_merged es xs y ge (gy ∙ ge) ∙ sym ge in
    let left : write (es ++ fs) (xs ++ ws) i (p ++ ((y ++ z) ++ c)) ≡ p ++ (one ++ other) ++ c =
    ap (λ v. patched (p ++ ((y ++ z) ++ c)) i (length (xs ++ ws)) (merged (es ++ fs) (xs ++ ws) v)) (bytes_there p (y ++ z) c i (length (xs ++ ws)) h all)
    ∙ ap (patched (p ++ ((y ++ z) ++ c)) i (length (xs ++ ws))) (merged_append es fs xs ws y z ge (gy ∙ ge))
    ∙ patch_at p (y ++ z) c (one ++ other) i (length (xs ++ ws)) h all in
    let flat : p ++ ((y ++ z) ++ c) ≡ p ++ (y ++ (z ++ c)) = ap (λ v. p ++ v) (append_assoc y z c) in
    let first : write es xs i (p ++ ((y ++ z) ++ c)) ≡ (p ++ one) ++ (z ++ c) =
    ap (write es xs i) flat ∙ ap (λ v. patched (p ++ (y ++ (z ++ c))) i (length xs) (merged es xs v)) (bytes_there p y (z ++ c) i (length xs) h gy)
    ∙ patch_at p y (z ++ c) one i (length xs) h gy in
    let there : length (p ++ one) ≡ i + length xs = omega (arith, length-append p one, h, long) in
    let second : write fs ws (i + length xs) ((p ++ one) ++ (z ++ c)) ≡ (p ++ one) ++ other ++ c =
    ap (λ v. patched ((p ++ one) ++ (z ++ c)) (i + length xs) (length ws) (merged fs ws v)) (bytes_there (p ++ one) z c (i + length xs) (length ws) there gz)
    ∙ patch_at (p ++ one) z c other (i + length xs) (length ws) there gz in
    left ∙ ap (λ v. v ++ c) (sym (append_assoc p one other)) ∙ sym (ap (write fs ws (i + length xs)) first ∙ second)

pub writes_in_turn : (m xs ws : List ℕ) (es fs : List Bool) (i : ℕ) → i + (length xs + length ws) ≤ length m → length xs ≡ length es
    → write (es ++ fs) (xs ++ ws) i m ≡ write fs ws (i + length xs) (write es xs i m)
writes_in_turn m xs ws es fs i l ge =
    let p = take i m in
    let y = take (length xs) (drop i m) in
    let z = take (length ws) (drop (i + length xs) m) in
    let c = drop (i + (length xs + length ws)) m in
    let lp : length p ≡ i = length-take-le i m (omega (arith, l)) in
    let ly : length y ≡ length xs = length-take-le (length xs) (drop i m) (omega (arith, l, length-drop i m)) in
    let lz : length z ≡ length ws = length-take-le (length ws) (drop (i + length xs) m) (omega (arith, l, length-drop (i + length xs) m)) in
    let one = divided m i (length xs) (omega (arith, l)) in
    let rest : drop (i + length xs) m ≡ z ++ c =
    sym (take-append-drop (length ws) (drop (i + length xs) m)) ∙ ap (λ v. z ++ v) (drop-drop (length ws) (i + length xs) m ∙ ap (λ k. drop k m) (omega arith)) in
    let is : m ≡ p ++ ((y ++ z) ++ c) = one ∙ ap (λ v. p ++ (y ++ v)) rest ∙ ap (λ v. p ++ v) (sym (append_assoc y z c)) in
    subst (λ (v : List ℕ). write (es ++ fs) (xs ++ ws) i v ≡ write fs ws (i + length xs) (write es xs i v)) (sym is) (two_writes p y z c xs ws es fs i lp ly lz ge)
