-- The numbers of lines: what each skipped line adds, and what it leaves.
use Rattle.std.proofs.Common.{◌≡◌, ℕ, zero, suc, ◌+◌, ◌-◌, ◌^◌, ◌<◌, ◌≤◌, Bool, true, false, List, [], ◌∷◌, ◌++◌, length, Option, Some, None, refl, ap, ◌∙◌, arith}
use Rattle.std.specs.Prelude.{nat_le, min, slice_get, if◌then◌else◌}
use Rattle.std.proofs.lemmas.Bool.{le-leb, lt-leb}
use Rattle.std.proofs.lemmas.Option.{slice_get_within}
use Rattle.std.proofs.Math.Nat.{min-eq_left}
use Rattle.hex_text.specs.Lines.{is_skipped}
use Rattle.trace_diagnostics.specs.Told.{TraceLinesView, numbered, numbered_all, plus, further, unskipped, LinesHaveTheirNumbers}

small : (a b : ℕ) → a + b < 2 ^ 64 → plus a b ≡ a + b
small a b h = min-eq_left (omega (arith, h))

abbrev number_of : Option ℕ → ℕ
number_of (Some n) = n
number_of None = 0

-- ---- one line more that is skipped

further-push : (ks : List ℕ) (k n : ℕ) → further (ks ++ k ∷ []) n ≡ (if nat_le k (further ks n) then plus (further ks n) 1 else further ks n)
further-push [] k n = refl
further-push (j ∷ ks) k n = further-push ks k (if nat_le j n then plus n 1 else n)

stays : (ks : List ℕ) (k n m : ℕ) → further ks n ≡ m → m < k → further (ks ++ k ∷ []) n ≡ m
stays ks k n m e h = further-push ks k n ∙ rw (e, lt-leb k m h) refl

moves : (ks : List ℕ) (k n m : ℕ) → further ks n ≡ m → k ≤ m → m + 1 < 2 ^ 64 → further (ks ++ k ∷ []) n ≡ m + 1
moves ks k n m e h w = further-push ks k n ∙ rw (e, le-leb k m h) (small m 1 w)

-- ---- one line more

abbrev after : ℕ → List ℕ → Bool → TraceLinesView
after count ks b = record { lines = count + 1; skipped = if b then ks ++ (count + 1) ∷ [] else ks }

one : (count : ℕ) (ks : List ℕ) (line : List ℕ) (b : Bool) → is_skipped line ≡ b → count + 1 < 2 ^ 64 → numbered (record { lines = count; skipped = ks }) line ≡ after count ks b
one count ks line b e w = rw (e, small count 1 w) refl

-- what the lines that follow leave of a number
abbrev left : ℕ → List ℕ → List (List ℕ) → ℕ → ℕ
left count ks lines n = further (numbered_all (record { lines = count; skipped = ks }) lines).skipped n

on : (line : List ℕ) (rest : List (List ℕ)) (count : ℕ) (ks : List ℕ) (n m : ℕ) (b : Bool) → is_skipped line ≡ b → count + 1 < 2 ^ 64
    → further (numbered_all (after count ks b) rest).skipped n ≡ m → left count ks (line ∷ rest) n ≡ m
on line rest count ks n m b is w known = ap (λ (z : TraceLinesView). further (numbered_all z rest).skipped n) (one count ks line b is w) ∙ known

-- ---- all lines

few_of : (number : ℕ) (rest : List (List ℕ)) (b : Bool) → length (unskipped (number + 1) rest) ≤ length rest
    → length (if b then unskipped (number + 1) rest else number ∷ unskipped (number + 1) rest) ≤ suc (length rest)
few_of number rest true below = omega (arith, below)
few_of number rest false below = omega (arith, below)

few : (number : ℕ) (lines : List (List ℕ)) → length (unskipped number lines) ≤ length lines
few number [] = omega arith
few number (line ∷ rest) = few_of number rest (is_skipped line) (few (number + 1) rest)

-- a line that has its number keeps it
settled_of : (line : List ℕ) (rest : List (List ℕ)) (count : ℕ) (ks : List ℕ) (n m : ℕ) (b : Bool) → is_skipped line ≡ b → further ks n ≡ m → m ≤ count → count + 1 < 2 ^ 64
    → ((ks' : List ℕ) → further ks' n ≡ m → left (count + 1) ks' rest n ≡ m) → left count ks (line ∷ rest) n ≡ m
settled_of line rest count ks n m true is e h w later = on line rest count ks n m true is w (later (ks ++ (count + 1) ∷ []) (stays ks (count + 1) n m e (omega (arith, h))))
settled_of line rest count ks n m false is e h w later = on line rest count ks n m false is w (later ks e)

settled : (lines : List (List ℕ)) (count : ℕ) (ks : List ℕ) (n m : ℕ) → further ks n ≡ m → m ≤ count → count + length lines < 2 ^ 64 → left count ks lines n ≡ m
settled [] count ks n m e h w = e
settled (line ∷ rest) count ks n m e h w =
    settled_of line rest count ks n m (is_skipped line) refl e h (omega (arith, w)) (λ ks' e'. settled rest (count + 1) ks' n m e' (omega (arith, h)) (omega (arith, w)))

-- a line that is still to come has its number when it comes
abbrev Comes : ℕ → List (List ℕ) → ℕ → ℕ → Type 0
Comes count lines n number = (ks : List ℕ) (j : ℕ) → further ks n ≡ count + 1 + j → slice_get (unskipped (count + 1) lines) j ≡ Some number → left count ks lines n ≡ number

-- where the line isn't skipped it is the one, or one before it
named : (line : List ℕ) (rest : List (List ℕ)) (count : ℕ) (ks : List ℕ) (n j number : ℕ) → is_skipped line ≡ false → count + 1 + length rest < 2 ^ 64 → Comes (count + 1) rest n number
    → further ks n ≡ count + 1 + j → slice_get ((count + 1) ∷ unskipped (count + 1 + 1) rest) j ≡ Some number → left count ks (line ∷ rest) n ≡ number
named line rest count ks n zero number is w later e there =
    on line rest count ks n number false is (omega (arith, w)) (settled rest (count + 1) ks n (count + 1) (e ∙ omega arith) (omega arith) w ∙ ap number_of there)
named line rest count ks n (suc i) number is w later e there =
    on line rest count ks n number false is (omega (arith, w)) (later ks i (e ∙ omega arith) there)

skipped_over : (line : List ℕ) (rest : List (List ℕ)) (count : ℕ) (ks : List ℕ) (n j number : ℕ) → is_skipped line ≡ true → count + 1 + length rest < 2 ^ 64 → Comes (count + 1) rest n number
    → further ks n ≡ count + 1 + j → slice_get (unskipped (count + 1 + 1) rest) j ≡ Some number → left count ks (line ∷ rest) n ≡ number
skipped_over line rest count ks n j number is w later e there =
    let inside : j < length (unskipped (count + 1 + 1) rest) = slice_get_within (unskipped (count + 1 + 1) rest) j number there in
    let short : length (unskipped (count + 1 + 1) rest) ≤ length rest = few (count + 1 + 1) rest in
    on line rest count ks n number true is (omega (arith, w)) (later (ks ++ (count + 1) ∷ []) j (moves ks (count + 1) n (count + 1 + j) e (omega arith) (omega (arith, w, inside, short)) ∙ omega arith) there)

comes_of : (line : List ℕ) (rest : List (List ℕ)) (count : ℕ) (ks : List ℕ) (n j number : ℕ) (b : Bool) → is_skipped line ≡ b → count + 1 + length rest < 2 ^ 64 → Comes (count + 1) rest n number
    → further ks n ≡ count + 1 + j → slice_get (if b then unskipped (count + 1 + 1) rest else (count + 1) ∷ unskipped (count + 1 + 1) rest) j ≡ Some number → left count ks (line ∷ rest) n ≡ number
comes_of line rest count ks n j number true is w later e there = skipped_over line rest count ks n j number is w later e there
comes_of line rest count ks n j number false is w later e there = named line rest count ks n j number is w later e there

comes : (lines : List (List ℕ)) (count n number : ℕ) → count + length lines < 2 ^ 64 → Comes count lines n number
comes [] count n number w ks j e there = let none : j < length {A = ℕ} [] = slice_get_within [] j number there in absurd (omega (arith, none))
comes (line ∷ rest) count n number w ks j e there =
    let fits : count + 1 + length rest < 2 ^ 64 = omega (arith, w) in
    comes_of line rest count ks n j number (is_skipped line) refl fits (comes rest (count + 1) n number fits) e there

pub told : LinesHaveTheirNumbers
told lines n number w there =
    let inside : n < length (unskipped 1 lines) = slice_get_within (unskipped 1 lines) n number there in
    let short : length (unskipped 1 lines) ≤ length lines = few 1 lines in
    comes lines 0 (plus n 1) number (omega (arith, w)) [] n (small n 1 (omega (arith, w, inside, short)) ∙ omega arith) there
