-- Facts of lines, for proofs.
use Rattle.std.proofs.Common.{◌≡◌, ◌≢◌, ◌<◌, ◌≤◌, ◌+◌, ◌-◌, ℕ, true, false, List, [], ◌∷◌, ◌++◌, ◌∙◌, ◌==◌, length, take, drop, slice_index, get_or, refl, ap, sym, arith, All}
use Rattle.std.specs.Io.BufRead.{ends_with_byte}
use Rattle.std.proofs.lemmas.Bool.Decides.{nat_tests}
use Rattle.std.proofs.lemmas.Grind.{common_steps}
use Rattle.std.proofs.lemmas.List.{length-take-le, take-append-drop, take_more}
use Rattle.std.proofs.lemmas.List.Elements.{All-head, All-drop, All-get_or, All-from_get_or}
use Rattle.std.proofs.Math.Seq.{get_or-take}
use Rattle.memchr.specs.Find.{Nowhere, Passes, is_byte}
use Rattle.hex_text.specs.Lines.{lines_of, bare}

-- the same as All, by recursion
abbrev pub NoFeed : List ℕ → Type 0
NoFeed [] = Unit {0}
NoFeed (b ∷ bs) = (b ≢ 10) × NoFeed bs

pub no_feed : (xs : List ℕ) → All (λ b. b ≢ 10) xs → NoFeed xs
no_feed [] h = tt
no_feed (x ∷ xs) h = (All-head (λ b. b ≢ 10) x xs h, no_feed xs (All-drop (λ b. b ≢ 10) 1 (x ∷ xs) h))

-- the test for a line feed
other : (b : ℕ) → b ≢ 10 → (b == 10) ≡ false
other b ne = grind (arith, nat_tests)

-- ---- lines

-- a line feed ends the unfinished line
pub lines_of-feed : (xs more : List ℕ) → NoFeed xs → lines_of (xs ++ 10 ∷ more) ≡ (xs ++ 10 ∷ []) ∷ lines_of more
unfolding lines_of
lines_of-feed [] more h = refl
lines_of-feed (x ∷ xs) more h =
    let test : (x == 10) ≡ false = other x h.0 in
    rw (test, lines_of-feed xs more h.1) refl

-- with no more to come the unfinished line is the last one
pub lines_of-last : (xs : List ℕ) (b : ℕ) → NoFeed (b ∷ xs) → lines_of (b ∷ xs) ≡ (b ∷ xs) ∷ []
unfolding lines_of
lines_of-last [] b h = let test : (b == 10) ≡ false = other b h.0 in rw test refl
lines_of-last (x ∷ xs) b h =
    let test : (b == 10) ≡ false = other b h.0 in
    rw (test, lines_of-last xs x h.1) refl

-- a line that ends in a line feed
pub ends-feed : (xs : List ℕ) → ends_with_byte 10 (xs ++ 10 ∷ []) ≡ true
ends-feed xs = grind (arith, common_steps, nat_tests)

pub bare-feed : (xs : List ℕ) → bare (xs ++ 10 ∷ []) ≡ xs
bare-feed xs = rw (ends-feed xs) (grind (arith, common_steps))

-- a line without one
pub ends-last : (xs : List ℕ) → All (λ b. b ≢ 10) xs → ends_with_byte 10 xs ≡ false
ends-last [] h = refl
ends-last (x ∷ xs) h =
    let ne : get_or (x ∷ xs) (length (x ∷ xs) - 1) 0 ≢ 10 =
    All-get_or (λ b. b ≢ 10) (x ∷ xs) (length (x ∷ xs) - 1) 0 (omega arith) h in
    let test : (get_or (x ∷ xs) (length (x ∷ xs) - 1) 0 == 10) ≡ false = other _ ne in
    rw test (grind (arith, nat_tests))

-- ---- where a line ends

-- no line feed before the first
pub none-before : (xs : List ℕ) (k : ℕ) → k ≤ length xs → Nowhere (Passes (is_byte 10) xs) 0 k → All (λ b. b ≢ 10) (take k xs)
none-before xs k le h = All-from_get_or (λ b. b ≢ 10) (take k xs) 0 (λ i lt e.
    let low : i < k = omega (arith, length-take-le k xs le) in
    let same : get_or xs i 0 ≡ 10 = sym (get_or-take k xs i 0 low) ∙ e in
    h i (omega arith) low (rw same refl))

pub none-at-all : (xs : List ℕ) → Nowhere (Passes (is_byte 10) xs) 0 (length xs) → All (λ b. b ≢ 10) xs
none-at-all xs h = All-from_get_or (λ b. b ≢ 10) xs 0 (λ i lt e. h i (omega arith) lt (rw e refl))

-- the text up to a line feed, the line feed, and the rest
pub cut-at : (xs : List ℕ) (k : ℕ) → k < length xs → (slice_index xs k == 10) ≡ true → xs ≡ (take k xs ++ 10 ∷ []) ++ drop (k + 1) xs
cut-at xs k lt t =
    let is : get_or xs k 0 ≡ 10 = grind (arith, nat_tests) in
    sym (take-append-drop (k + 1) xs) ∙ ap (λ (t : List ℕ). t ++ drop (k + 1) xs) (take_more xs k 0 lt ∙ ap (λ (b : ℕ). take k xs ++ b ∷ []) is)
