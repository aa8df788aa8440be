-- The lines of a text, one after the other.
use Rattle.std.proofs.Common.{◌≡◌, ◌≢◌, ◌<◌, ◌-◌, ◌+◌, ◌≤◌, ℕ, Bool, true, false, List, [], ◌∷◌, ◌++◌, ◌∙◌, ◌==◌, length, take, drop, slice_index, All, map, refl, ap, sym, append_assoc, arith}
use Rattle.std.specs.Prelude.{filter}
use Rattle.std.specs.Io.BufRead.{ends_with_byte, strip_last}
use Rattle.hex_text.specs.Lines.{lines_of, said, bare}
use Rattle.hex_text.specs.LineFacts.{no_feed, lines_of-feed, lines_of-last, cut-at, ends-feed, ends-last, bare-feed}
use Rattle.search_reasons.specs.Lines.{said_lines}

kept : {X : Type 0} (p : X → Bool) (x : X) (xs : List X) → p x ≡ true → filter p (x ∷ xs) ≡ x ∷ filter p xs
kept p x xs h = rw h refl

left_out : {X : Type 0} (p : X → Bool) (x : X) → p x ≡ false → filter p (x ∷ []) ≡ []
left_out p x h = rw h refl

said-feed : (xs : List ℕ) → said (xs ++ 10 ∷ []) ≡ strip_last 13 xs
said-feed xs =
    let ended : said (xs ++ 10 ∷ []) ≡ strip_last 13 (bare (xs ++ 10 ∷ [])) = rw (ends-feed xs) refl in
    ended ∙ ap (strip_last 13) (bare-feed xs)

-- a line feed ends the first line
pub said-next : (xs : List ℕ) (k : ℕ) → k < length xs → (slice_index xs k == 10) ≡ true → All (λ b. b ≢ 10) (take k xs) → said_lines xs ≡ strip_last 13 (take k xs) ∷ said_lines (drop (k + 1) xs)
said-next xs k lt t h =
    let front = take k xs in
    let back = drop (k + 1) xs in
    let cut : lines_of xs ≡ (front ++ 10 ∷ []) ∷ lines_of back =
    ap lines_of (cut-at xs k lt t ∙ append_assoc front (10 ∷ []) back) ∙ lines_of-feed front back (no_feed front h) in
    ap (λ (ls : List (List ℕ)). map said (filter (ends_with_byte 10) ls)) cut
    ∙ ap (map said) (kept (ends_with_byte 10) (front ++ 10 ∷ []) (lines_of back) (ends-feed front))
    ∙ ap (λ (line : List ℕ). line ∷ said_lines back) (said-feed front)

-- the same by what is left behind it
pub said-behind : (xs behind line : List ℕ) (k : ℕ) → k < length xs → (slice_index xs k == 10) ≡ true → All (λ b. b ≢ 10) (take k xs) → line ≡ strip_last 13 (take k xs) → behind ≡ drop (k + 1) xs
    → said_lines xs ≡ line ∷ said_lines behind
said-behind xs behind line k lt t h is back = said-next xs k lt t h ∙ (λ i. sym is i ∷ said_lines (sym back i))

-- without one there is none
pub said-none : (xs : List ℕ) → All (λ b. b ≢ 10) xs → said_lines xs ≡ []
unfolding lines_of
said-none [] h = refl
said-none (b ∷ xs) h =
    ap (λ (ls : List (List ℕ)). map said (filter (ends_with_byte 10) ls)) (lines_of-last xs b (no_feed (b ∷ xs) h))
    ∙ ap (map said) (left_out (ends_with_byte 10) (b ∷ xs) (ends-last (b ∷ xs) h))
