-- Words, one after the other.
use Rattle.std.proofs.Common.{◌≡◌, ℕ, zero, suc, ◌<◌, Bool, true, false, List, [], ◌∷◌, length, take, drop, get_or, refl, sym, ap, inl, inr, arith}
use Rattle.std.specs.Prelude.{Option, Some, None, is_some, not}
use Rattle.std.specs.Borrow.{Bor}
use Rattle.std.proofs.lemmas.Bool.{cases_Bool}
use Rattle.operation_text.specs.Words.{words, words_behind, is_space, has_ended}

-- a space ends the first word
pub cut_at : (line : List ℕ) (at : ℕ) → at < length line → ((k : ℕ) → k < at → is_space (get_or line k 0) ≡ false) → is_space (get_or line at 0) ≡ true → words line ≡ take at line ∷ words (drop (suc at) line)
cut_at [] at l none stop = absurd (omega arith)
cut_at (c ∷ cs) zero l none stop = rw stop refl
cut_at (c ∷ cs) (suc at) l none stop =
    let rest = cut_at cs at (omega arith) (λ k m. none (suc k) (omega arith)) stop in
    rw (none 0 (omega arith), rest) refl

-- a line with no space is one word
pub one_word : (line : List ℕ) → ((k : ℕ) → k < length line → is_space (get_or line k 0) ≡ false) → words line ≡ line ∷ []
one_word [] none = refl
one_word (c ∷ cs) none =
    let rest = one_word cs (λ k m. none (suc k) (omega arith)) in
    rw (none 0 (omega arith), rest) refl

some_words : (line : List ℕ) → (w : List ℕ) × (ws : List (List ℕ)) × (words line ≡ w ∷ ws)
some_words [] = ([], [], refl)
some_words (c ∷ cs) = elim (cases_Bool (is_space c)) [
  | inl hit ↦ ([], words cs, rw hit refl)
  | inr miss ↦ let (w, ws, e) = some_words cs in (c ∷ w, ws, rw (miss, e) refl)
]

pub ended_is : (rest : Option (Bor (List ℕ))) (r : Bool) → not r ≡ is_some rest → r ≡ has_ended (words_behind rest)
ended_is None true h = refl
ended_is None false h = absurd (cc h)
ended_is (Some line) true h = absurd (cc h)
ended_is (Some line) false h = let (w, ws, e) = some_words line.now in sym (ap has_ended e)
