-- Words, one after the other.
use Rattle.std.proofs.Common.{◌≡◌, ◌≢◌, ℕ, Bool, true, List, [], ◌∷◌, ◌++◌, refl, ap, ◌∙◌, arith}
use Rattle.std.specs.Prelude.{◌==◌, ◌&&◌, not}
use Rattle.std.proofs.lemmas.Bool.{and_parts, ne_eqb}
use Rattle.std.proofs.lemmas.Bool.Decides.{nat_tests}
use Rattle.std.proofs.lemmas.List.{append-nil}
use Rattle.operation_text.specs.Words.{words}

-- the character is not in the text
abbrev pub Lacks : ℕ → List ℕ → Type 0
Lacks x [] = Unit {0}
Lacks x (c ∷ cs) = (c ≢ x) × Lacks x cs

-- the test of that
unfoldable pub lacks : ℕ → List ℕ → Bool
lacks x [] = true
lacks x (c ∷ cs) = not (c == x) && lacks x cs

pub lacks-is : (x : ℕ) (cs : List ℕ) → lacks x cs ≡ true → Lacks x cs
unfolding lacks
lacks-is x [] h = tt
lacks-is x (c ∷ cs) h = let parts = and_parts (not (c == x)) (lacks x cs) h in (differ c parts.0, lacks-is x cs parts.1)
  where
    differ : (c : ℕ) → not (c == x) ≡ true → c ≢ x
    differ c e same = grind (arith, nat_tests)

pub lacks-append : (x : ℕ) (cs ds : List ℕ) → Lacks x cs → Lacks x ds → Lacks x (cs ++ ds)
lacks-append x [] ds h k = k
lacks-append x (c ∷ cs) ds h k = (h.0, lacks-append x cs ds h.1 k)

-- a word, before a space and at the end of a line
pub record IsPart (w : List ℕ) : Type 0 where
  pub first : (line : List ℕ) → words (w ++ 32 ∷ line) ≡ w ∷ words line
  pub last : words w ≡ w ∷ []

word-first : (w line : List ℕ) → Lacks 32 w → words (w ++ 32 ∷ line) ≡ w ∷ words line
word-first [] line h = refl
word-first (c ∷ w) line h = rw (ne_eqb c 32 h.0, word-first w line h.1) refl

word-last : (w : List ℕ) → Lacks 32 w → words w ≡ w ∷ []
word-last [] h = refl
word-last (c ∷ w) h = rw (ne_eqb c 32 h.0, word-last w h.1) refl

pub part : (w : List ℕ) → Lacks 32 w → IsPart w
part w h = record { first = λ line. word-first w line h; last = word-last w h }

-- a text that ends the word before it, and then has these words
abbrev pub IsTail : List ℕ → List (List ℕ) → Type 0
IsTail text ws = (w : List ℕ) → IsPart w → words (w ++ text) ≡ w ∷ ws

pub tail-none : IsTail [] []
tail-none w h = ap words (append-nil w) ∙ h.last

pub tail-last : (v : List ℕ) → IsPart v → IsTail (32 ∷ v) (v ∷ [])
tail-last v hv w hw = hw.first v ∙ ap (λ (r : List (List ℕ)). w ∷ r) hv.last

pub tail-word : (v text : List ℕ) (ws : List (List ℕ)) → IsPart v → IsTail text ws → IsTail (32 ∷ (v ++ text)) (v ∷ ws)
tail-word v text ws hv ht w hw = hw.first (v ++ text) ∙ ap (λ (r : List (List ℕ)). w ∷ r) (ht v hv)
