-- What marks tags, values and entities is an entity.
use Rattle.std.proofs.Common.{◌≡◌, ◌++◌, ◌∷◌, List, ℕ, [], Bool, true, false, cond, refl}
use Rattle.std.specs.Prelude.{◌==◌, ◌&&◌, nat_le, codes}
use Rattle.std.proofs.lemmas.Bool.{eq-eqb}
use Rattle.svg_text.specs.Xml.{escaped, is_plain, IsPlain}

no_both : {b : Bool} → b ≡ true → b ≡ false → ⊥
no_both e f = cc

-- a character that marks nothing
plain_next : (c : ℕ) (rest : List ℕ) → is_plain c ≡ true → (c == 38) ≡ false → IsPlain rest → IsPlain (c ∷ rest)
plain_next c rest plain_is other s = (plain_is, λ is. absurd (no_both (eq-eqb c 38 is) other), s)

plain_one : (c : ℕ) → (nat_le 32 c && nat_le c 126) ≡ true → (c == 60) ≡ false → (c == 62) ≡ false → (c == 34) ≡ false → is_plain c ≡ true
plain_one c printed lt_is gt_is quot_is = rw (printed, lt_is, gt_is, quot_is) refl

amp : (rest : List ℕ) → IsPlain rest → IsPlain (codes "&amp;" ++ rest)
amp rest s = (
  refl,
  λ is. record { first = codes "&amp;"; rest = rest; is = refl; known = refl },
  plain_next 97 _ refl refl (plain_next 109 _ refl refl (plain_next 112 _ refl refl (plain_next 59 rest refl refl s))),
)

lt : (rest : List ℕ) → IsPlain rest → IsPlain (codes "&lt;" ++ rest)
lt rest s = (
  refl,
  λ is. record { first = codes "&lt;"; rest = rest; is = refl; known = refl },
  plain_next 108 _ refl refl (plain_next 116 _ refl refl (plain_next 59 rest refl refl s)),
)

gt : (rest : List ℕ) → IsPlain rest → IsPlain (codes "&gt;" ++ rest)
gt rest s = (
  refl,
  λ is. record { first = codes "&gt;"; rest = rest; is = refl; known = refl },
  plain_next 103 _ refl refl (plain_next 116 _ refl refl (plain_next 59 rest refl refl s)),
)

quot : (rest : List ℕ) → IsPlain rest → IsPlain (codes "&quot;" ++ rest)
quot rest s = (
  refl,
  λ is. record { first = codes "&quot;"; rest = rest; is = refl; known = refl },
  plain_next 113 _ refl refl (plain_next 117 _ refl refl (plain_next 111 _ refl refl (plain_next 116 _ refl refl (plain_next 59 rest refl refl s)))),
)

-- a character as it stands in a text, by what it is
plain_by : (a b d e f : Bool) (c : ℕ) (rest : List ℕ) → (c == 38) ≡ a → (c == 60) ≡ b → (c == 62) ≡ d → (c == 34) ≡ e → (nat_le 32 c && nat_le c 126) ≡ f → IsPlain rest
    → IsPlain (cond a (codes "&amp;") (cond b (codes "&lt;") (cond d (codes "&gt;") (cond e (codes "&quot;") (cond f (c ∷ []) (codes "?"))))) ++ rest)
plain_by true b d e f c rest amp_is lt_is gt_is quot_is printed s = amp rest s
plain_by false true d e f c rest amp_is lt_is gt_is quot_is printed s = lt rest s
plain_by false false true e f c rest amp_is lt_is gt_is quot_is printed s = gt rest s
plain_by false false false true f c rest amp_is lt_is gt_is quot_is printed s = quot rest s
plain_by false false false false true c rest amp_is lt_is gt_is quot_is printed s = plain_next c rest (plain_one c printed lt_is gt_is quot_is) amp_is s
plain_by false false false false false c rest amp_is lt_is gt_is quot_is printed s = plain_next 63 rest refl refl s

pub plain : (text : List ℕ) → IsPlain (escaped text)
plain [] = tt
plain (c ∷ cs) = plain_by (c == 38) (c == 60) (c == 62) (c == 34) (nat_le 32 c && nat_le c 126) c (escaped cs) refl refl refl refl refl (plain cs)
