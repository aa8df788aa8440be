-- A requester's digit is a word.
use Rattle.std.proofs.Common.{◌≡◌, ℕ, ◌-◌, ◌≤◌, List, ◌∷◌, refl, Some, inl, inr, arith}
use Rattle.std.proofs.lemmas.Bool.{cases_lt}
use Rattle.operation_text.specs.Words.{words, first_field}
use Rattle.record_text.specs.Forms.{requester}

-- what holds of each of the seven digits
each : (P : ℕ → Type 0) → P 49 → P 50 → P 51 → P 52 → P 53 → P 54 → P 55 → (d : ℕ) → 49 ≤ d → d ≤ 55 → P d
each P a b c e f g h d low high = elim (cases_lt d 50) [
  | inl l ↦ let is : d ≡ 49 = omega arith in rw is a
  | inr m ↦ elim (cases_lt d 51) [
    | inl l ↦ let is : d ≡ 50 = omega arith in rw is b
    | inr m ↦ elim (cases_lt d 52) [
      | inl l ↦ let is : d ≡ 51 = omega arith in rw is c
      | inr m ↦ elim (cases_lt d 53) [
        | inl l ↦ let is : d ≡ 52 = omega arith in rw is e
        | inr m ↦ elim (cases_lt d 54) [
          | inl l ↦ let is : d ≡ 53 = omega arith in rw is f
          | inr m ↦ elim (cases_lt d 55) [
            | inl l ↦ let is : d ≡ 54 = omega arith in rw is g
            | inr m ↦ let is : d ≡ 55 = omega arith in rw is h
          ]
        ]
      ]
    ]
  ]
]

-- the digit and a space spell the requester
pub one_digit : (d : ℕ) (line : List ℕ) → 49 ≤ d → d ≤ 55 → first_field requester (words (d ∷ 32 ∷ line)) ≡ Some (d - 48, words line)
one_digit d line low high =
    each (λ k. first_field requester (words (k ∷ 32 ∷ line)) ≡ Some (k - 48, words line)) refl refl refl refl refl refl refl d low high
