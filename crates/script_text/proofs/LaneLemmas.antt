-- A lane's name at the front of a line.
use Rattle.std.proofs.Common.{◌≡◌, ℕ, ◌-◌, ◌≤◌, true, false, List, [], ◌∷◌, refl, ap, ◌∙◌, Some, None, arith}
use Rattle.std.specs.Prelude.{Option, IfSome, nat_le}
use Rattle.std.specs.Borrow.{Bor}
use Rattle.std.proofs.lemmas.Bool.{ne_eqb}
use Rattle.std.proofs.lemmas.Bool.Decides.{nat_tests}
use Rattle.fabric_steps.specs.declared.event.LaneName.{LaneName}
use Rattle.fabric_steps.specs.declared.event.LaneName.TheVariants as lanes
use Rattle.operation_text.specs.Words.{words, words_behind, first_field, is_space}
use Rattle.script_text.specs.Forms as forms

not-space : (d : ℕ) → 49 ≤ d → is_space d ≡ false
not-space d low = ne_eqb d 32 (λ e. omega (arith, e, low))

port-digit : (d : ℕ) → 49 ≤ d → d ≤ 55 → forms.port_digit (d ∷ []) ≡ Some (d - 48)
port-digit d low high =
    let least : nat_le 49 d ≡ true = grind (arith, nat_tests) in
    let most : nat_le d 55 ≡ true = grind (arith, nat_tests) in
    rw (least, most) refl

abbrev First : List ℕ → Option (LaneName × Option (Bor (List ℕ))) → Type 0
First line r = IfSome r (λ s. first_field forms.lane (words line) ≡ Some (s.0, words_behind s.1))

pub up_first : (d : ℕ) (rest : List ℕ) (r : Option (LaneName × Option (Bor (List ℕ)))) → IfSome r (λ s. s.0 ≡ lanes.Up (d - 48))
    → IfSome r (λ s. words rest ≡ [] ∷ words_behind s.1) → 49 ≤ d → d ≤ 55 → First (117 ∷ 112 ∷ d ∷ rest) r
up_first d rest None lane behind low high = behind
up_first d rest (Some s) lane behind low high = rw (lane, behind, not-space d low, port-digit d low high) refl

pub down_first : (d : ℕ) (rest : List ℕ) (r : Option (LaneName × Option (Bor (List ℕ)))) → IfSome r (λ s. s.0 ≡ lanes.Down (d - 48))
    → IfSome r (λ s. words rest ≡ [] ∷ words_behind s.1) → 49 ≤ d → d ≤ 55 → First (100 ∷ 111 ∷ 119 ∷ 110 ∷ d ∷ rest) r
down_first d rest None lane behind low high = behind
down_first d rest (Some s) lane behind low high = rw (lane, behind, not-space d low, port-digit d low high) refl

pub in_first : (rest : List ℕ) (r : Option (LaneName × Option (Bor (List ℕ)))) → IfSome r (λ s. s.0 ≡ lanes.Inward)
    → IfSome r (λ s. words rest ≡ [] ∷ words_behind s.1) → First (105 ∷ 110 ∷ rest) r
in_first rest None lane behind = behind
in_first rest (Some s) lane behind = rw (lane, behind) refl

pub out_first : (rest : List ℕ) (r : Option (LaneName × Option (Bor (List ℕ)))) → IfSome r (λ s. s.0 ≡ lanes.Outward)
    → IfSome r (λ s. words rest ≡ [] ∷ words_behind s.1) → First (111 ∷ 117 ∷ 116 ∷ rest) r
out_first rest None lane behind = behind
out_first rest (Some s) lane behind = rw (lane, behind) refl
