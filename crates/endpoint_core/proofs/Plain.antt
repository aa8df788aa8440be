-- A TLP in which nothing is to be ignored is read as it is.
use Rattle.std.proofs.Common.{◌≡◌, ◌∙◌, ℕ, ◌+◌, ◌*◌, ◌/◌, ◌%◌, Bool, true, false, cond, List, refl, ap, subst, arith}
use Rattle.std.specs.Prelude.{◌==◌, ◌&&◌, slice_index, slice_set}
use Rattle.std.proofs.lemmas.Bool.Decides.{nat_tests}
use Rattle.std.proofs.lemmas.List.{set-get_or}
use Rattle.std.proofs.Math.Seq.{take-length}
use Rattle.tlp_core.specs.Bits.{bits, has_bit}
use Rattle.config_core.specs.Layout.{is_kind}
use Rattle.endpoint_core.specs.Classes.{is_read, plain_code, plain_hints, plain_enables, without_digest, plain}

undigested : (b : List ℕ) → slice_index b 2 / 64 ≡ 0 → without_digest b ≡ b
undigested b none =
    let no : (slice_index b 2 / 128 == 1) ≡ false = grind (arith, nat_tests) in
    rw (no) (take-length b)

no_flags : (x : ℕ) → x / 64 ≡ 0 → x % 64 ≡ x
no_flags x none = omega (arith, none)

-- TH is none of the bits that stay
even_by : (b : Bool) (x y : ℕ) → cond b (x * 16) (x * 16 + y * 4) % 2 ≡ 0
even_by true x y = omega arith
even_by false x y = omega arith

no_hint : (b : List ℕ) → plain_hints b ≡ slice_index b 1 → slice_index b 1 % 2 ≡ 0
no_hint b same = subst (λ (x : ℕ). x % 2 ≡ 0) same (even_by (is_kind (slice_index b 0)) (bits b 1 4 3) (bits b 1 2 1))

enables_by : (r h : Bool) (x y : ℕ) → h ≡ false → cond (r && h) x y ≡ y
enables_by true h x y none = rw (none) refl
enables_by false h x y none = refl

pub same_enables : (b : List ℕ) → plain_hints b ≡ slice_index b 1 → plain_enables b ≡ slice_index b 7
same_enables b same =
    let even : slice_index b 1 % 2 ≡ 0 = no_hint b same in
    let none : has_bit b 1 0 ≡ false = grind (arith, nat_tests) in
    enables_by (is_read (slice_index b 0)) (has_bit b 1 0) _ (slice_index b 7) none

pub as_it_is : (b : List ℕ) → slice_index b 2 / 64 ≡ 0 → plain_hints b ≡ slice_index b 1 → plain_code (slice_index b 0) ≡ slice_index b 0 → plain b ≡ b
as_it_is b flags hints code =
    rw (undigested b flags, code, hints, no_flags (slice_index b 2) flags, same_enables b hints)
    (ap (λ (c : List ℕ). slice_set (slice_set (slice_set c 1 (slice_index b 1)) 2 (slice_index b 2)) 7 (slice_index b 7)) (set-get_or b 0 0)
    ∙ ap (λ (c : List ℕ). slice_set (slice_set c 2 (slice_index b 2)) 7 (slice_index b 7)) (set-get_or b 1 0)
    ∙ ap (λ (c : List ℕ). slice_set c 7 (slice_index b 7)) (set-get_or b 2 0)
    ∙ set-get_or b 7 0)
