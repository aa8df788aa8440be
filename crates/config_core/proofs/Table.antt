-- The sizes of a memory, and the table.
use Rattle.std.proofs.Common.{◌≡◌, ℕ, ◌+◌, ◌-◌, ◌*◌, ◌/◌, ◌^◌, ◌<◌, ◌≤◌, ◌⊎◌, inl, inr, Bool, true, false, refl, sym, subst, arith}
use Rattle.std.specs.Prelude.{bit_and, if◌then◌else◌, ◌==◌}
use Rattle.std.specs.Int.Bits.{and_zero_r}
use Rattle.std.proofs.lemmas.Bool.Decides.{nat_tests}
use Rattle.std.proofs.lemmas.Nat.Bits.{and_high_mask}
use Rattle.config_core.specs.declared.register.Register.{Register}
use Rattle.config_core.specs.SetupView.{SetupView, is_size}
use Rattle.config_core.specs.Registers.{lanes, row, register_at}
use Rattle.config_core.proofs.Bits.{Fits}

-- ---- sizes

-- what the masks of a size do
pub record Sizes (n : ℕ) : Type 0 where
  pub some : 4096 ≤ n
  pub most : n ≤ 1048576
  pub apart : bit_and (2 ^ 32 - n) (n - 1) ≡ 0
  pub whole : bit_and (2 ^ 32 - n) (lanes 15) ≡ 2 ^ 32 - n
  pub low : bit_and 12 (n - 1) ≡ 12
  pub four : bit_and 12 (2 ^ 32 - n) ≡ 0
  pub all : 4294967295 / n * n ≡ 2 ^ 32 - n
  pub masked : (x : ℕ) → x < 2 ^ 32 → bit_and x (2 ^ 32 - n) ≡ x / n * n
  pub without_four : (x : ℕ) → (x / n * n + 12) / 16 * 16 ≡ x / n * n

size_4096 : Sizes 4096
size_4096 = record { some = omega arith; most = omega arith; apart = refl; whole = refl; low = refl; four = refl; all = refl; masked = λ x h. and_high_mask 32 12 (omega arith) x h; without_four = λ x. omega arith }

size_8192 : Sizes 8192
size_8192 = record { some = omega arith; most = omega arith; apart = refl; whole = refl; low = refl; four = refl; all = refl; masked = λ x h. and_high_mask 32 13 (omega arith) x h; without_four = λ x. omega arith }

size_16384 : Sizes 16384
size_16384 = record { some = omega arith; most = omega arith; apart = refl; whole = refl; low = refl; four = refl; all = refl; masked = λ x h. and_high_mask 32 14 (omega arith) x h; without_four = λ x. omega arith }

size_32768 : Sizes 32768
size_32768 = record { some = omega arith; most = omega arith; apart = refl; whole = refl; low = refl; four = refl; all = refl; masked = λ x h. and_high_mask 32 15 (omega arith) x h; without_four = λ x. omega arith }

size_65536 : Sizes 65536
size_65536 = record { some = omega arith; most = omega arith; apart = refl; whole = refl; low = refl; four = refl; all = refl; masked = λ x h. and_high_mask 32 16 (omega arith) x h; without_four = λ x. omega arith }

size_131072 : Sizes 131072
size_131072 = record { some = omega arith; most = omega arith; apart = refl; whole = refl; low = refl; four = refl; all = refl; masked = λ x h. and_high_mask 32 17 (omega arith) x h; without_four = λ x. omega arith }

size_262144 : Sizes 262144
size_262144 = record { some = omega arith; most = omega arith; apart = refl; whole = refl; low = refl; four = refl; all = refl; masked = λ x h. and_high_mask 32 18 (omega arith) x h; without_four = λ x. omega arith }

size_524288 : Sizes 524288
size_524288 = record { some = omega arith; most = omega arith; apart = refl; whole = refl; low = refl; four = refl; all = refl; masked = λ x h. and_high_mask 32 19 (omega arith) x h; without_four = λ x. omega arith }

size_1048576 : Sizes 1048576
size_1048576 = record { some = omega arith; most = omega arith; apart = refl; whole = refl; low = refl; four = refl; all = refl; masked = λ x h. and_high_mask 32 20 (omega arith) x h; without_four = λ x. omega arith }

one_of : (n : ℕ) → is_size n ≡ true → (n ≡ 4096) ⊎ ((n ≡ 8192) ⊎ ((n ≡ 16384) ⊎ ((n ≡ 32768) ⊎ ((n ≡ 65536) ⊎ ((n ≡ 131072) ⊎ ((n ≡ 262144) ⊎ ((n ≡ 524288) ⊎ (n ≡ 1048576))))))))
one_of n h = grind (arith, nat_tests)

by_one : (n : ℕ) → (n ≡ 4096) ⊎ ((n ≡ 8192) ⊎ ((n ≡ 16384) ⊎ ((n ≡ 32768) ⊎ ((n ≡ 65536) ⊎ ((n ≡ 131072) ⊎ ((n ≡ 262144) ⊎ ((n ≡ 524288) ⊎ (n ≡ 1048576)))))))) → Sizes n
by_one n (inl e) = subst Sizes (sym e) size_4096
by_one n (inr (inl e)) = subst Sizes (sym e) size_8192
by_one n (inr (inr (inl e))) = subst Sizes (sym e) size_16384
by_one n (inr (inr (inr (inl e)))) = subst Sizes (sym e) size_32768
by_one n (inr (inr (inr (inr (inl e))))) = subst Sizes (sym e) size_65536
by_one n (inr (inr (inr (inr (inr (inl e)))))) = subst Sizes (sym e) size_131072
by_one n (inr (inr (inr (inr (inr (inr (inl e))))))) = subst Sizes (sym e) size_262144
by_one n (inr (inr (inr (inr (inr (inr (inr (inl e)))))))) = subst Sizes (sym e) size_524288
by_one n (inr (inr (inr (inr (inr (inr (inr (inr e)))))))) = subst Sizes (sym e) size_1048576

pub sizes : (n : ℕ) → is_size n ≡ true → Sizes n
sizes n h = by_one n (one_of n h)

-- ---- the table

-- a property of both branches
pub on_if : {X : Type 0} {x y : X} → (P : X → Type 0) (b : Bool) → P x → P y → P (if b then x else y)
on_if P true p q = p
on_if P false p q = q

-- .. or of the second, if the first isn't taken
pub past : {X : Type 0} {y : X} → (P : X → Type 0) (b : Bool) (x : X) → b ≡ false → P y → P (if b then x else y)
past P true x e q = absurd (cc)
past P false x e q = q

constant : (reset : ℕ) → Fits (row reset 0 0)
constant reset = record { few = omega arith; apart = refl }

both_masks : (reset written cleared : ℕ) → written + cleared < 2 ^ 32 → bit_and written cleared ≡ 0 → Fits (row reset written cleared)
both_masks reset written cleared few apart = record { few = few; apart = apart }

fits : (s : SetupView) (o : ℕ) → Sizes s.size → Fits (register_at s o)
fits s o size =
    on_if Fits (o == 0) (constant _)
    (on_if Fits (o == 4) (both_masks _ _ _ (omega arith) refl)
    (on_if Fits (o == 8) (constant _)
    (on_if Fits (o == 12) (both_masks _ _ _ (omega arith) refl)
    (on_if Fits (o == 16) (both_masks 12 (2 ^ 32 - s.size) 0 (omega (arith, size.some, size.most)) (and_zero_r (2 ^ 32 - s.size)))
    (on_if Fits (o == 20) (both_masks _ _ _ (omega arith) refl)
    (on_if Fits (o == 44) (constant _)
    (on_if Fits (o == 52) (constant _)
    (on_if Fits (o == 60) (both_masks _ _ _ (omega arith) refl)
    (on_if Fits (o == 64) (constant _)
    (on_if Fits (o == 68) (both_masks _ _ _ (omega arith) refl)
    (on_if Fits (o == 80) (constant _)
    (on_if Fits (o == 84) (constant _)
    (on_if Fits (o == 88) (both_masks _ _ _ (omega arith) refl)
    (on_if Fits (o == 92) (constant _)
    (on_if Fits (o == 96) (both_masks _ _ _ (omega arith) refl)
    (on_if Fits (o == 116) (constant _)
    (on_if Fits (o == 124) (constant _)
    (constant 0))))))))))))))))))

pub fits_at : (s : SetupView) (o : ℕ) → is_size s.size ≡ true → Fits (register_at s o)
fits_at s o size = fits s o (sizes s.size size)

-- no bit of a register changes
pub record IsConstant (r : Register) : Type 0 where
  pub none_set : r.written ≡ 0
  pub none_cleared : r.cleared ≡ 0

fixed : (reset : ℕ) → IsConstant (row reset 0 0)
fixed reset = record { none_set = refl; none_cleared = refl }

-- a register that is none of those that change
pub constant_at : (s : SetupView) (o : ℕ) → (o == 4) ≡ false → (o == 12) ≡ false → (o == 16) ≡ false → (o == 20) ≡ false → (o == 60) ≡ false → (o == 68) ≡ false → (o == 88) ≡ false → (o == 96) ≡ false → IsConstant (register_at s o)
constant_at s o e4 e12 e16 e20 e60 e68 e88 e96 =
    on_if IsConstant (o == 0) (fixed _)
    (past IsConstant (o == 4) _ e4
    (on_if IsConstant (o == 8) (fixed _)
    (past IsConstant (o == 12) _ e12
    (past IsConstant (o == 16) _ e16
    (past IsConstant (o == 20) _ e20
    (on_if IsConstant (o == 44) (fixed _)
    (on_if IsConstant (o == 52) (fixed _)
    (past IsConstant (o == 60) _ e60
    (on_if IsConstant (o == 64) (fixed _)
    (past IsConstant (o == 68) _ e68
    (on_if IsConstant (o == 80) (fixed _)
    (on_if IsConstant (o == 84) (fixed _)
    (past IsConstant (o == 88) _ e88
    (on_if IsConstant (o == 92) (fixed _)
    (past IsConstant (o == 96) _ e96
    (on_if IsConstant (o == 116) (fixed _)
    (on_if IsConstant (o == 124) (fixed _)
    (fixed 0))))))))))))))))))
