-- The memory's place in registers that change.
use Rattle.std.proofs.Common.{◌≡◌, ◌∙◌, ℕ, ◌+◌, ◌-◌, ◌*◌, ◌/◌, ◌%◌, ◌^◌, ◌<◌, ◌⊎◌, inl, inr, max, Bool, true, false, cond, List, [], ◌∷◌, refl, sym, ap, subst, arith}
use Rattle.std.specs.Prelude.{bit_and, bit_or, ◌==◌, if◌then◌else◌}
use Rattle.std.specs.Int.{bit_at}
use Rattle.std.proofs.lemmas.Bool.Decides.{nat_tests}
use Rattle.std.proofs.lemmas.Nat.{and_mask}
use Rattle.std.proofs.lemmas.Nat.Bits.{bit_at_lowest, bit_at-suc, bit_at_or}
use Rattle.config_core.specs.declared.registers.Noted.{Noted}
use Rattle.config_core.specs.SetupView.{SetupView, is_size}
use Rattle.config_core.specs.RegistersView.{RegistersView}
use Rattle.config_core.specs.Registers.{register_at, value, put, after_error, after_poison, after_reset, base_of, is_on}
use Rattle.config_core.specs.Changes.{Change, Write, Error, Poison, after_change, after_changes}

-- the law of read-only bits
abbrev pub Stays : Type 0
Stays = (r : RegistersView) (changes : List Change) (offset mask : ℕ) → is_size r.setup.size ≡ true → mask < 2 ^ 32
    → bit_and (register_at r.setup offset).written mask ≡ 0 → bit_and (register_at r.setup offset).cleared mask ≡ 0
    → bit_and (value (after_changes r changes) offset) mask ≡ bit_and (value r offset) mask

-- the BAR's lowest bits are those of a memory
pub record IsSized (r : RegistersView) : Type 0 where
  pub sized : is_size r.setup.size ≡ true
  pub low : bit_and r.bar_low 127 ≡ 12

one_of : (n : ℕ) → is_size n ≡ true → (n ≡ 4096) ⊎ ((n ≡ 8192) ⊎ ((n ≡ 16384) ⊎ ((n ≡ 32768) ⊎ ((n ≡ 65536) ⊎ ((n ≡ 131072) ⊎ ((n ≡ 262144) ⊎ ((n ≡ 524288) ⊎ (n ≡ 1048576))))))))
one_of n h = grind (arith, nat_tests)

masked : (n : ℕ) → (n ≡ 4096) ⊎ ((n ≡ 8192) ⊎ ((n ≡ 16384) ⊎ ((n ≡ 32768) ⊎ ((n ≡ 65536) ⊎ ((n ≡ 131072) ⊎ ((n ≡ 262144) ⊎ ((n ≡ 524288) ⊎ (n ≡ 1048576)))))))) → bit_and (2 ^ 32 - n) 127 ≡ 0
masked n (inl e) = subst (λ (x : ℕ). bit_and (2 ^ 32 - x) 127 ≡ 0) (sym e) refl
masked n (inr (inl e)) = subst (λ (x : ℕ). bit_and (2 ^ 32 - x) 127 ≡ 0) (sym e) refl
masked n (inr (inr (inl e))) = subst (λ (x : ℕ). bit_and (2 ^ 32 - x) 127 ≡ 0) (sym e) refl
masked n (inr (inr (inr (inl e)))) = subst (λ (x : ℕ). bit_and (2 ^ 32 - x) 127 ≡ 0) (sym e) refl
masked n (inr (inr (inr (inr (inl e))))) = subst (λ (x : ℕ). bit_and (2 ^ 32 - x) 127 ≡ 0) (sym e) refl
masked n (inr (inr (inr (inr (inr (inl e)))))) = subst (λ (x : ℕ). bit_and (2 ^ 32 - x) 127 ≡ 0) (sym e) refl
masked n (inr (inr (inr (inr (inr (inr (inl e))))))) = subst (λ (x : ℕ). bit_and (2 ^ 32 - x) 127 ≡ 0) (sym e) refl
masked n (inr (inr (inr (inr (inr (inr (inr (inl e)))))))) = subst (λ (x : ℕ). bit_and (2 ^ 32 - x) 127 ≡ 0) (sym e) refl
masked n (inr (inr (inr (inr (inr (inr (inr (inr e)))))))) = subst (λ (x : ℕ). bit_and (2 ^ 32 - x) 127 ≡ 0) (sym e) refl

setup_by : (b : Bool) (x y : RegistersView) (s : SetupView) → x.setup ≡ s → y.setup ≡ s → (cond b x y).setup ≡ s
setup_by true x y s p q = p
setup_by false x y s p q = q

put_setup : (r : RegistersView) (o new : ℕ) → (put r o new).setup ≡ r.setup
put_setup r o new =
    setup_by (o == 4) _ _ r.setup refl (setup_by (o == 12) _ _ r.setup refl (setup_by (o == 16) _ _ r.setup refl (setup_by (o == 20) _ _ r.setup refl
    (setup_by (o == 60) _ _ r.setup refl (setup_by (o == 68) _ _ r.setup refl (setup_by (o == 88) _ _ r.setup refl (setup_by (o == 96) _ _ r.setup refl refl)))))))

pub change_setup : (r : RegistersView) (change : Change) → (after_change r change).setup ≡ r.setup
change_setup r (Write o enables new) = put_setup r o _
change_setup r (Error n) = refl
change_setup r Poison = refl

pub change_sized : Stays → (r : RegistersView) (change : Change) → IsSized r → IsSized (after_change r change)
change_sized stays r change s = record {
  sized = ap (λ (x : SetupView). is_size x.size) (change_setup r change) ∙ s.sized;
  low = stays r (change ∷ []) 16 127 s.sized (omega arith) (masked r.setup.size (one_of r.setup.size s.sized)) refl ∙ s.low;
}

pub reset_sized : (s : SetupView) → is_size s.size ≡ true → IsSized (after_reset s)
reset_sized s h = record { sized = h; low = refl }

whole : (high low : ℕ) → low % 128 ≡ 12 → (high * 2 ^ 32 + low / 16 * 16) % 128 ≡ 0
whole high low h = omega (arith, h)

-- the memory begins a block
pub base_whole : (r : RegistersView) → IsSized r → base_of r % 128 ≡ 0
base_whole r s = whole r.bar_high r.bar_low (sym (and_mask r.bar_low 7) ∙ s.low)

-- ---- an error moves no memory, nor does poisoned data

second_bit : (n : ℕ) → n / 2 % 2 ≡ bit_at n 1
second_bit n = sym (bit_at-suc n 0 ∙ bit_at_lowest (n / 2))

max_none : (x : ℕ) → max x 0 ≡ x
max_none x = omega arith

parity_on : (c : ℕ) → bit_or c 2147483648 / 2 % 2 ≡ c / 2 % 2
parity_on c = second_bit (bit_or c 2147483648) ∙ (bit_at_or c 2147483648 1 ∙ (ap (λ (x : ℕ). max (bit_at c 1) x) (sym (second_bit 2147483648)) ∙ (max_none (bit_at c 1) ∙ sym (second_bit c))))

-- the memory is where it was
pub record KeepsPlace (r q : RegistersView) : Type 0 where
  pub setup : q.setup ≡ r.setup
  pub on : is_on q ≡ is_on r
  pub base : base_of q ≡ base_of r
  pub sized : IsSized r → IsSized q

pub error_keeps : Stays → (r : RegistersView) (n : Noted) → KeepsPlace r (after_error r n)
error_keeps stays r n = record { setup = refl; on = refl; base = refl; sized = change_sized stays r (Error n) }

pub poison_keeps : Stays → (r : RegistersView) (came : Bool) → KeepsPlace r (if came then after_poison r else r)
poison_keeps stays r true = record { setup = refl; on = rw (parity_on r.command) refl; base = refl; sized = change_sized stays r Poison }
poison_keeps stays r false = record { setup = refl; on = refl; base = refl; sized = λ s. s }
