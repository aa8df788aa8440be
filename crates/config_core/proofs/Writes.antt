-- One write, and one error.
use Rattle.std.proofs.Common.{◌≡◌, ◌∙◌, ℕ, true, false, inl, inr, refl, sym, ap, subst, arith}
use Rattle.std.specs.Prelude.{◌==◌, bit_and}
use Rattle.std.proofs.lemmas.Bool.{cases_Bool, eqb-true}
use Rattle.std.proofs.lemmas.Bool.Decides.{nat_tests}
use Rattle.std.proofs.lemmas.Nat.{and_or_apart}
use Rattle.config_core.specs.declared.registers.Noted.{Noted}
use Rattle.config_core.specs.declared.registers.Noted.TheVariants as noted
use Rattle.config_core.specs.RegistersView.{RegistersView}
use Rattle.config_core.specs.Registers.{value, put, written, offered, after_write, after_error, after_poison, device_bits, register_at}
use Rattle.config_core.specs.Changes.{Change, Write, Error, Poison, after_change}
use Rattle.config_core.proofs.Bits.{part, still_set}
use Rattle.config_core.proofs.Table.{IsConstant, constant_at}

-- ---- a write

apart : (o p k : ℕ) → (o == k) ≡ true → (o == p) ≡ false → (p == k) ≡ false
apart o p k e ne = grind (arith, nat_tests)

-- another register stays
put_other : (r : RegistersView) (o p new : ℕ) → (o == p) ≡ false → value (put r o new) p ≡ value r p
put_other r o p new ne = elim (cases_Bool (o == 4)) [
  | inl e4 ↦ rw (e4, apart o p 4 e4 ne) refl
  | inr e4 ↦ elim (cases_Bool (o == 12)) [
    | inl e12 ↦ rw (e4, e12, apart o p 12 e12 ne) refl
    | inr e12 ↦ elim (cases_Bool (o == 16)) [
      | inl e16 ↦ rw (e4, e12, e16, apart o p 16 e16 ne) refl
      | inr e16 ↦ elim (cases_Bool (o == 20)) [
        | inl e20 ↦ rw (e4, e12, e16, e20, apart o p 20 e20 ne) refl
        | inr e20 ↦ elim (cases_Bool (o == 60)) [
          | inl e60 ↦ rw (e4, e12, e16, e20, e60, apart o p 60 e60 ne) refl
          | inr e60 ↦ elim (cases_Bool (o == 68)) [
            | inl e68 ↦ rw (e4, e12, e16, e20, e60, e68, apart o p 68 e68 ne) refl
            | inr e68 ↦ elim (cases_Bool (o == 88)) [
              | inl e88 ↦ rw (e4, e12, e16, e20, e60, e68, e88, apart o p 88 e88 ne) refl
              | inr e88 ↦ elim (cases_Bool (o == 96)) [
                | inl e96 ↦ rw (e4, e12, e16, e20, e60, e68, e88, e96, apart o p 96 e96 ne) refl
                | inr e96 ↦ rw (e4, e12, e16, e20, e60, e68, e88, e96) refl
              ]
            ]
          ]
        ]
      ]
    ]
  ]
]

-- the register itself has the new value, or it is none of those that change
put_here : {P : Type 0} → (r : RegistersView) (o new : ℕ) → (IsConstant (register_at r.setup o) → put r o new ≡ r → P) → (value (put r o new) o ≡ new → P) → P
put_here r o new fixed here = elim (cases_Bool (o == 4)) [
  | inl e4 ↦ here (rw (e4) refl)
  | inr e4 ↦ elim (cases_Bool (o == 12)) [
    | inl e12 ↦ here (rw (e4, e12) refl)
    | inr e12 ↦ elim (cases_Bool (o == 16)) [
      | inl e16 ↦ here (rw (e4, e12, e16) refl)
      | inr e16 ↦ elim (cases_Bool (o == 20)) [
        | inl e20 ↦ here (rw (e4, e12, e16, e20) refl)
        | inr e20 ↦ elim (cases_Bool (o == 60)) [
          | inl e60 ↦ here (rw (e4, e12, e16, e20, e60) refl)
          | inr e60 ↦ elim (cases_Bool (o == 68)) [
            | inl e68 ↦ here (rw (e4, e12, e16, e20, e60, e68) refl)
            | inr e68 ↦ elim (cases_Bool (o == 88)) [
              | inl e88 ↦ here (rw (e4, e12, e16, e20, e60, e68, e88) refl)
              | inr e88 ↦ elim (cases_Bool (o == 96)) [
                | inl e96 ↦ here (rw (e4, e12, e16, e20, e60, e68, e88, e96) refl)
                | inr e96 ↦ fixed (constant_at r.setup o e4 e12 e16 e20 e60 e68 e88 e96) (rw (e4, e12, e16, e20, e60, e68, e88, e96) refl)
              ]
            ]
          ]
        ]
      ]
    ]
  ]
]

put_setup : (r : RegistersView) (o new : ℕ) → (put r o new).setup ≡ r.setup
put_setup r o new = elim (cases_Bool (o == 4)) [
  | inl e4 ↦ rw (e4) refl
  | inr e4 ↦ elim (cases_Bool (o == 12)) [
    | inl e12 ↦ rw (e4, e12) refl
    | inr e12 ↦ elim (cases_Bool (o == 16)) [
      | inl e16 ↦ rw (e4, e12, e16) refl
      | inr e16 ↦ elim (cases_Bool (o == 20)) [
        | inl e20 ↦ rw (e4, e12, e16, e20) refl
        | inr e20 ↦ elim (cases_Bool (o == 60)) [
          | inl e60 ↦ rw (e4, e12, e16, e20, e60) refl
          | inr e60 ↦ elim (cases_Bool (o == 68)) [
            | inl e68 ↦ rw (e4, e12, e16, e20, e60, e68) refl
            | inr e68 ↦ elim (cases_Bool (o == 88)) [
              | inl e88 ↦ rw (e4, e12, e16, e20, e60, e68, e88) refl
              | inr e88 ↦ elim (cases_Bool (o == 96)) [
                | inl e96 ↦ rw (e4, e12, e16, e20, e60, e68, e88, e96) refl
                | inr e96 ↦ rw (e4, e12, e16, e20, e60, e68, e88, e96) refl
              ]
            ]
          ]
        ]
      ]
    ]
  ]
]

pub change_setup : (r : RegistersView) (change : Change) → (after_change r change).setup ≡ r.setup
change_setup r (Write o enables new) = put_setup r o (after_write (register_at r.setup o) enables (offered o new (value r o)) (value r o))
change_setup r (Error error) = refl
change_setup r Poison = refl

-- what a write of the register at o does to the one at p
pub by_write : {P : Type 0} → (r : RegistersView) (o enables new p : ℕ) → ((o == p) ≡ false → value (written r o enables new) p ≡ value r p → P)
    → (IsConstant (register_at r.setup p) → value (written r o enables new) p ≡ value r p → P)
    → (o ≡ p → value (written r o enables new) p ≡ after_write (register_at r.setup p) enables (offered p new (value r p)) (value r p) → P) → P
by_write {P = P} r o enables new p other fixed here = elim (cases_Bool (o == p)) [
  | inl same ↦ (
      let is = eqb-true o p same in
      let v = after_write (register_at r.setup o) enables (offered o new (value r o)) (value r o) in
      put_here {P = P} r o v
      (λ constant gone. fixed (subst (λ (k : ℕ). IsConstant (register_at r.setup k)) is constant) (ap (λ (x : RegistersView). value x p) gone))
      (λ there. here is (subst (λ (k : ℕ). value (written r o enables new) k ≡ after_write (register_at r.setup k) enables (offered k new (value r k)) (value r k)) is there)))
  | inr ne ↦ other ne (put_other r o p (after_write (register_at r.setup o) enables (offered o new (value r o)) (value r o)) ne)
]

-- ---- an error

error_by : {P : Type 0} → (r : RegistersView) (error : Noted) (p : ℕ) → (value (after_error r error) p ≡ value r p → P) → (p ≡ 88 → P) → P
error_by r error p other here = elim (cases_Bool (p == 88)) [
  | inl same ↦ here (eqb-true p 88 same)
  | inr ne ↦ other (rw ne refl)
]

poison_by : {P : Type 0} → (r : RegistersView) (p : ℕ) → (value (after_poison r) p ≡ value r p → P) → (p ≡ 4 → P) → P
poison_by r p other here = elim (cases_Bool (p == 4)) [
  | inl same ↦ here (eqb-true p 4 same)
  | inr ne ↦ other (rw ne refl)
]

-- its bits are among those that a 1 clears
among : (error : Noted) → bit_and (device_bits error) 0x000F0000 ≡ device_bits error
among noted.Refused = refl
among noted.Unclaimed = refl
among noted.Unexpected = refl
among noted.Poisoned = refl
among noted.Dropped = refl
among noted.Fatal = refl

-- an error leaves the bits that no 1 clears
pub error_leaves : (r : RegistersView) (error : Noted) (p mask : ℕ) → bit_and (register_at r.setup p).cleared mask ≡ 0
    → bit_and (value (after_error r error) p) mask ≡ bit_and (value r p) mask
error_leaves r error p mask none = error_by {P = bit_and (value (after_error r error) p) mask ≡ bit_and (value r p) mask} r error p (λ is. ap (λ v. bit_and v mask) is)
    (λ is. subst (λ (k : ℕ). bit_and (value (after_error r error) k) mask ≡ bit_and (value r k) mask) (sym is)
    (and_or_apart mask r.device (device_bits error) (part (device_bits error) 0x000F0000 mask (among error) (subst (λ (k : ℕ). bit_and (register_at r.setup k).cleared mask ≡ 0) is none))))

pub poison_leaves : (r : RegistersView) (p mask : ℕ) → bit_and (register_at r.setup p).cleared mask ≡ 0 → bit_and (value (after_poison r) p) mask ≡ bit_and (value r p) mask
poison_leaves r p mask none = poison_by {P = bit_and (value (after_poison r) p) mask ≡ bit_and (value r p) mask} r p (λ is. ap (λ v. bit_and v mask) is)
    (λ is. subst (λ (k : ℕ). bit_and (value (after_poison r) k) mask ≡ bit_and (value r k) mask) (sym is)
    (and_or_apart mask r.command 0x80000000 (part 0x80000000 0xF9000000 mask refl (subst (λ (k : ℕ). bit_and (register_at r.setup k).cleared mask ≡ 0) is none))))

-- .. and clears none
pub error_sets : (r : RegistersView) (error : Noted) (p mask : ℕ) → bit_and (value r p) mask ≡ mask → bit_and (value (after_error r error) p) mask ≡ mask
error_sets r error p mask set = error_by {P = bit_and (value (after_error r error) p) mask ≡ mask} r error p (λ is. ap (λ v. bit_and v mask) is ∙ set)
    (λ is. subst (λ (k : ℕ). bit_and (value (after_error r error) k) mask ≡ mask) (sym is)
    (still_set r.device (device_bits error) mask (subst (λ (k : ℕ). bit_and (value r k) mask ≡ mask) is set)))

pub poison_sets : (r : RegistersView) (p mask : ℕ) → bit_and (value r p) mask ≡ mask → bit_and (value (after_poison r) p) mask ≡ mask
poison_sets r p mask set = poison_by {P = bit_and (value (after_poison r) p) mask ≡ mask} r p (λ is. ap (λ v. bit_and v mask) is ∙ set)
    (λ is. subst (λ (k : ℕ). bit_and (value (after_poison r) k) mask ≡ mask) (sym is)
    (still_set r.command 0x80000000 mask (subst (λ (k : ℕ). bit_and (value r k) mask ≡ mask) is set)))
