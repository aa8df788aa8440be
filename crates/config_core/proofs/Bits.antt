-- Bits of a register after a write.
use Rattle.std.proofs.Common.{◌≡◌, ◌∙◌, ℕ, ◌+◌, ◌-◌, ◌^◌, ◌<◌, ◌≤◌, min, max, refl, sym, ap, arith}
use Rattle.std.specs.Prelude.{bit_and, bit_or}
use Rattle.std.specs.Int.Bits.{and_zero_l, and_zero_r, or_add_and}
use Rattle.std.specs.Int.{bit_at}
use Rattle.std.proofs.lemmas.Nat.{and_or_apart, and_comm, and_le_l, and_le_r, and_assoc, or_comm}
use Rattle.std.proofs.lemmas.Nat.Bits.{bit_at_and, bit_at_or, same_from_bits}
use Rattle.std.proofs.lemmas.Grind.{and_not_bit, and_not_apart, and-not_self}
use Rattle.config_core.specs.declared.register.Register.{Register}
use Rattle.config_core.specs.Registers.{after_write, lanes}

-- what has no bit in common with a number has none behind another mask, either
pub none_in : (a b n : ℕ) → bit_and a n ≡ 0 → bit_and (bit_and a b) n ≡ 0
none_in a b n h = ap (λ v. bit_and v n) (and_comm a b) ∙ and_assoc n b a ∙ ap (bit_and b) h ∙ and_zero_r b

pub none_of : (a b n : ℕ) → bit_and a n ≡ 0 → bit_and (bit_and b a) n ≡ 0
none_of a b n h = and_assoc n b a ∙ ap (bit_and b) h ∙ and_zero_r b

none_or : (a b n : ℕ) → bit_and a n ≡ 0 → bit_and b n ≡ 0 → bit_and (bit_or a b) n ≡ 0
none_or a b n h g = and_or_apart n a b g ∙ h

pub read_only : (r : Register) (enables new old j : ℕ) → j < 32 → r.written + r.cleared < 2 ^ 32
    → bit_and r.written (2 ^ j) ≡ 0 → bit_and r.cleared (2 ^ j) ≡ 0 → bit_and (after_write r enables new old) (2 ^ j) ≡ bit_and old (2 ^ j)
read_only r enables new old j l few w c =
    let mask = lanes enables in
    let set = bit_and r.written mask in
    let gone = bit_and new (bit_and r.cleared mask) in
    let no_set : bit_and set (2 ^ j) ≡ 0 = none_in r.written mask (2 ^ j) w in
    let no_gone : bit_and gone (2 ^ j) ≡ 0 = none_of (bit_and r.cleared mask) new (2 ^ j) (none_in r.cleared mask (2 ^ j) c) in
    let kept = and_not_bit old 4294967295 (bit_or set gone) j refl (omega (arith, few, or_add_and (bit_and r.written (lanes enables)) (bit_and new (bit_and r.cleared (lanes enables))), and_le_l r.written (lanes enables), and_le_r new (bit_and r.cleared (lanes enables)), and_le_l r.cleared (lanes enables))) l (none_or set gone (2 ^ j) no_set no_gone) in
    and_or_apart (2 ^ j) (bit_and old (4294967295 - bit_or set gone)) (bit_and new set) (none_of set new (2 ^ j) no_set) ∙ kept

-- ---- a write, by masks

-- bits that a write may set or clear: none stands in both masks
pub record Fits (r : Register) : Type 0 where
  pub few : r.written + r.cleared < 2 ^ 32
  pub apart : bit_and r.written r.cleared ≡ 0

within : (r : Register) (gate new : ℕ) → r.written + r.cleared < 2 ^ 32 → bit_or (bit_and r.written gate) (bit_and new (bit_and r.cleared gate)) ≤ 4294967295
within r gate new few = omega (arith, few, or_add_and (bit_and r.written gate) (bit_and new (bit_and r.cleared gate)), and_le_l r.written gate, and_le_r new (bit_and r.cleared gate), and_le_l r.cleared gate)

-- a number that has no bit of another has none of a part of it
hidden : (x whole mask : ℕ) → bit_and whole mask ≡ mask → bit_and x whole ≡ 0 → bit_and x mask ≡ 0
hidden x whole mask h none = ap (bit_and x) (sym h) ∙ sym (and_assoc mask x whole) ∙ ap (λ v. bit_and v mask) none ∙ and_zero_l mask

pub none_written : (r : Register) (mask : ℕ) → Fits r → bit_and r.cleared mask ≡ mask → bit_and r.written mask ≡ 0
none_written r mask f c = hidden r.written r.cleared mask c f.apart

pub none_cleared : (r : Register) (mask : ℕ) → Fits r → bit_and r.written mask ≡ mask → bit_and r.cleared mask ≡ 0
none_cleared r mask f w = hidden r.cleared r.written mask w (and_comm r.cleared r.written ∙ f.apart)

-- bits that the write neither sets nor clears
pub untouched : (r : Register) (enables new old mask : ℕ) → r.written + r.cleared < 2 ^ 32 → mask < 2 ^ 32
    → bit_and (bit_and r.written (lanes enables)) mask ≡ 0 → bit_and (bit_and new (bit_and r.cleared (lanes enables))) mask ≡ 0
    → bit_and (after_write r enables new old) mask ≡ bit_and old mask
untouched r enables new old mask few small no_set no_gone =
    let set = bit_and r.written (lanes enables) in
    let gone = bit_and new (bit_and r.cleared (lanes enables)) in
    and_or_apart mask (bit_and old (4294967295 - bit_or set gone)) (bit_and new set) (none_of set new mask no_set)
    ∙ and_not_apart old 4294967295 (bit_or set gone) mask refl (within r (lanes enables) new few) (omega (arith, small)) (none_or set gone mask no_set no_gone)

-- bits that it sets
pub set_bits : (r : Register) (enables new old mask : ℕ) → Fits r → bit_and r.written mask ≡ mask → bit_and (lanes enables) mask ≡ mask
    → bit_and (after_write r enables new old) mask ≡ bit_and new mask
set_bits r enables new old mask f w l =
    let set = bit_and r.written (lanes enables) in
    let gone = bit_and new (bit_and r.cleared (lanes enables)) in
    let rest = bit_and old (4294967295 - bit_or set gone) in
    let all : bit_and set mask ≡ mask = and_assoc mask r.written (lanes enables) ∙ ap (bit_and r.written) l ∙ w in
    let no_gone : bit_and gone mask ≡ 0 = none_of (bit_and r.cleared (lanes enables)) new mask (none_in r.cleared (lanes enables) mask (none_cleared r mask f w)) in
    let both : bit_and (bit_or set gone) mask ≡ mask = and_or_apart mask set gone no_gone ∙ all in
    let none : bit_and rest mask ≡ 0 = hidden rest (bit_or set gone) mask both (and-not_self old 4294967295 (bit_or set gone) (bit_or set gone) refl (within r (lanes enables) new f.few) refl) in
    ap (λ v. bit_and v mask) (or_comm rest (bit_and new set)) ∙ and_or_apart mask (bit_and new set) rest none ∙ and_assoc mask new set ∙ ap (bit_and new) all

-- bits that its ones clear
pub cleared_bits : (r : Register) (enables new old mask : ℕ) → Fits r → bit_and r.cleared mask ≡ mask → bit_and (lanes enables) mask ≡ mask → bit_and new mask ≡ mask
    → bit_and (after_write r enables new old) mask ≡ 0
cleared_bits r enables new old mask f c l n =
    let set = bit_and r.written (lanes enables) in
    let gone = bit_and new (bit_and r.cleared (lanes enables)) in
    let rest = bit_and old (4294967295 - bit_or set gone) in
    let no_set : bit_and set mask ≡ 0 = none_in r.written (lanes enables) mask (none_written r mask f c) in
    let all : bit_and gone mask ≡ mask = and_assoc mask new (bit_and r.cleared (lanes enables)) ∙ ap (bit_and new) (and_assoc mask r.cleared (lanes enables) ∙ ap (bit_and r.cleared) l ∙ c) ∙ n in
    let both : bit_and (bit_or set gone) mask ≡ mask = ap (λ v. bit_and v mask) (or_comm set gone) ∙ and_or_apart mask gone set no_set ∙ all in
    let none : bit_and rest mask ≡ 0 = hidden rest (bit_or set gone) mask both (and-not_self old 4294967295 (bit_or set gone) (bit_or set gone) refl (within r (lanes enables) new f.few) refl) in
    and_or_apart mask rest (bit_and new set) (none_of set new mask no_set) ∙ none

-- status bits where the write has no 1
pub spared_bits : (r : Register) (enables new old mask : ℕ) → Fits r → bit_and r.cleared mask ≡ mask → bit_and new (bit_and (lanes enables) mask) ≡ 0
    → bit_and (after_write r enables new old) mask ≡ bit_and old mask
spared_bits r enables new old mask f c n =
    let gate = bit_and r.cleared (lanes enables) in
    let reached : bit_and gate mask ≡ bit_and (lanes enables) mask = ap (λ v. bit_and v mask) (and_comm r.cleared (lanes enables)) ∙ and_assoc mask (lanes enables) r.cleared ∙ ap (bit_and (lanes enables)) c in
    untouched r enables new old mask f.few (omega (arith, f.few, c, and_le_l r.cleared mask)) (none_in r.written (lanes enables) mask (none_written r mask f c))
    (and_assoc mask new gate ∙ ap (bit_and new) reached ∙ n)

-- no write sets a status bit
pub clear_bits : (r : Register) (enables new old mask : ℕ) → Fits r → bit_and r.cleared mask ≡ mask → bit_and old mask ≡ 0
    → bit_and (after_write r enables new old) mask ≡ 0
clear_bits r enables new old mask f c none =
    let set = bit_and r.written (lanes enables) in
    let gone = bit_and new (bit_and r.cleared (lanes enables)) in
    and_or_apart mask (bit_and old (4294967295 - bit_or set gone)) (bit_and new set) (none_of set new mask (none_in r.written (lanes enables) mask (none_written r mask f c)))
    ∙ none_in old (4294967295 - bit_or set gone) mask none

-- ---- errors

-- bits of a part are bits of the whole
pub part : (a b mask : ℕ) → bit_and a b ≡ a → bit_and b mask ≡ 0 → bit_and a mask ≡ 0
part a b mask h none = ap (λ v. bit_and v mask) (sym h) ∙ and_assoc mask a b ∙ ap (bit_and a) none ∙ and_zero_r a

min_max : (a b c : ℕ) → min a c ≡ c → min (max a b) c ≡ c
min_max a b c h = grind arith

pub still_set : (a b mask : ℕ) → bit_and a mask ≡ mask → bit_and (bit_or a b) mask ≡ mask
still_set a b mask h = same_from_bits (bit_and (bit_or a b) mask) mask
    (λ i. bit_at_and (bit_or a b) mask i ∙ ap (λ v. min v (bit_at mask i)) (bit_at_or a b i)
    ∙ min_max (bit_at a i) (bit_at b i) (bit_at mask i) (sym (bit_at_and a mask i) ∙ ap (λ v. bit_at v i) h))
