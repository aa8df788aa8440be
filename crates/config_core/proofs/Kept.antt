-- The laws of the registers, over any writes and any errors.
use Rattle.std.proofs.Common.{◌≡◌, ◌∙◌, ℕ, ◌+◌, ◌-◌, ◌*◌, ◌/◌, ◌^◌, ◌<◌, Bool, true, false, List, [], ◌∷◌, inl, inr, refl, sym, ap, subst, arith}
use Rattle.std.specs.Prelude.{bit_and, bit_or, ◌==◌, ◌&&◌, ◌||◌, not}
use Rattle.std.specs.List.{list_all}
use Rattle.std.specs.Int.Bits.{and_zero_l, and_zero_r, or_zero_r}
use Rattle.std.proofs.lemmas.Bool.{cases_Bool, eqb-true}
use Rattle.std.proofs.lemmas.Bool.Decides.{nat_tests}
use Rattle.std.proofs.lemmas.Nat.{and_comm, and_assoc, and-not, or_disjoint, and_le_l}
use Rattle.config_core.specs.SetupView.{SetupView, is_size}
use Rattle.config_core.specs.RegistersView.{RegistersView}
use Rattle.config_core.specs.Registers.{after_reset, after_write, base_of, lanes, offered, register_at, row, value, written}
use Rattle.config_core.specs.Changes.{Change, Write, Error, Poison, after_change, after_changes, leaves, writes_no_one, is_write}
use Rattle.config_core.proofs.Bits.{none_in, none_of, none_cleared, untouched, set_bits, cleared_bits, spared_bits, clear_bits}
use Rattle.config_core.proofs.Table.{Sizes, sizes, fits_at}
use Rattle.config_core.proofs.Writes.{change_setup, by_write, error_leaves, error_sets, poison_leaves, poison_sets}

both_true : (a b : Bool) → (a && b) ≡ true → (a ≡ true) × (b ≡ true)
both_true true b h = (refl, h)
both_true false b h = absurd (cc)

-- what holds of the setup holds of it after a change
later : (P : SetupView → Type 0) (r : RegistersView) (change : Change) → P r.setup → P (after_change r change).setup
later P r change h = subst P (sym (change_setup r change)) h

-- bits of a register without such bits
no_bits : (mask whole x y : ℕ) → whole ≡ 0 → bit_and whole mask ≡ mask → bit_and x mask ≡ bit_and y mask
no_bits mask whole x y none all =
    let is : mask ≡ 0 = sym all ∙ ap (λ v. bit_and v mask) none ∙ and_zero_l mask in
    ap (bit_and x) is ∙ and_zero_r x ∙ sym (ap (bit_and y) is ∙ and_zero_r y)

-- ---- read-only bits

one_stays : (r : RegistersView) (change : Change) (p mask : ℕ) → is_size r.setup.size ≡ true → mask < 2 ^ 32 → bit_and (register_at r.setup p).written mask ≡ 0
    → bit_and (register_at r.setup p).cleared mask ≡ 0 → bit_and (value (after_change r change) p) mask ≡ bit_and (value r p) mask
one_stays r (Write o e v) p mask size small w c = by_write {P = bit_and (value (written r o e v) p) mask ≡ bit_and (value r p) mask} r o e v p
    (λ ne is. ap (λ x. bit_and x mask) is)
    (λ constant is. ap (λ x. bit_and x mask) is)
    (λ same is. ap (λ x. bit_and x mask) is ∙ untouched (register_at r.setup p) e (offered p v (value r p)) (value r p) mask (fits_at r.setup p size).few small
    (none_in (register_at r.setup p).written (lanes e) mask w)
    (none_of (bit_and (register_at r.setup p).cleared (lanes e)) (offered p v (value r p)) mask (none_in (register_at r.setup p).cleared (lanes e) mask c)))
one_stays r (Error error) p mask size small w c = error_leaves r error p mask c
one_stays r Poison p mask size small w c = poison_leaves r p mask c

pub stays : (r : RegistersView) (changes : List Change) (p mask : ℕ) → is_size r.setup.size ≡ true → mask < 2 ^ 32 → bit_and (register_at r.setup p).written mask ≡ 0
    → bit_and (register_at r.setup p).cleared mask ≡ 0 → bit_and (value (after_changes r changes) p) mask ≡ bit_and (value r p) mask
stays r [] p mask size small w c = refl
stays r (change ∷ changes) p mask size small w c =
    stays (after_change r change) changes p mask (later (λ (s : SetupView). is_size s.size ≡ true) r change size) small
    (later (λ (s : SetupView). bit_and (register_at s p).written mask ≡ 0) r change w) (later (λ (s : SetupView). bit_and (register_at s p).cleared mask ≡ 0) r change c)
    ∙ one_stays r change p mask size small w c

-- ---- bits that a write sets

not_enabled : (o p x : ℕ) → o ≡ p → (not (o == p) || (x == 0)) ≡ true → x ≡ 0
not_enabled o p x e h = grind (arith, nat_tests)

one_left : (r : RegistersView) (change : Change) (p mask : ℕ) → is_size r.setup.size ≡ true → bit_and (register_at r.setup p).written mask ≡ mask
    → leaves p mask change ≡ true → bit_and (value (after_change r change) p) mask ≡ bit_and (value r p) mask
one_left r (Write o e v) p mask size w left = by_write {P = bit_and (value (written r o e v) p) mask ≡ bit_and (value r p) mask} r o e v p
    (λ ne is. ap (λ x. bit_and x mask) is)
    (λ constant is. ap (λ x. bit_and x mask) is)
    (λ same is.
    let reg = register_at r.setup p in
    let f = fits_at r.setup p size in
    let none : bit_and (lanes e) mask ≡ 0 = not_enabled o p (bit_and (lanes e) mask) same left in
    ap (λ x. bit_and x mask) is ∙ untouched reg e (offered p v (value r p)) (value r p) mask f.few (omega (arith, f.few, w, and_le_l reg.written mask))
    (none_of (lanes e) reg.written mask none) (none_of (bit_and reg.cleared (lanes e)) (offered p v (value r p)) mask (none_of (lanes e) reg.cleared mask none)))
one_left r (Error error) p mask size w left = error_leaves r error p mask (none_cleared (register_at r.setup p) mask (fits_at r.setup p size) w)
one_left r Poison p mask size w left = poison_leaves r p mask (none_cleared (register_at r.setup p) mask (fits_at r.setup p size) w)

all_left : (r : RegistersView) (changes : List Change) (p mask : ℕ) → is_size r.setup.size ≡ true → bit_and (register_at r.setup p).written mask ≡ mask
    → list_all (leaves p mask) changes ≡ true → bit_and (value (after_changes r changes) p) mask ≡ bit_and (value r p) mask
all_left r [] p mask size w left = refl
all_left r (change ∷ changes) p mask size w left =
    let both = both_true (leaves p mask change) (list_all (leaves p mask) changes) left in
    all_left (after_change r change) changes p mask (later (λ (s : SetupView). is_size s.size ≡ true) r change size)
    (later (λ (s : SetupView). bit_and (register_at s p).written mask ≡ mask) r change w) both.1
    ∙ one_left r change p mask size w both.0

itself : (p : ℕ) → (p == p) ≡ false → ⊥
itself p h = grind (arith, nat_tests)

at_once : (r : RegistersView) (p enables new mask : ℕ) → is_size r.setup.size ≡ true → bit_and (register_at r.setup p).written mask ≡ mask → bit_and (lanes enables) mask ≡ mask
    → bit_and (value (written r p enables new) p) mask ≡ bit_and (offered p new (value r p)) mask
at_once r p enables new mask size w l = by_write {P = bit_and (value (written r p enables new) p) mask ≡ bit_and (offered p new (value r p)) mask} r p enables new p
    (λ ne is. absurd (itself p ne))
    (λ constant is. no_bits mask (register_at r.setup p).written (value (written r p enables new) p) (offered p new (value r p)) constant.none_set w)
    (λ same is. ap (λ x. bit_and x mask) is ∙ set_bits (register_at r.setup p) enables (offered p new (value r p)) (value r p) mask (fits_at r.setup p size) w l)

pub read_back : (r : RegistersView) (changes : List Change) (p enables new mask : ℕ) → is_size r.setup.size ≡ true → bit_and (register_at r.setup p).written mask ≡ mask
    → bit_and (lanes enables) mask ≡ mask → list_all (leaves p mask) changes ≡ true
    → bit_and (value (after_changes (written r p enables new) changes) p) mask ≡ bit_and (offered p new (value r p)) mask
read_back r changes p enables new mask size w l left =
    all_left (written r p enables new) changes p mask (later (λ (s : SetupView). is_size s.size ≡ true) r (Write p enables new) size)
    (later (λ (s : SetupView). bit_and (register_at s p).written mask ≡ mask) r (Write p enables new) w) left
    ∙ at_once r p enables new mask size w l

pub other_bytes : (r : RegistersView) (p enables new mask : ℕ) → is_size r.setup.size ≡ true → mask < 2 ^ 32 → bit_and (lanes enables) mask ≡ 0
    → bit_and (value (written r p enables new) p) mask ≡ bit_and (value r p) mask
other_bytes r p enables new mask size small none = by_write {P = bit_and (value (written r p enables new) p) mask ≡ bit_and (value r p) mask} r p enables new p
    (λ ne is. ap (λ x. bit_and x mask) is)
    (λ constant is. ap (λ x. bit_and x mask) is)
    (λ same is.
    let reg = register_at r.setup p in
    ap (λ x. bit_and x mask) is ∙ untouched reg enables (offered p new (value r p)) (value r p) mask (fits_at r.setup p size).few small
    (none_of (lanes enables) reg.written mask none) (none_of (bit_and reg.cleared (lanes enables)) (offered p new (value r p)) mask (none_of (lanes enables) reg.cleared mask none)))

-- ---- status bits

-- PowerState has no status bits
same_offer : (p new old : ℕ) (s : SetupView) (mask : ℕ) → bit_and (register_at s p).cleared mask ≡ mask → bit_and (offered p new old) mask ≡ bit_and new mask
same_offer p new old s mask c = elim (cases_Bool (p == 68)) [
  | inl same ↦ no_bits mask (register_at s p).cleared (offered p new old) new (ap (λ k. (register_at s k).cleared) (eqb-true p 68 same)) c
  | inr ne ↦ ap (λ v. bit_and v mask) (rw ne refl)
]

part_of : (a b mask : ℕ) → bit_and a mask ≡ bit_and b mask → (x : ℕ) → bit_and a (bit_and x mask) ≡ bit_and b (bit_and x mask)
part_of a b mask h x =
    ap (bit_and a) (and_comm x mask) ∙ sym (and_assoc x a mask) ∙ ap (λ v. bit_and v x) h ∙ and_assoc x b mask ∙ ap (bit_and b) (and_comm mask x)

pub cleared_by_ones : (r : RegistersView) (p enables new mask : ℕ) → is_size r.setup.size ≡ true → bit_and (register_at r.setup p).cleared mask ≡ mask
    → bit_and (lanes enables) mask ≡ mask → bit_and new mask ≡ mask → bit_and (value (written r p enables new) p) mask ≡ 0
cleared_by_ones r p enables new mask size c l n = by_write {P = bit_and (value (written r p enables new) p) mask ≡ 0} r p enables new p
    (λ ne is. absurd (itself p ne))
    (λ constant is. no_bits mask (register_at r.setup p).cleared (value (written r p enables new) p) 0 constant.none_cleared c ∙ and_zero_l mask)
    (λ same is. ap (λ x. bit_and x mask) is
    ∙ cleared_bits (register_at r.setup p) enables (offered p new (value r p)) (value r p) mask (fits_at r.setup p size) c l (same_offer p new (value r p) r.setup mask c ∙ n))

one_set : (r : RegistersView) (change : Change) (p mask : ℕ) → is_size r.setup.size ≡ true → bit_and (register_at r.setup p).cleared mask ≡ mask
    → writes_no_one p mask change ≡ true → bit_and (value r p) mask ≡ mask → bit_and (value (after_change r change) p) mask ≡ mask
one_set r (Write o e v) p mask size c none set = by_write {P = bit_and (value (written r o e v) p) mask ≡ mask} r o e v p
    (λ ne is. ap (λ x. bit_and x mask) is ∙ set)
    (λ constant is. ap (λ x. bit_and x mask) is ∙ set)
    (λ same is. ap (λ x. bit_and x mask) is
    ∙ spared_bits (register_at r.setup p) e (offered p v (value r p)) (value r p) mask (fits_at r.setup p size) c
    (part_of (offered p v (value r p)) v mask (same_offer p v (value r p) r.setup mask c) (lanes e) ∙ not_enabled o p (bit_and v (bit_and (lanes e) mask)) same none)
    ∙ set)
one_set r (Error error) p mask size c none set = error_sets r error p mask set
one_set r Poison p mask size c none set = poison_sets r p mask set

pub stays_set : (r : RegistersView) (changes : List Change) (p mask : ℕ) → is_size r.setup.size ≡ true → bit_and (register_at r.setup p).cleared mask ≡ mask
    → list_all (writes_no_one p mask) changes ≡ true → bit_and (value r p) mask ≡ mask → bit_and (value (after_changes r changes) p) mask ≡ mask
stays_set r [] p mask size c none set = set
stays_set r (change ∷ changes) p mask size c none set =
    let both = both_true (writes_no_one p mask change) (list_all (writes_no_one p mask) changes) none in
    stays_set (after_change r change) changes p mask (later (λ (s : SetupView). is_size s.size ≡ true) r change size)
    (later (λ (s : SetupView). bit_and (register_at s p).cleared mask ≡ mask) r change c) both.1 (one_set r change p mask size c both.0 set)

one_clear : (r : RegistersView) (change : Change) (p mask : ℕ) → is_size r.setup.size ≡ true → bit_and (register_at r.setup p).cleared mask ≡ mask
    → is_write change ≡ true → bit_and (value r p) mask ≡ 0 → bit_and (value (after_change r change) p) mask ≡ 0
one_clear r (Write o e v) p mask size c write none = by_write {P = bit_and (value (written r o e v) p) mask ≡ 0} r o e v p
    (λ ne is. ap (λ x. bit_and x mask) is ∙ none)
    (λ constant is. ap (λ x. bit_and x mask) is ∙ none)
    (λ same is. ap (λ x. bit_and x mask) is ∙ clear_bits (register_at r.setup p) e (offered p v (value r p)) (value r p) mask (fits_at r.setup p size) c none)
one_clear r (Error error) p mask size c write none = absurd (cc write)
one_clear r Poison p mask size c write none = absurd (cc write)

pub stays_clear : (r : RegistersView) (changes : List Change) (p mask : ℕ) → is_size r.setup.size ≡ true → bit_and (register_at r.setup p).cleared mask ≡ mask
    → list_all is_write changes ≡ true → bit_and (value r p) mask ≡ 0 → bit_and (value (after_changes r changes) p) mask ≡ 0
stays_clear r [] p mask size c write none = none
stays_clear r (change ∷ changes) p mask size c write none =
    let both = both_true (is_write change) (list_all is_write changes) write in
    stays_clear (after_change r change) changes p mask (later (λ (s : SetupView). is_size s.size ≡ true) r change size)
    (later (λ (s : SetupView). bit_and (register_at s p).cleared mask ≡ mask) r change c) both.1 (one_clear r change p mask size c both.0 none)

-- ---- the BAR

all_setup : (r : RegistersView) (changes : List Change) → (after_changes r changes).setup ≡ r.setup
all_setup r [] = refl
all_setup r (change ∷ changes) = all_setup (after_change r change) changes ∙ change_setup r change

-- the bits below the size are those of a reset
lowest : (s : SetupView) (changes : List Change) → is_size s.size ≡ true → bit_and (after_changes (after_reset s) changes).bar_low (s.size - 1) ≡ 12
lowest s changes size =
    let z = sizes s.size size in
    stays (after_reset s) changes 16 (s.size - 1) size (omega (arith, z.some, z.most)) z.apart (and_zero_l (s.size - 1)) ∙ z.low

low_half : (n low old : ℕ) → Sizes n → low < 2 ^ 32 → bit_and old (n - 1) ≡ 12 → after_write (row 12 (2 ^ 32 - n) 0) 15 low old ≡ low / n * n + 12
low_half n low old z small is =
    let mask = 2 ^ 32 - n in
    let gone = bit_and low (bit_and 0 (lanes 15)) in
    let none : bit_and 12 (bit_and low mask) ≡ 0 = ap (bit_and 12) (and_comm low mask) ∙ sym (and_assoc low 12 mask) ∙ ap (λ v. bit_and v low) z.four ∙ and_zero_l low in
    let below : 2 ^ 32 - 1 - mask ≡ n - 1 = omega (arith, z.some, z.most) in
    ap (λ v. bit_or (bit_and old (2 ^ 32 - 1 - bit_or v gone)) (bit_and low v)) z.whole
    ∙ ap (λ v. bit_or (bit_and old (2 ^ 32 - 1 - bit_or mask v)) (bit_and low mask)) (and_zero_r low)
    ∙ ap (λ v. bit_or (bit_and old (2 ^ 32 - 1 - v)) (bit_and low mask)) (or_zero_r mask)
    ∙ ap (λ v. bit_or (bit_and old v) (bit_and low mask)) below
    ∙ ap (λ v. bit_or v (bit_and low mask)) is
    ∙ or_disjoint 12 (bit_and low mask) none
    ∙ ap (λ v. 12 + v) (z.masked low small)
    ∙ omega arith

all_ones : (high : ℕ) → high < 2 ^ 32 → bit_and high 4294967295 ≡ high
all_ones high small =
    let kept : bit_and 4294967295 high + bit_and 0 high ≡ high = and-not 32 0 high (omega arith) small in
    and_comm high 4294967295 ∙ omega (arith, kept, and_zero_l high)

high_half : (high old : ℕ) → high < 2 ^ 32 → after_write (row 0 4294967295 0) 15 high old ≡ high
high_half high old small =
    ap (λ v. bit_or (bit_and old (2 ^ 32 - 1 - bit_or 4294967295 v)) (bit_and high 4294967295)) (and_zero_r high)
    ∙ ap (λ v. bit_or v (bit_and high 4294967295)) (and_zero_r old)
    ∙ all_ones high small

low_taken : (r : RegistersView) (s : SetupView) (low : ℕ) → r.setup ≡ s → Sizes s.size → low < 2 ^ 32 → bit_and r.bar_low (s.size - 1) ≡ 12
    → value (written r 16 15 low) 16 ≡ low / s.size * s.size + 12
low_taken r s low same z small is =
    ap (λ (x : SetupView). after_write (row 12 (2 ^ 32 - x.size) 0) 15 low r.bar_low) same ∙ low_half s.size low r.bar_low z small is

pub takes_low : (s : SetupView) (changes : List Change) (low : ℕ) → is_size s.size ≡ true → low < 2 ^ 32
    → value (written (after_changes (after_reset s) changes) 16 15 low) 16 ≡ low / s.size * s.size + 12
takes_low s changes low size small = low_taken (after_changes (after_reset s) changes) s low (all_setup (after_reset s) changes) (sizes s.size size) small (lowest s changes size)

pub takes : (s : SetupView) (changes : List Change) (low high : ℕ) → is_size s.size ≡ true → low < 2 ^ 32 → high < 2 ^ 32
    → base_of (written (written (after_changes (after_reset s) changes) 16 15 low) 20 15 high) ≡ high * 2 ^ 32 + low / s.size * s.size
takes s changes low high size small less =
    let r = after_changes (after_reset s) changes in
    ap (λ v. after_write (row 0 4294967295 0) 15 high r.bar_high * 2 ^ 32 + v / 16 * 16) (takes_low s changes low size small)
    ∙ ap (λ v. v * 2 ^ 32 + (low / s.size * s.size + 12) / 16 * 16) (high_half high r.bar_high less)
    ∙ ap (λ v. high * 2 ^ 32 + v) ((sizes s.size size).without_four low)

pub sized : (s : SetupView) (changes : List Change) → is_size s.size ≡ true
    → base_of (written (written (after_changes (after_reset s) changes) 16 15 4294967295) 20 15 4294967295) ≡ 2 ^ 64 - s.size
sized s changes size =
    let z = sizes s.size size in
    takes s changes 4294967295 4294967295 size (omega arith) (omega arith) ∙ ap (λ v. 4294967295 * 2 ^ 32 + v) z.all ∙ omega (arith, z.some, z.most)
