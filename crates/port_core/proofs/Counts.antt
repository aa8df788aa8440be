-- Credits in whole numbers: what is held of each class, and what went back.
use Rattle.std.proofs.Common.{◌≡◌, ℕ, zero, suc, ◌+◌, ◌-◌, ◌%◌, ◌<◌, ◌≤◌, Bool, true, false, List, [], ◌∷◌, ◌++◌, sum_by, Some, inl, inr, refl, sym, ap, ◌∙◌, subst, arith, add-zero, zero-add}
use Rattle.std.specs.Prelude.{◌==◌, ◌&&◌, ◌||◌, not, nat_le, if◌then◌else◌, slice_get, remove}
use Rattle.std.proofs.lemmas.List.Sums.{sum_by-append}
use Rattle.std.proofs.lemmas.Bool.Decides.{nat_tests}
use Rattle.dllp_core.specs.declared.packet.Class.{Class}
use Rattle.dllp_core.specs.declared.packet.Class.TheVariants.{Posted, NonPosted, Completion}
use Rattle.flow_control.specs.declared.needs.Need.{Need}
use Rattle.flow_control.specs.declared.limits.LaneCredits.{LaneCredits}
use Rattle.flow_control.specs.declared.ledger.CreditLedger.{CreditLedger}
use Rattle.flow_control.specs.Limits.{IsInLimits, IsInfiniteOrBetween}
use Rattle.flow_control.specs.Credits.{same, ledger_of, first_ledger, after_received, after_freed}
use Rattle.port_core.specs.declared.init.FirstCredits.{FirstCredits}
use Rattle.port_core.specs.Init.{first_of}
use Rattle.port_core.specs.Incoming.{is_over, would_overflow}
use Rattle.port_core.specs.Runs.{header_of, units_of, headers_in, units_in}

-- ---- one counter of 8 or of 12 bits: its first value, what was received and what went back, in whole numbers

pub record IsHeader (first start received back held freed : ℕ) : Type 0 where
  pub start_is : start ≡ first
  pub received_is : received ≡ (held + freed) % 256
  pub back_is : back ≡ freed % 256
  pub fits : 0 < first → held ≤ first

pub record IsUnits (first start received back held freed : ℕ) : Type 0 where
  pub start_is : start ≡ first
  pub received_is : received ≡ (held + freed) % 4096
  pub back_is : back ≡ freed % 4096
  pub fits : 0 < first → held ≤ first

header-in : (first start received back held freed n : ℕ) → (0 < first → held + n ≤ first) → IsHeader first start received back held freed
    → IsHeader first start ((received + n) % 256) back (held + n) freed
header-in first start received back held freed n lt k = record { start_is = k.start_is; received_is = omega (arith, k.received_is); back_is = k.back_is; fits = lt }

units-in : (first start received back held freed n : ℕ) → (0 < first → held + n ≤ first) → IsUnits first start received back held freed
    → IsUnits first start ((received + n) % 4096) back (held + n) freed
units-in first start received back held freed n lt k = record { start_is = k.start_is; received_is = omega (arith, k.received_is); back_is = k.back_is; fits = lt }

-- what overflows is given back at once
header-over : (first start received back held freed n : ℕ) → IsHeader first start received back held freed
    → IsHeader first start ((received + n) % 256) ((back + n) % 256) held (freed + n)
header-over first start received back held freed n k =
    record { start_is = k.start_is; received_is = omega (arith, k.received_is); back_is = omega (arith, k.back_is); fits = k.fits }

units-over : (first start received back held freed n : ℕ) → IsUnits first start received back held freed
    → IsUnits first start ((received + n) % 4096) ((back + n) % 4096) held (freed + n)
units-over first start received back held freed n k =
    record { start_is = k.start_is; received_is = omega (arith, k.received_is); back_is = omega (arith, k.back_is); fits = k.fits }

header-out : (first start received back left held freed n : ℕ) → left + n ≡ held → IsHeader first start received back held freed
    → IsHeader first start received ((back + n) % 256) left (freed + n)
header-out first start received back left held freed n e k =
    record { start_is = k.start_is; received_is = omega (arith, e, k.received_is); back_is = omega (arith, k.back_is); fits = λ pos. let f = k.fits pos in omega (arith, e, f) }

units-out : (first start received back left held freed n : ℕ) → left + n ≡ held → IsUnits first start received back held freed
    → IsUnits first start received ((back + n) % 4096) left (freed + n)
units-out first start received back left held freed n e k =
    record { start_is = k.start_is; received_is = omega (arith, e, k.received_is); back_is = omega (arith, k.back_is); fits = λ pos. let f = k.fits pos in omega (arith, e, f) }

-- ---- the test for Receiver Overflow is that of the room

and-false : (a b : Bool) → (a && b) ≡ false → a ≡ true → b ≡ false
and-false true b h e = h
and-false false b h e = cc

finite : (n : ℕ) → 0 < n → not (n == 0) ≡ true
finite n h = grind (arith, nat_tests)

below : (m n : ℕ) → nat_le m n ≡ false → n < m
below m n h = grind (arith, nat_tests)

header-room : (first held freed n : ℕ) → first ≤ 127 → n ≤ 127 → held ≤ first
    → ((first + freed % 256) % 256 + 256 - ((held + freed) % 256 + n) % 256 % 256) % 256 < 128 → held + n ≤ first
header-room first held freed n a b c h = omega (arith, a, b, c, h)

units-room : (first held freed n : ℕ) → first ≤ 2047 → n ≤ 2047 → held ≤ first
    → ((first + freed % 4096) % 4096 + 4096 - ((held + freed) % 4096 + n) % 4096 % 4096) % 4096 < 2048 → held + n ≤ first
units-room first held freed n a b c h = omega (arith, a, b, c, h)

pub header_fits : (first start received back held freed n : ℕ) → first ≤ 127 → n ≤ 127 → IsHeader first start received back held freed
    → is_over 256 start back ((received + n) % 256) ≡ false → 0 < first → held + n ≤ first
header_fits first start received back held freed n a b k h pos =
    let is_finite = finite start (subst (λ (x : ℕ). 0 < x) (sym k.start_is) pos) in
    let lt = below 128 _ (and-false (not (start == 0)) _ h is_finite) in
    header-room first held freed n a b (k.fits pos) (rw (sym k.start_is, sym k.received_is, sym k.back_is) lt)

pub units_fits : (first start received back held freed n : ℕ) → first ≤ 2047 → n ≤ 2047 → IsUnits first start received back held freed
    → is_over 4096 start back ((received + n) % 4096) ≡ false → 0 < first → held + n ≤ first
units_fits first start received back held freed n a b k h pos =
    let is_finite = finite start (subst (λ (x : ℕ). 0 < x) (sym k.start_is) pos) in
    let lt = below 2048 _ (and-false (not (start == 0)) _ h is_finite) in
    units-room first held freed n a b (k.fits pos) (rw (sym k.start_is, sym k.received_is, sym k.back_is) lt)

-- ---- the two counters of a class

abbrev pub Both : Class → CreditLedger → FirstCredits → ℕ → ℕ → ℕ → ℕ → Type 0
Both c l first hh hu rh ru =
    IsHeader first.header (ledger_of c l).header.first (ledger_of c l).header.received (ledger_of c l).header.freed hh rh
    × IsUnits first.units (ledger_of c l).units.first (ledger_of c l).units.received (ledger_of c l).units.freed hu ru

abbrev need_of : Class → ℕ → ℕ → Need
need_of d h u = record { class = d; header = h; units = u }

or-false : (a b : Bool) → (a || b) ≡ false → (a ≡ false) × (b ≡ false)
or-false true b h = cc h
or-false false b h = (refl, h)

-- what a packet takes fits, if it doesn't overflow
fits-at : (c d : Class) (l : CreditLedger) (first : FirstCredits) (h u hh hu rh ru : ℕ) → first.header ≤ 127 → first.units ≤ 2047 → h ≤ 127 → u ≤ 2047
    → Both c l first hh hu rh ru → would_overflow l (need_of d h u) ≡ false → same c d ≡ true
    → (0 < first.header → hh + h ≤ first.header) × (0 < first.units → hu + u ≤ first.units)
fits-at Posted Posted l first h u hh hu rh ru a b x y k o e =
    (header_fits first.header _ _ _ hh rh h a x k.0 (or-false _ _ o).0, units_fits first.units _ _ _ hu ru u b y k.1 (or-false _ _ o).1)
fits-at Posted NonPosted l first h u hh hu rh ru a b x y k o e = cc
fits-at Posted Completion l first h u hh hu rh ru a b x y k o e = cc
fits-at NonPosted Posted l first h u hh hu rh ru a b x y k o e = cc
fits-at NonPosted NonPosted l first h u hh hu rh ru a b x y k o e =
    (header_fits first.header _ _ _ hh rh h a x k.0 (or-false _ _ o).0, units_fits first.units _ _ _ hu ru u b y k.1 (or-false _ _ o).1)
fits-at NonPosted Completion l first h u hh hu rh ru a b x y k o e = cc
fits-at Completion Posted l first h u hh hu rh ru a b x y k o e = cc
fits-at Completion NonPosted l first h u hh hu rh ru a b x y k o e = cc
fits-at Completion Completion l first h u hh hu rh ru a b x y k o e =
    (header_fits first.header _ _ _ hh rh h a x k.0 (or-false _ _ o).0, units_fits first.units _ _ _ hu ru u b y k.1 (or-false _ _ o).1)

received-both : (c d : Class) (l : CreditLedger) (first : FirstCredits) (h u hh hu rh ru : ℕ)
    → (same c d ≡ true → (0 < first.header → hh + h ≤ first.header) × (0 < first.units → hu + u ≤ first.units))
    → Both c l first hh hu rh ru → Both c (after_received l (need_of d h u)) first (hh + (if same c d then h else 0)) (hu + (if same c d then u else 0)) rh ru
received-both Posted Posted l first h u hh hu rh ru f k =
    (header-in first.header _ _ _ hh rh h (f refl).0 k.0, units-in first.units _ _ _ hu ru u (f refl).1 k.1)
received-both Posted NonPosted l first h u hh hu rh ru f k = rw (add-zero hh, add-zero hu) k
received-both Posted Completion l first h u hh hu rh ru f k = rw (add-zero hh, add-zero hu) k
received-both NonPosted Posted l first h u hh hu rh ru f k = rw (add-zero hh, add-zero hu) k
received-both NonPosted NonPosted l first h u hh hu rh ru f k =
    (header-in first.header _ _ _ hh rh h (f refl).0 k.0, units-in first.units _ _ _ hu ru u (f refl).1 k.1)
received-both NonPosted Completion l first h u hh hu rh ru f k = rw (add-zero hh, add-zero hu) k
received-both Completion Posted l first h u hh hu rh ru f k = rw (add-zero hh, add-zero hu) k
received-both Completion NonPosted l first h u hh hu rh ru f k = rw (add-zero hh, add-zero hu) k
received-both Completion Completion l first h u hh hu rh ru f k =
    (header-in first.header _ _ _ hh rh h (f refl).0 k.0, units-in first.units _ _ _ hu ru u (f refl).1 k.1)

over-both : (c d : Class) (l : CreditLedger) (first : FirstCredits) (h u hh hu rh ru : ℕ)
    → Both c l first hh hu rh ru
    → Both c (after_freed (after_received l (need_of d h u)) (need_of d h u)) first hh hu (rh + (if same c d then h else 0)) (ru + (if same c d then u else 0))
over-both Posted Posted l first h u hh hu rh ru k =
    (header-over first.header _ _ _ hh rh h k.0, units-over first.units _ _ _ hu ru u k.1)
over-both Posted NonPosted l first h u hh hu rh ru k = rw (add-zero rh, add-zero ru) k
over-both Posted Completion l first h u hh hu rh ru k = rw (add-zero rh, add-zero ru) k
over-both NonPosted Posted l first h u hh hu rh ru k = rw (add-zero rh, add-zero ru) k
over-both NonPosted NonPosted l first h u hh hu rh ru k =
    (header-over first.header _ _ _ hh rh h k.0, units-over first.units _ _ _ hu ru u k.1)
over-both NonPosted Completion l first h u hh hu rh ru k = rw (add-zero rh, add-zero ru) k
over-both Completion Posted l first h u hh hu rh ru k = rw (add-zero rh, add-zero ru) k
over-both Completion NonPosted l first h u hh hu rh ru k = rw (add-zero rh, add-zero ru) k
over-both Completion Completion l first h u hh hu rh ru k =
    (header-over first.header _ _ _ hh rh h k.0, units-over first.units _ _ _ hu ru u k.1)

same-left : (left held : ℕ) → left + 0 ≡ held → held ≡ left
same-left left held e = omega (arith, e)

out-both : (c d : Class) (l : CreditLedger) (first : FirstCredits) (h u lh lu hh hu rh ru : ℕ)
    → lh + (if same c d then h else 0) ≡ hh → lu + (if same c d then u else 0) ≡ hu → Both c l first hh hu rh ru
    → Both c (after_freed l (need_of d h u)) first lh lu (rh + (if same c d then h else 0)) (ru + (if same c d then u else 0))
out-both Posted Posted l first h u lh lu hh hu rh ru e f k =
    (header-out first.header _ _ _ lh hh rh h e k.0, units-out first.units _ _ _ lu hu ru u f k.1)
out-both Posted NonPosted l first h u lh lu hh hu rh ru e f k = rw (add-zero rh, add-zero ru, sym (same-left lh hh e), sym (same-left lu hu f)) k
out-both Posted Completion l first h u lh lu hh hu rh ru e f k = rw (add-zero rh, add-zero ru, sym (same-left lh hh e), sym (same-left lu hu f)) k
out-both NonPosted Posted l first h u lh lu hh hu rh ru e f k = rw (add-zero rh, add-zero ru, sym (same-left lh hh e), sym (same-left lu hu f)) k
out-both NonPosted NonPosted l first h u lh lu hh hu rh ru e f k =
    (header-out first.header _ _ _ lh hh rh h e k.0, units-out first.units _ _ _ lu hu ru u f k.1)
out-both NonPosted Completion l first h u lh lu hh hu rh ru e f k = rw (add-zero rh, add-zero ru, sym (same-left lh hh e), sym (same-left lu hu f)) k
out-both Completion Posted l first h u lh lu hh hu rh ru e f k = rw (add-zero rh, add-zero ru, sym (same-left lh hh e), sym (same-left lu hu f)) k
out-both Completion NonPosted l first h u lh lu hh hu rh ru e f k = rw (add-zero rh, add-zero ru, sym (same-left lh hh e), sym (same-left lu hu f)) k
out-both Completion Completion l first h u lh lu hh hu rh ru e f k =
    (header-out first.header _ _ _ lh hh rh h e k.0, units-out first.units _ _ _ lu hu ru u f k.1)

-- ---- all classes

abbrev pub Counts : LaneCredits → CreditLedger → List Need → List Need → Type 0
Counts ours l held freed =
    (c : Class) → Both c l (first_of ours c) (headers_in c held) (units_in c held) (headers_in c freed) (units_in c freed)

nothing-in : (first : ℕ) → IsHeader first first 0 0 0 0
nothing-in first = record { start_is = refl; received_is = omega arith; back_is = omega arith; fits = λ pos. omega arith }

no-units-in : (first : ℕ) → IsUnits first first 0 0 0 0
no-units-in first = record { start_is = refl; received_is = omega arith; back_is = omega arith; fits = λ pos. omega arith }

pub counts-new : (ours : LaneCredits) → Counts ours (first_ledger ours) [] []
counts-new ours = λ c. new-at c ours
  where
    new-at : (c : Class) (ours : LaneCredits) → Both c (first_ledger ours) (first_of ours c) 0 0 0 0
    new-at Posted ours = (nothing-in ours.ph, no-units-in ours.pd)
    new-at NonPosted ours = (nothing-in ours.nph, no-units-in ours.npd)
    new-at Completion ours = (nothing-in ours.cplh, no-units-in ours.cpld)

pub longer : (f : Need → ℕ) (needs : List Need) (need : Need) → sum_by f (needs ++ need ∷ []) ≡ sum_by f needs + f need
longer f needs need = sum_by-append f needs (need ∷ []) ∙ ap (λ (n : ℕ). sum_by f needs + n) (zero-add (f need))

first-in : (f : Need → ℕ) (need : Need) (needs : List Need) → sum_by f (need ∷ needs) ≡ f need + sum_by f needs
first-in f need needs = let e = sum_by-append f (need ∷ []) needs in omega (arith, e)

removed : (f : Need → ℕ) (needs : List Need) (place : ℕ) (need : Need) → slice_get needs place ≡ Some need
    → sum_by f (remove needs place) + f need ≡ sum_by f needs
removed f [] place need e = cc
removed f (x ∷ xs) zero need e =
    let first : x ≡ need = cc in
    let all = first-in f x xs in
    omega (arith, all, ap f first)
removed f (x ∷ xs) (suc i) need e =
    let rest = removed f xs i need e in
    let all = first-in f x xs in
    let left = first-in f x (remove xs i) in
    omega (arith, rest, all, left)

at-most : (least most first : ℕ) → IsInfiniteOrBetween least most first → first ≤ most
at-most least most first h = elim h [
  | inl none ↦ omega (arith, none)
  | inr between ↦ between.1
]

bounds : (c : Class) (ours : LaneCredits) → IsInLimits ours → ((first_of ours c).header ≤ 127) × ((first_of ours c).units ≤ 2047)
bounds Posted ours h = (at-most 1 127 ours.ph h.ph, at-most 8 2047 ours.pd h.pd)
bounds NonPosted ours h = (at-most 1 127 ours.nph h.nph, at-most 2 2047 ours.npd h.npd)
bounds Completion ours h = (at-most 1 127 ours.cplh h.cplh, at-most 8 2047 ours.cpld h.cpld)

abbrev pub IsSmall : Need → Type 0
IsSmall need = (need.header ≤ 127) × (need.units ≤ 2047)

pub counts-received : (ours : LaneCredits) (l : CreditLedger) (held freed : List Need) (need : Need) → IsInLimits ours → IsSmall need → would_overflow l need ≡ false
    → Counts ours l held freed → Counts ours (after_received l need) (held ++ need ∷ []) freed
counts-received ours l held freed need limits small o k = λ c.
    rw (longer (header_of c) held need, longer (units_of c) held need)
    (received-both c need.class l (first_of ours c) need.header need.units (headers_in c held) (units_in c held) (headers_in c freed) (units_in c freed)
    (fits-at c need.class l (first_of ours c) need.header need.units (headers_in c held) (units_in c held) (headers_in c freed) (units_in c freed)
    (bounds c ours limits).0 (bounds c ours limits).1 small.0 small.1 (k c) o)
    (k c))

pub counts-over : (ours : LaneCredits) (l : CreditLedger) (held freed : List Need) (need : Need)
    → Counts ours l held freed → Counts ours (after_freed (after_received l need) need) held (freed ++ need ∷ [])
counts-over ours l held freed need k = λ c.
    rw (longer (header_of c) freed need, longer (units_of c) freed need)
    (over-both c need.class l (first_of ours c) need.header need.units (headers_in c held) (units_in c held) (headers_in c freed) (units_in c freed) (k c))

pub counts-out : (ours : LaneCredits) (l : CreditLedger) (held freed : List Need) (place : ℕ) (need : Need) → slice_get held place ≡ Some need
    → Counts ours l held freed → Counts ours (after_freed l need) (remove held place) (freed ++ need ∷ [])
counts-out ours l held freed place need e k = λ c.
    rw (longer (header_of c) freed need, longer (units_of c) freed need)
    (out-both c need.class l (first_of ours c) need.header need.units (headers_in c (remove held place)) (units_in c (remove held place)) (headers_in c held) (units_in c held) (headers_in c freed) (units_in c freed)
    (removed (header_of c) held place need e) (removed (units_of c) held place need e) (k c))
