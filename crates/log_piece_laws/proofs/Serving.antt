-- A memory that serves a request serves its pieces.
use Rattle.std.proofs.Common.{◌≡◌, ◌∙◌, ℕ, zero, suc, ◌+◌, ◌-◌, ◌*◌, ◌/◌, ◌%◌, ◌<◌, ◌≤◌, ◌++◌, ◌∷◌, [], List, Some, None, Option, Bool, true, false, cond, eqb, length, take, drop, replicate, refl, sym, ap, subst, inl, inr, arith}
use Rattle.std.specs.Prelude.{nat_lt, ◌&&◌, ◌||◌, ◌==◌, not, is_none, is_some, if◌then◌else◌}
use Rattle.std.specs.List.{list_all}
use Rattle.std.proofs.lemmas.Bool.{cases_Bool}
use Rattle.std.proofs.lemmas.Bool.Decides.{nat_tests}
use Rattle.std.proofs.lemmas.List.{append_assoc, replicate-append-replicate}
use Rattle.std.proofs.lemmas.Nat.{le-div}
use Rattle.std.proofs.Math.Nat.{div-mul-le_self}
use Rattle.arrayvec.specs.ArrayVec.{ArrayVec}
use Rattle.tlp_core.specs.Ops.{Op}
use Rattle.tlp_core.specs.declared.operation.OpOf.TheVariants as ops
use Rattle.tlp_core.specs.declared.operation.Width.TheVariants as widths
use Rattle.tlp_core.specs.declared.fault.TlpFault.{TlpFault}
use Rattle.tlp_core.specs.declared.fault.TlpFault.TheVariants as faults
use Rattle.tlp_core.specs.Enables.{dw_enables, enables, ends_in_gap, is_one_run, are_enables}
use Rattle.tlp_core.specs.Operation.{address_of, count_of, op_fault, wrong_length, wrong_enables, wrong_address}
use Rattle.seq_memory.specs.Limits.{Extent}
use Rattle.seq_memory.specs.Step.{refusal, is_in_block, is_inside}
use Rattle.op_pieces.specs.Pieces.{inner, rest_first, rest_last, front, back, dw_of, dw_to, cut, is_served}
use Rattle.log_piece_laws.proofs.Halves.{IsAccess, halves}
use Rattle.log_piece_laws.proofs.Cuts.{cut_by, cut_last, count_halves}

-- ---- byte enables in two parts

reps : (a b n : ℕ) (xs : List Bool) → a + b ≡ n → replicate n true ++ xs ≡ replicate a true ++ (replicate b true ++ xs)
reps a b n xs e =
    ap (λ k. replicate k true ++ xs) (sym e) ∙ ap (λ ys. ys ++ xs) (sym (replicate-append-replicate a b true)) ∙ append_assoc (replicate a true) (replicate b true) xs

enables_split : (n m f l : ℕ) → 1 ≤ n → 1 ≤ m → enables (n + m) f l ≡ enables n f (inner n) ++ enables m (rest_first m l) (rest_last m l)
unfolding enables
enables_split zero m f l a b = absurd (omega arith)
enables_split (suc n) zero f l a b = absurd (omega arith)
enables_split (suc zero) (suc zero) f l a b = refl
enables_split (suc zero) (suc (suc m)) f l a b =
    let several : eqb (1 + suc (suc m)) 1 ≡ false = grind (arith, nat_tests) in
    let more : eqb (suc (suc m)) 1 ≡ false = grind (arith, nat_tests) in
    rw (several, more) (ap (λ xs. dw_enables f ++ xs) (reps 4 (4 * (suc (suc m) - 2)) (4 * (1 + suc (suc m) - 2)) (dw_enables l) (omega arith)))
enables_split (suc (suc n)) (suc zero) f l a b =
    let several : eqb (suc (suc n) + 1) 1 ≡ false = grind (arith, nat_tests) in
    let more : eqb (suc (suc n)) 1 ≡ false = grind (arith, nat_tests) in
    let d = dw_enables l in
    let r = replicate (4 * (suc (suc n) - 2)) true in
    rw (several, more) (ap (λ xs. dw_enables f ++ xs) (reps (4 * (suc (suc n) - 2)) 4 (4 * (suc (suc n) + 1 - 2)) d (omega arith) ∙ sym (append_assoc r (replicate 4 true) d)))
enables_split (suc (suc n)) (suc (suc m)) f l a b =
    let several : eqb (suc (suc n) + suc (suc m)) 1 ≡ false = grind (arith, nat_tests) in
    let more : eqb (suc (suc n)) 1 ≡ false = grind (arith, nat_tests) in
    let most : eqb (suc (suc m)) 1 ≡ false = grind (arith, nat_tests) in
    let d = dw_enables l in
    let r = replicate (4 * (suc (suc n) - 2)) true in
    let q = replicate (4 * (suc (suc m) - 2)) true in
    let back = reps 4 (4 * (suc (suc m) - 2)) (4 + 4 * (suc (suc m) - 2)) d refl in
    let all = reps (4 * (suc (suc n) - 2)) (8 + 4 * (suc (suc m) - 2)) (4 * (suc (suc n) + suc (suc m) - 2)) d (omega arith) in
    let tail = reps 4 (4 + 4 * (suc (suc m) - 2)) (8 + 4 * (suc (suc m) - 2)) d (omega arith) in
    rw (several, more, most) (ap (λ xs. dw_enables f ++ xs) (all ∙ ap (λ xs. r ++ xs) (tail ∙ ap (λ xs. replicate 4 true ++ xs) back) ∙ sym (append_assoc r (replicate 4 true) (replicate 4 true ++ (q ++ d)))))

-- ---- a run in two parts

none_left : (xs ys : List Bool) → list_all not (xs ++ ys) ≡ true → list_all not xs ≡ true
none_left [] ys h = refl
none_left (true ∷ xs) ys h = absurd (cc h)
none_left (false ∷ xs) ys h = none_left xs ys h

none_right : (xs ys : List Bool) → list_all not (xs ++ ys) ≡ true → list_all not ys ≡ true
none_right [] ys h = h
none_right (true ∷ xs) ys h = absurd (cc h)
none_right (false ∷ xs) ys h = none_right xs ys h

none_run : (ys : List Bool) → list_all not ys ≡ true → is_one_run ys ≡ true
unfolding is_one_run
none_run [] h = refl
none_run (true ∷ ys) h = absurd (cc h)
none_run (false ∷ ys) h = none_run ys h

gap_run : (ys : List Bool) → ends_in_gap ys ≡ true → is_one_run ys ≡ true
unfolding is_one_run ends_in_gap
gap_run [] h = refl
gap_run (true ∷ ys) h = h
gap_run (false ∷ ys) h = none_run ys h

gap_left : (xs ys : List Bool) → ends_in_gap (xs ++ ys) ≡ true → ends_in_gap xs ≡ true
unfolding ends_in_gap
gap_left [] ys h = refl
gap_left (true ∷ xs) ys h = gap_left xs ys h
gap_left (false ∷ xs) ys h = none_left xs ys h

gap_right : (xs ys : List Bool) → ends_in_gap (xs ++ ys) ≡ true → is_one_run ys ≡ true
unfolding ends_in_gap
gap_right [] ys h = gap_run ys h
gap_right (true ∷ xs) ys h = gap_right xs ys h
gap_right (false ∷ xs) ys h = none_run ys (none_right xs ys h)

run_left : (xs ys : List Bool) → is_one_run (xs ++ ys) ≡ true → is_one_run xs ≡ true
unfolding is_one_run
run_left [] ys h = refl
run_left (false ∷ xs) ys h = run_left xs ys h
run_left (true ∷ xs) ys h = gap_left xs ys h

run_right : (xs ys : List Bool) → is_one_run (xs ++ ys) ≡ true → is_one_run ys ≡ true
unfolding is_one_run
run_right [] ys h = h
run_right (false ∷ xs) ys h = run_right xs ys h
run_right (true ∷ xs) ys h = gap_right xs ys h

-- ---- the rule of byte enables in two parts

record Several (dw a f l : ℕ) : Type 0 where
  first : (f == 0) ≡ false
  last : (l == 0) ≡ false
  run : (is_one_run (enables dw f l) || ((dw == 2) && (a % 8 == 0))) ≡ true

by_three : (a b c : Bool) → (not a && not b && c) ≡ true → (a ≡ false) × ((b ≡ false) × (c ≡ true))
by_three false false true h = (refl, (refl, refl))
by_three true b c h = absurd (cc h)
by_three false true c h = absurd (cc h)
by_three false false false h = absurd (cc h)

branch : (b x y : Bool) → b ≡ false → (if b then x else y) ≡ true → y ≡ true
branch true x y e h = absurd (cc e)
branch false x y e h = h

several : (dw a f l : ℕ) → 2 ≤ dw → are_enables dw a f l ≡ true → Several dw a f l
several dw a f l more h =
    let not_one : (dw == 1) ≡ false = grind (arith, nat_tests) in
    let t = by_three (f == 0) (l == 0) (is_one_run (enables dw f l) || ((dw == 2) && (a % 8 == 0))) (branch (dw == 1) (l == 0) _ not_one h) in
    record { first = t.0; last = t.1.0; run = t.1.1 }

no_pair : (dw a : ℕ) → 3 ≤ dw → ((dw == 2) && (a % 8 == 0)) ≡ false
no_pair dw a more = let no : (dw == 2) ≡ false = grind (arith, nat_tests) in rw no refl

one_or : (x y : Bool) → y ≡ false → (x || y) ≡ true → x ≡ true
one_or true y e h = refl
one_or false y e h = absurd (cc)

make : (dw a f l : ℕ) → (f == 0) ≡ false → (l == 0) ≡ false → is_one_run (enables dw f l) ≡ true → (not (f == 0) && not (l == 0) && (is_one_run (enables dw f l) || ((dw == 2) && (a % 8 == 0)))) ≡ true
make dw a f l first last run = rw (first, last, run) refl

by_one : (b x y : Bool) → (b ≡ true → x ≡ true) → (b ≡ false → y ≡ true) → (if b then x else y) ≡ true
by_one true x y p q = p refl
by_one false x y p q = q refl

is_not_one : (d : ℕ) → 1 ≤ d → (d == 1) ≡ false → 2 ≤ d
is_not_one d some h = grind (arith, nat_tests)

front_last : (d : ℕ) → (d == 1) ≡ true → (inner d == 0) ≡ true
front_last d e = rw e refl

front_more : (d : ℕ) → (d == 1) ≡ false → (inner d == 0) ≡ false
front_more d e = rw e refl

back_last : (d l : ℕ) → (d == 1) ≡ true → (rest_last d l == 0) ≡ true
back_last d l e = rw e refl

back_first : (d l : ℕ) → (d == 1) ≡ false → (rest_first d l == 0) ≡ false
back_first d l e = rw e refl

back_more : (d l : ℕ) → (l == 0) ≡ false → (d == 1) ≡ false → (rest_last d l == 0) ≡ false
back_more d l h e = rw (e, h) refl

split_run : (dw a f l d : ℕ) → 3 ≤ dw → d < dw → 1 ≤ d → are_enables dw a f l ≡ true
    → is_one_run (enables d f (inner d) ++ enables (dw - d) (rest_first (dw - d) l) (rest_last (dw - d) l)) ≡ true
split_run dw a f l d three less some h =
    let s = several dw a f l (omega (arith, three)) h in
    let sum : d + (dw - d) ≡ dw = omega (arith, less) in
    let both : enables dw f l ≡ enables d f (inner d) ++ enables (dw - d) (rest_first (dw - d) l) (rest_last (dw - d) l) =
    ap (λ v. enables v f l) (sym sum) ∙ enables_split d (dw - d) f l some (omega (arith, less)) in
    ap is_one_run (sym both) ∙ one_or (is_one_run (enables dw f l)) ((dw == 2) && (a % 8 == 0)) (no_pair dw a three) s.run

front_rule : (dw a f l d : ℕ) → d < dw → 1 ≤ d → are_enables dw a f l ≡ true → are_enables d a f (inner d) ≡ true
front_rule dw a f l d less some h =
    let s = several dw a f l (omega (arith, less, some)) h in
    by_one (d == 1) (inner d == 0) _ (front_last d) (λ more.
    let two = is_not_one d some more in
    let run = run_left (enables d f (inner d)) (enables (dw - d) (rest_first (dw - d) l) (rest_last (dw - d) l)) (split_run dw a f l d (omega (arith, two, less)) less some h) in
    make d a f (inner d) s.first (front_more d more) run)

back_rule : (dw a f l d : ℕ) → d < dw → 1 ≤ d → are_enables dw a f l ≡ true
    → are_enables (dw - d) (a + 4 * d) (rest_first (dw - d) l) (rest_last (dw - d) l) ≡ true
back_rule dw a f l d less some h =
    let s = several dw a f l (omega (arith, less, some)) h in
    let k = dw - d in
    by_one (k == 1) (rest_last k l == 0) _ (back_last k l) (λ more.
    let two = is_not_one k (omega (arith, less)) more in
    let run = run_right (enables d f (inner d)) (enables k (rest_first k l) (rest_last k l)) (split_run dw a f l d (omega (arith, two, less, some)) less some h) in
    make k (a + 4 * d) (rest_first k l) (rest_last k l) (back_first k l more) (back_more k l s.last more) run)

-- ---- an operation without a fault

not_this : (a : Bool) (fault : TlpFault) (o : Option TlpFault) → cond a (Some fault) o ≡ None → (a ≡ false) × (o ≡ None)
not_this true fault o e = absurd (cc e)
not_this false fault o e = (refl, e)

none_wrong : (a b c d : Bool) → a ≡ false → b ≡ false → c ≡ false → d ≡ false → cond a (Some faults.LengthMismatch) (cond b (Some faults.ByteEnables) (cond c (Some faults.OperandSize) (cond d (Some faults.Unaligned) None))) ≡ None
none_wrong false false false false p q r s = refl
none_wrong true b c d p q r s = absurd (cc p)
none_wrong false true c d p q r s = absurd (cc q)
none_wrong false false true d p q r s = absurd (cc r)
none_wrong false false false true p q r s = absurd (cc s)

all_wrong : (a b c d : Bool) → cond a (Some faults.LengthMismatch) (cond b (Some faults.ByteEnables) (cond c (Some faults.OperandSize) (cond d (Some faults.Unaligned) None))) ≡ None → (a ≡ false) × ((b ≡ false) × ((c ≡ false) × (d ≡ false)))
all_wrong false false false false h = (refl, (refl, (refl, refl)))
all_wrong true b c d h = absurd (cc h)
all_wrong false true c d h = absurd (cc h)
all_wrong false false true d h = absurd (cc h)
all_wrong false false false true h = absurd (cc h)

-- a read or a write of so many DW
record Sound (dw a f l : ℕ) : Type 0 where
  first : nat_lt 15 f ≡ false
  last : nat_lt 15 l ≡ false
  rule : are_enables dw a f l ≡ true

three : (a b c : Bool) → (a || b || not c) ≡ false → (a ≡ false) × ((b ≡ false) × (c ≡ true))
three false false true h = (refl, (refl, refl))
three true b c h = absurd (cc h)
three false true c h = absurd (cc h)
three false false false h = absurd (cc h)

right : (a b c : Bool) → a ≡ false → b ≡ false → c ≡ true → (a || b || not c) ≡ false
right a b c p q r = rw (p, q, r) refl

is_multiple : (a : ℕ) → not (a % 4 == 0) ≡ false → a % 4 ≡ 0
is_multiple a h = grind (arith, nat_tests)

multiple_is : (a : ℕ) → a % 4 ≡ 0 → not (a % 4 == 0) ≡ false
multiple_is a h = grind (arith, nat_tests)

some_dw : (dw : ℕ) → ((dw == 0) || nat_lt 1024 dw) ≡ false → (1 ≤ dw) × (dw ≤ 1024)
some_dw dw h = grind (arith, nat_tests)

few_dw : (dw : ℕ) → 1 ≤ dw → dw ≤ 1024 → ((dw == 0) || nat_lt 1024 dw) ≡ false
few_dw dw some few = grind (arith, nat_tests)

some_bytes : (n : ℕ) → ((n == 0) || not (n % 4 == 0)) ≡ false → (1 ≤ n) × (n % 4 ≡ 0)
some_bytes n h = grind (arith, nat_tests)

whole_bytes : (n : ℕ) → 1 ≤ n → n % 4 ≡ 0 → ((n == 0) || not (n % 4 == 0)) ≡ false
whole_bytes n some h = grind (arith, nat_tests)

-- a read or a write without a fault is an access
record IsFaultless (dw a f l : ℕ) (op : Op) : Type 0 where
  sound : Sound dw a f l
  access : IsAccess op

read_is : (a dw f l : ℕ) → op_fault (ops.Read a dw f l) ≡ None → IsFaultless dw a f l (ops.Read a dw f l) × (dw ≤ 1024)
read_is a dw f l h =
    let w = all_wrong (wrong_length (ops.Read a dw f l)) (wrong_enables (ops.Read a dw f l)) false (wrong_address (ops.Read a dw f l)) h in
    let few = some_dw dw w.0 in
    let t = three (nat_lt 15 f) (nat_lt 15 l) (are_enables dw a f l) w.1.0 in
    (record { sound = record { first = t.0; last = t.1.0; rule = t.1.1 }; access = record { some = few.0; aligned = is_multiple a w.1.1.1; whole = refl } }, few.1)

read_from : (a dw f l : ℕ) → Sound dw a f l → IsAccess (ops.Read a dw f l) → dw ≤ 1024 → op_fault (ops.Read a dw f l) ≡ None
read_from a dw f l s is few =
    none_wrong (wrong_length (ops.Read a dw f l)) (wrong_enables (ops.Read a dw f l)) false (wrong_address (ops.Read a dw f l))
    (few_dw dw is.some few) (right (nat_lt 15 f) (nat_lt 15 l) (are_enables dw a f l) s.first s.last s.rule) refl (multiple_is a is.aligned)

write_is : (a f l : ℕ) (bytes : ArrayVec ℕ) → op_fault (ops.Write a f l bytes) ≡ None → IsFaultless (length bytes.items / 4) a f l (ops.Write a f l bytes)
write_is a f l bytes h =
    let op = ops.Write a f l bytes in
    let w = all_wrong (wrong_length op) (wrong_enables op) false (wrong_address op) h in
    let some = some_bytes (length bytes.items) w.0 in
    let t = three (nat_lt 15 f) (nat_lt 15 l) (are_enables (length bytes.items / 4) a f l) w.1.0 in
    record {
      sound = record { first = t.0; last = t.1.0; rule = t.1.1 };
      access = record { some = omega (arith, some.0, some.1); aligned = is_multiple a w.1.1.1; whole = omega (arith, some.1) };
    }

write_from : (a f l : ℕ) (bytes : ArrayVec ℕ) → Sound (length bytes.items / 4) a f l → IsAccess (ops.Write a f l bytes) → op_fault (ops.Write a f l bytes) ≡ None
write_from a f l bytes s is =
    let op = ops.Write a f l bytes in
    let some = is.some in
    let whole = is.whole in
    none_wrong (wrong_length op) (wrong_enables op) false (wrong_address op)
    (whole_bytes (length bytes.items) (omega (arith, some)) (omega (arith, whole))) (right (nat_lt 15 f) (nat_lt 15 l) (are_enables (length bytes.items / 4) a f l) s.first s.last s.rule) refl (multiple_is a is.aligned)

inner_few : (d : ℕ) → nat_lt 15 (inner d) ≡ false
inner_few d = elim (cases_Bool (d == 1)) [
  | inl e ↦ rw e refl
  | inr e ↦ rw e refl
]

rest_few : (d l : ℕ) → nat_lt 15 l ≡ false → (nat_lt 15 (rest_first d l) ≡ false) × (nat_lt 15 (rest_last d l) ≡ false)
rest_few d l h = elim (cases_Bool (d == 1)) [
  | inl e ↦ (rw e h, rw e refl)
  | inr e ↦ (rw e refl, rw e h)
]

front_sound : (dw a f l d : ℕ) → Sound dw a f l → 1 ≤ d → d < dw → Sound d a f (inner d)
front_sound dw a f l d s some less = record { first = s.first; last = inner_few d; rule = front_rule dw a f l d less some s.rule }

back_sound : (dw a f l d : ℕ) → Sound dw a f l → 1 ≤ d → d < dw → Sound (dw - d) (a + 4 * d) (rest_first (dw - d) l) (rest_last (dw - d) l)
back_sound dw a f l d s some less =
    let few = rest_few (dw - d) l s.last in
    record { first = few.0; last = few.1; rule = back_rule dw a f l d less some s.rule }

-- the halves of an operation without a fault have none
halves_faultless : (op : Op) (d : ℕ) → op_fault op ≡ None → 1 ≤ d → d < dw_of op → (op_fault (front d op) ≡ None) × (op_fault (back d op) ≡ None)
halves_faultless (ops.Read a dw f l) d none some less =
    let r = read_is a dw f l none in
    let h = halves (ops.Read a dw f l) d r.0.access some less in
    let few = r.1 in (
      read_from a d f (inner d) (front_sound dw a f l d r.0.sound some less) h.first (omega (arith, few, less)),
      read_from (a + 4 * d) (dw - d) (rest_first (dw - d) l) (rest_last (dw - d) l) (back_sound dw a f l d r.0.sound some less) h.rest (omega (arith, few)),
    )
halves_faultless (ops.Write a f l bytes) d none some less =
    let r = write_is a f l bytes none in
    let h = halves (ops.Write a f l bytes) d r.access some less in
    let dw = length bytes.items / 4 in
    let xs = take (4 * d) bytes.items in
    let ws = drop (4 * d) bytes.items in
    let first_dw : length xs / 4 ≡ d = h.first_dw in
    let rest_dw : length ws / 4 ≡ dw - d = h.rest_dw in (
      write_from a f (inner d) (record { items = xs }) (subst (λ (v : ℕ). Sound v a f (inner d)) (sym first_dw) (front_sound dw a f l d r.sound some less)) h.first,
      write_from (a + 4 * d) (rest_first (dw - d) l) (rest_last (dw - d) l) (record { items = ws })
          (subst (λ (v : ℕ). Sound v (a + 4 * d) (rest_first (dw - d) l) (rest_last (dw - d) l)) (sym rest_dw) (back_sound dw a f l d r.sound some less)) h.rest,
    )
halves_faultless (ops.FetchAdd a w x) d none some less = absurd (omega (arith, less))
halves_faultless (ops.Swap a w x) d none some less = absurd (omega (arith, less))
halves_faultless (ops.Cas a w x y) d none some less = absurd (omega (arith, less))

-- ---- where it lies

both_true : (a b : Bool) → (a && b) ≡ true → (a ≡ true) × (b ≡ true)
both_true true b h = (refl, h)
both_true false b h = absurd (cc)

and_true : (a b : Bool) → a ≡ true → b ≡ true → (a && b) ≡ true
and_true true true p q = refl
and_true true false p q = absurd (cc q)
and_true false b p q = absurd (cc p)

no_some : {X : Type 0} → (o : Option X) → is_some o ≡ false → o ≡ None
no_some None h = refl
no_some (Some x) h = absurd (cc)

record Served (x : Extent) (op : Op) : Type 0 where
  none : op_fault op ≡ None
  block : is_in_block x.block (address_of op) (count_of op) ≡ true
  inside : is_inside x.base x.size (address_of op) (count_of op) ≡ true

served_if : (x : Extent) (op : Op) → is_served x op ≡ true → Served x op
served_if x op h = by (is_some (op_fault op)) (is_in_block x.block (address_of op) (count_of op)) (is_inside x.base x.size (address_of op) (count_of op)) refl refl refl h
  where
    by : (a b c : Bool) → is_some (op_fault op) ≡ a → is_in_block x.block (address_of op) (count_of op) ≡ b → is_inside x.base x.size (address_of op) (count_of op) ≡ c → is_served x op ≡ true → Served x op
    by false true true p q r h = record { none = no_some (op_fault op) p; block = q; inside = r }
    by true b c p q r h = let no : is_served x op ≡ false = rw p refl in absurd (cc)
    by false false c p q r h = let no : is_served x op ≡ false = rw (p, q) refl in absurd (cc)
    by false true false p q r h = let no : is_served x op ≡ false = rw (p, q, r) refl in absurd (cc)

if_served : (x : Extent) (op : Op) → Served x op → is_served x op ≡ true
if_served x op s =
    let a = s.none in
    let b = s.block in
    let c = s.inside in
    rw (a, b, c) refl

div_rises : (k m n : ℕ) → m ≤ n → m / k ≤ n / k
div_rises zero m n l = omega arith
div_rises (suc k) m n l = let low = div-mul-le_self m (suc k) in le-div (m / suc k) n (suc k) (omega arith) (omega (arith, low, l))

in_block : (block a n b m : ℕ) → a ≤ b → b + m ≤ a + n → 1 ≤ m → is_in_block block a n ≡ true → is_in_block block b m ≡ true
in_block block a n b m low high some h =
    let whole : a / block ≡ (a + n - 1) / block = grind (arith, nat_tests) in
    let one = div_rises block a b low in
    let two = div_rises block b (b + m - 1) (omega (arith, some)) in
    let last = div_rises block (b + m - 1) (a + n - 1) (omega (arith, high, some)) in
    is (b / block) ((b + m - 1) / block) (omega (arith, whole, one, two, last))
  where
    is : (p q : ℕ) → p ≡ q → (p == q) ≡ true
    is p q e = grind (arith, nat_tests)

inside_parts : (base size a n b m : ℕ) → a ≤ b → b + m ≤ a + n → is_inside base size a n ≡ true → is_inside base size b m ≡ true
inside_parts base size a n b m low high h = grind (arith, nat_tests)

served_part : (x : Extent) (op part : Op) → Served x op → op_fault part ≡ None → 1 ≤ count_of part → address_of op ≤ address_of part
    → address_of part + count_of part ≤ address_of op + count_of op → Served x part
served_part x op part s none some low high = record {
  none = none;
  block = in_block x.block (address_of op) (count_of op) (address_of part) (count_of part) low high some s.block;
  inside = inside_parts x.base x.size (address_of op) (count_of op) (address_of part) (count_of part) low high s.inside;
}

-- what has DW and no fault is an access
access_of : (op : Op) → op_fault op ≡ None → 1 ≤ dw_of op → IsAccess op
access_of (ops.Read a dw f l) none some = (read_is a dw f l none).0.access
access_of (ops.Write a f l bytes) none some = (write_is a f l bytes none).access
access_of (ops.FetchAdd a w x) none some = absurd (omega (arith, some))
access_of (ops.Swap a w x) none some = absurd (omega (arith, some))
access_of (ops.Cas a w x y) none some = absurd (omega (arith, some))

served_halves : (x : Extent) (op : Op) (d : ℕ) → Served x op → 1 ≤ d → d < dw_of op → Served x (front d op) × Served x (back d op)
served_halves x op d s some less =
    let is = access_of op s.none (omega (arith, less)) in
    let h = halves op d is some less in
    let none = halves_faultless op d s.none some less in
    let first_at = h.first_at in
    let rest_at = h.rest_at in
    let first_some = h.first.some in
    let first_whole = h.first.whole in
    let first_dw = h.first_dw in
    let rest_some = h.rest.some in
    let rest_whole = h.rest.whole in
    let sum = count_halves op d less in (
      served_part x op (front d op) s none.0 (omega (arith, first_some, first_whole)) (omega (arith, first_at)) (omega (arith, first_at, sum)),
      served_part x op (back d op) s none.1 (omega (arith, rest_some, rest_whole)) (omega (arith, rest_at)) (omega (arith, rest_at, sum, first_whole, first_dw)),
    )

-- pieces whose size has DW
abbrev pub HasDw : ℕ → Type 0
HasDw b = (a : ℕ) → a % 4 ≡ 0 → 1 ≤ dw_to b a

all_pieces : (x : Extent) (b : ℕ) → HasDw b → (n : ℕ) (op : Op) → Served x op → list_all (is_served x) (cut b n op) ≡ true
all_pieces x b dw zero op s = ap (list_all (is_served x)) (cut_last b op) ∙ and_true (is_served x op) true (if_served x op s) refl
all_pieces x b dw (suc n) op s = cut_by {P = list_all (is_served x) (cut b (suc n) op) ≡ true} b n op
    (λ fits one. ap (list_all (is_served x)) one ∙ and_true (is_served x op) true (if_served x op s) refl)
    (λ d e less more.
    let is = access_of op s.none (omega (arith, less)) in
    let some = dw (address_of op) is.aligned in
    let h = served_halves x op d s (omega (arith, some, e)) less in
    ap (list_all (is_served x)) more ∙ and_true (is_served x (front d op)) (list_all (is_served x) (cut b n (back d op))) (if_served x (front d op) h.0) (all_pieces x b dw n (back d op) h.1))

pub pieces_served : (x : Extent) (b : ℕ) → HasDw b → (op : Op) → is_served x op ≡ true → list_all (is_served x) (cut b (dw_of op) op) ≡ true
pieces_served x b dw op h = all_pieces x b dw (dw_of op) op (served_if x op h)

pub served_access : (x : Extent) (op : Op) → is_served x op ≡ true → 1 ≤ dw_of op → IsAccess op
served_access x op h some = access_of op (served_if x op h).none some

-- where what is served lies
pub record Lies (x : Extent) (op : Op) : Type 0 where
  pub none : refusal x.base x.size x.block op ≡ None
  pub some : 1 ≤ count_of op
  pub low : x.base ≤ address_of op
  pub high : address_of op + count_of op ≤ x.base + x.size

is_none_of : {X : Type 0} → (o : Option X) → is_none o ≡ true → o ≡ None
is_none_of None h = refl
is_none_of (Some y) h = absurd (cc)

low_high : (base size a n : ℕ) → is_inside base size a n ≡ true → (base ≤ a) × (a + n ≤ base + size)
low_high base size a n h = (grind (arith, nat_tests), grind (arith, nat_tests))

count_some : (op : Op) → op_fault op ≡ None → 1 ≤ count_of op
count_some (ops.Read a dw f l) none = let is = (read_is a dw f l none).0.access.some in omega (arith, is)
count_some (ops.Write a f l bytes) none =
    let is = (write_is a f l bytes none).access in
    let some = is.some in
    omega (arith, some)
count_some (ops.FetchAdd a widths.Four x) none = omega arith
count_some (ops.FetchAdd a widths.Eight x) none = omega arith
count_some (ops.FetchAdd a widths.Sixteen x) none = omega arith
count_some (ops.Swap a widths.Four x) none = omega arith
count_some (ops.Swap a widths.Eight x) none = omega arith
count_some (ops.Swap a widths.Sixteen x) none = omega arith
count_some (ops.Cas a widths.Four x y) none = omega arith
count_some (ops.Cas a widths.Eight x y) none = omega arith
count_some (ops.Cas a widths.Sixteen x y) none = omega arith

pub served_lies : (x : Extent) (op : Op) → is_served x op ≡ true → Lies x op
served_lies x op h =
    let s = served_if x op h in
    let lies = low_high x.base x.size (address_of op) (count_of op) s.inside in
    record { none = is_none_of (refusal x.base x.size x.block op) h; some = count_some op s.none; low = lies.0; high = lies.1 }
