-- Where a served operation stands, and bytes of its place.
use Rattle.std.proofs.Common.{◌≡◌, ◌∙◌, ℕ, zero, suc, ◌+◌, ◌-◌, ◌<◌, ◌≤◌, Bool, true, false, List, [], ◌∷◌, ◌++◌, length, take, drop, get_or, Option, Some, None, refl, sym, ap, append_assoc, arith, length-drop}
use Rattle.std.specs.Prelude.{◌&&◌, ◌||◌, not, nat_le, if◌then◌else◌, is_some}
use Rattle.std.proofs.lemmas.List.{get_or-take, get_or-drop, length-take, drop-drop, take-append-drop}
use Rattle.std.proofs.lemmas.Bool.Decides.{nat_tests}
use Rattle.std.proofs.Math.Seq.{length-take-le}
use Rattle.tlp_core.specs.Ops.{Op}
use Rattle.tlp_core.specs.Operation.{address_of, count_of, op_fault}
use Rattle.arrayvec.specs.ArrayVec.{ArrayVec}
use Rattle.seq_memory.specs.declared.Refusal.{Refusal}
use Rattle.seq_memory.specs.declared.Refusal.TheVariants as refusals
use Rattle.seq_memory.specs.Entries.{Reply}
use Rattle.seq_memory.specs.declared.reply.ReplyOf.TheVariants as replies
use Rattle.seq_memory.specs.Step.{is_in_block, is_inside, refusal, merged, bytes_at, patched, place_after, answer_by, after, after_by}

both_true : (x y : Bool) → (x && y) ≡ true → (x ≡ true) × (y ≡ true)
both_true true y h = (refl, h)
both_true false y h = absurd (cc)

none_refused : (x y z : Bool) → (if x || not y then Some refusals.Aborted else (if z then None else Some refusals.Unsupported)) ≡ None → (x ≡ false) × (y ≡ true) × (z ≡ true)
none_refused true y z h = absurd (cc)
none_refused false false z h = absurd (cc)
none_refused false true true h = (refl, refl, refl)
none_refused false true false h = absurd (cc)

below : (a b : ℕ) → nat_le a b ≡ true → a ≤ b
below a b h = grind (arith, nat_tests)

-- a served operation lies in the memory
pub inside : (base block size : ℕ) (op : Op) → refusal base size block op ≡ None → (base ≤ address_of op) × (address_of op + count_of op ≤ base + size)
inside base block size op h =
    let parts = none_refused (is_some (op_fault op)) (is_in_block block (address_of op) (count_of op)) (is_inside base size (address_of op) (count_of op)) h in
    let both = both_true (nat_le base (address_of op)) (nat_le (address_of op + count_of op) (base + size)) parts.2 in
    (below _ _ both.0, below _ _ both.1)

-- the place itself serves it, too
pub served_there : (base block size : ℕ) (op : Op) → refusal base size block op ≡ None → refusal (address_of op) (count_of op) block op ≡ None
served_there base block size op h =
    let parts = none_refused (is_some (op_fault op)) (is_in_block block (address_of op) (count_of op)) (is_inside base size (address_of op) (count_of op)) h in
    let low : nat_le (address_of op) (address_of op) ≡ true = grind (arith, nat_tests) in
    let high : nat_le (address_of op + count_of op) (address_of op + count_of op) ≡ true = grind (arith, nat_tests) in
    rw (parts.0, parts.1, low, high) refl

-- who gets data was served
pub data_served : (o : Option Refusal) (r : Reply) (d : ArrayVec ℕ) → answer_by o r ≡ replies.Data d → (o ≡ None) × (r ≡ replies.Data d)
data_served None r d e = (refl, e)
data_served (Some refusals.Aborted) r d e = absurd (cc)
data_served (Some refusals.Unsupported) r d e = absurd (cc)

pub served_after : (base block : ℕ) (m : List ℕ) (op : Op) → refusal base (length m) block op ≡ None → after base block m op ≡ patched m (address_of op - base) (count_of op) (place_after op (bytes_at m (address_of op - base) (count_of op)))
served_after base block m op e = ap (λ o. after_by o m (patched m (address_of op - base) (count_of op) (place_after op (bytes_at m (address_of op - base) (count_of op))))) e

-- a byte of a place
pub byte_there : (m : List ℕ) (i c k : ℕ) → k < c → get_or (bytes_at m i c) k 0 ≡ get_or m (i + k) 0
byte_there m i c k l = get_or-take c (drop i m) k 0 l ∙ get_or-drop i m k 0

pub length_place : (m : List ℕ) (i c : ℕ) → i + c ≤ length m → length (bytes_at m i c) ≡ c
length_place m i c l = length-take-le c (drop i m) (omega (arith, length-drop i m))

pub length_most : (m : List ℕ) (i c : ℕ) → length (bytes_at m i c) ≤ c
length_most m i c = omega (arith, length-take c (drop i m))

-- bytes put where they stood
pub patched_same : (m : List ℕ) (i n : ℕ) → patched m i n (bytes_at m i n) ≡ m
patched_same m i n =
    append_assoc (take i m) (take n (drop i m)) (drop (i + n) m)
    ∙ ap (λ xs. take i m ++ (take n (drop i m) ++ xs)) (sym (drop-drop n i m))
    ∙ ap (λ xs. take i m ++ xs) (take-append-drop n (drop i m))
    ∙ take-append-drop i m

-- ---- merged bytes

pub merged_enabled : (es : List Bool) (xs ys : List ℕ) (k : ℕ) → get_or es k false ≡ true → k < length xs → k < length ys → get_or (merged es xs ys) k 0 ≡ get_or xs k 0
merged_enabled [] xs ys k e lx ly = cc
merged_enabled (b ∷ es) [] ys k e lx ly = absurd (omega (arith, lx))
merged_enabled (b ∷ es) (x ∷ xs) [] k e lx ly = absurd (omega (arith, ly))
merged_enabled (b ∷ es) (x ∷ xs) (y ∷ ys) zero e lx ly = rw e refl
merged_enabled (b ∷ es) (x ∷ xs) (y ∷ ys) (suc k) e lx ly = merged_enabled es xs ys k e (omega (arith, lx)) (omega (arith, ly))

pub merged_shorter : (es : List Bool) (xs ys : List ℕ) (k : ℕ) → k < length (merged es xs ys) → (k < length xs) × (k < length ys)
merged_shorter [] xs ys k l = absurd (omega (arith, l))
merged_shorter (b ∷ es) [] ys k l = absurd (omega (arith, l))
merged_shorter (b ∷ es) (x ∷ xs) [] k l = absurd (omega (arith, l))
merged_shorter (b ∷ es) (x ∷ xs) (y ∷ ys) zero l = (omega arith, omega arith)
merged_shorter (b ∷ es) (x ∷ xs) (y ∷ ys) (suc k) l =
    let (one, two) = merged_shorter es xs ys k (omega (arith, l)) in
    (omega (arith, one), omega (arith, two))
