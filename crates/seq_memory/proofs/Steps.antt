-- Laws of one step.
use Rattle.std.proofs.Common.{◌≡◌, ℕ, zero, suc, ◌+◌, ◌-◌, ◌*◌, ◌/◌, ◌%◌, ◌<◌, ◌≤◌, ◌⊎◌, inl, inr, Bool, true, false, eqb, List, ◌++◌, length, take, drop, get_or, replicate, Option, Some, None, refl, sym, ap, subst, ◌∙◌, append_assoc, arith, length-append, length-drop}
use Rattle.std.specs.Prelude.{◌==◌, ◌&&◌, ◌||◌, not, if◌then◌else◌, nat_le, nat_lt, is_some, slice_index, slice_get}
use Rattle.std.proofs.lemmas.List.{take_at, drop_at, take-append-drop, drop-drop, length-replicate, get_or_append_left, get_or-append_right, get_or-take, get_or-drop}
use Rattle.std.proofs.lemmas.Bool.Decides.{nat_tests}
use Rattle.std.proofs.Math.Seq.{length-take-le}
use Rattle.byteorder.specs.Numbers.{length-bytes_low_first}
use Rattle.arrayvec.specs.ArrayVec.{ArrayVec}
use Rattle.tlp_core.specs.Ops.{Op}
use Rattle.tlp_core.specs.declared.operation.OpOf.TheVariants as ops
use Rattle.tlp_core.specs.declared.fault.TlpFault.{TlpFault}
use Rattle.tlp_core.specs.declared.fault.TlpFault.TheVariants as faults
use Rattle.tlp_core.specs.Enables.{dw_enables, enables}
use Rattle.tlp_core.specs.Operation.{size_of, address_of, count_of, op_fault, wrong_length, wrong_enables, wrong_operand, wrong_address}
use Rattle.seq_memory.specs.declared.Refusal.{Refusal}
use Rattle.seq_memory.specs.declared.Refusal.TheVariants as refusals
use Rattle.seq_memory.specs.Limits.{IsBlock}
use Rattle.seq_memory.specs.Step.{is_in_block, is_inside, refusal, merged, place_after, read_back, bytes_at, patched, after_by, answer_by, after, answer, data_of, is_enabled, written_over, read_over}
use Rattle.seq_memory.proofs.Merges.{length_merged, merged_all, merged_at}

-- ---- an operation that is served

both_true : (x y : Bool) → (x && y) ≡ true → (x ≡ true) × (y ≡ true)
both_true true y h = (refl, h)
both_true false y h = absurd (cc)

none_refused : (x y z : Bool) → (if x || not y then Some refusals.Aborted else (if z then None else Some refusals.Unsupported)) ≡ None → (x ≡ false) × (y ≡ true) × (z ≡ true)
none_refused true y z h = absurd (cc)
none_refused false false z h = absurd (cc)
none_refused false true true h = (refl, refl, refl)
none_refused false true false h = absurd (cc)

none_served : (x y z : Bool) → x ≡ false → y ≡ true → z ≡ true → (if x || not y then Some refusals.Aborted else (if z then None else Some refusals.Unsupported)) ≡ None
none_served x y z e1 e2 e3 = rw (e1, e2, e3) refl

no_fault : (o : Option TlpFault) → is_some o ≡ false → o ≡ None
no_fault None h = refl
no_fault (Some f) h = absurd (cc)

pub record Served (base block size : ℕ) (op : Op) : Type 0 where
  pub sound : op_fault op ≡ None
  pub within : is_in_block block (address_of op) (count_of op) ≡ true
  pub inside : is_inside base size (address_of op) (count_of op) ≡ true
  pub low : base ≤ address_of op
  pub high : address_of op + count_of op ≤ base + size

below : (a b : ℕ) → nat_le a b ≡ true → a ≤ b
below a b h = grind (arith, nat_tests)

pub served : (base block size : ℕ) (op : Op) → refusal base size block op ≡ None → Served base block size op
served base block size op h =
    let parts = none_refused (is_some (op_fault op)) (is_in_block block (address_of op) (count_of op)) (is_inside base size (address_of op) (count_of op)) h in
    let inside = both_true (nat_le base (address_of op)) (nat_le (address_of op + count_of op) (base + size)) parts.2 in
    record { sound = no_fault (op_fault op) parts.0; within = parts.1; inside = parts.2; low = below _ _ inside.0; high = below _ _ inside.1 }

four_tests : (x y z w : Bool) → (if x then Some faults.LengthMismatch else (if y then Some faults.ByteEnables else (if z then Some faults.OperandSize else (if w then Some faults.Unaligned else None)))) ≡ None → (x ≡ false) × (y ≡ false) × (z ≡ false) × (w ≡ false)
four_tests true y z w h = absurd (cc)
four_tests false true z w h = absurd (cc)
four_tests false false true w h = absurd (cc)
four_tests false false false true h = absurd (cc)
four_tests false false false false h = (refl, refl, refl, refl)

sound_parts : (op : Op) → op_fault op ≡ None → (wrong_length op ≡ false) × (wrong_enables op ≡ false) × (wrong_operand op ≡ false) × (wrong_address op ≡ false)
sound_parts op h = four_tests (wrong_length op) (wrong_enables op) (wrong_operand op) (wrong_address op) h

sound_whole : (op : Op) → wrong_length op ≡ false → wrong_enables op ≡ false → wrong_operand op ≡ false → wrong_address op ≡ false → op_fault op ≡ None
sound_whole op e1 e2 e3 e4 = rw (e1, e2, e3, e4) refl

whole_dw : (n : ℕ) → ((n == 0) || not (n % 4 == 0)) ≡ false → (4 ≤ n) × (4 * (n / 4) ≡ n)
whole_dw n h =
    let some : (1 ≤ n) × (n % 4 ≡ 0) = grind (arith, nat_tests) in
    (omega (arith, some.0, some.1), omega (arith, some.1))

-- ---- the place keeps its size

pub length_enables : (dw f l : ℕ) → 1 ≤ dw → length (enables dw f l) ≡ 4 * dw
unfolding enables
length_enables zero f l h = absurd (omega arith)
length_enables (suc zero) f l h = refl
length_enables (suc (suc n)) f l h =
    let several : eqb (suc (suc n)) 1 ≡ false = grind (arith, nat_tests) in
    rw several (omega (arith, length-append (dw_enables f ++ replicate (4 * (suc (suc n) - 2)) true) (dw_enables l), length-append (dw_enables f) (replicate (4 * (suc (suc n) - 2)) true), length-replicate (4 * (suc (suc n) - 2)) true))

pub length_place : (op : Op) (old : List ℕ) → op_fault op ≡ None → length old ≡ count_of op → length (place_after op old) ≡ count_of op
length_place (ops.Read a dw f l) old s h = h
length_place (ops.Write a f l bytes) old s h =
    let n = length bytes.items in
    let w = whole_dw n (sound_parts (ops.Write a f l bytes) s).0 in
    let long : length (enables (n / 4) f l) ≡ n = length_enables (n / 4) f l (omega (arith, w.0)) ∙ w.1 in
    length_merged (enables (n / 4) f l) bytes.items old (sym long) (h ∙ sym long) ∙ long
length_place (ops.FetchAdd a w x) old s h = length-bytes_low_first 0 (size_of w) _
length_place (ops.Swap a w x) old s h = length-bytes_low_first 0 (size_of w) _
length_place (ops.Cas a w x y) old s h = length-bytes_low_first 0 (size_of w) _

length_at : (m : List ℕ) (i n : ℕ) → i + n ≤ length m → length (bytes_at m i n) ≡ n
length_at m i n h = length-take-le n (drop i m) (omega (arith, length-drop i m))

length_patched : (m : List ℕ) (i n : ℕ) (new : List ℕ) → i + n ≤ length m → length new ≡ n → length (patched m i n new) ≡ length m
length_patched m i n new h e = omega (arith, length-append (take i m ++ new) (drop (i + n) m), length-append (take i m) new, length-take-le i m (omega (arith, h)), length-drop (i + n) m)

patched_below : (m : List ℕ) (i n : ℕ) (new : List ℕ) (k : ℕ) → i + n ≤ length m → k < i → get_or (patched m i n new) k 0 ≡ get_or m k 0
patched_below m i n new k h l =
    ap (λ xs. get_or xs k 0) (append_assoc (take i m) new (drop (i + n) m))
    ∙ get_or_append_left (take i m) (new ++ drop (i + n) m) 0 k (omega (arith, length-take-le i m (omega (arith, h))))
    ∙ get_or-take i m k 0 l

patched_above : (m : List ℕ) (i n : ℕ) (new : List ℕ) (k : ℕ) → i + n ≤ length m → length new ≡ n → i + n ≤ k → get_or (patched m i n new) k 0 ≡ get_or m k 0
patched_above m i n new k h e l =
    let front : length (take i m ++ new) ≡ i + n = omega (arith, length-append (take i m) new, length-take-le i m (omega (arith, h))) in
    get_or-append_right (take i m ++ new) (drop (i + n) m) (i + n) k 0 front l
    ∙ get_or-drop (i + n) m (k - (i + n)) 0 ∙ ap (λ j. get_or m j 0) (omega (arith, l))

patched_at : (m : List ℕ) (i n : ℕ) (new : List ℕ) → i + n ≤ length m → length new ≡ n → bytes_at (patched m i n new) i n ≡ new
patched_at m i n new h e =
    ap (λ xs. take n (drop i xs)) (append_assoc (take i m) new (drop (i + n) m))
    ∙ ap (take n) (drop_at (take i m) (new ++ drop (i + n) m) i (length-take-le i m (omega (arith, h))))
    ∙ take_at new (drop (i + n) m) n e

patched_same : (m : List ℕ) (i n : ℕ) → patched m i n (bytes_at m i n) ≡ m
patched_same m i n =
    append_assoc (take i m) (take n (drop i m)) (drop (i + n) m)
    ∙ ap (λ xs. take i m ++ (take n (drop i m) ++ xs)) (sym (drop-drop n i m))
    ∙ ap (λ xs. take i m ++ xs) (take-append-drop n (drop i m))
    ∙ take-append-drop i m

-- ---- one step

-- by cases on the refusal, given what holds of a served operation
by_refusal : (P : List ℕ → Type 0) (o : Option Refusal) (old new : List ℕ) → P old → (o ≡ None → P new) → P (after_by o old new)
by_refusal P None old new p q = q refl
by_refusal P (Some r) old new p q = p

-- where a served operation's place begins and ends in the bytes
pub record IsPlaced (base size : ℕ) (op : Op) : Type 0 where
  pub fits : address_of op - base + count_of op ≤ size
  pub low : base ≤ address_of op

pub placed : (base block size : ℕ) (op : Op) → Served base block size op → IsPlaced base size op
placed base block size op s = let l = s.low in let h = s.high in record { fits = omega (arith, l, h); low = l }

new_length : (base block : ℕ) (m : List ℕ) (op : Op) → Served base block (length m) op → length (place_after op (bytes_at m (address_of op - base) (count_of op))) ≡ count_of op
new_length base block m op s =
    length_place op (bytes_at m (address_of op - base) (count_of op)) s.sound (length_at m (address_of op - base) (count_of op) (placed base block (length m) op s).fits)

pub size_kept : (base block : ℕ) (m : List ℕ) (op : Op) → length (after base block m op) ≡ length m
size_kept base block m op =
    by_refusal (λ xs. length xs ≡ length m) (refusal base (length m) block op) m _ refl
    (λ e. let s = served base block (length m) op e in length_patched m (address_of op - base) (count_of op) _ (placed base block (length m) op s).fits (new_length base block m op s))

pub others_kept : (base block k : ℕ) (m : List ℕ) (op : Op) → (base + k < address_of op) ⊎ (address_of op + count_of op ≤ base + k) → slice_index (after base block m op) k ≡ slice_index m k
others_kept base block k m op (inl h) =
    by_refusal (λ xs. get_or xs k 0 ≡ get_or m k 0) (refusal base (length m) block op) m _ refl
    (λ e. let s = served base block (length m) op e in patched_below m (address_of op - base) (count_of op) _ k (placed base block (length m) op s).fits (omega (arith, h)))
others_kept base block k m op (inr h) =
    by_refusal (λ xs. get_or xs k 0 ≡ get_or m k 0) (refusal base (length m) block op) m _ refl
    (λ e.
    let s = served base block (length m) op e in
    let low = s.low in
    patched_above m (address_of op - base) (count_of op) _ k (placed base block (length m) op s).fits (new_length base block m op s) (omega (arith, h, low)))

pub refused_kept : (base block : ℕ) (m : List ℕ) (op : Op) (r : Refusal) → refusal base (length m) block op ≡ Some r → after base block m op ≡ m
refused_kept base block m op r e = ap (λ o. after_by o m (patched m (address_of op - base) (count_of op) (place_after op (bytes_at m (address_of op - base) (count_of op))))) e

pub refused_answer : (base block : ℕ) (m : List ℕ) (op : Op) (r : Refusal) → refusal base (length m) block op ≡ Some r → answer base block m op ≡ answer_by (Some r) (read_back op (bytes_at m (address_of op - base) (count_of op)))
refused_answer base block m op r e = ap (λ o. answer_by o (read_back op (bytes_at m (address_of op - base) (count_of op)))) e

pub served_answer : (base block : ℕ) (m : List ℕ) (op : Op) → refusal base (length m) block op ≡ None → answer base block m op ≡ read_back op (bytes_at m (address_of op - base) (count_of op))
served_answer base block m op e = ap (λ o. answer_by o (read_back op (bytes_at m (address_of op - base) (count_of op)))) e

served_after : (base block : ℕ) (m : List ℕ) (op : Op) → refusal base (length m) block op ≡ None → after base block m op ≡ patched m (address_of op - base) (count_of op) (place_after op (bytes_at m (address_of op - base) (count_of op)))
served_after base block m op e = ap (λ o. after_by o m (patched m (address_of op - base) (count_of op) (place_after op (bytes_at m (address_of op - base) (count_of op))))) e

pub place_is : (base block : ℕ) (m : List ℕ) (op : Op) → refusal base (length m) block op ≡ None → bytes_at (after base block m op) (address_of op - base) (count_of op) ≡ place_after op (bytes_at m (address_of op - base) (count_of op))
place_is base block m op e =
    let s = served base block (length m) op e in
    ap (λ xs. bytes_at xs (address_of op - base) (count_of op)) (served_after base block m op e)
    ∙ patched_at m (address_of op - base) (count_of op) _ (placed base block (length m) op s).fits (new_length base block m op s)

pub reads_keep : (base block a dw f l : ℕ) (m : List ℕ) → after base block m (ops.Read a dw f l) ≡ m
reads_keep base block a dw f l m =
    by_refusal (λ xs. xs ≡ m) (refusal base (length m) block (ops.Read a dw f l)) m _ refl (λ e. patched_same m (a - base) (4 * dw))

-- ---- what was written is read

in_64 : (a n : ℕ) → 1 ≤ n → is_in_block 64 a n ≡ true → n ≤ 64
in_64 a n h e = grind (arith, nat_tests)

in_128 : (a n : ℕ) → 1 ≤ n → is_in_block 128 a n ≡ true → n ≤ 128
in_128 a n h e = grind (arith, nat_tests)

small : (block a n : ℕ) → IsBlock block → 1 ≤ n → is_in_block block a n ≡ true → n ≤ 128
small block a n (inl e) h i = let s = in_64 a n h (subst (λ block. is_in_block block a n ≡ true) e i) in omega (arith, s)
small block a n (inr e) h i = in_128 a n h (subst (λ block. is_in_block block a n ≡ true) e i)

some_dw : (n : ℕ) → 4 ≤ n → n ≤ 128 → ((n / 4 == 0) || nat_lt 1024 (n / 4)) ≡ false
some_dw n h s = grind (arith, nat_tests)

-- a read of the DW of a write that is served is served
read_served : (base block size a f l : ℕ) (bytes : ArrayVec ℕ) → IsBlock block → refusal base size block (ops.Write a f l bytes) ≡ None → refusal base size block (ops.Read a (length bytes.items / 4) f l) ≡ None
read_served base block size a f l bytes b e =
    let n = length bytes.items in
    let s = served base block size (ops.Write a f l bytes) e in
    let parts = sound_parts (ops.Write a f l bytes) s.sound in
    let w = whole_dw n parts.0 in
    let few = small block a n b (omega (arith, w.0)) s.within in
    let right : wrong_length (ops.Read a (n / 4) f l) ≡ false = some_dw n w.0 few in
    let none : op_fault (ops.Read a (n / 4) f l) ≡ None = sound_whole (ops.Read a (n / 4) f l) right parts.1 refl parts.3 in
    subst (λ k. (if is_some (op_fault (ops.Read a (n / 4) f l)) || not (is_in_block block a k) then Some refusals.Aborted else (if is_inside base size a k then None else Some refusals.Unsupported)) ≡ None)
    (sym w.1) (none_served (is_some (op_fault (ops.Read a (n / 4) f l))) (is_in_block block a n) (is_inside base size a n) (ap is_some none) s.within s.inside)

-- what a read right after a write of the same DW gives, whatever bytes each of them enables
pub write_read_any : (base block a f l g h : ℕ) (m : List ℕ) (bytes : ArrayVec ℕ)
    → refusal base (length m) block (ops.Write a f l bytes) ≡ None
    → refusal base (length m) block (ops.Read a (length bytes.items / 4) g h) ≡ None
    → answer base block (after base block m (ops.Write a f l bytes)) (ops.Read a (length bytes.items / 4) g h) ≡ data_of (read_over g h bytes.items (written_over f l bytes.items (bytes_at m (a - base) (length bytes.items))))
write_read_any base block a f l g h m bytes e e' =
    let n = length bytes.items in
    let m' = after base block m (ops.Write a f l bytes) in
    let s = served base block (length m) (ops.Write a f l bytes) e in
    let w = whole_dw n (sound_parts (ops.Write a f l bytes) s.sound).0 in
    let read : refusal base (length m') block (ops.Read a (n / 4) g h) ≡ None =
    ap (λ k. refusal base k block (ops.Read a (n / 4) g h)) (size_kept base block m (ops.Write a f l bytes)) ∙ e' in
    served_answer base block m' (ops.Read a (n / 4) g h) read
    ∙ ap (λ k. data_of (merged (enables (n / 4) g h) (bytes_at m' (a - base) k) (replicate k 0))) w.1
    ∙ ap (λ xs. data_of (merged (enables (n / 4) g h) xs (replicate n 0))) (place_is base block m (ops.Write a f l bytes) e)

-- of the bytes that both enable
pub enabled_read : (base block a f l g h k : ℕ) (m : List ℕ) (bytes : ArrayVec ℕ)
    → refusal base (length m) block (ops.Write a f l bytes) ≡ None
    → is_enabled (length bytes.items / 4) f l k ≡ true → is_enabled (length bytes.items / 4) g h k ≡ true
    → slice_get (read_over g h bytes.items (written_over f l bytes.items (bytes_at m (a - base) (length bytes.items)))) k ≡ slice_get bytes.items k
enabled_read base block a f l g h k m bytes e w r =
    let n = length bytes.items in
    let old = bytes_at m (a - base) n in
    let s = served base block (length m) (ops.Write a f l bytes) e in
    let whole = whole_dw n (sound_parts (ops.Write a f l bytes) s.sound).0 in
    let some : 1 ≤ n / 4 = omega (arith, whole.0) in
    let of_write : length (enables (n / 4) f l) ≡ n = length_enables (n / 4) f l some ∙ whole.1 in
    let of_read : length (enables (n / 4) g h) ≡ n = length_enables (n / 4) g h some ∙ whole.1 in
    let there : length old ≡ n = length_at m (a - base) n (placed base block (length m) (ops.Write a f l bytes) s).fits in
    let zeros : length {A = ℕ} (replicate n 0) ≡ n = length-replicate {A = ℕ} n 0 in
    let new : length (merged (enables (n / 4) f l) bytes.items old) ≡ n = length_merged (enables (n / 4) f l) bytes.items old (sym of_write) (there ∙ sym of_write) ∙ of_write in
    merged_at (enables (n / 4) g h) (merged (enables (n / 4) f l) bytes.items old) (replicate n 0) k (new ∙ sym of_read) (zeros ∙ sym of_read) r
    ∙ merged_at (enables (n / 4) f l) bytes.items old k (sym of_write) (there ∙ sym of_write) w

pub write_read : (base block a f l : ℕ) (m : List ℕ) (bytes : ArrayVec ℕ) → IsBlock block
    → enables (length bytes.items / 4) f l ≡ replicate (length bytes.items) true
    → refusal base (length m) block (ops.Write a f l bytes) ≡ None
    → answer base block (after base block m (ops.Write a f l bytes)) (ops.Read a (length bytes.items / 4) f l) ≡ data_of bytes.items
write_read base block a f l m bytes b all e =
    let n = length bytes.items in
    let m' = after base block m (ops.Write a f l bytes) in
    let s = served base block (length m) (ops.Write a f l bytes) e in
    let w = whole_dw n (sound_parts (ops.Write a f l bytes) s.sound).0 in
    let read : refusal base (length m') block (ops.Read a (n / 4) f l) ≡ None =
    ap (λ k. refusal base k block (ops.Read a (n / 4) f l)) (size_kept base block m (ops.Write a f l bytes)) ∙ read_served base block (length m) a f l bytes b e in
    let there : bytes_at m' (a - base) n ≡ bytes.items = place_is base block m (ops.Write a f l bytes) e
    ∙ ap (λ es. merged es bytes.items (bytes_at m (a - base) n)) all
    ∙ merged_all n bytes.items (bytes_at m (a - base) n) refl (length_at m (a - base) n (placed base block (length m) (ops.Write a f l bytes) s).fits) in
    served_answer base block m' (ops.Read a (n / 4) f l) read
    ∙ ap (λ k. data_of (merged (enables (n / 4) f l) (bytes_at m' (a - base) k) (replicate k 0))) w.1
    ∙ ap (λ es. data_of (merged es (bytes_at m' (a - base) n) (replicate n 0))) all
    ∙ ap (λ xs. data_of (merged (replicate n true) xs (replicate n 0))) there
    ∙ ap data_of (merged_all n bytes.items (replicate n 0) refl (length-replicate n 0))
