-- AtomicOps behind another that has their bytes.
use Rattle.std.proofs.Common.{◌≡◌, ◌∙◌, ℕ, ◌+◌, ◌-◌, ◌<◌, ◌≤◌, Bool, true, false, List, length, drop, get_or, Option, Some, None, refl, sym, ap, arith, length-drop}
use Rattle.std.specs.Prelude.{slice_index, ◌&&◌, ◌||◌, not, nat_le, if◌then◌else◌, is_some}
use Rattle.std.proofs.lemmas.List.{get_or-take, get_or-drop}
use Rattle.std.proofs.lemmas.Bool.Decides.{nat_tests}
use Rattle.std.proofs.Math.Seq.{length-take-le}
use Rattle.std.proofs.lemmas.List.{ext_get_or}
use Rattle.std.proofs.lemmas.Option.{same_Some}
use Rattle.arrayvec.specs.ArrayVec.{ArrayVec}
use Rattle.tlp_core.specs.Ops.{Op}
use Rattle.tlp_core.specs.declared.operation.OpOf.TheVariants as ops
use Rattle.tlp_core.specs.Operation.{address_of, count_of, op_fault}
use Rattle.seq_memory.specs.Entries.{Reply}
use Rattle.seq_memory.specs.declared.Refusal.{Refusal}
use Rattle.seq_memory.specs.declared.Refusal.TheVariants as refusals
use Rattle.seq_memory.specs.declared.reply.ReplyOf.TheVariants as replies
use Rattle.seq_memory.specs.Step.{is_in_block, is_inside, bytes_at, read_back, answer, answer_by, after, refusal, data_of}
use Rattle.search_effects.specs.Effects.{Agrees, AreSameAt, is_put, is_atomic}

-- ---- places

both_true : (x y : Bool) → (x && y) ≡ true → (x ≡ true) × (y ≡ true)
both_true true y h = (refl, h)
both_true false y h = absurd (cc)

none_refused : (x y z : Bool) → (if x || not y then Some refusals.Aborted else (if z then None else Some refusals.Unsupported)) ≡ None → z ≡ true
none_refused true y z h = absurd (cc)
none_refused false false z h = absurd (cc)
none_refused false true true h = refl
none_refused false true false h = absurd (cc)

below : (a b : ℕ) → nat_le a b ≡ true → a ≤ b
below a b h = grind (arith, nat_tests)

-- a served operation lies in the memory
inside : (base block size : ℕ) (op : Op) → refusal base size block op ≡ None → (base ≤ address_of op) × (address_of op + count_of op ≤ base + size)
inside base block size op h =
    let all = none_refused (is_some (op_fault op)) (is_in_block block (address_of op) (count_of op)) (is_inside base size (address_of op) (count_of op)) h in
    let both = both_true (nat_le base (address_of op)) (nat_le (address_of op + count_of op) (base + size)) all in
    (below _ _ both.0, below _ _ both.1)

byte_there : (m : List ℕ) (i c k : ℕ) → k < c → get_or (bytes_at m i c) k 0 ≡ get_or m (i + k) 0
byte_there m i c k l = get_or-take c (drop i m) k 0 l ∙ get_or-drop i m k 0

length_place : (m : List ℕ) (i c : ℕ) → i + c ≤ length m → length (bytes_at m i c) ≡ c
length_place m i c l = length-take-le c (drop i m) (omega (arith, length-drop i m))

-- ---- AtomicOps

-- they answer the bytes of their place
whole_if : (op : Op) (xs : List ℕ) → is_atomic op ≡ true → read_back op xs ≡ data_of xs
whole_if (ops.Read a dw f l) xs e = cc
whole_if (ops.Write a f l bytes) xs e = cc
whole_if (ops.FetchAdd a w x) xs e = refl
whole_if (ops.Swap a w x) xs e = refl
whole_if (ops.Cas a w x y) xs e = refl

-- they write each byte of it
puts_each : (op : Op) (at : ℕ) → is_atomic op ≡ true → is_put op at ≡ true
puts_each (ops.Read a dw f l) at e = cc
puts_each (ops.Write a f l bytes) at e = cc
puts_each (ops.FetchAdd a w x) at e = refl
puts_each (ops.Swap a w x) at e = refl
puts_each (ops.Cas a w x y) at e = refl

module _ (refused : (base block : ℕ) (m : List ℕ) (op : Op) (r : Refusal) → refusal base (length m) block op ≡ Some r → after base block m op ≡ m) (base block : ℕ) (m n : List ℕ) (one other : Op) (told : Option Reply) (left : List ℕ) (from : ℕ) (there : ArrayVec ℕ)
    (leaves : (at : ℕ) (k : List ℕ) → at < length left → is_put one at ≡ true → refusal base (length k) block one ≡ None → Agrees base block k one told
    → slice_index (after base block k one) (address_of one - base + at) ≡ slice_index left at)
    (atomic_one : is_atomic one ≡ true) (atomic_other : is_atomic other ≡ true) (place : address_of one + from ≡ address_of other)
    (within : address_of other + count_of other ≤ address_of one + count_of one) (long : from + count_of other ≤ length left) (is : there.items ≡ bytes_at left from (count_of other))
    (served : refusal base (length m) block one ≡ None) (agrees : Agrees base block m one told) (same : AreSameAt base one (after base block m one) n) where
  abbrev at_place : List ℕ
  at_place = bytes_at n (address_of other - base) (count_of other)

  low : base ≤ address_of one
  low = (inside base block (length m) one served).0

  each : (i : ℕ) → i < count_of other → get_or at_place i 0 ≡ get_or there.items i 0
  each i l =
      let c = count_of other in
      let k = address_of other - base + i in
      let kept : slice_index n k ≡ slice_index (after base block m one) k = same k (omega (arith, low, place, l)) (omega (arith, low, place, within, l)) in
      let index : k ≡ address_of one - base + (from + i) = omega (arith, low, place) in
      byte_there n (address_of other - base) c i l ∙ kept ∙ ap (slice_index (after base block m one)) index
      ∙ leaves (from + i) m (omega (arith, long, l)) (puts_each one (from + i) atomic_one) served agrees
      ∙ sym (byte_there left from c i l) ∙ ap (λ xs. get_or xs i 0) (sym is)

  stands : refusal base (length n) block other ≡ None → at_place ≡ there.items
  stands here =
      let (first, last) = inside base block (length n) other here in
      let count : length at_place ≡ count_of other = length_place n (address_of other - base) (count_of other) (omega (arith, first, last)) in
      let needed : length there.items ≡ count_of other = ap length is ∙ length_place left from (count_of other) long in
      ext_get_or 0 at_place there.items (count ∙ sym needed) (λ i l. each i (omega (arith, l, count)))

  answered : refusal base (length n) block other ≡ None → answer base block n other ≡ replies.Data there
  answered here = ap (λ o. answer_by o (read_back other at_place)) here ∙ whole_if other at_place atomic_other ∙ ap data_of (stands here)

  pub resting : ((d : ℕ) (k : List ℕ) → Agrees d block k other (Some (replies.Data there)) → after d block k other ≡ k) → after base block n other ≡ n
  resting quiet = at (refusal base (length n) block other) refl
    where
      at : (o : Option Refusal) → refusal base (length n) block other ≡ o → after base block n other ≡ n
      at None here = quiet base n (λ r e. answered here ∙ same_Some (replies.Data there) r e)
      at (Some r) here = refused base block n other r here
