-- What is known of the bytes that a request leaves.
use Rattle.std.proofs.Common.{◌≡◌, ◌∙◌, ℕ, ◌+◌, ◌-◌, ◌/◌, ◌<◌, true, List, length, take, get_or, None, refl, sym, ap, subst, arith}
use Rattle.std.specs.Prelude.{slice_index}
use Rattle.std.proofs.Math.Seq.{take-length}
use Rattle.arrayvec.specs.ArrayVec.{ArrayVec}
use Rattle.tlp_core.specs.Ops.{Op}
use Rattle.tlp_core.specs.declared.operation.OpOf.TheVariants as ops
use Rattle.tlp_core.specs.declared.operation.Width.{Width}
use Rattle.tlp_core.specs.Enables.{enables}
use Rattle.tlp_core.specs.Operation.{address_of, count_of, size_of}
use Rattle.seq_memory.specs.declared.reply.ReplyOf.TheVariants as replies
use Rattle.seq_memory.specs.Step.{bytes_at, patched, place_after, read_back, answer, after, refusal, data_of}
use Rattle.search_effects.specs.Effects.{is_put, is_atomic}
use Rattle.search_effects.proofs.Places.{inside, data_served, served_there, served_after, byte_there, length_place, merged_enabled, patched_same}
use Rattle.search_effects.proofs.Apart.{Sizes, Places}
use Rattle.search_effects.proofs.Needs.{same_items}

whole : (xs : List ℕ) (c : ℕ) → length xs ≡ c → bytes_at xs 0 c ≡ xs
whole xs c e = ap (λ n. take n xs) (sym e) ∙ take-length xs

-- AtomicOps answer the bytes of their place
abbrev pub IsWhole : Op → Type 0
IsWhole op = (xs : List ℕ) → read_back op xs ≡ data_of xs

-- what an AtomicOp met, by its answer
pub met : (base block : ℕ) (m : List ℕ) (op : Op) (d : ArrayVec ℕ) → IsWhole op → answer base block m op ≡ replies.Data d
    → (refusal base (length m) block op ≡ None) × (bytes_at m (address_of op - base) (count_of op) ≡ d.items) × (length d.items ≡ count_of op)
met base block m op d whole_op e =
    let place = bytes_at m (address_of op - base) (count_of op) in
    let (served, there) = data_served (refusal base (length m) block op) (read_back op place) d e in
    let same : place ≡ d.items = same_items place d (sym (whole_op place) ∙ there) in
    let (low, high) = inside base block (length m) op served in
    (served, same, ap length (sym same) ∙ length_place m (address_of op - base) (count_of op) (omega (arith, low, high)))

pub whole_if : (op : Op) → is_atomic op ≡ true → IsWhole op
whole_if (ops.Read a dw f l) e = cc
whole_if (ops.Write a f l bytes) e = cc
whole_if (ops.FetchAdd a w x) e = λ xs. refl
whole_if (ops.Swap a w x) e = λ xs. refl
whole_if (ops.Cas a w x y) e = λ xs. refl

module _ (sizes : Sizes) (places : Places) where
  -- an operation does to its bytes alone what it does to them in the memory
  apart_after : (base block size : ℕ) (op : Op) (xs : List ℕ) → refusal base size block op ≡ None → length xs ≡ count_of op → after (address_of op) block xs op ≡ place_after op xs
  apart_after base block size op xs served e =
      let a = address_of op in
      let c = count_of op in
      let zero_offset : a - a ≡ 0 = omega arith in
      let here : refusal a (length xs) block op ≡ None = ap (λ n. refusal a n block op) e ∙ served_there base block size op served in
      let new = after a block xs op in
      sym (whole new c (sizes a block xs op ∙ e)) ∙ ap (λ i. bytes_at new i c) (sym zero_offset) ∙ places a block xs op here
      ∙ ap (λ i. place_after op (bytes_at xs i c)) zero_offset ∙ ap (place_after op) (whole xs c e)

  -- what an answered AtomicOp leaves
  pub atomic_left : (block : ℕ) (op : Op) (d : ArrayVec ℕ) (xs : List ℕ) → is_atomic op ≡ true → xs ≡ after (address_of op) block d.items op
      → (base at : ℕ) (m : List ℕ) → at < length xs → refusal base (length m) block op ≡ None → answer base block m op ≡ replies.Data d
      → slice_index (after base block m op) (address_of op - base + at) ≡ slice_index xs at
  atomic_left block op d xs atomic made base at m l served answered =
      let i = address_of op - base in
      let (_, same, count) = met base block m op d (whole_if op atomic) answered in
      let short : at < count_of op = omega (arith, l, ap length made, sizes (address_of op) block d.items op, count) in
      sym (byte_there (after base block m op) i (count_of op) at short)
      ∙ ap (λ ys. get_or ys at 0) (places base block m op served ∙ ap (place_after op) same ∙ sym (apart_after base block (length m) op d.items served count) ∙ sym made)

  -- what a write leaves
  pub write_left : (block a f l : ℕ) (bytes : ArrayVec ℕ) (xs : List ℕ) → xs ≡ bytes.items
      → (base at : ℕ) (m : List ℕ) → at < length xs → is_put (ops.Write a f l bytes) at ≡ true → refusal base (length m) block (ops.Write a f l bytes) ≡ None
      → slice_index (after base block m (ops.Write a f l bytes)) (a - base + at) ≡ slice_index xs at
  write_left block a f l bytes xs made base at m h put served =
      let op = ops.Write a f l bytes in
      let i = a - base in
      let c = length bytes.items in
      let (low, high) = inside base block (length m) op served in
      let old = bytes_at m i c in
      let long : length old ≡ c = length_place m i c (omega (arith, low, high)) in
      let short : at < c = subst (λ ys. at < length ys) made h in
      sym (byte_there (after base block m op) i c at short)
      ∙ ap (λ ys. get_or ys at 0) (places base block m op served)
      ∙ merged_enabled (enables (c / 4) f l) bytes.items old at put short (omega (arith, short, long))
      ∙ ap (λ ys. get_or ys at 0) (sym made)

  -- what a Swap leaves
  pub swap_left : (block a x : ℕ) (w : Width) (zeros xs : List ℕ) → xs ≡ after a block zeros (ops.Swap a w x) → length zeros ≡ size_of w
      → (base at : ℕ) (m : List ℕ) → at < length xs → refusal base (length m) block (ops.Swap a w x) ≡ None
      → slice_index (after base block m (ops.Swap a w x)) (a - base + at) ≡ slice_index xs at
  swap_left block a x w zeros xs made size base at m l served =
      let op = ops.Swap a w x in
      let i = a - base in
      let c = size_of w in
      let short : at < c = omega (arith, l, ap length made, sizes a block zeros op, size) in
      sym (byte_there (after base block m op) i c at short)
      ∙ ap (λ ys. get_or ys at 0) (places base block m op served ∙ sym (apart_after base block (length m) op zeros served size) ∙ sym made)

  pub swap_by : (op : Op) (block : ℕ) (w : Width) (zeros xs : List ℕ) → ((a : ℕ) × (x : ℕ) × (op ≡ ops.Swap a w x)) → xs ≡ after (address_of op) block zeros op → length zeros ≡ size_of w
      → (base at : ℕ) (m : List ℕ) → at < length xs → refusal base (length m) block op ≡ None
      → slice_index (after base block m op) (address_of op - base + at) ≡ slice_index xs at
  swap_by op block w zeros xs (a, x, is) made size base at m l =
      subst (λ o. refusal base (length m) block o ≡ None → slice_index (after base block m o) (address_of o - base + at) ≡ slice_index xs at)
      (sym is) (swap_left block a x w zeros xs (subst (λ o. xs ≡ after (address_of o) block zeros o) is made) size base at m l)

  -- an AtomicOp that leaves what it met changes nothing
  pub atomic_quiet : (block : ℕ) (op : Op) (d : ArrayVec ℕ) (xs : List ℕ) → is_atomic op ≡ true → xs ≡ after (address_of op) block d.items op → xs ≡ d.items
      → (base : ℕ) (m : List ℕ) → answer base block m op ≡ replies.Data d → after base block m op ≡ m
  atomic_quiet block op d xs atomic made still base m answered =
      let i = address_of op - base in
      let (served, same, count) = met base block m op d (whole_if op atomic) answered in
      let kept : place_after op (bytes_at m i (count_of op)) ≡ bytes_at m i (count_of op) =
      ap (place_after op) same ∙ sym (apart_after base block (length m) op d.items served count) ∙ sym made ∙ still ∙ sym same in
      served_after base block m op served ∙ ap (patched m i (count_of op)) kept ∙ patched_same m i (count_of op)

  pub write_by : (op : Op) (a f l : ℕ) (bytes : ArrayVec ℕ) (xs : List ℕ) → op ≡ ops.Write a f l bytes → xs ≡ bytes.items
      → (base block at : ℕ) (m : List ℕ) → at < length xs → is_put op at ≡ true → refusal base (length m) block op ≡ None
      → slice_index (after base block m op) (address_of op - base + at) ≡ slice_index xs at
  write_by op a f l bytes xs is made base block at m h =
      subst (λ o. is_put o at ≡ true → refusal base (length m) block o ≡ None → slice_index (after base block m o) (address_of o - base + at) ≡ slice_index xs at)
      (sym is) (write_left block a f l bytes xs made base at m h)
