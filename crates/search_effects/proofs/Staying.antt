-- Bytes that an operation doesn't write.
use Rattle.std.proofs.Common.{◌≡◌, ◌∙◌, inl, inr, ℕ, zero, suc, ◌+◌, ◌-◌, ◌/◌, ◌<◌, Bool, true, false, List, [], ◌∷◌, length, get_or, None, refl, sym, ap, arith}
use Rattle.std.specs.Prelude.{slice_index}
use Rattle.std.proofs.lemmas.Bool.{cases_lt}
use Rattle.arrayvec.specs.ArrayVec.{ArrayVec}
use Rattle.tlp_core.specs.Ops.{Op}
use Rattle.tlp_core.specs.declared.operation.OpOf.TheVariants as ops
use Rattle.tlp_core.specs.Enables.{enables}
use Rattle.tlp_core.specs.Operation.{address_of}
use Rattle.seq_memory.specs.Step.{bytes_at, merged, after, refusal}
use Rattle.search_effects.specs.Effects.{is_put}
use Rattle.search_effects.proofs.Places.{inside, byte_there, length_place}
use Rattle.search_effects.proofs.Apart.{Others, Sizes, Places, Refused, served_or_not}

pub merged_disabled : (es : List Bool) (xs ys : List ℕ) (k : ℕ) → get_or es k false ≡ false → k < length (merged es xs ys) → get_or (merged es xs ys) k 0 ≡ get_or ys k 0
merged_disabled [] xs ys k e l = absurd (omega (arith, l))
merged_disabled (b ∷ es) [] ys k e l = absurd (omega (arith, l))
merged_disabled (b ∷ es) (x ∷ xs) [] k e l = absurd (omega (arith, l))
merged_disabled (b ∷ es) (x ∷ xs) (y ∷ ys) zero e l = rw e refl
merged_disabled (b ∷ es) (x ∷ xs) (y ∷ ys) (suc k) e l = merged_disabled es xs ys k e (omega (arith, l))

abbrev pub Reads : Type 0
Reads = (base block a dw f l : ℕ) (m : List ℕ) → after base block m (ops.Read a dw f l) ≡ m

module _ (others : Others) (sizes : Sizes) (places : Places) (refused : Refused) (reads : Reads) where
  unwritten : (base block at a f l : ℕ) (m : List ℕ) (bytes : ArrayVec ℕ) → is_put (ops.Write a f l bytes) at ≡ false → refusal base (length m) block (ops.Write a f l bytes) ≡ None
      → slice_index (after base block m (ops.Write a f l bytes)) (a - base + at) ≡ slice_index m (a - base + at)
  unwritten base block at a f l m bytes out served =
      let op = ops.Write a f l bytes in
      let i = a - base in
      let c = length bytes.items in
      let new = after base block m op in
      let (low, high) = inside base block (length m) op served in
      elim (cases_lt at c) [
        | inl within ↦
            let made = places base block m op served in
            let long : length (bytes_at new i c) ≡ c = length_place new i c (omega (arith, low, high, sizes base block m op)) in
            let short : at < length (merged (enables (c / 4) f l) bytes.items (bytes_at m i c)) = omega (arith, within, long, ap length made) in
            sym (byte_there new i c at within) ∙ ap (λ ys. get_or ys at 0) made
            ∙ merged_disabled (enables (c / 4) f l) bytes.items (bytes_at m i c) at out short ∙ byte_there m i c at within
        | inr behind ↦ others base block (i + at) m op (inr (omega (arith, low, behind)))
      ]

  pub unput : (base block at : ℕ) (m : List ℕ) (op : Op) → is_put op at ≡ false → slice_index (after base block m op) (address_of op - base + at) ≡ slice_index m (address_of op - base + at)
  unput base block at m (ops.Read a dw f l) out = ap (λ n. slice_index n (a - base + at)) (reads base block a dw f l m)
  unput base block at m (ops.Write a f l bytes) out =
      let op = ops.Write a f l bytes in
      served_or_not (slice_index (after base block m op) (a - base + at) ≡ slice_index m (a - base + at)) (refusal base (length m) block op)
      (unwritten base block at a f l m bytes out) (λ r e. ap (λ n. slice_index n (a - base + at)) (refused base block m op r e))
  unput base block at m (ops.FetchAdd a w x) out = absurd (cc)
  unput base block at m (ops.Swap a w x) out = absurd (cc)
  unput base block at m (ops.Cas a w x y) out = absurd (cc)

-- a byte of an operation's range is what it was, if it is so wherever the operation is served
pub kept_if : Refused → (base block k at address value : ℕ) (m : List ℕ) (op : Op) → base + k ≡ address → address_of op + at ≡ address
    → (refusal base (length m) block op ≡ None → slice_index (after base block m op) (address_of op - base + at) ≡ value → slice_index m (address_of op - base + at) ≡ value)
    → slice_index (after base block m op) k ≡ value → slice_index m k ≡ value
kept_if refused base block k at address value m op ek ea kept e =
    served_or_not (slice_index m k ≡ value) (refusal base (length m) block op)
    (λ served.
    let low = (inside base block (length m) op served).0 in
    let place : address_of op - base + at ≡ k = omega (arith, low, ek, ea) in
    ap (slice_index m) (sym place) ∙ kept served (ap (slice_index (after base block m op)) place ∙ e))
    (λ r no. ap (λ n. slice_index n k) (sym (refused base block m op r no)) ∙ e)
