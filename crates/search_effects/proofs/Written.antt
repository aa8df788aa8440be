-- A write or a Swap over all that another request has.
use Rattle.std.proofs.Common.{◌≡◌, ◌∙◌, ◌⊎◌, inl, inr, ℕ, ◌+◌, ◌-◌, ◌<◌, ◌≤◌, true, List, length, None, refl, sym, ap, subst, arith}
use Rattle.std.specs.Prelude.{slice_index}
use Rattle.std.proofs.lemmas.Grind.{same_number_lists}
use Rattle.arrayvec.specs.ArrayVec.{ArrayVec}
use Rattle.tlp_core.specs.Ops.{Op}
use Rattle.tlp_core.specs.declared.operation.OpOf.TheVariants as ops
use Rattle.tlp_core.specs.declared.operation.Width.{Width}
use Rattle.tlp_core.specs.Operation.{address_of, count_of}
use Rattle.seq_memory.specs.Step.{after, refusal}
use Rattle.search_effects.specs.Effects.{AreSameBut, is_put}
use Rattle.search_effects.proofs.Places.{inside}
use Rattle.search_effects.proofs.Apart.{Others, Sizes, Places, Refused, where_is, in_place}
use Rattle.search_effects.proofs.Leaving.{write_left}

module _ (others : Others) (sizes : Sizes) (places : Places) where
  -- a byte that is written
  written : (base block k a f l : ℕ) (m : List ℕ) (bytes : ArrayVec ℕ) → refusal base (length m) block (ops.Write a f l bytes) ≡ None
      → ((at : ℕ) → at < length bytes.items → is_put (ops.Write a f l bytes) at ≡ true) → a ≤ base + k → base + k < a + length bytes.items
      → slice_index (after base block m (ops.Write a f l bytes)) k ≡ slice_index bytes.items (base + k - a)
  written base block k a f l m bytes served all front back =
      let op = ops.Write a f l bytes in
      let at = base + k - a in
      let low : base ≤ a = (inside base block (length m) op served).0 in
      let short : at < length bytes.items = omega (arith, front, back) in
      let place : k ≡ a - base + at = omega (arith, low, front) in
      ap (slice_index (after base block m op)) place
      ∙ write_left sizes places block a f l bytes bytes.items refl base at m short (all at short) served

  -- what is left at the bytes of its range doesn't depend on what stood there: then it doesn't depend on any of it
  left_alike : (base block : ℕ) (m n : List ℕ) (one other : Op) → address_of one ≤ address_of other → address_of other + count_of other ≤ address_of one + count_of one
      → AreSameBut base other m n
      → ((k : ℕ) → address_of one ≤ base + k → base + k < address_of one + count_of one → slice_index (after base block n one) k ≡ slice_index (after base block m one) k)
      → after base block n one ≡ after base block m one
  left_alike base block m n one other low high same there =
      same_number_lists (after base block n one) (after base block m one) (sizes base block n one ∙ same.size ∙ sym (sizes base block m one)) (λ k h. elim (where_is (address_of one) (count_of one) (base + k)) [
        | inl within ↦ there k within.0 within.1
        | inr out ↦
            let far : (base + k < address_of other) ⊎ (address_of other + count_of other ≤ base + k) = elim out [
              | inl before ↦ inl (omega (arith, before, low))
              | inr behind ↦ inr (omega (arith, behind, high))
            ] in
            others base block k n one out ∙ same.others k far ∙ sym (others base block k m one out)
      ])

  pub covered : (base block : ℕ) (m n : List ℕ) (one other : Op) → ((a : ℕ) × (f : ℕ) × (l : ℕ) × (bytes : ArrayVec ℕ) × (one ≡ ops.Write a f l bytes))
      → address_of one ≤ address_of other → address_of other + count_of other ≤ address_of one + count_of one
      → ((at : ℕ) → at < count_of one → is_put one at ≡ true)
      → refusal base (length m) block one ≡ None → AreSameBut base other m n → after base block n one ≡ after base block m one
  covered base block m n one other (a, f, l, bytes, is) low high all served same =
      let op = ops.Write a f l bytes in
      let whole : (at : ℕ) → at < length bytes.items → is_put op at ≡ true = subst (λ o. (at : ℕ) → at < count_of o → is_put o at ≡ true) is all in
      let in_m : refusal base (length m) block op ≡ None = subst (λ o. refusal base (length m) block o ≡ None) is served in
      let in_n : refusal base (length n) block op ≡ None = ap (λ z. refusal base z block op) same.size ∙ in_m in
      left_alike base block m n one other low high same (subst (λ o. (k : ℕ) → address_of o ≤ base + k → base + k < address_of o + count_of o → slice_index (after base block n o) k ≡ slice_index (after base block m o) k)
      (sym is) (λ k front back. written base block k a f l n bytes in_n whole front back ∙ sym (written base block k a f l m bytes in_m whole front back)))

  module _ (refused : Refused) where
    pub swapped : (base block : ℕ) (m n : List ℕ) (one other : Op) → ((a : ℕ) × (w : Width) × (x : ℕ) × (one ≡ ops.Swap a w x))
        → address_of one ≤ address_of other → address_of other + count_of other ≤ address_of one + count_of one
        → refusal base (length m) block one ≡ None → AreSameBut base other m n → after base block n one ≡ after base block m one
    swapped base block m n one other (a, w, x, is) low high served same =
        let op = ops.Swap a w x in
        let in_m : refusal base (length m) block op ≡ None = subst (λ o. refusal base (length m) block o ≡ None) is served in
        let in_n : refusal base (length n) block op ≡ None = ap (λ z. refusal base z block op) same.size ∙ in_m in
        left_alike base block m n one other low high same (subst (λ o. (k : ℕ) → address_of o ≤ base + k → base + k < address_of o + count_of o → slice_index (after base block n o) k ≡ slice_index (after base block m o) k)
        (sym is) (λ k front back. in_place others sizes places refused base block n op k in_n front back ∙ sym (in_place others sizes places refused base block m op k in_m front back)))
