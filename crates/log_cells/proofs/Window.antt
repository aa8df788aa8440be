-- Bytes that two memories have in common.
use Rattle.std.proofs.Common.{◌≡◌, ◌∙◌, ℕ, ◌+◌, ◌-◌, ◌<◌, ◌≤◌, ◌⊎◌, List, drop, get_or, length, Option, Some, None, refl, sym, ap, inl, inr, arith, length-drop}
use Rattle.std.specs.Prelude.{not, ◌||◌, if◌then◌else◌, is_some, slice_index}
use Rattle.std.proofs.lemmas.Bool.{le-leb, cases_lt}
use Rattle.std.proofs.lemmas.List.{length-take-le, get_or-take, get_or-drop, ext_get_or}
use Rattle.tlp_core.specs.Ops.{Op}
use Rattle.tlp_core.specs.Operation.{address_of, count_of, op_fault}
use Rattle.seq_memory.specs.declared.Refusal.{Refusal}
use Rattle.seq_memory.specs.declared.Refusal.TheVariants as refusals
use Rattle.seq_memory.specs.Limits.{Extent}
use Rattle.seq_memory.specs.Step.{is_in_block, refusal, bytes_at, read_back, place_after, after, answer, answer_by}
use Rattle.log_cells.specs.Parts.{IsInside, IsOutside, Holds}

-- what the laws of the memory say
pub record Laws : Type 0 where
  pub others : (base block k : ℕ) (m : List ℕ) (op : Op) → (base + k < address_of op) ⊎ (address_of op + count_of op ≤ base + k) → slice_index (after base block m op) k ≡ slice_index m k
  pub size : (base block : ℕ) (m : List ℕ) (op : Op) → length (after base block m op) ≡ length m
  pub place : (base block : ℕ) (m : List ℕ) (op : Op) → refusal base (length m) block op ≡ None → bytes_at (after base block m op) (address_of op - base) (count_of op) ≡ place_after op (bytes_at m (address_of op - base) (count_of op))
  pub refused : (base block : ℕ) (m : List ℕ) (op : Op) (r : Refusal) → refusal base (length m) block op ≡ Some r → after base block m op ≡ m

-- the bytes from low up to high are the same in m and in n
pub record Agree (x y : Extent) (low high : ℕ) (m n : List ℕ) : Type 0 where
  pub len_x : length m ≡ x.size
  pub len_y : length n ≡ y.size
  pub at : (k : ℕ) → low ≤ k → k < high → get_or m (k - x.base) 0 ≡ get_or n (k - y.base) 0

module _ (x y : Extent) (low high : ℕ) (in_x : Holds x low high) (in_y : Holds y low high) where
  -- ---- what is refused

  serves : (b base block size : ℕ) (op : Op) → base ≤ low → high ≤ base + size → IsInside low high op
      → refusal base size block op ≡ (if is_some (op_fault op) || not (is_in_block block (address_of op) (count_of op)) then Some refusals.Aborted else None)
  serves b base block size op l h i =
      rw (le-leb base (address_of op) (omega (arith, l, i.0)), le-leb (address_of op + count_of op) (base + size) (omega (arith, h, i.1))) refl

  same_refusal : (block : ℕ) (op : Op) → IsInside low high op → refusal x.base x.size block op ≡ refusal y.base y.size block op
  same_refusal block op i = serves 0 x.base block x.size op in_x.0 in_x.1 i ∙ sym (serves 0 y.base block y.size op in_y.0 in_y.1 i)

  -- ---- what stands at a place

  at_place : (m : List ℕ) (i c k : ℕ) → k < c → get_or (bytes_at m i c) k 0 ≡ get_or m (i + k) 0
  at_place m i c k l = get_or-take c (drop i m) k 0 l ∙ get_or-drop i m k 0

  place_size : (m : List ℕ) (i c : ℕ) → i + c ≤ length m → length (bytes_at m i c) ≡ c
  place_size m i c l = length-take-le c (drop i m) (omega (arith, length-drop i m))

  same_place : (m n : List ℕ) (op : Op) → IsInside low high op → Agree x y low high m n → bytes_at m (address_of op - x.base) (count_of op) ≡ bytes_at n (address_of op - y.base) (count_of op)
  same_place m n op i h =
      let c = count_of op in
      let a = address_of op in
      let one : length (bytes_at m (a - x.base) c) ≡ c = place_size m (a - x.base) c (omega (arith, h.len_x, in_x.0, in_x.1, i.0, i.1)) in
      let two : length (bytes_at n (a - y.base) c) ≡ c = place_size n (a - y.base) c (omega (arith, h.len_y, in_y.0, in_y.1, i.0, i.1)) in
      ext_get_or 0 (bytes_at m (a - x.base) c) (bytes_at n (a - y.base) c) (one ∙ sym two)
      (λ k l.
      let below : k < c = omega (arith, l, one) in
      let in_m : a - x.base + k ≡ a + k - x.base = omega (arith, in_x.0, i.0) in
      let in_n : a + k - y.base ≡ a - y.base + k = omega (arith, in_y.0, i.0) in
      at_place m (a - x.base) c k below ∙ ap (λ j. get_or m j 0) in_m
      ∙ h.at (a + k) (omega (arith, i.0)) (omega (arith, i.1, below))
      ∙ ap (λ j. get_or n j 0) in_n ∙ sym (at_place n (a - y.base) c k below))

  pub same_answer : (block : ℕ) (m n : List ℕ) (op : Op) → IsInside low high op → Agree x y low high m n → answer x.base block m op ≡ answer y.base block n op
  same_answer block m n op i h =
      ap (λ s. answer_by (refusal x.base s block op) (read_back op (bytes_at m (address_of op - x.base) (count_of op)))) h.len_x
      ∙ ap (λ o. answer_by o (read_back op (bytes_at m (address_of op - x.base) (count_of op)))) (same_refusal block op i)
      ∙ ap (λ s. answer_by (refusal y.base s block op) (read_back op (bytes_at m (address_of op - x.base) (count_of op)))) (sym h.len_y)
      ∙ ap (λ w. answer_by (refusal y.base (length n) block op) (read_back op w)) (same_place m n op i h)

  -- ---- a request acts

  module _ (laws : Laws) where
    pub agree_outside : (block : ℕ) (m n : List ℕ) (op : Op) → IsOutside low high op → Agree x y low high m n → Agree x y low high (after x.base block m op) n
    agree_outside block m n op o h = record {
      len_x = laws.size x.base block m op ∙ h.len_x;
      len_y = h.len_y;
      at = λ k l g. laws.others x.base block (k - x.base) m op (apart k l g o) ∙ h.at k l g;
    }
      where
        apart : (k : ℕ) → low ≤ k → k < high → IsOutside low high op → (x.base + (k - x.base) < address_of op) ⊎ (address_of op + count_of op ≤ x.base + (k - x.base))
        apart k l g (inl before) = inr (omega (arith, before, l, in_x.0))
        apart k l g (inr behind) = inl (omega (arith, behind, g, l, in_x.0))

    -- a byte after a served operation
    served_at : (base block k : ℕ) (m : List ℕ) (op : Op) → refusal base (length m) block op ≡ None → base ≤ address_of op → address_of op ≤ k → k < address_of op + count_of op
        → get_or (after base block m op) (k - base) 0 ≡ get_or (place_after op (bytes_at m (address_of op - base) (count_of op))) (k - address_of op) 0
    served_at base block k m op none low_enough l g =
        let j : k - base ≡ address_of op - base + (k - address_of op) = omega (arith, low_enough, l) in
        ap (λ i. get_or (after base block m op) i 0) j
        ∙ sym (at_place (after base block m op) (address_of op - base) (count_of op) (k - address_of op) (omega (arith, l, g)))
        ∙ ap (λ w. get_or w (k - address_of op) 0) (laws.place base block m op none)

    by_refusal : (block : ℕ) (m n : List ℕ) (op : Op) (o : Option Refusal) → refusal x.base x.size block op ≡ o → IsInside low high op → Agree x y low high m n
        → Agree x y low high (after x.base block m op) (after y.base block n op)
    by_refusal block m n op (Some r) is i h =
        let one : after x.base block m op ≡ m = laws.refused x.base block m op r (ap (λ s. refusal x.base s block op) h.len_x ∙ is) in
        let two : after y.base block n op ≡ n = laws.refused y.base block n op r (ap (λ s. refusal y.base s block op) h.len_y ∙ sym (same_refusal block op i) ∙ is) in
        rw (one, two) h
    by_refusal block m n op None is i h =
        let one : refusal x.base (length m) block op ≡ None = ap (λ s. refusal x.base s block op) h.len_x ∙ is in
        let two : refusal y.base (length n) block op ≡ None = ap (λ s. refusal y.base s block op) h.len_y ∙ sym (same_refusal block op i) ∙ is in
        record {
          len_x = laws.size x.base block m op ∙ h.len_x;
          len_y = laws.size y.base block n op ∙ h.len_y;
          at = λ k l g. elim (cases_lt k (address_of op)) [
            | inl under ↦ untouched k l g (inl under)
            | inr from ↦ elim (cases_lt k (address_of op + count_of op)) [
              | inr behind ↦ untouched k l g (inr (omega (arith, behind)))
              | inl before ↦
                  served_at x.base block k m op one (omega (arith, in_x.0, i.0)) (omega (arith, from)) before
                  ∙ ap (λ w. get_or (place_after op w) (k - address_of op) 0) (same_place m n op i h)
                  ∙ sym (served_at y.base block k n op two (omega (arith, in_y.0, i.0)) (omega (arith, from)) before)
            ]
          ];
        }
      where
        untouched : (k : ℕ) → low ≤ k → k < high → (k < address_of op) ⊎ (address_of op + count_of op ≤ k) → get_or (after x.base block m op) (k - x.base) 0 ≡ get_or (after y.base block n op) (k - y.base) 0
        untouched k l g apart =
            let in_m : x.base + (k - x.base) ≡ k = omega (arith, in_x.0, l) in
            let in_n : y.base + (k - y.base) ≡ k = omega (arith, in_y.0, l) in
            laws.others x.base block (k - x.base) m op (rw in_m apart) ∙ h.at k l g ∙ sym (laws.others y.base block (k - y.base) n op (rw in_n apart))

    pub agree_inside : (block : ℕ) (m n : List ℕ) (op : Op) → IsInside low high op → Agree x y low high m n → Agree x y low high (after x.base block m op) (after y.base block n op)
    agree_inside block m n op i h = by_refusal block m n op (refusal x.base x.size block op) refl i h
