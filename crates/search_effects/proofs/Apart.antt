-- Requests that have no byte in common.
use Rattle.std.proofs.Common.{◌≡◌, ◌∙◌, ◌⊎◌, inl, inr, ℕ, ◌+◌, ◌-◌, ◌<◌, ◌≤◌, List, length, get_or, Option, Some, None, refl, sym, ap, arith}
use Rattle.std.specs.Prelude.{slice_index}
use Rattle.std.proofs.lemmas.Grind.{same_number_lists}
use Rattle.std.proofs.lemmas.Bool.{cases_lt}
use Rattle.tlp_core.specs.Ops.{Op}
use Rattle.tlp_core.specs.Operation.{address_of, count_of}
use Rattle.seq_memory.specs.declared.Refusal.{Refusal}
use Rattle.seq_memory.specs.declared.Refusal.TheVariants as refusals
use Rattle.seq_memory.specs.Entries.{Reply}
use Rattle.seq_memory.specs.Step.{bytes_at, read_back, place_after, answer, answer_by, after, refusal}
use Rattle.search_effects.specs.Effects.{AreApart, AreSameAt}
use Rattle.search_effects.proofs.Places.{inside, byte_there, length_place}

abbrev pub Others : Type 0
Others = (base block k : ℕ) (m : List ℕ) (op : Op) → (base + k < address_of op) ⊎ (address_of op + count_of op ≤ base + k) → slice_index (after base block m op) k ≡ slice_index m k

abbrev pub Sizes : Type 0
Sizes = (base block : ℕ) (m : List ℕ) (op : Op) → length (after base block m op) ≡ length m

-- in the operation's place, or not
pub where_is : (a c b : ℕ) → ((a ≤ b) × (b < a + c)) ⊎ ((b < a) ⊎ (a + c ≤ b))
where_is a c b = elim (cases_lt b a) [
  | inl low ↦ inr (inl low)
  | inr up ↦ elim (cases_lt b (a + c)) [
    | inl mid ↦ inl (up, mid)
    | inr high ↦ inr (inr high)
  ]
]

pub answers_alike : (o : Option Refusal) (r s : Reply) → (o ≡ None → r ≡ s) → answer_by o r ≡ answer_by o s
answers_alike None r s h = h refl
answers_alike (Some refusals.Aborted) r s h = refl
answers_alike (Some refusals.Unsupported) r s h = refl

abbrev pub Places : Type 0
Places = (base block : ℕ) (m : List ℕ) (op : Op) → refusal base (length m) block op ≡ None → bytes_at (after base block m op) (address_of op - base) (count_of op) ≡ place_after op (bytes_at m (address_of op - base) (count_of op))

abbrev pub Refused : Type 0
Refused = (base block : ℕ) (m : List ℕ) (op : Op) (r : Refusal) → refusal base (length m) block op ≡ Some r → after base block m op ≡ m

pub served_or_not : (P : Type 0) (o : Option Refusal) → (o ≡ None → P) → ((r : Refusal) → o ≡ Some r → P) → P
served_or_not P None p q = p refl
served_or_not P (Some r) p q = q r refl

-- the bytes at a request's addresses are those that it meets
met_alike : (base block : ℕ) (m n : List ℕ) (op : Op) → length n ≡ length m → AreSameAt base op m n → refusal base (length m) block op ≡ None
    → bytes_at n (address_of op - base) (count_of op) ≡ bytes_at m (address_of op - base) (count_of op)
met_alike base block m n op size same served =
    let i = address_of op - base in
    let c = count_of op in
    let (low, high) = inside base block (length m) op served in
    let in_m : length (bytes_at m i c) ≡ c = length_place m i c (omega (arith, low, high)) in
    let in_n : length (bytes_at n i c) ≡ c = length_place n i c (omega (arith, low, high, size)) in
    same_number_lists (bytes_at n i c) (bytes_at m i c) (in_n ∙ sym in_m) (λ k h.
    let below : k < c = omega (arith, h, in_n) in
    byte_there n i c k below ∙ same (i + k) (omega (arith, low)) (omega (arith, low, below)) ∙ sym (byte_there m i c k below))

pub same_answer : (base block : ℕ) (m n : List ℕ) (op : Op) → length n ≡ length m → AreSameAt base op m n → answer base block n op ≡ answer base block m op
same_answer base block m n op size same =
    let i = address_of op - base in
    ap (λ z. answer_by (refusal base z block op) (read_back op (bytes_at n i (count_of op)))) size
    ∙ answers_alike (refusal base (length m) block op) (read_back op (bytes_at n i (count_of op))) (read_back op (bytes_at m i (count_of op)))
    (λ served. ap (read_back op) (met_alike base block m n op size same served))

module _ (others : Others) (sizes : Sizes) where
  -- the bytes at a place are the same after a request that has none of them
  place_kept : (base block : ℕ) (m : List ℕ) (one : Op) (i c : ℕ) → i + c ≤ length m → ((k : ℕ) → k < c → (base + (i + k) < address_of one) ⊎ (address_of one + count_of one ≤ base + (i + k)))
      → bytes_at (after base block m one) i c ≡ bytes_at m i c
  place_kept base block m one i c l away =
      let n = after base block m one in
      let size : length n ≡ length m = sizes base block m one in
      let long : length (bytes_at n i c) ≡ c = length_place n i c (omega (arith, l, size)) in
      same_number_lists (bytes_at n i c) (bytes_at m i c) (long ∙ sym (length_place m i c l)) (λ k h.
      let below : k < c = omega (arith, h, long) in
      byte_there n i c k below ∙ others base block (i + k) m one (away k below) ∙ sym (byte_there m i c k below))

  away : (base k : ℕ) (one other : Op) → AreApart one other → base ≤ address_of other → k < count_of other → (base + (address_of other - base + k) < address_of one) ⊎ (address_of one + count_of one ≤ base + (address_of other - base + k))
  away base k one other (inl before) low l = inr (omega (arith, before, low, l))
  away base k one other (inr behind) low l = inl (omega (arith, behind, low, l))

  -- what a served request meets is the same after one that is apart
  met : (base block : ℕ) (m : List ℕ) (one other : Op) → AreApart one other → refusal base (length m) block other ≡ None
      → bytes_at (after base block m one) (address_of other - base) (count_of other) ≡ bytes_at m (address_of other - base) (count_of other)
  met base block m one other apart served =
      let (low, high) = inside base block (length m) other served in
      place_kept base block m one (address_of other - base) (count_of other) (omega (arith, low, high)) (λ k l. away base k one other apart low l)

  pub answer_kept : (base block : ℕ) (m : List ℕ) (one other : Op) → AreApart one other → answer base block (after base block m one) other ≡ answer base block m other
  answer_kept base block m one other apart =
      let n = after base block m one in
      ap (λ z. answer_by (refusal base z block other) (read_back other (bytes_at n (address_of other - base) (count_of other)))) (sizes base block m one)
      ∙ answers_alike (refusal base (length m) block other) (read_back other (bytes_at n (address_of other - base) (count_of other))) (read_back other (bytes_at m (address_of other - base) (count_of other)))
      (λ served. ap (read_back other) (met base block m one other apart served))

  module _ (places : Places) (refused : Refused) where
    -- a byte in the place of a served operation
    pub in_place : (base block : ℕ) (m : List ℕ) (op : Op) (k : ℕ) → refusal base (length m) block op ≡ None → address_of op ≤ base + k → base + k < address_of op + count_of op
        → slice_index (after base block m op) k ≡ get_or (place_after op (bytes_at m (address_of op - base) (count_of op))) (base + k - address_of op) 0
    in_place base block m op k served low high =
        let i = address_of op - base in
        let (front, back) = inside base block (length m) op served in
        let j = base + k - address_of op in
        ap (λ z. get_or (after base block m op) z 0) {x = k} {y = i + j} (omega (arith, low, front))
        ∙ sym (byte_there (after base block m op) i (count_of op) j (omega (arith, low, high)))
        ∙ ap (λ xs. get_or xs j 0) (places base block m op served)

    -- what an operation does to a byte depends on the bytes of its place and on that byte
    alike : (base block : ℕ) (m n : List ℕ) (op : Op) (k : ℕ) → length n ≡ length m → slice_index n k ≡ slice_index m k
        → (refusal base (length m) block op ≡ None → bytes_at n (address_of op - base) (count_of op) ≡ bytes_at m (address_of op - base) (count_of op))
        → slice_index (after base block n op) k ≡ slice_index (after base block m op) k
    alike base block m n op k size there same = elim (where_is (address_of op) (count_of op) (base + k)) [
      | inl within ↦
          served_or_not (slice_index (after base block n op) k ≡ slice_index (after base block m op) k) (refusal base (length m) block op)
          (λ served.
          let in_n : refusal base (length n) block op ≡ None = ap (λ z. refusal base z block op) size ∙ served in
          in_place base block n op k in_n within.0 within.1
          ∙ ap (λ xs. get_or (place_after op xs) (base + k - address_of op) 0) (same served)
          ∙ sym (in_place base block m op k served within.0 within.1))
          (λ r not_served.
          let in_n : refusal base (length n) block op ≡ Some r = ap (λ z. refusal base z block op) size ∙ not_served in
          ap (λ xs. slice_index xs k) (refused base block n op r in_n) ∙ there ∙ sym (ap (λ xs. slice_index xs k) (refused base block m op r not_served)))
      | inr out ↦ others base block k n op out ∙ there ∙ sym (others base block k m op out)
    ]

    pub same_byte : (base block k : ℕ) (m n : List ℕ) (op : Op) → length n ≡ length m → AreSameAt base op m n → slice_index n k ≡ slice_index m k
        → slice_index (after base block n op) k ≡ slice_index (after base block m op) k
    same_byte base block k m n op size same there = alike base block m n op k size there (λ served. met_alike base block m n op size same served)

    turned : (one other : Op) → AreApart one other → AreApart other one
    turned one other (inl before) = inr before
    turned one other (inr behind) = inl behind

    -- a byte that the second doesn't change
    second_out : (base block : ℕ) (m : List ℕ) (one other : Op) (k : ℕ) → AreApart one other → (base + k < address_of other) ⊎ (address_of other + count_of other ≤ base + k)
        → slice_index (after base block (after base block m one) other) k ≡ slice_index (after base block (after base block m other) one) k
    second_out base block m one other k apart out =
        others base block k (after base block m one) other out
        ∙ sym (alike base block m (after base block m other) one k (sizes base block m other) (others base block k m other out) (met base block m other one (turned one other apart)))

    both_out : (one other : Op) (b : ℕ) → AreApart one other → ((b < address_of other) ⊎ (address_of other + count_of other ≤ b)) ⊎ ((b < address_of one) ⊎ (address_of one + count_of one ≤ b))
    both_out one other b apart = elim (where_is (address_of other) (count_of other) b) [
      | inl within ↦ elim apart [
        | inl before ↦ inr (inr (omega (arith, before, within.0)))
        | inr behind ↦ inr (inl (omega (arith, behind, within.1)))
      ]
      | inr out ↦ inl out
    ]

    pub commute : (base block : ℕ) (m : List ℕ) (one other : Op) → AreApart one other → after base block (after base block m one) other ≡ after base block (after base block m other) one
    commute base block m one other apart =
        let u = after base block (after base block m one) other in
        let v = after base block (after base block m other) one in
        let in_u : length u ≡ length m = sizes base block (after base block m one) other ∙ sizes base block m one in
        let in_v : length v ≡ length m = sizes base block (after base block m other) one ∙ sizes base block m other in
        same_number_lists u v (in_u ∙ sym in_v) (λ k l. elim (both_out one other (base + k) apart) [
          | inl out ↦ second_out base block m one other k apart out
          | inr out ↦ sym (second_out base block m other one k (turned one other apart) out)
        ])
