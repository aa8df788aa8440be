-- The pieces of an access are the pieces of its larger pieces.
use Rattle.std.proofs.Common.{◌≡◌, ◌∙◌, ℕ, zero, suc, ◌+◌, ◌-◌, ◌*◌, ◌%◌, ◌<◌, ◌≤◌, ◌++◌, ◌∷◌, [], List, true, false, length, take, drop, map, refl, sym, ap, inl, inr, arith, length-append}
use Rattle.std.specs.Prelude.{nat_le}
use Rattle.std.proofs.lemmas.Bool.{cases_lt}
use Rattle.std.proofs.lemmas.Bool.Decides.{nat_tests}
use Rattle.std.proofs.lemmas.List.{append-nil, take-append-drop}
use Rattle.tlp_core.specs.Ops.{Op}
use Rattle.tlp_core.specs.declared.operation.OpOf.TheVariants as ops
use Rattle.tlp_core.specs.Operation.{address_of, count_of}
use Rattle.op_pieces.specs.Pieces.{front, back, dw_of, dw_to, cut}
use Rattle.log_piece_laws.proofs.Halves.{IsAccess, AreHalves, halves, front_front, back_front, back_back}
use Rattle.log_piece_laws.proofs.Lists.{concat}

pub cut_last : (b : ℕ) (op : Op) → cut b 0 op ≡ op ∷ []
unfolding cut
cut_last b op = refl

pub cut_fits : (b n : ℕ) (op : Op) → dw_of op ≤ dw_to b (address_of op) → cut b n op ≡ op ∷ []
unfolding cut
cut_fits b zero op l = refl
cut_fits b (suc n) op l =
    let fits : nat_le (dw_of op) (dw_to b (address_of op)) ≡ true = grind (arith, nat_tests) in
    rw fits refl

cut_more : (b n : ℕ) (op : Op) → dw_to b (address_of op) < dw_of op → cut b (suc n) op ≡ front (dw_to b (address_of op)) op ∷ cut b n (back (dw_to b (address_of op)) op)
unfolding cut
cut_more b n op l =
    let more : nat_le (dw_of op) (dw_to b (address_of op)) ≡ false = grind (arith, nat_tests) in
    rw more refl

-- one step: the operation is one piece, or a first part and the pieces of the other
pub cut_by : {P : Type 0} → (b n : ℕ) (op : Op) → (dw_of op ≤ dw_to b (address_of op) → cut b (suc n) op ≡ op ∷ [] → P)
    → ((d : ℕ) → d ≡ dw_to b (address_of op) → d < dw_of op → cut b (suc n) op ≡ front d op ∷ cut b n (back d op) → P) → P
cut_by b n op one more = elim (cases_lt (dw_to b (address_of op)) (dw_of op)) [
  | inl less ↦ more (dw_to b (address_of op)) refl less (cut_more b n op less)
  | inr fits ↦ one fits (cut_fits b (suc n) op fits)
]

-- what is asked of two sizes: pieces have DW, and each end of a larger piece is one of a smaller piece
pub record AreSizes (b c : ℕ) : Type 0 where
  pub small : (a : ℕ) → a % 4 ≡ 0 → 1 ≤ dw_to b a
  pub large : (a : ℕ) → a % 4 ≡ 0 → 1 ≤ dw_to c a
  pub first : (a e : ℕ) → a % 4 ≡ 0 → 1 ≤ e → (a + 4 * e) % b ≡ 0 → dw_to b a ≤ e
  pub ends : (a : ℕ) → a % 4 ≡ 0 → (a + 4 * dw_to c a) % b ≡ 0

module _ (b c : ℕ) (sizes : AreSizes b c) where
  enough : (n m : ℕ) (op : Op) → IsAccess op → dw_of op ≤ suc n → dw_of op ≤ suc m → cut b n op ≡ cut b m op
  enough zero m op is l k =
      let some = sizes.small (address_of op) is.aligned in
      cut_fits b 0 op (omega (arith, l, some)) ∙ sym (cut_fits b m op (omega (arith, l, some)))
  enough (suc n) zero op is l k =
      let some = sizes.small (address_of op) is.aligned in
      cut_fits b (suc n) op (omega (arith, k, some)) ∙ sym (cut_fits b 0 op (omega (arith, k, some)))
  enough (suc n) (suc m) op is l k = cut_by {P = cut b (suc n) op ≡ cut b (suc m) op} b n op
      (λ fits one. one ∙ sym (cut_fits b (suc m) op fits))
      (λ d e less more.
      let some = sizes.small (address_of op) is.aligned in
      let h = halves op d is (omega (arith, some, e)) less in
      let rest_dw = h.rest_dw in
      more ∙ ap (λ xs. front d op ∷ xs) (enough n m (back d op) h.rest (omega (arith, rest_dw, l, some, e)) (omega (arith, rest_dw, k, some, e)))
      ∙ ap (λ v. front v op ∷ cut b m (back v op)) e ∙ sym (cut_more b m op (omega (arith, less, e))))

  -- the first part is cut as the access is, if it has more than one piece
  inside : (n : ℕ) (op : Op) (e k m : ℕ) → IsAccess op → e < dw_of op → (d : ℕ) → d ≡ dw_to b (address_of op) → 1 ≤ d → d < e → AreHalves op e → e ≤ suc k
      → ((j : ℕ) → e ≤ suc (suc j) → cut b n (back d op) ≡ cut b j (front (e - d) (back d op)) ++ cut b m (back (e - d) (back d op)))
      → front d op ∷ cut b n (back d op) ≡ cut b k (front e op) ++ cut b m (back e op)
  inside n op e zero m is less d same some before whole p rest = absurd (omega (arith, p, some, before))
  inside n op e (suc k) m is less d same some before whole p rest =
      let first_dw = whole.first_dw in
      let same_d : dw_to b (address_of (front e op)) ≡ d = ap (dw_to b) whole.first_at ∙ sym same in
      let left : cut b (suc k) (front e op) ≡ front d op ∷ cut b k (front (e - d) (back d op)) =
      cut_more b k (front e op) (omega (arith, same_d, before, first_dw)) ∙ ap (λ v. front v (front e op) ∷ cut b k (back v (front e op))) same_d
      ∙ ap (λ v. v ∷ cut b k (back d (front e op))) (front_front op d e is before less)
      ∙ ap (λ v. front d op ∷ cut b k v) (back_front op d e is some before less) in
      ap (λ xs. front d op ∷ xs) (rest k p ∙ ap (λ v. cut b k (front (e - d) (back d op)) ++ cut b m v) (back_back op d e is some before less))
      ∙ ap (λ xs. xs ++ cut b m (back e op)) (sym left)

  -- an access in two parts at the end of a piece
  in_two : (n : ℕ) (op : Op) (e k m : ℕ) → IsAccess op → 1 ≤ e → e < dw_of op → (address_of op + 4 * e) % b ≡ 0 → dw_of op ≤ suc n → e ≤ suc k → dw_of op - e ≤ suc m
      → cut b n op ≡ cut b k (front e op) ++ cut b m (back e op)
  in_two zero op e k m is some less end l p q = absurd (omega (arith, some, less, l))
  in_two (suc n) op e k m is some less end l p q =
      let a = address_of op in
      let d = dw_to b a in
      let first = sizes.first a e is.aligned some end in
      let at_least = sizes.small a is.aligned in
      let whole = halves op e is some less in
      let more : cut b (suc n) op ≡ front d op ∷ cut b n (back d op) = cut_more b n op (omega (arith, first, less)) in
      elim (cases_lt d e) [
        | inl before ↦
            let h = halves op d is at_least (omega (arith, before, less)) in
            let rest_dw = h.rest_dw in
            let ends : (address_of (back d op) + 4 * (e - d)) % b ≡ 0 =
            ap (λ v. v % b) (ap (λ v. v + 4 * (e - d)) h.rest_at ∙ omega (arith, before)) ∙ end in
            more ∙ inside n op e k m is less d refl at_least before whole p
            (λ j short. in_two n (back d op) (e - d) j m h.rest (omega (arith, before)) (omega (arith, rest_dw, before, less)) ends (omega (arith, rest_dw, l, at_least)) (omega (arith, short, at_least))
            (omega (arith, rest_dw, q, before)))
        | inr not_before ↦
            let eq : d ≡ e = omega (arith, first, not_before) in
            let first_dw = whole.first_dw in
            let same_d : dw_to b (address_of (front e op)) ≡ d = ap (dw_to b) whole.first_at in
            let one : cut b k (front e op) ≡ front e op ∷ [] = cut_fits b k (front e op) (omega (arith, first_dw, not_before, same_d)) in
            let rest_dw = whole.rest_dw in
            more ∙ ap (λ v. front v op ∷ cut b n (back v op)) eq
            ∙ ap (λ xs. front e op ∷ xs) (enough n m (back e op) whole.rest (omega (arith, rest_dw, l, some)) (omega (arith, rest_dw, q)))
            ∙ ap (λ xs. xs ++ cut b m (back e op)) (sym one)
      ]

  abbrev by : Op → List Op
  by op = cut b (dw_of op) op

  twice : (m n : ℕ) (op : Op) → IsAccess op → dw_of op ≤ suc m → dw_of op ≤ suc n → concat (map by (cut c m op)) ≡ cut b n op
  twice zero n op is l k =
      ap (λ xs. concat (map by xs)) (cut_last c op) ∙ append-nil (by op) ∙ enough (dw_of op) n op is (omega arith) k
  twice (suc m) n op is l k = cut_by {P = concat (map by (cut c (suc m) op)) ≡ cut b n op} c m op
      (λ fits one. ap (λ xs. concat (map by xs)) one ∙ append-nil (by op) ∙ enough (dw_of op) n op is (omega arith) k)
      (λ d e less more.
      let some = sizes.large (address_of op) is.aligned in
      let h = halves op d is (omega (arith, some, e)) less in
      let first_dw = h.first_dw in
      let rest_dw = h.rest_dw in
      let end : (address_of op + 4 * d) % b ≡ 0 = ap (λ v. (address_of op + 4 * v) % b) e ∙ sizes.ends (address_of op) is.aligned in
      ap (λ xs. concat (map by xs)) more
      ∙ ap (λ xs. by (front d op) ++ xs) (twice m (dw_of (back d op)) (back d op) h.rest (omega (arith, rest_dw, l, some, e)) (omega arith))
      ∙ sym (in_two n op d (dw_of (front d op)) (dw_of (back d op)) is (omega (arith, some, e)) less end k (omega (arith, first_dw)) (omega (arith, rest_dw))))

  pub cut_twice : (op : Op) → IsAccess op → concat (map (λ o. cut b (dw_of o) o) (cut c (dw_of op) op)) ≡ cut b (dw_of op) op
  cut_twice op is = twice (dw_of op) (dw_of op) op is (omega arith) (omega arith)

-- ---- the pieces of any operation

pub some_pieces : (b n : ℕ) (op : Op) → (o : Op) × (os : List Op) × (cut b n op ≡ o ∷ os)
some_pieces b zero op = (op, [], cut_last b op)
some_pieces b (suc n) op = cut_by {P = (o : Op) × (os : List Op) × (cut b (suc n) op ≡ o ∷ os)} b n op
    (λ fits one. (op, [], one))
    (λ d e less more. (front d op, cut b n (back d op), more))

-- how many bytes they have
abbrev pub counts : List Op → ℕ
counts [] = 0
counts (op ∷ ops) = count_of op + counts ops

pub count_halves : (op : Op) (d : ℕ) → d < dw_of op → count_of (front d op) + count_of (back d op) ≡ count_of op
count_halves (ops.Read a dw f l) d less = omega (arith, less)
count_halves (ops.Write a f l bytes) d less =
    sym (length-append (take (4 * d) bytes.items) (drop (4 * d) bytes.items)) ∙ ap length (take-append-drop (4 * d) bytes.items)
count_halves (ops.FetchAdd a w x) d less = absurd (omega (arith, less))
count_halves (ops.Swap a w x) d less = absurd (omega (arith, less))
count_halves (ops.Cas a w x y) d less = absurd (omega (arith, less))

pub all_counted : (b n : ℕ) (op : Op) → counts (cut b n op) ≡ count_of op
all_counted b zero op = ap counts (cut_last b op) ∙ omega arith
all_counted b (suc n) op = cut_by {P = counts (cut b (suc n) op) ≡ count_of op} b n op
    (λ fits one. ap counts one ∙ omega arith)
    (λ d e less more. ap counts more ∙ ap (λ v. count_of (front d op) + v) (all_counted b n (back d op)) ∙ count_halves op d less)
