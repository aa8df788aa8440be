-- The two parts of a read or a write, and parts of parts.
use Rattle.std.proofs.Common.{◌≡◌, ◌∙◌, ℕ, ◌+◌, ◌-◌, ◌*◌, ◌/◌, ◌%◌, ◌<◌, ◌≤◌, List, false, length, take, drop, refl, sym, ap, inl, inr, arith, length-drop}
use Rattle.std.specs.Prelude.{◌==◌}
use Rattle.std.proofs.lemmas.Bool.{cases_Bool}
use Rattle.std.proofs.lemmas.Bool.Decides.{nat_tests}
use Rattle.std.proofs.lemmas.List.{take-take, drop-take, drop-drop, length-take-le}
use Rattle.tlp_core.specs.Ops.{Op}
use Rattle.tlp_core.specs.declared.operation.OpOf.TheVariants as ops
use Rattle.tlp_core.specs.Operation.{address_of, count_of}
use Rattle.op_pieces.specs.Pieces.{inner, rest_first, rest_last, front, back, dw_of}

-- a read or a write of whole DW
pub record IsAccess (op : Op) : Type 0 where
  pub some : 1 ≤ dw_of op
  pub aligned : address_of op % 4 ≡ 0
  pub whole : count_of op ≡ 4 * dw_of op

pub record AreHalves (op : Op) (d : ℕ) : Type 0 where
  pub first : IsAccess (front d op)
  pub first_dw : dw_of (front d op) ≡ d
  pub first_at : address_of (front d op) ≡ address_of op
  pub rest : IsAccess (back d op)
  pub rest_dw : dw_of (back d op) ≡ dw_of op - d
  pub rest_at : address_of (back d op) ≡ address_of op + 4 * d

pub halves : (op : Op) (d : ℕ) → IsAccess op → 1 ≤ d → d < dw_of op → AreHalves op d
halves (ops.Read a dw f l) d is some less = record {
  first = record { some = some; aligned = is.aligned; whole = refl };
  first_dw = refl;
  first_at = refl;
  rest = record { some = omega (arith, less); aligned = omega (arith, is.aligned); whole = refl };
  rest_dw = refl;
  rest_at = refl;
}
halves (ops.Write a f l bytes) d is some less =
    let whole = is.whole in
    let long : length (take (4 * d) bytes.items) ≡ 4 * d = length-take-le (4 * d) bytes.items (omega (arith, less, whole)) in
    let left : length (drop (4 * d) bytes.items) ≡ length bytes.items - 4 * d = length-drop (4 * d) bytes.items in
    record {
      first = record { some = omega (arith, long, some); aligned = is.aligned; whole = omega (arith, long) };
      first_dw = omega (arith, long);
      first_at = refl;
      rest = record { some = omega (arith, left, whole, less); aligned = omega (arith, is.aligned); whole = omega (arith, left, whole) };
      rest_dw = omega (arith, left, whole, less);
      rest_at = refl;
    }
halves (ops.FetchAdd a w x) d is some less = absurd (omega (arith, less))
halves (ops.Swap a w x) d is some less = absurd (omega (arith, less))
halves (ops.Cas a w x y) d is some less = absurd (omega (arith, less))

inner_more : (n : ℕ) → 2 ≤ n → inner n ≡ 15
inner_more n l = let no : (n == 1) ≡ false = grind (arith, nat_tests) in rw no refl

first_more : (n l : ℕ) → 2 ≤ n → rest_first n l ≡ 15
first_more n l m = let no : (n == 1) ≡ false = grind (arith, nat_tests) in rw no refl

last_more : (n l : ℕ) → 2 ≤ n → rest_last n l ≡ l
last_more n l m = let no : (n == 1) ≡ false = grind (arith, nat_tests) in rw no refl

same_ends : (n : ℕ) → rest_first n 15 ≡ 15
same_ends n = elim (cases_Bool (n == 1)) [
  | inl e ↦ rw e refl
  | inr e ↦ rw e refl
]

same_read : (a b n m f g l k : ℕ) → a ≡ b → n ≡ m → f ≡ g → l ≡ k → ◌≡◌ {A = Op} (ops.Read a n f l) (ops.Read b m g k)
same_read a b n m f g l k p q r s = rw (p, q, r, s) refl

same_write : (a b f g l k : ℕ) (xs ys : List ℕ) → a ≡ b → f ≡ g → l ≡ k → xs ≡ ys → ◌≡◌ {A = Op} (ops.Write a f l (record { items = xs })) (ops.Write b g k (record { items = ys }))
same_write a b f g l k xs ys p q r s = rw (p, q, r, s) refl

pub front_front : (op : Op) (d e : ℕ) → IsAccess op → d < e → e < dw_of op → front d (front e op) ≡ front d op
front_front (ops.Read a dw f l) d e is less more = refl
front_front (ops.Write a f l bytes) d e is less more =
    same_write a a f f (inner d) (inner d) (take (4 * d) (take (4 * e) bytes.items)) (take (4 * d) bytes.items) refl refl refl (take-take (4 * d) (4 * e) bytes.items (omega (arith, less)))
front_front (ops.FetchAdd a w x) d e is less more = refl
front_front (ops.Swap a w x) d e is less more = refl
front_front (ops.Cas a w x y) d e is less more = refl

pub back_front : (op : Op) (d e : ℕ) → IsAccess op → 1 ≤ d → d < e → e < dw_of op → back d (front e op) ≡ front (e - d) (back d op)
back_front (ops.Read a dw f l) d e is some less more =
    let two : inner e ≡ 15 = inner_more e (omega (arith, some, less)) in
    same_read (a + 4 * d) (a + 4 * d) (e - d) (e - d) (rest_first (e - d) (inner e)) (rest_first (dw - d) l) (rest_last (e - d) (inner e)) (inner (e - d)) refl refl
    (ap (rest_first (e - d)) two ∙ same_ends (e - d) ∙ sym (first_more (dw - d) l (omega (arith, less, more)))) (ap (rest_last (e - d)) two)
back_front (ops.Write a f l bytes) d e is some less more =
    let two : inner e ≡ 15 = inner_more e (omega (arith, some, less)) in
    let whole = is.whole in
    let dw = length bytes.items / 4 in
    let long : length (take (4 * e) bytes.items) ≡ 4 * e = length-take-le (4 * e) bytes.items (omega (arith, more, whole)) in
    let n = length (take (4 * e) bytes.items) / 4 - d in
    let n_is : n ≡ e - d = omega (arith, long) in
    let sum : 4 * e ≡ 4 * d + 4 * (e - d) = omega (arith, less) in
    same_write (a + 4 * d) (a + 4 * d) (rest_first n (inner e)) (rest_first (dw - d) l) (rest_last n (inner e)) (inner (e - d))
    (drop (4 * d) (take (4 * e) bytes.items)) (take (4 * (e - d)) (drop (4 * d) bytes.items)) refl
    (ap (rest_first n) two ∙ same_ends n ∙ sym (first_more (dw - d) l (omega (arith, less, more))))
    (ap (λ k. rest_last k (inner e)) n_is ∙ ap (rest_last (e - d)) two)
    (ap (λ k. drop (4 * d) (take k bytes.items)) sum ∙ drop-take (4 * d) (4 * (e - d)) bytes.items)
back_front (ops.FetchAdd a w x) d e is some less more = refl
back_front (ops.Swap a w x) d e is some less more = refl
back_front (ops.Cas a w x y) d e is some less more = refl

pub back_back : (op : Op) (d e : ℕ) → IsAccess op → 1 ≤ d → d < e → e < dw_of op → back (e - d) (back d op) ≡ back e op
back_back (ops.Read a dw f l) d e is some less more =
    let last : rest_last (dw - d) l ≡ l = last_more (dw - d) l (omega (arith, less, more)) in
    let n_is : dw - d - (e - d) ≡ dw - e = omega (arith, less, more) in
    same_read (a + 4 * d + 4 * (e - d)) (a + 4 * e) (dw - d - (e - d)) (dw - e) (rest_first (dw - d - (e - d)) (rest_last (dw - d) l)) (rest_first (dw - e) l)
    (rest_last (dw - d - (e - d)) (rest_last (dw - d) l)) (rest_last (dw - e) l) (omega (arith, less)) n_is
    (ap (rest_first (dw - d - (e - d))) last ∙ ap (λ n. rest_first n l) n_is) (ap (rest_last (dw - d - (e - d))) last ∙ ap (λ n. rest_last n l) n_is)
back_back (ops.Write a f l bytes) d e is some less more =
    let whole = is.whole in
    let dw = length bytes.items / 4 in
    let left : length (drop (4 * d) bytes.items) ≡ length bytes.items - 4 * d = length-drop (4 * d) bytes.items in
    let n = length (drop (4 * d) bytes.items) / 4 - (e - d) in
    let n_is : n ≡ dw - e = omega (arith, left, whole, less, more) in
    let last : rest_last (dw - d) l ≡ l = last_more (dw - d) l (omega (arith, less, more)) in
    same_write (a + 4 * d + 4 * (e - d)) (a + 4 * e) (rest_first n (rest_last (dw - d) l)) (rest_first (dw - e) l) (rest_last n (rest_last (dw - d) l)) (rest_last (dw - e) l)
    (drop (4 * (e - d)) (drop (4 * d) bytes.items)) (drop (4 * e) bytes.items) (omega (arith, less))
    (ap (rest_first n) last ∙ ap (λ k. rest_first k l) n_is) (ap (rest_last n) last ∙ ap (λ k. rest_last k l) n_is)
    (drop-drop (4 * (e - d)) (4 * d) bytes.items ∙ ap (λ k. drop k bytes.items) (omega (arith, less)))
back_back (ops.FetchAdd a w x) d e is some less more = refl
back_back (ops.Swap a w x) d e is some less more = refl
back_back (ops.Cas a w x y) d e is some less more = refl
