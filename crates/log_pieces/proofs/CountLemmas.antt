-- How many pieces an operation has, counted one after another.
use Rattle.std.proofs.Common.{◌≡◌, ◌∙◌, ℕ, zero, suc, ◌+◌, ◌<◌, ◌≤◌, ◌∷◌, [], List, Option, Some, None, Bool, true, false, length, refl, ap, arith}
use Rattle.std.specs.Prelude.{nat_le, ◌&&◌, if◌then◌else◌, option_map}
use Rattle.std.specs.List.{list_all}
use Rattle.std.proofs.lemmas.Bool.Decides.{nat_tests}
use Rattle.tlp_core.specs.Ops.{Op}
use Rattle.tlp_core.specs.Operation.{address_of}
use Rattle.seq_memory.specs.Limits.{Extent}
use Rattle.op_pieces.specs.Pieces.{cut, dw_of, dw_to, front, back, is_served}
use Rattle.log_pieces.specs.Pieces.{count_if_served}

-- so many more, if there are some
abbrev pub more : ℕ → Option ℕ → Option ℕ
more n o = option_map (λ k. n + k) o

cut_fits : (b n : ℕ) (op : Op) → dw_of op ≤ dw_to b (address_of op) → cut b n op ≡ op ∷ []
unfolding cut
cut_fits b zero op l = refl
cut_fits b (suc n) op l =
    let fits : nat_le (dw_of op) (dw_to b (address_of op)) ≡ true = grind (arith, nat_tests) in
    rw fits refl

cut_more : (b n : ℕ) (op : Op) → dw_to b (address_of op) < dw_of op → cut b (suc n) op ≡ front (dw_to b (address_of op)) op ∷ cut b n (back (dw_to b (address_of op)) op)
unfolding cut
cut_more b n op l =
    let past : nat_le (dw_of op) (dw_to b (address_of op)) ≡ false = grind (arith, nat_tests) in
    rw past refl

alone : (b : Bool) → if◌then◌else◌ {A = Option ℕ} (b && true) (Some 1) None ≡ if◌then◌else◌ {A = Option ℕ} b (Some 1) None
alone true = refl
alone false = refl

one : (x : Extent) (op : Op) → count_if_served x (op ∷ []) ≡ (if is_served x op then Some 1 else None)
one x op = alone (is_served x op)

-- the last piece
pub last_counted : (x : Extent) (b n : ℕ) (op : Op) → dw_of op ≤ dw_to b (address_of op) → count_if_served x (cut b n op) ≡ (if is_served x op then Some 1 else None)
last_counted x b n op l = ap (count_if_served x) (cut_fits b n op l) ∙ one x op

pub end_counted : (x : Extent) (b : ℕ) (op : Op) → count_if_served x (cut b 0 op) ≡ (if is_served x op then Some 1 else None)
unfolding cut
end_counted x b op = one x op

-- one that is served, and those behind it
served_more : (b : Bool) (n : ℕ) → (if (true && b) then Some (suc n) else None) ≡ more 1 (if b then Some n else None)
served_more true n = ap Some (omega arith)
served_more false n = refl

pub next_counted : (x : Extent) (b n : ℕ) (op : Op) → dw_to b (address_of op) < dw_of op → is_served x (front (dw_to b (address_of op)) op) ≡ true
    → count_if_served x (cut b (suc n) op) ≡ more 1 (count_if_served x (cut b n (back (dw_to b (address_of op)) op)))
next_counted x b n op l served =
    let rest = cut b n (back (dw_to b (address_of op)) op) in
    ap (count_if_served x) (cut_more b n op l)
    ∙ ap (λ (t : Bool). if (t && list_all (is_served x) rest) then Some (suc (length rest)) else None) served
    ∙ served_more (list_all (is_served x) rest) (length rest)

-- one that isn't
pub none_counted : (x : Extent) (b n : ℕ) (op : Op) → dw_to b (address_of op) < dw_of op → is_served x (front (dw_to b (address_of op)) op) ≡ false
    → count_if_served x (cut b (suc n) op) ≡ None
none_counted x b n op l refused =
    let rest = cut b n (back (dw_to b (address_of op)) op) in
    ap (count_if_served x) (cut_more b n op l)
    ∙ ap (λ (t : Bool). if (t && list_all (is_served x) rest) then Some (suc (length rest)) else None) refused

pub more_zero : (o : Option ℕ) → more 0 o ≡ o
more_zero None = refl
more_zero (Some k) = ap Some (omega arith)

pub more_more : (n : ℕ) (o : Option ℕ) → more n (more 1 o) ≡ more (n + 1) o
more_more n None = refl
more_more n (Some k) = ap Some (omega arith)

pub more_if : (n : ℕ) (b : Bool) → more n (if b then Some 1 else None) ≡ (if b then Some (n + 1) else None)
more_if n true = refl
more_if n false = refl

-- the count, where the operation is served
pub counted : (b : Bool) (op : Op) (ops : List Op) (o : Option ℕ) (n : ℕ) → o ≡ (if b then Some (length ops) else None) → o ≡ Some n → n ≡ length (if b then ops else op ∷ [])
counted true op ops o n is some = let e : Some n ≡ Some (length ops) = cc in cc
counted false op ops o n is some = absurd (cc)

pub alone_counted : (b : Bool) (op : Op) (ops : List Op) (o : Option ℕ) → o ≡ (if b then Some (length ops) else None) → o ≡ None → 1 ≡ length (if b then ops else op ∷ [])
alone_counted true op ops o is none = absurd (cc)
alone_counted false op ops o is none = refl
