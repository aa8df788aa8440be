-- What stands at a place, and what is left without it.
use Rattle.std.proofs.Common.{◌≡◌, ℕ, zero, suc, ◌≤◌, List, [], ◌∷◌, ◌++◌, length, take, drop, Option, Some, None, refl, sym, ◌∙◌, ap, subst, arith}
use Rattle.std.specs.Prelude.{slice_get, remove, map}
use Rattle.std.specs.Option.{option_map}
use Rattle.std.proofs.lemmas.List.{append-nil, take_all, take-append-drop}
use Rattle.std.specs.Prelude.{MatchOption}
use Rattle.std.specs.Borrow.{Bor}
use Rattle.std.specs.Slice.{IsItemAt}
use Rattle.std.proofs.lemmas.Option.{slice_get_within, slice_get-map, get_or_from_slice_get}
use Rattle.dllp_core.specs.declared.packet.Class.{Class}
use Rattle.dllp_core.specs.declared.packet.Class.TheVariants.{Posted, NonPosted, Completion}
use Rattle.flow_control.specs.declared.classes.Arrived.{Arrived}
use Rattle.flow_control.specs.declared.classes.Classes.{Classes}
use Rattle.flow_control.specs.declared.classes.Cut.{Cut}
use Rattle.flow_control.specs.Arrivals.{item_of, class_in, IsSplit, list_of, count_in, HasInstead, IsCut, of_class, first_class}
use Rattle.flow_control.proofs.Merged.{same_class, keep_mine, first_of_some, first_of_none, nothing_left, left, split_at, of_list, of_cut, TellsFirst, split_take}

-- ---- a walk from before an item

pub found_class : (m : List Arrived) (n : ℕ) (q : Classes) (cut : Cut) (found : Option Class) (c : Class) → IsSplit m q → IsCut (take n m) cut → TellsFirst q cut found → found ≡ Some c →
    (x : Arrived) × (ys : List Arrived) × (drop n m ≡ x ∷ ys) × (class_in x ≡ c)
found_class m n q cut found c s k f e = first_of_some (drop n m) c (sym (f (take n m) (drop n m) (split_at n m q s) k) ∙ e)

with_parts : (m : List Arrived) (n : ℕ) (x : Arrived) (ys : List Arrived) → drop n m ≡ x ∷ ys → m ≡ take n m ++ x ∷ ys
with_parts m n x ys e = sym (take-append-drop n m) ∙ ap (λ (l : List Arrived). take n m ++ l) e

remove_parts : (m : List Arrived) (n : ℕ) (x : Arrived) (ys : List Arrived) → drop n m ≡ x ∷ ys → remove m n ≡ take n m ++ ys
remove_parts m n x ys e = ap (λ (l : List Arrived). take n m ++ l) (behind m n e)
  where
    behind : (l : List Arrived) (k : ℕ) → drop k l ≡ x ∷ ys → drop (suc k) l ≡ ys
    behind [] zero f = cc
    behind [] (suc k) f = cc
    behind (z ∷ zs) zero f = cc
    behind (z ∷ zs) (suc k) f = behind zs k f

pub got_of_drop : {X : Type 0} → (xs : List X) (n : ℕ) (x : X) (ys : List X) → drop n xs ≡ x ∷ ys → slice_get xs n ≡ Some x
got_of_drop [] zero x ys e = cc
got_of_drop [] (suc n) x ys e = cc
got_of_drop (z ∷ zs) zero x ys e = cc
got_of_drop (z ∷ zs) (suc n) x ys e = got_of_drop zs n x ys e

-- the item of the class behind the cut is that of the place
item_left : (c : Class) (n : ℕ) (m : List Arrived) (x : Arrived) (ys : List Arrived) (k : ℕ) (list : List Arrived) → drop n m ≡ x ∷ ys → class_in x ≡ c →
    list ≡ of_class c m → k ≡ length (of_class c (take n m)) → slice_get list k ≡ Some x
item_left c n m x ys k list e f g h =
    got_of_drop list k x (of_class c ys)
    (left c (take n m) (x ∷ ys) k list (g ∙ ap (of_class c) (with_parts m n x ys e)) h ∙ rw (f, same_class c) refl)

pub item_of_class : (c : Class) (n : ℕ) (m : List Arrived) (x : Arrived) (ys : List Arrived) (cut : Cut) (q : Classes) → drop n m ≡ x ∷ ys → class_in x ≡ c →
    IsSplit m q → IsCut (take n m) cut → slice_get (list_of c q) (count_in c cut) ≡ Some x
item_of_class c n m x ys cut q e f s k = item_left c n m x ys (count_in c cut) (list_of c q) e f (of_list c m q s) (of_cut c (take n m) cut k)

-- what is taken is the item of the place, and what is left is without it
pub taken_item : (m : List Arrived) (n : ℕ) (q : Classes) (cut : Cut) (found : Option Class) (c : Class) → IsSplit m q → IsCut (take n m) cut → TellsFirst q cut found →
    found ≡ Some c → option_map item_of (slice_get (list_of c q) (count_in c cut)) ≡ slice_get (map item_of m) n
taken_item m n q cut found c s k f e =
    let first = found_class m n q cut found c s k f e in
    ap (option_map item_of) (item_of_class c n m first.0 first.1 cut q first.2 first.3 s k ∙ sym (got_of_drop m n first.0 first.1 first.2)) ∙ sym (slice_get-map item_of m n)

pub taken_at : (m : List Arrived) (n : ℕ) (old new : Classes) (cut : Cut) (found : Option Class) (c : Class) → IsSplit m old → IsCut (take n m) cut → TellsFirst old cut found →
    found ≡ Some c → HasInstead c (remove (list_of c old) (count_in c cut)) old new → new.next ≡ old.next → IsSplit (remove m n) new
taken_at m n old new cut found c s k f e t p =
    let first = found_class m n old cut found c s k f e in
    let parts : IsSplit (take n m ++ first.0 ∷ first.1) old = subst (λ (l : List Arrived). IsSplit l old) (with_parts m n first.0 first.1 first.2) s in
    subst (λ (l : List Arrived). IsSplit l new) (sym (remove_parts m n first.0 first.1 first.2))
    (split_take c (take n m) first.0 first.1 cut old new first.3 k t parts p)

pub none_at : (m : List Arrived) (n : ℕ) (q : Classes) (cut : Cut) (found : Option Class) → IsSplit m q → IsCut (take n m) cut → TellsFirst q cut found → found ≡ None →
    (slice_get m n ≡ None) × (slice_get (map item_of m) n ≡ None) × (remove m n ≡ m)
none_at m n q cut found s k f e =
    let none : drop n m ≡ [] = first_of_none (drop n m) (sym (f (take n m) (drop n m) (split_at n m q s) k) ∙ e) in
    let short : length m ≤ n = nothing_left n m none in
    (past_end m n short, slice_get-map item_of m n ∙ ap (option_map item_of) (past_end m n short), ap (λ (l : List Arrived). l ++ drop (suc n) m) (take_all n m short) ∙ (ap (λ (l : List Arrived). m ++ l) (no_more m n short) ∙ append-nil m))
  where
    past_end : (l : List Arrived) (j : ℕ) → length l ≤ j → slice_get l j ≡ None
    past_end [] j h = refl
    past_end (z ∷ zs) zero h = absurd (omega arith)
    past_end (z ∷ zs) (suc j) h = past_end zs j (omega arith)

    no_more : (l : List Arrived) (j : ℕ) → length l ≤ j → drop (suc j) l ≡ []
    no_more [] j h = refl
    no_more (z ∷ zs) zero h = absurd (omega arith)
    no_more (z ∷ zs) (suc j) h = no_more zs j (omega arith)

-- ---- the oldest

pub first_item : (m : List Arrived) (q : Classes) (c : Class) → IsSplit m q → first_class m ≡ Some c → option_map item_of (slice_get (list_of c q) 0) ≡ slice_get (map item_of m) 0
first_item m q c s e =
    let first = first_of_some m c e in
    let list : list_of c q ≡ first.0 ∷ of_class c first.1 =
    of_list c m q s ∙ (ap (of_class c) first.2 ∙ keep_mine c first.0 first.0 (of_class c first.1) first.3) in
    ap (λ (l : List Arrived). option_map item_of (slice_get l 0)) list ∙ sym (ap (λ (l : List Arrived). slice_get (map item_of l) 0) first.2)

abbrev start : Cut
start = record { posted = 0; non_posted = 0; completion = 0 }

start_count : (c : Class) → count_in c start ≡ 0
start_count Posted = refl
start_count NonPosted = refl
start_count Completion = refl

pub first_taken : (m : List Arrived) (old new : Classes) (c : Class) → IsSplit m old → first_class m ≡ Some c → HasInstead c (remove (list_of c old) 0) old new → new.next ≡ old.next →
    IsSplit (remove m 0) new
first_taken m old new c s e h n =
    let first = first_of_some m c e in
    let parts : IsSplit (first.0 ∷ first.1) old = subst (λ (l : List Arrived). IsSplit l old) first.2 s in
    let left : HasInstead c (remove (list_of c old) (count_in c start)) old new = rw (start_count c) h in
    subst (λ (l : List Arrived). IsSplit l new) (sym (ap (λ (l : List Arrived). remove l 0) first.2))
    (split_take c [] first.0 first.1 start old new first.3 (record { is_posted = refl; is_non_posted = refl; is_completion = refl }) left parts n)

pub no_first : (m : List Arrived) → first_class m ≡ None → (slice_get (map item_of m) 0 ≡ None) × (remove m 0 ≡ m)
no_first m e =
    let none = first_of_none m e in
    (ap (λ (l : List Arrived). slice_get (map item_of l) 0) none, ap (λ (l : List Arrived). remove l 0) none ∙ sym none)

-- ---- `get` of the class's queue

pub got_lent : (list : List Arrived) (k : ℕ) (x : Arrived) (m : List Arrived) (n : ℕ) (got : Option (Bor Arrived)) → IsItemAt list k got → slice_get list k ≡ Some x → slice_get m n ≡ Some x →
    MatchOption got (slice_get m n ≡ None) (λ y. slice_get m n ≡ Some y.now)
got_lent list k x m n (Some y) i e f = f ∙ ap (λ (z : Arrived). Some z) (sym (i.1 ∙ get_or_from_slice_get list k x y.now e))
got_lent list k x m n None i e f = let no = i.2 (slice_get_within list k x e) in cc

-- what is lent is the item of the place
pub lent_at : (m : List Arrived) (n : ℕ) (q : Classes) (cut : Cut) (found : Option Class) (c : Class) (got : Option (Bor Arrived)) → IsSplit m q → IsCut (take n m) cut → TellsFirst q cut found →
    found ≡ Some c → IsItemAt (list_of c q) (count_in c cut) got → MatchOption got (slice_get m n ≡ None) (λ y. slice_get m n ≡ Some y.now)
lent_at m n q cut found c got s k f e i =
    let first = found_class m n q cut found c s k f e in
    got_lent (list_of c q) (count_in c cut) first.0 m n got i (item_of_class c n m first.0 first.1 cut q first.2 first.3 s k) (got_of_drop m n first.0 first.1 first.2)
