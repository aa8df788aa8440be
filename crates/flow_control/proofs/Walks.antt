-- Walks over a queue: what is takeable, the first place of a class, and what is lent of a class.
use Rattle.std.proofs.Common.{◌≡◌, ◌≢◌, ℕ, zero, suc, ◌+◌, ◌<◌, ◌≤◌, Bool, true, false, List, [], ◌∷◌, ◌++◌, length, take, drop, map, Option, Some, None, refl, sym, ◌∙◌, ap, arith}
use Rattle.std.specs.Prelude.{◌&&◌, nat_lt, slice_get, slice_index_or, remove}
use Rattle.std.specs.Option.{IsSome, option_map}
use Rattle.std.specs.Prelude.{MatchOption, is_some}
use Rattle.std.specs.Borrow.{Bor}
use Rattle.std.specs.Slice.{IsItemAt}
use Rattle.std.proofs.lemmas.Option.{slice_get-map}
use Rattle.std.proofs.lemmas.List.{map-append}
use Rattle.std.specs.List.{list_all}
use Rattle.std.proofs.lemmas.List.Folds.{list_all-map}
use Rattle.std.specs.List.{position_from}
use Rattle.std.proofs.lemmas.Bool.Decides.{nat_tests}
use Rattle.std.proofs.lemmas.List.{take_at, take_all, take-map, take-append-drop}
use Rattle.std.proofs.lemmas.Iterator.Adapters.{position_from-zero}
use Rattle.std.specs.List.{drop-map}
use Rattle.dllp_core.specs.declared.packet.Class.{Class}
use Rattle.dllp_core.specs.declared.packet.Class.TheVariants.{Posted, NonPosted, Completion}
use Rattle.tlp_core.specs.TlpView.{TlpView}
use Rattle.flow_control.specs.Needs.{class_of}
use Rattle.flow_control.specs.Credits.{same}
use Rattle.flow_control.specs.declared.classes.Arrived.{Arrived}
use Rattle.flow_control.specs.declared.classes.Classes.{Classes}
use Rattle.flow_control.specs.declared.classes.Cut.{Cut}
use Rattle.flow_control.specs.Ordering.{may_pass}
use Rattle.flow_control.specs.Queue.{Item, passes_each, first_passes, is_takeable, first_of}
use Rattle.flow_control.specs.Arrivals.{item_of, class_in, IsSplit, IsCut, IsRising, list_of, count_in, past, keep, of_class, first_class, Rises, smaller, numbered, AreItemsOf}
use Rattle.flow_control.proofs.Places.{drop_read, takeable_is_there, takeable_from, non_posted_is_passed, request_goes, nothing_passes_posted}
use Rattle.flow_control.proofs.Merged.{same_class, keep_mine, keep_other, of_list, of_cut, of_append, first_of_some, first_of_none, nothing_left, left, split_at, TellsFirst}
use Rattle.flow_control.proofs.Taken.{found_class, got_of_drop, got_lent}

-- ---- classes

empty : {X : Type 0} → (l : List X) → length l ≡ 0 → l ≡ []
empty [] e = refl
empty (x ∷ xs) e = absurd (omega arith)

none_mine : (c : Class) (x : Arrived) (xs : List Arrived) → class_in x ≡ c → of_class c (x ∷ xs) ≢ []
none_mine c x xs e n = let no : x ∷ of_class c xs ≡ [] = sym (keep_mine c x x (of_class c xs) e) ∙ n in cc

none_rest : (c d : Class) (x : Arrived) (xs : List Arrived) → class_in x ≡ c → same c d ≡ false → of_class d (x ∷ xs) ≡ [] → of_class d xs ≡ []
none_rest c d x xs e f n = sym (keep_other c d x x (of_class d xs) e f) ∙ n

-- ---- what is takeable

-- where no posted request stands before, completions alone are to be passed
completions_before : (t : TlpView) (before : List Arrived) → of_class Posted before ≡ [] →
    passes_each t (map item_of before) ≡ passes_each t (map item_of (of_class Completion before))
completions_before t [] n = refl
completions_before t (x ∷ xs) n = by_case (completions_before t xs) (class_in x) refl
  where
    by_case : (of_class Posted xs ≡ [] → passes_each t (map item_of xs) ≡ passes_each t (map item_of (of_class Completion xs))) → (c : Class) → class_in x ≡ c → passes_each t (map item_of (x ∷ xs)) ≡ passes_each t (map item_of (of_class Completion (x ∷ xs)))
    by_case rest Posted e = absurd (none_mine Posted x xs e n)
    by_case rest NonPosted e =
        ap (λ (b : Bool). b && passes_each t (map item_of xs)) (non_posted_is_passed t x.tlp e) ∙
        (rest (none_rest NonPosted Posted x xs e refl n) ∙
        sym (ap (λ (l : List Arrived). passes_each t (map item_of l)) (keep_other NonPosted Completion x x (of_class Completion xs) e refl)))
    by_case rest Completion e =
        ap (λ (b : Bool). may_pass t x.tlp && b) (rest (none_rest Completion Posted x xs e refl n)) ∙
        sym (ap (λ (l : List Arrived). passes_each t (map item_of l)) (keep_mine Completion x x (of_class Completion xs) e))

-- and a request passes them all
requests_before : (t : TlpView) (before : List Arrived) → class_of t.kind ≢ Completion → of_class Posted before ≡ [] → passes_each t (map item_of before) ≡ true
requests_before t [] m n = refl
requests_before t (x ∷ xs) m n = by_case (requests_before t xs m) (class_in x) refl
  where
    by_case : (of_class Posted xs ≡ [] → passes_each t (map item_of xs) ≡ true) → (c : Class) → class_in x ≡ c → passes_each t (map item_of (x ∷ xs)) ≡ true
    by_case rest Posted e = absurd (none_mine Posted x xs e n)
    by_case rest NonPosted e =
        ap (λ (b : Bool). b && passes_each t (map item_of xs)) (request_goes t x.tlp m (λ p. let no : NonPosted ≡ Posted = sym e ∙ p in cc)) ∙
        rest (none_rest NonPosted Posted x xs e refl n)
    by_case rest Completion e =
        ap (λ (b : Bool). b && passes_each t (map item_of xs)) (request_goes t x.tlp m (λ p. let no : Completion ≡ Posted = sym e ∙ p in cc)) ∙
        rest (none_rest Completion Posted x xs e refl n)

-- what is at the place of a list of items, read in the arrived
read_at : (n : ℕ) (m : List Arrived) (x : Arrived) (ys : List Arrived) → drop n m ≡ x ∷ ys → is_takeable (map item_of m) n ≡ passes_each x.tlp (map item_of (take n m))
read_at n m x ys e =
    takeable_from (map item_of m) n (item_of x) (map item_of ys) (drop-map item_of n m ∙ ap (map item_of) e) ∙
    ap (passes_each x.tlp) (take-map item_of n m)

none_posted : (n : ℕ) (m : List Arrived) (cut : Cut) → IsCut (take n m) cut → cut.posted ≡ 0 → of_class Posted (take n m) ≡ []
none_posted n m cut k z = empty (of_class Posted (take n m)) (sym k.is_posted ∙ z)

-- the class of the first item behind a cut
pub first_behind : (n : ℕ) (m : List Arrived) (q : Classes) (cut : Cut) (found : Option Class) (c : Class) → IsSplit m q → IsCut (take n m) cut → TellsFirst q cut found → found ≡ Some c →
    first_class (drop n m) ≡ Some c
first_behind n m q cut found c s k f e = sym (f (take n m) (drop n m) (split_at n m q s) k) ∙ e

pub takeable_request : (n : ℕ) (m : List Arrived) (cut : Cut) (c : Class) → IsCut (take n m) cut → cut.posted ≡ 0 → first_class (drop n m) ≡ Some c → c ≢ Completion →
    is_takeable (map item_of m) n ≡ true
takeable_request n m cut c k z e d =
    let first = first_of_some (drop n m) c e in
    read_at n m first.0 first.1 first.2 ∙
    requests_before first.0.tlp (take n m) (λ p. d (sym first.3 ∙ p)) (none_posted n m cut k z)

-- an item and those before it in one queue
pub read_before : (n : ℕ) (list : List Arrived) (x : Arrived) → n < length list → x ≡ slice_index_or list n x →
    list_all (λ (e : Arrived). may_pass x.tlp e.tlp) (take n list) ≡ is_takeable (map item_of list) n
read_before n list x h e =
    sym (list_all-map (λ (other : Item). may_pass x.tlp other.0) item_of (take n list)) ∙
    sym (read_at n list x (drop (suc n) list) (drop_read list n x h e))

taken_of : (c : Class) (n j : ℕ) (m list : List Arrived) → list ≡ of_class c m → j ≡ length (of_class c (take n m)) → take j list ≡ of_class c (take n m)
taken_of c n j m list e f =
    ap (take j) (e ∙ (ap (of_class c) (sym (take-append-drop n m)) ∙ of_append c (take n m) (drop n m))) ∙
    take_at (of_class c (take n m)) (of_class c (drop n m)) j (sym f)

left_of : (c : Class) (n j : ℕ) (m list : List Arrived) → list ≡ of_class c m → j ≡ length (of_class c (take n m)) → drop j list ≡ of_class c (drop n m)
left_of c n j m list e f = left c (take n m) (drop n m) j list (e ∙ ap (of_class c) (sym (take-append-drop n m))) f

pub takeable_completion : (n : ℕ) (m : List Arrived) (q : Classes) (cut : Cut) → IsSplit m q → IsCut (take n m) cut → cut.posted ≡ 0 → first_class (drop n m) ≡ Some Completion →
    is_takeable (map item_of q.completion.items) cut.completion ≡ is_takeable (map item_of m) n
takeable_completion n m q cut s k z e =
    let first = first_of_some (drop n m) Completion e in
    let behind : drop cut.completion q.completion.items ≡ first.0 ∷ of_class Completion first.1 =
    left_of Completion n cut.completion m q.completion.items s.parts.is_completion k.is_completion ∙
    (ap (of_class Completion) first.2 ∙ keep_mine Completion first.0 first.0 (of_class Completion first.1) first.3) in
    read_at cut.completion q.completion.items first.0 (of_class Completion first.1) behind ∙
    (ap (λ (l : List Arrived). passes_each first.0.tlp (map item_of l)) (taken_of Completion n cut.completion m q.completion.items s.parts.is_completion k.is_completion) ∙
    (sym (completions_before first.0.tlp (take n m) (none_posted n m cut k z)) ∙ sym (read_at n m first.0 first.1 first.2)))

drop_past : {X : Type 0} → (l : List X) (n : ℕ) → length l ≤ n → drop n l ≡ []
drop_past [] zero h = refl
drop_past [] (suc n) h = refl
drop_past (x ∷ xs) zero h = absurd (omega arith)
drop_past (x ∷ xs) (suc n) h = drop_past xs n (omega arith)

pub none_left : (n : ℕ) (m : List Arrived) (q : Classes) (cut : Cut) (found : Option Class) → IsSplit m q → IsCut (take n m) cut → TellsFirst q cut found → found ≡ None → length m ≤ n
none_left n m q cut found s k f e = nothing_left n m (first_of_none (drop n m) (sym (f (take n m) (drop n m) (split_at n m q s) k) ∙ e))

pub past_the_end : (n place : ℕ) (m : List Arrived) (q : Classes) (cut : Cut) (found : Option Class) → n ≤ place → IsSplit m q → IsCut (take n m) cut → TellsFirst q cut found → found ≡ None →
    is_takeable (map item_of m) place ≡ false
past_the_end n place m q cut found h s k f e =
    let short = none_left n m q cut found s k f e in
    ap (first_passes (take place (map item_of m))) (drop-map item_of place m ∙ ap (map item_of) (drop_past m place (omega arith)))

pub behind_posted : (n place : ℕ) (m : List Arrived) (q : Classes) (cut : Cut) (found : Option Class) → n < place → IsSplit m q → IsCut (take n m) cut → TellsFirst q cut found → found ≡ Some Posted →
    is_takeable (map item_of m) place ≡ false
behind_posted n place m q cut found h s k f e = by_case (is_takeable (map item_of m) place) refl
  where
    by_case : (b : Bool) → is_takeable (map item_of m) place ≡ b → is_takeable (map item_of m) place ≡ false
    by_case false t = t
    by_case true t =
        let first = found_class m n q cut found Posted s k f e in
        absurd (nothing_passes_posted (map item_of m) place n (item_of first.0) t h
        (got_of_drop (map item_of m) n (item_of first.0) (map item_of first.1) (drop-map item_of n m ∙ ap (map item_of) first.2)) first.3)

pub past_free : (c : Class) (cut next : Cut) → c ≢ Posted → next ≡ past c cut → cut.posted ≡ 0 → next.posted ≡ 0
past_free Posted cut next n e z = absurd (n refl)
past_free NonPosted cut next n e z = rw e z
past_free Completion cut next n e z = rw e z

-- ---- the first place of a class

from_none : (c : Class) (i : ℕ) (m : List Arrived) → of_class c m ≡ [] → position_from (λ (item : Item). same (class_of item.0.kind) c) i (map item_of m) ≡ None
from_none c i [] n = refl
from_none c i (x ∷ xs) n = by_case (from_none c (i + 1) xs) (same (class_in x) c) refl
  where
    by_case : (of_class c xs ≡ [] → position_from (λ (item : Item). same (class_of item.0.kind) c) (i + 1) (map item_of xs) ≡ None) → (b : Bool) → same (class_in x) c ≡ b → position_from (λ (item : Item). same (class_of item.0.kind) c) i (map item_of (x ∷ xs)) ≡ None
    by_case rest true e = let no : x ∷ of_class c xs ≡ [] = rw e at n in absurd (cc)
    by_case rest false e = let none : of_class c xs ≡ [] = rw e at n in rw e (rest none)

from_some : (c : Class) (i : ℕ) (before : List Arrived) (x : Arrived) (behind : List Arrived) → of_class c before ≡ [] → class_in x ≡ c →
    position_from (λ (item : Item). same (class_of item.0.kind) c) i (map item_of (before ++ x ∷ behind)) ≡ Some (i + length before)
from_some c i [] x behind n e = rw (e, same_class c) (ap (λ (j : ℕ). Some j) (omega arith))
from_some c i (y ∷ ys) x behind n e = by_case (λ h. from_some c (i + 1) ys x behind h e) (same (class_in y) c) refl
  where
    by_case : (of_class c ys ≡ [] → position_from (λ (item : Item). same (class_of item.0.kind) c) (i + 1) (map item_of (ys ++ x ∷ behind)) ≡ Some (i + 1 + length ys)) → (b : Bool) → same (class_in y) c ≡ b →
        position_from (λ (item : Item). same (class_of item.0.kind) c) i (map item_of (y ∷ ys ++ x ∷ behind)) ≡ Some (i + length (y ∷ ys))
    by_case rest true f = let no : y ∷ of_class c ys ≡ [] = rw f at n in absurd (cc)
    by_case rest false f =
        let none : of_class c ys ≡ [] = rw f at n in
        rw f (rest none ∙ ap (λ (j : ℕ). Some j) (omega arith))

pub first_none : (c : Class) (m : List Arrived) → of_class c m ≡ [] → first_of (map item_of m) c ≡ None
first_none c m n = position_from-zero (λ (item : Item). same (class_of item.0.kind) c) (map item_of m) ∙ from_none c 0 m n

taken_length : (n : ℕ) (m : List Arrived) (x : Arrived) (ys : List Arrived) → drop n m ≡ x ∷ ys → length (take n m) ≡ n
taken_length zero m x ys e = refl
taken_length (suc n) [] x ys e = cc
taken_length (suc n) (z ∷ zs) x ys e = let rest = taken_length n zs x ys e in omega arith

pub first_is : (c : Class) (n : ℕ) (m : List Arrived) (q : Classes) (cut : Cut) (found : Option Class) → IsSplit m q → IsCut (take n m) cut → count_in c cut ≡ 0 →
    TellsFirst q cut found → found ≡ Some c → first_of (map item_of m) c ≡ Some n
first_is c n m q cut found s k z f e =
    let first = found_class m n q cut found c s k f e in
    position_from-zero (λ (item : Item). same (class_of item.0.kind) c) (map item_of m) ∙
    (ap (λ (l : List Arrived). position_from (λ (item : Item). same (class_of item.0.kind) c) 0 (map item_of l)) (sym (take-append-drop n m) ∙ ap (λ (l : List Arrived). take n m ++ l) first.2) ∙
    (from_some c 0 (take n m) first.0 first.1 (empty (of_class c (take n m)) (sym (of_cut c (take n m) cut k) ∙ z)) first.3 ∙
    ap (λ (j : ℕ). Some j) (let all = taken_length n m first.0 first.1 first.2 in omega arith)))

pub first_at_end : (c : Class) (n : ℕ) (m : List Arrived) (cut : Cut) → IsCut (take n m) cut → count_in c cut ≡ 0 → length m ≤ n → first_of (map item_of m) c ≡ None
first_at_end c n m cut k z h =
    first_none c m (ap (of_class c) (sym (take_all n m h)) ∙ empty (of_class c (take n m)) (sym (of_cut c (take n m) cut k) ∙ z))

pub first_of_empty : (c : Class) (m : List Arrived) (q : Classes) → IsSplit m q → length (list_of c q) ≡ 0 → first_of (map item_of m) c ≡ None
first_of_empty c m q s z = first_none c m (sym (of_list c m q s) ∙ empty (list_of c q) z)

pub past_other : (c d : Class) (cut next : Cut) → c ≢ d → next ≡ past c cut → count_in d cut ≡ 0 → count_in d next ≡ 0
past_other Posted Posted cut next n e z = absurd (n refl)
past_other Posted NonPosted cut next n e z = rw e z
past_other Posted Completion cut next n e z = rw e z
past_other NonPosted Posted cut next n e z = rw e z
past_other NonPosted NonPosted cut next n e z = absurd (n refl)
past_other NonPosted Completion cut next n e z = rw e z
past_other Completion Posted cut next n e z = rw e z
past_other Completion NonPosted cut next n e z = rw e z
past_other Completion Completion cut next n e z = absurd (n refl)

-- ---- what is lent of a class

abbrev numbers_of : List Arrived → List ℕ
numbers_of [] = []
numbers_of (x ∷ xs) = x.arrival ∷ numbers_of xs

numbers_length : (m : List Arrived) → length (numbers_of m) ≡ length (map item_of m)
numbers_length [] = refl
numbers_length (x ∷ xs) = let rest = numbers_length xs in omega arith

numbers_rise : (low high : ℕ) (m : List Arrived) → IsRising low high m → Rises low (numbers_of m)
numbers_rise low high [] r = tt
numbers_rise low high (x ∷ xs) r = (r.0, numbers_rise (x.arrival + 1) high xs r.1)

numbered_is : (c : Class) (m : List Arrived) → numbered c (numbers_of m) (map item_of m) ≡ of_class c m
numbered_is c [] = refl
numbered_is c (x ∷ xs) = ap (keep (same (class_in x) c) x) (numbered_is c xs)

none_smaller : (n low : ℕ) (ns : List ℕ) → n ≤ low → Rises low ns → smaller n ns ≡ 0
none_smaller n low [] h r = refl
none_smaller n low (k ∷ ks) h r =
    let first : low ≤ k = r.0 in
    let no : nat_lt k n ≡ false = not_less k n (omega arith) in
    rw no (none_smaller n (k + 1) ks (omega arith) r.1)
  where
    not_less : (a b : ℕ) → b ≤ a → nat_lt a b ≡ false
    not_less a b l = grind (arith, nat_tests)

rises_to : (low : ℕ) (ns : List ℕ) (place n : ℕ) → Rises low ns → slice_get ns place ≡ Some n → low ≤ n
rises_to low [] place n r e = cc
rises_to low (k ∷ ks) zero n r e = let same : k ≡ n = cc in let first : low ≤ k = r.0 in omega arith
rises_to low (k ∷ ks) (suc place) n r e =
    let first : low ≤ k = r.0 in
    let rest : k + 1 ≤ n = rises_to (k + 1) ks place n r.1 e in
    omega arith

is_place : (low : ℕ) (ns : List ℕ) (place n : ℕ) → Rises low ns → slice_get ns place ≡ Some n → smaller n ns ≡ place
is_place low [] place n r e = cc
is_place low (k ∷ ks) zero n r e =
    let same : k ≡ n = cc in
    let no : nat_lt k n ≡ false = not_less k n (omega arith) in
    rw no (none_smaller n (k + 1) ks (omega arith) r.1)
  where
    not_less : (a b : ℕ) → b ≤ a → nat_lt a b ≡ false
    not_less a b l = grind (arith, nat_tests)
is_place low (k ∷ ks) (suc place) n r e =
    let more : k + 1 ≤ n = rises_to (k + 1) ks place n r.1 e in
    let yes : nat_lt k n ≡ true = less k n (omega arith) in
    let rest : smaller n ks ≡ place = is_place (k + 1) ks place n r.1 e in
    rw yes (omega arith)
  where
    less : (a b : ℕ) → a < b → nat_lt a b ≡ true
    less a b l = grind (arith, nat_tests)

pub are_items : (c : Class) (m : List Arrived) (q : Classes) → IsSplit m q → AreItemsOf (map item_of m) c (list_of c q)
are_items c m q s =
    record {
      arrivals = numbers_of m;
      rise = numbers_rise 0 q.next m s.rises;
      each = numbers_length m;
      is_place = λ place arrival e. is_place 0 (numbers_of m) place arrival (numbers_rise 0 q.next m s.rises) e;
      lends = of_list c m q s ∙ sym (numbered_is c m);
    }

-- ---- classes that are the same

pub same_is : (c d : Class) → same c d ≡ true → c ≡ d
same_is Posted Posted e = refl
same_is Posted NonPosted e = cc
same_is Posted Completion e = cc
same_is NonPosted Posted e = cc
same_is NonPosted NonPosted e = refl
same_is NonPosted Completion e = cc
same_is Completion Posted e = cc
same_is Completion NonPosted e = cc
same_is Completion Completion e = refl

pub differs : (c d : Class) → same c d ≡ false → c ≢ d
differs c d e p = let yes : same c d ≡ true = ap (same c) (sym p) ∙ same_class c in let no : true ≡ false = sym yes ∙ e in cc

-- ---- what a take leaves of the value

pub removed_items : (m : List Arrived) (n : ℕ) → map item_of (remove m n) ≡ remove (map item_of m) n
removed_items m n =
    map-append item_of (take n m) (drop (suc n) m) ∙
    (ap (λ (l : List Item). l ++ map item_of (drop (suc n) m)) (sym (take-map item_of n m)) ∙
    ap (λ (l : List Item). take n (map item_of m) ++ l) (sym (drop-map item_of (suc n) m)))

-- what is takeable is there
pub is_there : (q : List Item) (n : ℕ) (got : Option Item) → is_takeable q n ≡ true → got ≡ slice_get q n → IsSome got
is_there q n (Some x) t e = refl
is_there q n None t e =
    let there = takeable_is_there q n t in
    let no : None ≡ Some there.0 = e ∙ there.1 in
    absurd (cc)

-- what may be taken is lent
pub may_be_taken : (m : List Arrived) (n : ℕ) (got : Option (Bor Arrived)) → is_takeable (map item_of m) n ≡ true → MatchOption got (slice_get m n ≡ None) (λ y. slice_get m n ≡ Some y.now) →
    MatchOption got (is_takeable (map item_of m) n ≡ false) (λ y. (is_takeable (map item_of m) n ≡ true) × (slice_get m n ≡ Some y.now))
may_be_taken m n (Some y) t h = (t, h)
may_be_taken m n None t h =
    let there = takeable_is_there (map item_of m) n t in
    let none : slice_get (map item_of m) n ≡ None = slice_get-map item_of m n ∙ ap (option_map item_of) h in
    let no : None ≡ Some there.0 = sym none ∙ there.1 in
    absurd (cc)

pub is_some_if : {X : Type 0} (P : X → Type 0) (got : Option X) (b : Bool) → MatchOption got (b ≡ false) (λ x. (b ≡ true) × P x) → is_some got ≡ b
is_some_if P (Some x) b h = sym h.0
is_some_if P None b h = sym h

-- the oldest may be taken, and is lent
pub first_lent : (m : List Arrived) (q : Classes) (c : Class) (got : Option (Bor Arrived)) → IsSplit m q → first_class m ≡ Some c → IsItemAt (list_of c q) 0 got →
    MatchOption got (is_takeable (map item_of m) 0 ≡ false) (λ y. (is_takeable (map item_of m) 0 ≡ true) × (slice_get m 0 ≡ Some y.now))
first_lent m q c got s e i =
    let first = first_of_some m c e in
    let list : list_of c q ≡ first.0 ∷ of_class c first.1 =
    of_list c m q s ∙ (ap (of_class c) first.2 ∙ keep_mine c first.0 first.0 (of_class c first.1) first.3) in
    let may : is_takeable (map item_of m) 0 ≡ true = ap (λ (l : List Arrived). is_takeable (map item_of l) 0) first.2 in
    may_be_taken m 0 got may
    (got_lent (list_of c q) 0 first.0 m 0 got i (ap (λ (l : List Arrived). slice_get l 0) list) (ap (λ (l : List Arrived). slice_get l 0) first.2))

pub no_first_lent : (m : List Arrived) → first_class m ≡ None → is_takeable (map item_of m) 0 ≡ false
no_first_lent m e = ap (λ (l : List Arrived). is_takeable (map item_of l) 0) (first_of_none m e)
