-- Numbering anew, and a push.
use Rattle.std.proofs.Common.{◌≡◌, ℕ, zero, suc, ◌+◌, ◌^◌, ◌<◌, ◌≤◌, false, List, [], ◌∷◌, ◌++◌, length, take, drop, map, Option, Some, None, refl, sym, ◌∙◌, ap, subst, arith}
use Rattle.std.proofs.lemmas.List.{append_assoc, append-nil, length-append, drop_at, take_at, length-map, map-append}
use Rattle.std.specs.Prelude.{slice_index_or, slice_set, OnOk, OnErr}
use Rattle.std.proofs.Common.{Result, Ok, Err}
use Rattle.dllp_core.specs.declared.packet.Class.{Class}
use Rattle.dllp_core.specs.declared.packet.Class.TheVariants.{Posted, NonPosted, Completion}
use Rattle.flow_control.specs.Credits.{same}
use Rattle.flow_control.specs.declared.classes.Arrived.{Arrived}
use Rattle.flow_control.specs.declared.classes.Classes.{Classes}
use Rattle.flow_control.specs.declared.classes.Cut.{Cut}
use Rattle.flow_control.specs.Queue.{Item}
use Rattle.flow_control.specs.Arrivals.{item_of, class_in, IsSplit, IsSound, IsAnew, in_order, items_of, list_of, count_in, HasInstead, past, IsCut, IsRising, of_class, renumbered}
use Rattle.flow_control.proofs.Merged.{keep_mine, keep_other, parts_instead, of_list, of_cut, parted, first_of_some, first_of_none, cut_one, rising_join, rising_lower, rising_before, rising_behind, rising_length, rising_push, merged_is, is_sound, TellsFirst}

abbrev other_number : Arrived → ℕ → Arrived
other_number x n = record { arrival = n; tlp = x.tlp; mark = x.mark }

own : (c : Class) (before : List Arrived) (x : Arrived) (behind : List Arrived) (k n : ℕ) (list : List Arrived) → class_in x ≡ c → k ≡ length (of_class c before) →
    list ≡ of_class c (before ++ x ∷ behind) → take k list ++ renumbered n (drop k list) ≡ of_class c (before ++ other_number x n ∷ behind)
own c before x behind k n list e h f =
    let parts : list ≡ of_class c before ++ x ∷ of_class c behind =
    f ∙ (parted c before x behind ∙ ap (λ (l : List Arrived). of_class c before ++ l) (keep_mine c x x (of_class c behind) e)) in
    let made : of_class c (before ++ other_number x n ∷ behind) ≡ of_class c before ++ other_number x n ∷ of_class c behind =
    parted c before (other_number x n) behind ∙ ap (λ (l : List Arrived). of_class c before ++ l) (keep_mine c x (other_number x n) (of_class c behind) e) in
    ap (λ (l : List Arrived). take k l ++ renumbered n (drop k l)) parts ∙
    (rw (take_at (of_class c before) (x ∷ of_class c behind) k (sym h), drop_at (of_class c before) (x ∷ of_class c behind) k (sym h)) refl ∙ sym made)

rest_of : (c d : Class) (before : List Arrived) (x : Arrived) (behind : List Arrived) (n : ℕ) → class_in x ≡ c → same c d ≡ false →
    of_class d (before ++ other_number x n ∷ behind) ≡ of_class d (before ++ x ∷ behind)
rest_of c d before x behind n e m =
    parted d before (other_number x n) behind ∙ (ap (λ (l : List Arrived). of_class d before ++ l) (keep_other c d x (other_number x n) (of_class d behind) e m) ∙
    sym (parted d before x behind ∙ ap (λ (l : List Arrived). of_class d before ++ l) (keep_other c d x x (of_class d behind) e m)))

-- the queue of the class has another number behind the cut, and the others stay
abbrev pub IsNumbered : Class → Cut → ℕ → Classes → Classes → Type 0
IsNumbered c cut n old new = HasInstead c (take (count_in c cut) (list_of c old) ++ renumbered n (drop (count_in c cut) (list_of c old))) old new

split_number : (c : Class) (before : List Arrived) (x : Arrived) (behind : List Arrived) (cut : Cut) (n : ℕ) (old new : Classes) → class_in x ≡ c → IsCut before cut → IsNumbered c cut n old new →
    IsSplit (before ++ x ∷ behind) old → IsRising 0 n before → n ≤ x.arrival → new.next ≡ old.next → IsSplit (before ++ other_number x n ∷ behind) new
split_number c before x behind cut n old new e k t s r h p =
    let higher : IsRising (n + 1) old.next behind = rising_lower (n + 1) (x.arrival + 1) old.next behind (omega arith) (rising_behind 0 old.next before x behind s.rises) in
    let low : n ≤ n = omega arith in
    record {
      rises = rw p (rising_join 0 n old.next before (other_number x n ∷ behind) r (low, higher));
      fits = rw p s.fits;
      parts = parts_instead c (before ++ x ∷ behind) (before ++ other_number x n ∷ behind) (take (count_in c cut) (list_of c old) ++ renumbered n (drop (count_in c cut) (list_of c old))) old new t
          (own c before x behind (count_in c cut) n (list_of c old) e (of_cut c before cut k) (of_list c (before ++ x ∷ behind) old s)) (λ d o. rest_of c d before x behind n e o) s.parts;
    }

pub anew_step : (c : Class) (items : List Item) (n : ℕ) (cut next : Cut) (found : Option Class) (old new : Classes) → IsAnew items n cut old → TellsFirst old cut found → found ≡ Some c →
    IsNumbered c cut n old new → next ≡ past c cut → new.next ≡ old.next → IsAnew items (n + 1) next new
anew_step c items n cut next found old new a f e t p q =
    let first = first_of_some a.rest c (sym (f a.done a.rest a.split a.is_cut) ∙ e) in
    let x = first.0 in
    let ys = first.1 in
    let split : IsSplit (a.done ++ x ∷ ys) old = subst (λ (l : List Arrived). IsSplit (a.done ++ l) old) first.2 a.split in
    let least : 0 + length a.done ≤ x.arrival = rising_length 0 x.arrival a.done (rising_before 0 old.next a.done x ys split.rises) in
    let some : n ≤ x.arrival = omega (arith, least, a.number) in
    let together : (a.done ++ other_number x n ∷ []) ++ ys ≡ a.done ++ other_number x n ∷ ys = append_assoc a.done (other_number x n ∷ []) ys in
    let low : n ≤ n = omega arith in
    record {
      done = a.done ++ other_number x n ∷ [];
      rest = ys;
      split = subst (λ (l : List Arrived). IsSplit l new) (sym together) (split_number c a.done x ys cut n old new first.3 a.is_cut t split a.rises some q);
      is_cut = cut_one a.done (other_number x n) c cut next first.3 a.is_cut p;
      rises = rising_push 0 n a.done (other_number x n) a.rises low;
      number = length-append a.done (other_number x n ∷ []) ∙ ap (λ (k : ℕ). k + 1) a.number;
      same_items =
          ap (map item_of) together ∙
          (map-append item_of a.done (other_number x n ∷ ys) ∙ (sym (map-append item_of a.done (x ∷ ys)) ∙
          (ap (λ (l : List Arrived). map item_of (a.done ++ l)) (sym first.2) ∙ a.same_items)));
    }

-- how many stand behind the cut
pub anew_count : (items : List Item) (n : ℕ) (cut : Cut) (q : Classes) (a : IsAnew items n cut q) → length items ≡ n + length a.rest
anew_count items n cut q a =
    ap length (sym a.same_items) ∙ (length-map (a.done ++ a.rest) item_of ∙ (length-append a.done a.rest ∙ ap (λ (k : ℕ). k + length a.rest) a.number))

pub anew_more : (items : List Item) (n : ℕ) (cut : Cut) (found : Option Class) (q : Classes) → IsAnew items n cut q → TellsFirst q cut found → found ≡ None → length items ≤ n
anew_more items n cut found q a f e =
    let none : a.rest ≡ [] = first_of_none a.rest (sym (f a.done a.rest a.split a.is_cut) ∙ e) in
    let all = anew_count items n cut q a in
    let no = ap length none in
    omega arith

pub anew_start : (q : Classes) (cut : Cut) → IsSound q → IsCut [] cut → IsAnew (items_of q) 0 cut q
anew_start q cut s k =
    record {
      done = [];
      rest = in_order q;
      split = s;
      is_cut = k;
      rises = omega arith;
      number = refl;
      same_items = refl;
    }

-- the queues are the same
abbrev pub HasQueues : Classes → Classes → Type 0
HasQueues old new = (new.posted.items ≡ old.posted.items) × (new.non_posted.items ≡ old.non_posted.items) × (new.completion.items ≡ old.completion.items)

pub anew_end : (items : List Item) (n : ℕ) (cut : Cut) (old new : Classes) → IsAnew items n cut old → n ≡ length items → HasQueues old new → new.next ≡ n → n < 2 ^ 64 →
    IsSound new × (items_of new ≡ items)
anew_end items n cut old new a h t p b =
    let all = anew_count items n cut old a in
    let none : length a.rest ≡ 0 = omega arith in
    let ended : a.done ++ a.rest ≡ a.done = ap (λ (l : List Arrived). a.done ++ l) (nothing a.rest none) ∙ append-nil a.done in
    let split : IsSplit (a.done ++ a.rest) old = a.split in
    let whole : IsSplit a.done new =
    record {
      rises = rw p a.rises;
      fits = rw p b;
      parts = record {
        is_posted = t.0 ∙ (split.parts.is_posted ∙ ap (of_class Posted) ended);
        is_non_posted = t.1 ∙ (split.parts.is_non_posted ∙ ap (of_class NonPosted) ended);
        is_completion = t.2 ∙ (split.parts.is_completion ∙ ap (of_class Completion) ended);
      };
    } in
    (is_sound a.done new whole, ap (map item_of) (merged_is a.done new whole ∙ sym ended) ∙ a.same_items)
  where
    nothing : (l : List Arrived) → length l ≡ 0 → l ≡ []
    nothing [] e = refl
    nothing (x ∷ xs) e = absurd (omega arith)

-- ---- what a change of the queues makes of the value

pub items_are : (m : List Arrived) (q : Classes) → IsSplit m q → items_of q ≡ map item_of m
items_are m q s = ap (map item_of) (merged_is m q s)

pub pushed_items : (m : List Arrived) (x : Arrived) (q : Classes) → IsSplit (m ++ x ∷ []) q → items_of q ≡ map item_of m ++ item_of x ∷ []
pushed_items m x q s = items_are (m ++ x ∷ []) q s ∙ map-append item_of m (x ∷ [])

pub renumbered_at : (list : List Arrived) (k n : ℕ) (x : Arrived) → k < length list → x ≡ slice_index_or list k x → slice_set list k (other_number x n) ≡ take k list ++ renumbered n (drop k list)
renumbered_at [] k n x h e = absurd (omega arith)
renumbered_at (y ∷ ys) zero n x h e = rw e refl
renumbered_at (y ∷ ys) (suc k) n x h e = ap (λ (l : List Arrived). y ∷ l) (renumbered_at ys k n x (omega arith) e)

-- the queues are sound, and the items are the same
abbrev pub IsKept : Classes → Classes → Type 0
IsKept old new = IsSound new × (items_of new ≡ items_of old)

pub kept_by : (old new : Classes) → IsSound old → ((all : List Arrived) → IsSplit all old → IsSplit all new) → IsKept old new
kept_by old new s f = (is_sound (in_order old) new (f (in_order old) s), items_are (in_order old) new (f (in_order old) s))

pub pushed_sound : {E : Type 0} → (r : Result (Unit {0}) E) (x : Arrived) (old new : Classes) → OnOk r ((all : List Arrived) → IsSplit all old → IsSplit (all ++ x ∷ []) new) →
    OnErr r ((all : List Arrived) → IsSplit all old → IsSplit all new) → IsSound old → IsSound new
pushed_sound (Ok u) x old new a b s = is_sound (in_order old ++ x ∷ []) new (a (in_order old) s)
pushed_sound (Err e) x old new a b s = is_sound (in_order old) new (b (in_order old) s)

pub pushed_ok : {E : Type 0} → (r : Result (Unit {0}) E) (x : Arrived) (first old new : Classes) → OnOk r ((all : List Arrived) → IsSplit all old → IsSplit (all ++ x ∷ []) new) →
    IsKept first old → OnOk r (items_of new ≡ items_of first ++ item_of x ∷ [])
pushed_ok (Ok u) x first old new a k = pushed_items (in_order old) x new (a (in_order old) k.0) ∙ ap (λ (l : List Item). l ++ item_of x ∷ []) k.1
pushed_ok (Err e) x first old new a k = tt
