-- Items in order of arrival, and the queues of their classes.
use Rattle.std.proofs.Common.{◌≡◌, ℕ, zero, suc, ◌+◌, ◌^◌, ◌<◌, ◌≤◌, Bool, true, false, List, [], ◌∷◌, ◌++◌, length, take, drop, Option, Some, None, refl, sym, ◌∙◌, ap, subst, arith}
use Rattle.std.specs.Prelude.{◌&&◌, nat_lt, remove}
use Rattle.std.proofs.lemmas.Bool.Decides.{nat_tests}
use Rattle.std.proofs.lemmas.List.{append-nil, length-append, drop_at, take_at, take_all, length-drop, take-append-drop}
use native.Mathlib.Numerals.{unary_clauses}
use Rattle.dllp_core.specs.declared.packet.Class.{Class}
use Rattle.dllp_core.specs.declared.packet.Class.TheVariants.{Posted, NonPosted, Completion}
use Rattle.flow_control.specs.Credits.{same}
use Rattle.flow_control.specs.declared.classes.Arrived.{Arrived}
use Rattle.flow_control.specs.declared.classes.Classes.{Classes}
use Rattle.flow_control.specs.declared.classes.Cut.{Cut}
use Rattle.flow_control.specs.Arrivals.{class_in, IsSplit, IsSound, AreParts, in_order, list_of, count_in, HasInstead, past, IsCut, IsRising, keep, of_class, placed, merged, first_class, first_number, is_older, oldest_of}

lt_true : (a b : ℕ) → a < b → nat_lt a b ≡ true
lt_true a b h = grind (arith, nat_tests)

lt_false : (a b : ℕ) → b ≤ a → nat_lt a b ≡ false
lt_false a b h = grind (arith, nat_tests)

-- ---- classes

pub same_class : (c : Class) → same c c ≡ true
same_class Posted = refl
same_class NonPosted = refl
same_class Completion = refl

pub keep_mine : (c : Class) (x y : Arrived) (l : List Arrived) → class_in x ≡ c → keep (same (class_in x) c) y l ≡ y ∷ l
keep_mine c x y l e = rw (e, same_class c) refl

pub keep_other : (c d : Class) (x y : Arrived) (l : List Arrived) → class_in x ≡ c → same c d ≡ false → keep (same (class_in x) d) y l ≡ l
keep_other c d x y l e n = rw (e, n) refl

keep_append : {X : Type 0} → (b : Bool) (x : X) (xs ys : List X) → keep b x (xs ++ ys) ≡ keep b x xs ++ ys
keep_append true x xs ys = refl
keep_append false x xs ys = refl

pub of_append : (c : Class) (xs ys : List Arrived) → of_class c (xs ++ ys) ≡ of_class c xs ++ of_class c ys
of_append c [] ys = refl
of_append c (x ∷ xs) ys =
    ap (keep (same (class_in x) c) x) (of_append c xs ys) ∙ keep_append (same (class_in x) c) x (of_class c xs) (of_class c ys)

-- ---- numbers that rise

-- each number is greater
abbrev IsAbove : ℕ → List Arrived → Type 0
IsAbove n [] = Unit {0}
IsAbove n (x ∷ xs) = (n < x.arrival) × IsAbove n xs

above_rising : (n low high : ℕ) (xs : List Arrived) → n < low → IsRising low high xs → IsAbove n xs
above_rising n low high [] h r = tt
above_rising n low high (x ∷ xs) h r =
    let first : low ≤ x.arrival = r.0 in
    (omega arith, above_rising n (x.arrival + 1) high xs (omega arith) r.1)

above_keep : (n : ℕ) (b : Bool) (x : Arrived) (xs : List Arrived) → n < x.arrival → IsAbove n xs → IsAbove n (keep b x xs)
above_keep n true x xs h a = (h, a)
above_keep n false x xs h a = a

above_of : (n : ℕ) (c : Class) (xs : List Arrived) → IsAbove n xs → IsAbove n (of_class c xs)
above_of n c [] a = tt
above_of n c (x ∷ xs) a = above_keep n (same (class_in x) c) x (of_class c xs) a.0 (above_of n c xs a.1)

above_placed : (n : ℕ) (x : Arrived) (ys : List Arrived) → n < x.arrival → IsAbove n ys → IsAbove n (placed x ys)
above_placed n x [] h a = (h, tt)
above_placed n x (y ∷ ys) h a = by_case (above_placed n x ys h a.1) (nat_lt x.arrival y.arrival) refl
  where
    by_case : IsAbove n (placed x ys) → (b : Bool) → nat_lt x.arrival y.arrival ≡ b → IsAbove n (placed x (y ∷ ys))
    by_case rest true e = rw e (h, a)
    by_case rest false e = rw e (a.0, rest)

above_merged : (n : ℕ) (xs ys : List Arrived) → IsAbove n xs → IsAbove n ys → IsAbove n (merged xs ys)
above_merged n [] ys a b = b
above_merged n (x ∷ xs) ys a b = above_placed n x (merged xs ys) a.0 (above_merged n xs ys a.1 b)

placed_first : (x : Arrived) (ys : List Arrived) → IsAbove x.arrival ys → placed x ys ≡ x ∷ ys
placed_first x [] a = refl
placed_first x (y ∷ ys) a = rw (lt_true x.arrival y.arrival a.0) refl

merged_first : (x : Arrived) (xs ys : List Arrived) → IsAbove x.arrival xs → merged xs (x ∷ ys) ≡ x ∷ merged xs ys
merged_first x [] ys a = refl
merged_first x (z ∷ zs) ys a =
    let above : x.arrival < z.arrival = a.0 in
    ap (placed z) (merged_first x zs ys a.1) ∙ rw (lt_false z.arrival x.arrival (omega arith)) refl

-- the queues of the classes, merged, are the items
pub restored : (low high : ℕ) (m : List Arrived) → IsRising low high m →
    merged (of_class Posted m) (merged (of_class NonPosted m) (of_class Completion m)) ≡ m
restored low high [] r = refl
restored low high (x ∷ xs) r = by_case (above_rising x.arrival (x.arrival + 1) high xs (omega arith) r.1) (restored (x.arrival + 1) high xs r.1) (class_in x) refl
  where
    by_case : IsAbove x.arrival xs → merged (of_class Posted xs) (merged (of_class NonPosted xs) (of_class Completion xs)) ≡ xs → (c : Class) → class_in x ≡ c →
        merged (of_class Posted (x ∷ xs)) (merged (of_class NonPosted (x ∷ xs)) (of_class Completion (x ∷ xs))) ≡ x ∷ xs
    by_case above rest Posted e = rw e (ap (placed x) rest ∙ placed_first x xs above)
    by_case above rest NonPosted e =
        rw e
        (ap (merged (of_class Posted xs)) (placed_first x (merged (of_class NonPosted xs) (of_class Completion xs))
        (above_merged x.arrival _ _ (above_of x.arrival NonPosted xs above) (above_of x.arrival Completion xs above))) ∙
        (merged_first x (of_class Posted xs) _ (above_of x.arrival Posted xs above) ∙ ap (λ (ys : List Arrived). x ∷ ys) rest))
    by_case above rest Completion e =
        rw e
        (ap (merged (of_class Posted xs)) (merged_first x (of_class NonPosted xs) (of_class Completion xs) (above_of x.arrival NonPosted xs above)) ∙
        (merged_first x (of_class Posted xs) _ (above_of x.arrival Posted xs above) ∙ ap (λ (ys : List Arrived). x ∷ ys) rest))

pub merged_is : (m : List Arrived) (q : Classes) → IsSplit m q → in_order q ≡ m
merged_is m q s = rw (s.parts.is_posted, s.parts.is_non_posted, s.parts.is_completion) (restored 0 q.next m s.rises)

pub is_sound : (m : List Arrived) (q : Classes) → IsSplit m q → IsSound q
is_sound m q s = subst (λ (all : List Arrived). IsSplit all q) (sym (merged_is m q s)) s

pub rising_lower : (less low high : ℕ) (xs : List Arrived) → less ≤ low → IsRising low high xs → IsRising less high xs
rising_lower less low high [] h r = omega (arith, r)
rising_lower less low high (x ∷ xs) h r = (let first : low ≤ x.arrival = r.0 in omega arith, r.1)

pub rising_length : (low high : ℕ) (xs : List Arrived) → IsRising low high xs → low + length xs ≤ high
rising_length low high [] r = omega (arith, r)
rising_length low high (x ∷ xs) r =
    let first : low ≤ x.arrival = r.0 in
    let rest : x.arrival + 1 + length xs ≤ high = rising_length (x.arrival + 1) high xs r.1 in
    omega arith

-- what stands before an item, and behind it
pub rising_before : (low high : ℕ) (xs : List Arrived) (y : Arrived) (ys : List Arrived) → IsRising low high (xs ++ y ∷ ys) → IsRising low y.arrival xs
rising_before low high [] y ys r = r.0
rising_before low high (x ∷ xs) y ys r = (r.0, rising_before (x.arrival + 1) high xs y ys r.1)

pub rising_behind : (low high : ℕ) (xs : List Arrived) (y : Arrived) (ys : List Arrived) → IsRising low high (xs ++ y ∷ ys) → IsRising (y.arrival + 1) high ys
rising_behind low high [] y ys r = r.1
rising_behind low high (x ∷ xs) y ys r = rising_behind (x.arrival + 1) high xs y ys r.1

pub rising_rest : (low high : ℕ) (xs ys : List Arrived) → IsRising low high (xs ++ ys) → IsRising low high ys
rising_rest low high [] ys r = r
rising_rest low high (x ∷ xs) ys r =
    let first : low ≤ x.arrival = r.0 in
    rising_lower low (x.arrival + 1) high ys (omega arith) (rising_rest (x.arrival + 1) high xs ys r.1)

pub rising_join : (low mid high : ℕ) (xs ys : List Arrived) → IsRising low mid xs → IsRising mid high ys → IsRising low high (xs ++ ys)
rising_join low mid high [] ys r s = rising_lower low mid high ys r s
rising_join low mid high (x ∷ xs) ys r s = (r.0, rising_join (x.arrival + 1) mid high xs ys r.1 s)

-- ---- how many

pub counted : (m : List Arrived) → length (of_class Posted m) + length (of_class NonPosted m) + length (of_class Completion m) ≡ length m
counted [] = refl
counted (x ∷ xs) = by_case (counted xs) (class_in x) refl
  where
    by_case : length (of_class Posted xs) + length (of_class NonPosted xs) + length (of_class Completion xs) ≡ length xs → (c : Class) → class_in x ≡ c →
        length (of_class Posted (x ∷ xs)) + length (of_class NonPosted (x ∷ xs)) + length (of_class Completion (x ∷ xs)) ≡ length (x ∷ xs)
    by_case rest Posted e = rw e (omega arith)
    by_case rest NonPosted e = rw e (omega arith)
    by_case rest Completion e = rw e (omega arith)

pub held : (q : Classes) → IsSound q → length q.posted.items + length q.non_posted.items + length q.completion.items ≡ length (in_order q)
held q s =
    let all = counted (in_order q) in
    let posted = ap length s.parts.is_posted in
    let non_posted = ap length s.parts.is_non_posted in
    let completion = ap length s.parts.is_completion in
    omega arith

-- the number of items is one of the numbers that a counter has
pub few : (q : Classes) → IsSound q → length (in_order q) ≤ q.next
few q s = omega (arith, rising_length 0 q.next (in_order q) s.rises)

-- ---- the oldest behind a cut

none_first : (b : Bool) → b && false ≡ false
none_first true = refl
none_first false = refl

older_first : (n : ℕ) (ys : List Arrived) → IsAbove n ys → is_older (Some n) (first_number ys) ≡ true
older_first n [] a = refl
older_first n (y ∷ ys) a = lt_true n y.arrival a.0

not_older : (n : ℕ) (ys : List Arrived) → IsAbove n ys → is_older (first_number ys) (Some n) ≡ false
not_older n [] a = refl
not_older n (y ∷ ys) a = let above : n < y.arrival = a.0 in lt_false y.arrival n (omega arith)

oldest_first : (low high : ℕ) (m : List Arrived) → IsRising low high m →
    oldest_of (first_number (of_class Posted m)) (first_number (of_class NonPosted m)) (first_number (of_class Completion m)) ≡ first_class m
oldest_first low high [] r = refl
oldest_first low high (x ∷ xs) r = by_case (class_in x) refl
  where
    above : IsAbove x.arrival xs
    above = above_rising x.arrival (x.arrival + 1) high xs (omega arith) r.1

    by_case : (c : Class) → class_in x ≡ c →
        oldest_of (first_number (of_class Posted (x ∷ xs))) (first_number (of_class NonPosted (x ∷ xs))) (first_number (of_class Completion (x ∷ xs))) ≡ first_class (x ∷ xs)
    by_case Posted e =
        rw (e, older_first x.arrival (of_class NonPosted xs) (above_of x.arrival NonPosted xs above), older_first x.arrival (of_class Completion xs) (above_of x.arrival Completion xs above)) refl
    by_case NonPosted e =
        rw (e, not_older x.arrival (of_class Posted xs) (above_of x.arrival Posted xs above), older_first x.arrival (of_class Completion xs) (above_of x.arrival Completion xs above)) refl
    by_case Completion e =
        rw (e, not_older x.arrival (of_class Posted xs) (above_of x.arrival Posted xs above), not_older x.arrival (of_class NonPosted xs) (above_of x.arrival NonPosted xs above), none_first (is_older (first_number (of_class Posted xs)) (first_number (of_class NonPosted xs)))) refl

pub first_oldest : (m : List Arrived) (q : Classes) → IsSplit m q →
    oldest_of (first_number q.posted.items) (first_number q.non_posted.items) (first_number q.completion.items) ≡ first_class m
first_oldest m q s = rw (s.parts.is_posted, s.parts.is_non_posted, s.parts.is_completion) (oldest_first 0 q.next m s.rises)

-- what is left of a class behind a cut
pub left : (c : Class) (before rest : List Arrived) (n : ℕ) (list : List Arrived) → list ≡ of_class c (before ++ rest) → n ≡ length (of_class c before) →
    drop n list ≡ of_class c rest
left c before rest n list e f = ap (drop n) (e ∙ of_append c before rest) ∙ drop_at (of_class c before) (of_class c rest) n (sym f)

pub oldest_is : (before rest : List Arrived) (q : Classes) (cut : Cut) → IsSplit (before ++ rest) q → IsCut before cut →
    oldest_of (first_number (drop cut.posted q.posted.items)) (first_number (drop cut.non_posted q.non_posted.items)) (first_number (drop cut.completion q.completion.items)) ≡ first_class rest
oldest_is before rest q cut s k =
    rw (left Posted before rest cut.posted q.posted.items s.parts.is_posted k.is_posted, left NonPosted before rest cut.non_posted q.non_posted.items s.parts.is_non_posted k.is_non_posted, left Completion before rest cut.completion q.completion.items s.parts.is_completion k.is_completion)
    (oldest_first 0 q.next rest (rising_rest 0 q.next before rest s.rises))

-- one item further
pub cut_more : (before : List Arrived) (x : Arrived) (cut : Cut) → IsCut before cut → IsCut (before ++ x ∷ []) (past (class_in x) cut)
cut_more before x cut k = by_case (class_in x) refl
  where
    more : (c : Class) → of_class c (before ++ x ∷ []) ≡ of_class c before ++ of_class c (x ∷ [])
    more c = of_append c before (x ∷ [])

    lengths : (c : Class) → length (of_class c (before ++ x ∷ [])) ≡ length (of_class c before) + length (of_class c (x ∷ []))
    lengths c = ap length (more c) ∙ length-append (of_class c before) (of_class c (x ∷ []))

    by_case : (c : Class) → class_in x ≡ c → IsCut (before ++ x ∷ []) (past (class_in x) cut)
    by_case Posted e =
        rw e
        (record {
          is_posted = omega (arith, k.is_posted, rw e at (lengths Posted));
          is_non_posted = omega (arith, k.is_non_posted, rw e at (lengths NonPosted));
          is_completion = omega (arith, k.is_completion, rw e at (lengths Completion));
        })
    by_case NonPosted e =
        rw e
        (record {
          is_posted = omega (arith, k.is_posted, rw e at (lengths Posted));
          is_non_posted = omega (arith, k.is_non_posted, rw e at (lengths NonPosted));
          is_completion = omega (arith, k.is_completion, rw e at (lengths Completion));
        })
    by_case Completion e =
        rw e
        (record {
          is_posted = omega (arith, k.is_posted, rw e at (lengths Posted));
          is_non_posted = omega (arith, k.is_non_posted, rw e at (lengths NonPosted));
          is_completion = omega (arith, k.is_completion, rw e at (lengths Completion));
        })

-- ---- the walk to a place

pub first_of_some : (m : List Arrived) (c : Class) → first_class m ≡ Some c → (x : Arrived) × (ys : List Arrived) × (m ≡ x ∷ ys) × (class_in x ≡ c)
first_of_some [] c e = cc
first_of_some (x ∷ xs) c e = (x, xs, refl, cc)

pub first_of_none : (m : List Arrived) → first_class m ≡ None → m ≡ []
first_of_none [] e = refl
first_of_none (x ∷ xs) e = cc

pub nothing_left : (n : ℕ) (m : List Arrived) → drop n m ≡ [] → length m ≤ n
nothing_left n m e = let some = length-drop n m in let none = ap length e in omega arith

taken_more : (n : ℕ) (m : List Arrived) (x : Arrived) (ys : List Arrived) → drop n m ≡ x ∷ ys → take (n + 1) m ≡ take n m ++ x ∷ []
taken_more n m x ys e = simp unary_clauses (by_number n m e)
  where
    by_number : (k : ℕ) (xs : List Arrived) → drop k xs ≡ x ∷ ys → take (suc k) xs ≡ take k xs ++ x ∷ []
    by_number zero [] f = cc
    by_number (suc k) [] f = cc
    by_number zero (z ∷ zs) f = cc
    by_number (suc k) (z ∷ zs) f = ap (λ (l : List Arrived). z ∷ l) (by_number k zs f)

pub split_at : (n : ℕ) (m : List Arrived) (q : Classes) → IsSplit m q → IsSplit (take n m ++ drop n m) q
split_at n m q s = subst (λ (all : List Arrived). IsSplit all q) (sym (take-append-drop n m)) s

abbrev pub TellsFirst : Classes → Cut → Option Class → Type 0
TellsFirst q cut found = (before rest : List Arrived) → IsSplit (before ++ rest) q → IsCut before cut → found ≡ first_class rest

pub cut_at_end : (n place : ℕ) (m : List Arrived) (cut : Cut) (found : Option Class) (q : Classes) → n ≤ place → IsSplit m q → IsCut (take n m) cut →
    TellsFirst q cut found → found ≡ None → IsCut (take place m) cut
cut_at_end n place m cut found q h s k f e =
    let none : drop n m ≡ [] = first_of_none (drop n m) (sym (f (take n m) (drop n m) (split_at n m q s) k) ∙ e) in
    let short : length m ≤ n = nothing_left n m none in
    subst (λ (l : List Arrived). IsCut l cut) (take_all n m short ∙ sym (take_all place m (omega arith))) k

pub cut_one : (before : List Arrived) (x : Arrived) (c : Class) (cut next : Cut) → class_in x ≡ c → IsCut before cut → next ≡ past c cut → IsCut (before ++ x ∷ []) next
cut_one before x c cut next e k p =
    subst (λ (l : Cut). IsCut (before ++ x ∷ []) l) (ap (λ (d : Class). past d cut) e ∙ sym p) (cut_more before x cut k)

pub cut_further : (n : ℕ) (m : List Arrived) (cut next : Cut) (found : Option Class) (c : Class) (q : Classes) → IsSplit m q → IsCut (take n m) cut →
    TellsFirst q cut found → found ≡ Some c → next ≡ past c cut → IsCut (take (n + 1) m) next
cut_further n m cut next found c q s k f e p =
    let first = first_of_some (drop n m) c (sym (f (take n m) (drop n m) (split_at n m q s) k) ∙ e) in
    subst (λ (l : List Arrived). IsCut l next) (sym (taken_more n m first.0 first.1 first.2)) (cut_one (take n m) first.0 c cut next first.3 k p)

-- ---- one item more

pub rising_push : (low n : ℕ) (m : List Arrived) (x : Arrived) → IsRising low n m → n ≤ x.arrival → IsRising low (x.arrival + 1) (m ++ x ∷ [])
rising_push low n m x r h = rising_join low n (x.arrival + 1) m (x ∷ []) r (h, omega arith)

-- the parts of other items, where they differ in the queue of one class alone
pub parts_instead : (c : Class) (m n items : List Arrived) (old new : Classes) → HasInstead c items old new → items ≡ of_class c n → ((d : Class) → same c d ≡ false → of_class d n ≡ of_class d m) →
    AreParts m old.posted.items old.non_posted.items old.completion.items → AreParts n new.posted.items new.non_posted.items new.completion.items
parts_instead Posted m n items old new h e o s =
    record {
      is_posted = h.0 ∙ e;
      is_non_posted = h.1 ∙ (s.is_non_posted ∙ sym (o NonPosted refl));
      is_completion = h.2 ∙ (s.is_completion ∙ sym (o Completion refl));
    }
parts_instead NonPosted m n items old new h e o s =
    record {
      is_posted = h.0 ∙ (s.is_posted ∙ sym (o Posted refl));
      is_non_posted = h.1 ∙ e;
      is_completion = h.2 ∙ (s.is_completion ∙ sym (o Completion refl));
    }
parts_instead Completion m n items old new h e o s =
    record {
      is_posted = h.0 ∙ (s.is_posted ∙ sym (o Posted refl));
      is_non_posted = h.1 ∙ (s.is_non_posted ∙ sym (o NonPosted refl));
      is_completion = h.2 ∙ e;
    }

pub of_list : (c : Class) (m : List Arrived) (q : Classes) → IsSplit m q → list_of c q ≡ of_class c m
of_list Posted m q s = s.parts.is_posted
of_list NonPosted m q s = s.parts.is_non_posted
of_list Completion m q s = s.parts.is_completion

pub of_cut : (c : Class) (before : List Arrived) (cut : Cut) → IsCut before cut → count_in c cut ≡ length (of_class c before)
of_cut Posted before cut k = k.is_posted
of_cut NonPosted before cut k = k.is_non_posted
of_cut Completion before cut k = k.is_completion

added : (c : Class) (m : List Arrived) (x : Arrived) → class_in x ≡ c → of_class c (m ++ x ∷ []) ≡ of_class c m ++ x ∷ []
added c m x e = of_append c m (x ∷ []) ∙ ap (λ (l : List Arrived). of_class c m ++ l) (keep_mine c x x [] e)

others : (c d : Class) (m : List Arrived) (x : Arrived) → class_in x ≡ c → same c d ≡ false → of_class d (m ++ x ∷ []) ≡ of_class d m
others c d m x e n =
    of_append d m (x ∷ []) ∙ (ap (λ (l : List Arrived). of_class d m ++ l) (keep_other c d x x [] e n) ∙ append-nil (of_class d m))

pub split_push : (c : Class) (m : List Arrived) (x : Arrived) (old new : Classes) → class_in x ≡ c → HasInstead c (list_of c old ++ x ∷ []) old new → IsSplit m old → x.arrival ≡ old.next →
    new.next ≡ old.next + 1 → new.next < 2 ^ 64 → IsSplit (m ++ x ∷ []) new
split_push c m x old new e h s n p f =
    record {
      rises = rw (p, ← n) (rising_push 0 old.next m x s.rises (omega arith));
      fits = f;
      parts = parts_instead c m (m ++ x ∷ []) (list_of c old ++ x ∷ []) old new h (ap (λ (l : List Arrived). l ++ x ∷ []) (of_list c m old s) ∙ sym (added c m x e)) (λ d o. others c d m x e o) s.parts;
    }

-- ---- one item less

-- the item at a place and what stands before and behind it
pub removed_at : {X : Type 0} → (xs : List X) (x : X) (ys : List X) (n : ℕ) → length xs ≡ n → remove (xs ++ x ∷ ys) n ≡ xs ++ ys
removed_at {X = X} xs x ys n e = rw (take_at xs (x ∷ ys) n e) (ap (λ l. xs ++ l) (behind xs n e))
  where
    behind : (zs : List X) (k : ℕ) → length zs ≡ k → drop (suc k) (zs ++ x ∷ ys) ≡ ys
    behind [] zero f = refl
    behind [] (suc k) f = cc
    behind (z ∷ zs) zero f = cc
    behind (z ∷ zs) (suc k) f = behind zs k (cc)

pub parted : (c : Class) (before : List Arrived) (x : Arrived) (behind : List Arrived) → of_class c (before ++ x ∷ behind) ≡ of_class c before ++ keep (same (class_in x) c) x (of_class c behind)
parted c before x behind = of_append c before (x ∷ behind)

lost : (c : Class) (before : List Arrived) (x : Arrived) (behind : List Arrived) (n : ℕ) (list : List Arrived) → class_in x ≡ c → n ≡ length (of_class c before) →
    list ≡ of_class c (before ++ x ∷ behind) → remove list n ≡ of_class c (before ++ behind)
lost c before x behind n list e k f =
    let parts : list ≡ of_class c before ++ x ∷ of_class c behind =
    f ∙ (parted c before x behind ∙ ap (λ (l : List Arrived). of_class c before ++ l) (keep_mine c x x (of_class c behind) e)) in
    ap (λ (l : List Arrived). remove l n) parts ∙ (removed_at (of_class c before) x (of_class c behind) n (sym k) ∙ sym (of_append c before behind))

stayed : (c d : Class) (before : List Arrived) (x : Arrived) (behind : List Arrived) → class_in x ≡ c → same c d ≡ false → of_class d (before ++ behind) ≡ of_class d (before ++ x ∷ behind)
stayed c d before x behind e n =
    of_append d before behind ∙ sym (parted d before x behind ∙ ap (λ (l : List Arrived). of_class d before ++ l) (keep_other c d x x (of_class d behind) e n))

rising_without : (low high : ℕ) (before : List Arrived) (x : Arrived) (behind : List Arrived) → IsRising low high (before ++ x ∷ behind) → IsRising low high (before ++ behind)
rising_without low high before x behind r =
    rising_join low x.arrival high before behind (rising_before low high before x behind r)
    (rising_lower x.arrival (x.arrival + 1) high behind (omega arith) (rising_behind low high before x behind r))

pub split_take : (c : Class) (before : List Arrived) (x : Arrived) (behind : List Arrived) (cut : Cut) (old new : Classes) → class_in x ≡ c → IsCut before cut →
    HasInstead c (remove (list_of c old) (count_in c cut)) old new → IsSplit (before ++ x ∷ behind) old → new.next ≡ old.next → IsSplit (before ++ behind) new
split_take c before x behind cut old new e k h s n =
    record {
      rises = rw n (rising_without 0 old.next before x behind s.rises);
      fits = rw n s.fits;
      parts = parts_instead c (before ++ x ∷ behind) (before ++ behind) (remove (list_of c old) (count_in c cut)) old new h
          (lost c before x behind (count_in c cut) (list_of c old) e (of_cut c before cut k) (of_list c (before ++ x ∷ behind) old s)) (λ d o. stayed c d before x behind e o) s.parts;
    }
