-- What stands at the places of a queue, and what is takeable there.
use Rattle.std.proofs.Common.{◌≡◌, ◌≢◌, ℕ, zero, suc, ◌<◌, Bool, true, false, List, [], ◌∷◌, length, take, drop, Option, Some, None, refl, sym, ◌∙◌, ap, arith}
use Rattle.std.specs.Prelude.{◌⊎◌}
use Rattle.std.specs.Prelude.{◌&&◌, slice_get, slice_index_or}
use Rattle.std.specs.List.{list_all}
use Rattle.std.proofs.lemmas.Bool.Decides.{nat_tests}
use Rattle.dllp_core.specs.declared.packet.Class.{Class}
use Rattle.dllp_core.specs.declared.packet.Class.TheVariants.{Posted, NonPosted, Completion}
use Rattle.tlp_core.specs.TlpView.{TlpView}
use Rattle.flow_control.specs.Needs.{class_of}
use Rattle.flow_control.specs.Ordering.{is_same_request, passes, may_pass}
use Rattle.flow_control.specs.Queue.{Item, passes_each, first_passes, is_takeable}

-- ---- places

drop_got : {X : Type 0} → (xs : List X) (n : ℕ) (x : X) → slice_get xs n ≡ Some x → drop n xs ≡ x ∷ drop (suc n) xs
drop_got [] n x e = cc
drop_got (y ∷ ys) zero x e = cc
drop_got (y ∷ ys) (suc n) x e = drop_got ys n x e

pub drop_read : {X : Type 0} → (xs : List X) (n : ℕ) (x : X) → n < length xs → x ≡ slice_index_or xs n x → drop n xs ≡ x ∷ drop (suc n) xs
drop_read [] n x h e = absurd (omega arith)
drop_read (y ∷ ys) zero x h e = ap (λ z. z ∷ ys) (sym e)
drop_read (y ∷ ys) (suc n) x h e = drop_read ys n x (omega arith) e

drop_none : {X : Type 0} → (xs : List X) (n : ℕ) → slice_get xs n ≡ None → drop n xs ≡ []
drop_none [] zero e = refl
drop_none [] (suc n) e = refl
drop_none (y ∷ ys) zero e = cc
drop_none (y ∷ ys) (suc n) e = drop_none ys n e

got_in_take : {X : Type 0} → (xs : List X) (n k : ℕ) (x : X) → k < n → slice_get xs k ≡ Some x → slice_get (take n xs) k ≡ Some x
got_in_take xs zero k x h e = absurd (omega arith)
got_in_take [] (suc n) k x h e = cc
got_in_take (y ∷ ys) (suc n) zero x h e = e
got_in_take (y ∷ ys) (suc n) (suc k) x h e = got_in_take ys n k x (omega arith) e

got_of_take : {X : Type 0} → (xs : List X) (n k : ℕ) (x : X) → slice_get (take n xs) k ≡ Some x → (k < n) × (slice_get xs k ≡ Some x)
got_of_take xs zero k x e = cc
got_of_take [] (suc n) k x e = cc
got_of_take (y ∷ ys) (suc n) zero x e = (omega arith, e)
got_of_take (y ∷ ys) (suc n) (suc k) x e =
    let rest = got_of_take ys n k x e in
    (omega (arith, rest.0), rest.1)

-- ---- a test of each

true_parts : (a b : Bool) → (a && b) ≡ true → (a ≡ true) × (b ≡ true)
true_parts true b e = (refl, e)
true_parts false b e = cc

each_of : {X : Type 0} → (test : X → Bool) (xs : List X) (k : ℕ) (x : X) → list_all test xs ≡ true → slice_get xs k ≡ Some x → test x ≡ true
each_of test [] k x a e = cc
each_of test (y ∷ ys) zero x a e =
    let first = true_parts (test y) (list_all test ys) a in
    let same : y ≡ x = cc in
    ap test (sym same) ∙ first.0
each_of test (y ∷ ys) (suc k) x a e = each_of test ys k x (true_parts (test y) (list_all test ys) a).1 e

all_of : {X : Type 0} → (test : X → Bool) (xs : List X) → ((k : ℕ) (x : X) → slice_get xs k ≡ Some x → test x ≡ true) → list_all test xs ≡ true
all_of test [] h = refl
all_of test (y ∷ ys) h =
    let first : test y ≡ true = h 0 y refl in
    let rest : list_all test ys ≡ true = all_of test ys (λ k x e. h (suc k) x e) in
    rw (first, rest) refl

-- ---- what is takeable

pub takeable_from : (q : List Item) (place : ℕ) (item : Item) (later : List Item) → drop place q ≡ item ∷ later →
    is_takeable q place ≡ passes_each item.0 (take place q)
takeable_from q place item later e = ap (first_passes (take place q)) e

takeable_got : (q : List Item) (place : ℕ) (item : Item) → slice_get q place ≡ Some item →
    is_takeable q place ≡ passes_each item.0 (take place q)
takeable_got q place item e = takeable_from q place item (drop (suc place) q) (drop_got q place item e)

pub each : (q : List Item) (place before : ℕ) (item earlier : Item) → is_takeable q place ≡ true → before < place →
    slice_get q place ≡ Some item → slice_get q before ≡ Some earlier → may_pass item.0 earlier.0 ≡ true
each q place before item earlier t h e f =
    each_of (λ (other : Item). may_pass item.0 other.0) (take place q) before earlier (sym (takeable_got q place item e) ∙ t)
    (got_in_take q place before earlier h f)

pub all : (q : List Item) (place : ℕ) (item : Item) → slice_get q place ≡ Some item →
    ((before : ℕ) (earlier : Item) → before < place → slice_get q before ≡ Some earlier → may_pass item.0 earlier.0 ≡ true) →
    is_takeable q place ≡ true
all q place item e h =
    takeable_got q place item e ∙
    all_of (λ (other : Item). may_pass item.0 other.0) (take place q)
    (λ k x f. let found = got_of_take q place k x f in h k x found.0 found.1)

pub takeable_is_there : (q : List Item) (place : ℕ) → is_takeable q place ≡ true → (item : Item) × (slice_get q place ≡ Some item)
takeable_is_there q place t = by_case (slice_get q place) refl
  where
    by_case : (found : Option Item) → slice_get q place ≡ found → (item : Item) × (slice_get q place ≡ Some item)
    by_case (Some item) e = (item, e)
    by_case None e =
        let no : is_takeable q place ≡ false = ap (first_passes (take place q)) (drop_none q place e) in
        absurd (cc)

-- ---- the table

passes_no_posted : (later : Class) (same : Bool) → passes later Posted same ≡ false
passes_no_posted Posted same = refl
passes_no_posted NonPosted same = refl
passes_no_posted Completion same = refl

posted_stops : (later earlier : TlpView) → class_of earlier.kind ≡ Posted → may_pass later earlier ≡ false
posted_stops later earlier e =
    ap (λ (c : Class). passes (class_of later.kind) c (is_same_request later earlier)) e ∙ passes_no_posted (class_of later.kind) (is_same_request later earlier)

posted_passes : (earlier : Class) (same : Bool) → earlier ≢ Posted → passes Posted earlier same ≡ true
posted_passes Posted same n = absurd (n refl)
posted_passes NonPosted same n = refl
posted_passes Completion same n = refl

posted_goes : (later earlier : TlpView) → class_of later.kind ≡ Posted → class_of earlier.kind ≢ Posted → may_pass later earlier ≡ true
posted_goes later earlier e n =
    ap (λ (c : Class). passes c (class_of earlier.kind) (is_same_request later earlier)) e ∙ posted_passes (class_of earlier.kind) (is_same_request later earlier) n

passes_non_posted : (later : Class) (same : Bool) → passes later NonPosted same ≡ true
passes_non_posted Posted same = refl
passes_non_posted NonPosted same = refl
passes_non_posted Completion same = refl

pub non_posted_is_passed : (later earlier : TlpView) → class_of earlier.kind ≡ NonPosted → may_pass later earlier ≡ true
non_posted_is_passed later earlier e =
    ap (λ (c : Class). passes (class_of later.kind) c (is_same_request later earlier)) e ∙ passes_non_posted (class_of later.kind) (is_same_request later earlier)

request_passes : (later earlier : Class) (same : Bool) → later ≢ Completion → earlier ≢ Posted → passes later earlier same ≡ true
request_passes later Posted same n m = absurd (m refl)
request_passes later NonPosted same n m = passes_non_posted later same
request_passes Posted Completion same n m = refl
request_passes NonPosted Completion same n m = refl
request_passes Completion Completion same n m = absurd (n refl)

pub request_goes : (later earlier : TlpView) → class_of later.kind ≢ Completion → class_of earlier.kind ≢ Posted → may_pass later earlier ≡ true
request_goes later earlier n m = request_passes (class_of later.kind) (class_of earlier.kind) (is_same_request later earlier) n m

pub request_passes_completion : (later earlier : TlpView) → class_of later.kind ≢ Completion → class_of earlier.kind ≡ Completion → may_pass later earlier ≡ true
request_passes_completion later earlier n e = request_goes later earlier n (λ p. let no : Completion ≡ Posted = sym e ∙ p in cc)

pub nothing_passes_posted : (q : List Item) (place before : ℕ) (earlier : Item) → is_takeable q place ≡ true → before < place →
    slice_get q before ≡ Some earlier → class_of earlier.0.kind ≢ Posted
nothing_passes_posted q place before earlier t h f p =
    let there = takeable_is_there q place t in
    let goes : may_pass there.0.0 earlier.0 ≡ true = each q place before there.0 earlier t h there.1 f in
    let stops : may_pass there.0.0 earlier.0 ≡ false = posted_stops there.0.0 earlier.0 p in
    (cc)

pub posted_is_takeable : (q : List Item) (place : ℕ) (item : Item) → slice_get q place ≡ Some item → class_of item.0.kind ≡ Posted →
    ((before : ℕ) (earlier : Item) → before < place → slice_get q before ≡ Some earlier → class_of earlier.0.kind ≢ Posted) →
    is_takeable q place ≡ true
posted_is_takeable q place item e p h =
    all q place item e (λ before earlier l f. posted_goes item.0 earlier.0 p (h before earlier l f))

pub request_is_takeable : (q : List Item) (place : ℕ) (item : Item) → slice_get q place ≡ Some item → class_of item.0.kind ≢ Completion →
    ((before : ℕ) (earlier : Item) → before < place → slice_get q before ≡ Some earlier → class_of earlier.0.kind ≢ Posted) →
    is_takeable q place ≡ true
request_is_takeable q place item e n h =
    all q place item e (λ before earlier l f. request_goes item.0 earlier.0 n (h before earlier l f))

different_request : (t u : TlpView) → (t.requester ≢ u.requester) ⊎ (t.tag ≢ u.tag) → is_same_request t u ≡ false
different_request t u d = grind (arith, nat_tests)

pub different_pass : (later earlier : TlpView) → class_of later.kind ≡ Completion → class_of earlier.kind ≡ Completion →
    (later.requester ≢ earlier.requester) ⊎ (later.tag ≢ earlier.tag) → may_pass later earlier ≡ true
different_pass later earlier e f d = rw (e, f, different_request later earlier d) refl

same_request : (t u : TlpView) → t.requester ≡ u.requester → t.tag ≡ u.tag → is_same_request t u ≡ true
same_request t u e f = grind (arith, nat_tests)

completions_stop : (later earlier : TlpView) → class_of later.kind ≡ Completion → class_of earlier.kind ≡ Completion →
    later.requester ≡ earlier.requester → later.tag ≡ earlier.tag → may_pass later earlier ≡ false
completions_stop later earlier e f r t = rw (e, f, same_request later earlier r t) refl

pub completions_in_order : (q : List Item) (place before : ℕ) (item earlier : Item) → is_takeable q place ≡ true → before < place →
    slice_get q place ≡ Some item → slice_get q before ≡ Some earlier →
    class_of item.0.kind ≡ Completion → class_of earlier.0.kind ≡ Completion →
    item.0.requester ≡ earlier.0.requester → item.0.tag ≢ earlier.0.tag
completions_in_order q place before item earlier t h e f c d r g =
    let goes : may_pass item.0 earlier.0 ≡ true = each q place before item earlier t h e f in
    let stops : may_pass item.0 earlier.0 ≡ false = completions_stop item.0 earlier.0 c d r g in
    (cc)
