-- Seats whose tokens go to one place, and what all seats of a hall did.
use Rattle.std.proofs.Common.{◌≡◌, ◌≢◌, ℕ, zero, suc, ◌+◌, ◌<◌, ◌≤◌, inl, inr, cond, Bool, true, false, List, [], ◌∷◌, ◌++◌, length, length-append, refl, sym, ap, ◌∙◌, subst, arith, Some, Result, Ok, Err, IfOk, append_assoc, eq-eqb, ne_eqb, lt_of_not-le}
use Rattle.std.proofs.lemmas.List.{map-append, length-map, append-nil}
use Rattle.std.specs.Prelude.{remove, slice_index_or, slice_get}
use mathlib.Core.Logic.{dite}
use native.Mathlib.Decide.{ℕ_discrete, dec_le}
use Rattle.atomic_table.specs.Seated.{TableId}
use Rattle.fabric_steps.specs.Lists.{Each}
use Rattle.fabric_steps.specs.Fabric.{Fabric}
use Rattle.hall_laws.specs.declared.token.Token.{Token}
use Rattle.hall_laws.specs.Calls.{knowing}
use Rattle.hall_laws.specs.Standing.{Sat, token_of, one_if_same, named}
use Rattle.hall_laws.specs.Story.{Act, Tells, IsStoryOf}
use Rattle.hall_core.specs.Opens.{Leaves, AllRan}
use Rattle.hall_core.specs.Views.{SeatView, HallView, IsSeatOf, AreSeatsOf, HasNumber, RanBy}
use Rattle.hall_core.specs.Joins.{AreAt, token_at, tokens_of}

-- the first of a list is removed
pub first_out : {X : Type 0} (xs ys : List X) (x : X) → 0 < length xs → x ≡ slice_index_or xs 0 x → ys ≡ remove xs 0 → xs ≡ x ∷ ys
first_out [] ys x some is rest = absurd (omega arith)
first_out (z ∷ xs) ys x some is rest = let same : x ≡ z = is in let tail : ys ≡ xs = rest in cc

-- the token of one seat more is at the place
pub one_joined : (seats others : List SeatView) (s : SeatView) (m given m' : Sat) (all : List Token) → seats ≡ s ∷ others → m.0 ++ tokens_of seats ≡ all → given ≡ knowing s.knows → m' ≡ (m.0 ++ given.0, m.1) → m'.0 ++ tokens_of others ≡ all
one_joined seats others s m given m' all out is gave now =
    let shown : m'.0 ≡ m.0 ++ token_at s ∷ [] = ap (λ (x : Sat). x.0) now ∙ ap (λ (x : Sat). m.0 ++ x.0) gave in
    ap (λ (l : List Token). l ++ tokens_of others) shown ∙ (append_assoc m.0 (token_at s ∷ []) (tokens_of others) ∙ (ap (λ (l : List SeatView). m.0 ++ tokens_of l) (sym out) ∙ is))

pub none_left : (seats : List SeatView) (ts all : List Token) → length seats ≡ 0 → ts ++ tokens_of seats ≡ all → ts ≡ all
none_left [] ts all none is = sym (append-nil ts) ∙ is
none_left (s ∷ seats) ts all none is = absurd (omega (arith, none))

-- ---- of as many seats as there are numbers, no two with one number, each number has one

less : (m n : ℕ) → m < suc n → n ≢ m → m < n
less m n h ne = at (dec_le n m)
  where
    at : Dec (n ≤ m) → m < n
    at (yes a) = absurd (ne (omega (arith, a, h)))
    at (no b) = lt_of_not-le b

abbrev sum_below : (ℕ → ℕ) → ℕ → ℕ
sum_below f zero = 0
sum_below f (suc n) = f n + sum_below f n

sum_nothing : (n : ℕ) → sum_below (λ k. 0) n ≡ 0
sum_nothing zero = refl
sum_nothing (suc n) = let h = sum_nothing n in omega (arith, h)

sum_both : (f g : ℕ → ℕ) (n : ℕ) → sum_below (λ k. f k + g k) n ≡ sum_below f n + sum_below g n
sum_both f g zero = refl
sum_both f g (suc n) = let h = sum_both f g n in omega (arith, h)

one_is : (m n : ℕ) → m ≡ n → one_if_same m n ≡ 1
one_is m n e = let P : Bool → Type 0 = λ b. ◌≡◌ {A = ℕ} (cond b 1 0) 1 in let start : P true = refl in subst P (sym (eq-eqb m n e)) start

not_same : (m n : ℕ) → m ≢ n → one_if_same m n ≡ 0
not_same m n ne = let P : Bool → Type 0 = λ b. ◌≡◌ {A = ℕ} (cond b 1 0) 0 in let start : P false = refl in subst P (sym (ne_eqb m n ne)) start

none_below : (m n : ℕ) → n ≤ m → sum_below (λ k. one_if_same k m) n ≡ 0
none_below m zero h = refl
none_below m (suc n) h =
    let a = not_same n m (λ (e : n ≡ m). omega (arith, e, h)) in let b = none_below m n (omega (arith, h)) in
    let x : ℕ = one_if_same n m in let y : ℕ = sum_below (λ k. one_if_same k m) n in let p : x ≡ 0 = a in let q : y ≡ 0 = b in let g : x + y ≡ 0 = omega (arith, p, q) in g

one_below : (m n : ℕ) → m < n → sum_below (λ k. one_if_same k m) n ≡ 1
one_below m zero h = absurd (omega (arith, h))
one_below m (suc n) h = dite (ℕ_discrete n m)
    (λ (e : n ≡ m). let x : ℕ = one_if_same n m in let y : ℕ = sum_below (λ k. one_if_same k m) n in let p : x ≡ 1 = one_is n m e in let q : y ≡ 0 = none_below m n (omega (arith, e)) in let g : x + y ≡ 1 = omega (arith, p, q) in g)
    (λ (ne : n ≢ m). let x : ℕ = one_if_same n m in let y : ℕ = sum_below (λ k. one_if_same k m) n in let p : x ≡ 0 = not_same n m ne in let q : y ≡ 1 = one_below m n (less m n h ne) in let g : x + y ≡ 1 = omega (arith, p, q) in g)

sum_is_count : (ts : List Token) (n : ℕ) → Each (λ (t : Token). t.knows.number < n) ts → sum_below (λ k. named k ts) n ≡ length ts
sum_is_count [] n e = sum_nothing n
sum_is_count (t ∷ ts) n e =
    let both = sum_both (λ k. one_if_same k t.knows.number) (λ k. named k ts) n in
    let x : ℕ = sum_below (λ k. one_if_same k t.knows.number) n in let y : ℕ = sum_below (λ k. named k ts) n in
    let p : x ≡ 1 = one_below t.knows.number n e.0 in let q : y ≡ length ts = sum_is_count ts n e.1 in
    both ∙ (let g : x + y ≡ suc (length ts) = omega (arith, p, q) in g)

sum_at_most : (f : ℕ → ℕ) (n : ℕ) → ((k : ℕ) → f k ≤ 1) → sum_below f n ≤ n
sum_at_most f zero h = omega arith
sum_at_most f (suc n) h = let x : ℕ = f n in let y : ℕ = sum_below f n in let p : x ≤ 1 = h n in let q : y ≤ n = sum_at_most f n h in let g : x + y ≤ suc n = omega (arith, p, q) in g

each_is_one : (f : ℕ → ℕ) (n : ℕ) → ((k : ℕ) → f k ≤ 1) → sum_below f n ≡ n → (k : ℕ) → k < n → f k ≡ 1
each_is_one f zero h is k small = absurd (omega (arith, small))
each_is_one f (suc n) h is k small =
    let x : ℕ = f n in let y : ℕ = sum_below f n in let whole : x + y ≡ suc n = is in let p : x ≤ 1 = h n in let q : y ≤ n = sum_at_most f n h in
    dite (ℕ_discrete k n)
    (λ (e : k ≡ n). ap f e ∙ (let g : x ≡ 1 = omega (arith, whole, p, q) in g))
    (λ (ne : k ≢ n). each_is_one f n h (let g : y ≡ n = omega (arith, whole, p, q) in g) k (less k n small (λ e. ne (sym e))))

has_number : (n : ℕ) (seats : List SeatView) → named n (tokens_of seats) ≡ 1 → HasNumber n seats
has_number n [] e = absurd (omega (arith, e))
has_number n (s ∷ seats) e = dite (ℕ_discrete n s.knows.number)
    (λ (same : n ≡ s.knows.number). inl (sym same))
    (λ (other : n ≢ s.knows.number). let x : ℕ = one_if_same n s.knows.number in let y : ℕ = named n (tokens_of seats) in let both : x + y ≡ 1 = e in let p : x ≡ 0 = not_same n s.knows.number other in
    inr (has_number n seats (let g : y ≡ 1 = omega (arith, both, p) in g)))

-- ---- what all seats did

each_map : {X : Type 0} {P Q : X → Type 0} → ((x : X) → P x → Q x) → (xs : List X) → Each P xs → Each Q xs
each_map f [] h = tt
each_map f (x ∷ xs) h = (f x h.0, each_map f xs h.1)

each_append : {X : Type 0} (P : X → Type 0) (xs ys : List X) → Each P xs → Each P ys → Each P (xs ++ ys)
each_append P [] ys a b = b
each_append P (x ∷ xs) ys a b = (a.0, each_append P xs ys a.1 b)

pub each_of : {X : Type 0} (P : X → Type 0) (xs : List X) → ((i : ℕ) (x : X) → slice_get xs i ≡ Some x → P x) → Each P xs
each_of P [] h = tt
each_of P (x ∷ xs) h = (h 0 x refl, each_of P xs (λ i y at. h (suc i) y at))

of_tokens : (P : Token → Type 0) (seats : List SeatView) → Each P (tokens_of seats) → Each (λ (s : SeatView). P (token_at s)) seats
of_tokens P [] h = tt
of_tokens P (s ∷ seats) h = (h.0, of_tokens P seats h.1)

of_seats : (P : Token → Type 0) (seats : List SeatView) → Each (λ (s : SeatView). P (token_at s)) seats → Each P (tokens_of seats)
of_seats P [] h = tt
of_seats P (s ∷ seats) h = (h.0, of_seats P seats h.1)

each_two : {X : Type 0} {P Q R : X → Type 0} → ((x : X) → P x → Q x → R x) → (xs : List X) → Each P xs → Each Q xs → Each R xs
each_two f [] a b = tt
each_two f (x ∷ xs) a b = (f x a.0 b.0, each_two f xs a.1 b.1)

ran_by : (h : HallView) (seats : List SeatView) (f : Fabric) → 0 < length seats → Each (IsSeatOf h) seats → length (tokens_of seats) ≡ h.seats → AllRan (tokens_of seats) f → RanBy h seats f
ran_by h [] f some of count a = absurd (omega (arith, some))
ran_by h (s ∷ seats) f some of count a =
    let all : List SeatView = s ∷ seats in
    let below : Each (λ (t : Token). t.knows.number < h.seats) (tokens_of all) = of_seats (λ (t : Token). t.knows.number < h.seats) all
    (each_two (λ (x : SeatView) (i : IsSeatOf h x) (b : x.knows.number < x.knows.seats). subst (λ (n : ℕ). x.knows.number < n) i.3 b) all of (of_tokens (λ (t : Token). t.knows.number < t.knows.seats) all a.below)) in
    let one : (n : ℕ) → n < h.seats → named n (tokens_of all) ≡ 1 = each_is_one (λ k. named k (tokens_of all)) h.seats a.apart (sum_is_count (tokens_of all) h.seats below ∙ count) in
    record {
      acts = a.acts;
      told = a.told;
      tells = subst (λ (g : Fabric). Tells g a.acts a.told f) of.0.2 a.ran.0.tells;
      by = each_map (λ (x : Act) (small : x.by < h.seats). has_number x.by all (one x.by small)) a.acts (subst (λ (n : ℕ). Each (λ (x : Act). x.by < n) a.acts) of.0.3 a.ran.0.by);
      own = each_map (λ (x : SeatView) (r : IsStoryOf a.acts a.told f x.knows). r.own) all (of_tokens (λ (t : Token). IsStoryOf a.acts a.told f t.knows) all a.ran);
      sound = a.leaves.0.sound;
      belongs = a.ran.0.belongs;
      made = each_map (λ (x : SeatView) (r : IsStoryOf a.acts a.told f x.knows). r.made) all (of_tokens (λ (t : Token). IsStoryOf a.acts a.told f t.knows) all a.ran);
      records = each_map (λ (x : SeatView) (r : IsStoryOf a.acts a.told f x.knows). r.records) all (of_tokens (λ (t : Token). IsStoryOf a.acts a.told f t.knows) all a.ran);
    }

-- the seats of both kinds
pub all_ran : (h : HallView) (requesters work : List SeatView) (f : Fabric) → 0 < length requesters → AreSeatsOf h requesters → AreSeatsOf h work → length requesters + length work ≡ h.seats → AllRan (tokens_of (requesters ++ work)) f → RanBy h (requesters ++ work) f
all_ran h requesters work f some a b count ran =
    let many : length (tokens_of (requesters ++ work)) ≡ length requesters + length work = counted requesters work in
    ran_by h (requesters ++ work) f (longer requesters work some) (each_append (IsSeatOf h) requesters work (each_of (IsSeatOf h) requesters a) (each_of (IsSeatOf h) work b)) (many ∙ count) ran
  where
    counted : (xs ys : List SeatView) → length (tokens_of (xs ++ ys)) ≡ length xs + length ys
    counted xs ys = length-map (xs ++ ys) token_at ∙ length-append xs ys

    longer : (xs ys : List SeatView) → 0 < length xs → 0 < length (xs ++ ys)
    longer [] ys h = absurd (omega (arith, h))
    longer (x ∷ xs) ys h = omega arith

pub at_table : (h : HallView) (z : TableId) (seats : List SeatView) → h.table_id ≡ z → AreSeatsOf h seats → AreAt z seats
at_table h z seats same all = each_of (λ (s : SeatView). s.table_id ≡ z) seats (λ i s here. (all i s here).0 ∙ same)

-- the first of the tokens is a seat's
pub first_fits : (h : HallView) (requesters work : List SeatView) (ts : List Token) → 0 < length requesters → AreSeatsOf h requesters → ts ≡ tokens_of (requesters ++ work) → (0 < length ts) × ((token_of ts).knows.config ≡ h.config)
first_fits h [] work ts some all is = absurd (omega (arith, some))
first_fits h (s ∷ seats) work ts some all is =
    let few : 0 < length (tokens_of ((s ∷ seats) ++ work)) = omega arith in
    let fits : (token_at s).knows.config ≡ h.config = (all 0 s refl).1 in
    (subst (λ (l : List Token). 0 < length l) (sym is) few, ap (λ (l : List Token). (token_of l).knows.config) is ∙ fits)

pub all_leave : (seats : List SeatView) (f : Fabric) → AllRan (tokens_of seats) f → Each (λ (s : SeatView). Leaves s.knows f) seats
all_leave seats f a = of_tokens (λ (t : Token). Leaves t.knows f) seats a.leaves

-- all tokens are at the place
pub all_joined : (requesters others work : List SeatView) (s : SeatView) (given first second : Sat) → requesters ≡ s ∷ others → given ≡ knowing s.knows → first.0 ≡ given.0 ++ tokens_of others → second.0 ≡ first.0 ++ tokens_of work
    → second.0 ≡ tokens_of (requesters ++ work)
all_joined requesters others work s given first second out gave a b =
    b ∙ (ap (λ (l : List Token). l ++ tokens_of work) (a ∙ (ap (λ (m : Sat). m.0 ++ tokens_of others) gave ∙ ap tokens_of (sym out))) ∙ sym (map-append token_at requesters work))

pub each_ok : {A E : Type 0} {P Q : A → Type 0} (r : Result A E) → ((a : A) → P a → Q a) → IfOk r P → IfOk r Q
each_ok (Ok a) law h = law a h
each_ok (Err e) law h = tt
