-- Neighbouring records that are swapped.
use Rattle.std.proofs.Common.{◌≡◌, ◌∙◌, ℕ, zero, suc, ◌<◌, ◌≤◌, Bool, true, false, List, [], ◌∷◌, ◌++◌, take, length, Option, Some, None, refl, sym, ap, subst, arith, inl, inr}
use Rattle.std.specs.Prelude.{slice_get, ◌||◌, ◌&&◌, ◌==◌, if◌then◌else◌}
use Rattle.std.specs.List.{list_any, cons_option}
use Rattle.std.proofs.lemmas.Bool.{cases_eq, eq-eqb, ne_eqb}
use Rattle.std.proofs.lemmas.Option.{same_Some}
use Rattle.tlp_core.specs.Ops.{Op}
use Rattle.seq_memory.specs.Entries.{Entry}
use Rattle.seq_memory.specs.Entries.{Reply}
use Rattle.history_words.specs.Records.{Record}
use Rattle.history_words.specs.declared.record.RecordOf.TheVariants as records
use Rattle.history_words.specs.TraceView.{TraceView}
use Rattle.history_words.specs.Claim.{claim_of}
use Rattle.history_words.specs.Flaws.{moment}
use Rattle.history_words.specs.Trace.{submission, submissions, answers_to, Explains, IsNumbered, IsLegal, IsExplained}
use Rattle.history_words.specs.Clocks.{IsClocked}
use Rattle.log_runs.specs.Explainable.{IsSeenAs, AreSeenAs, IsExplainable}
use Rattle.log_rows.specs.Swaps.{MaySwap, with_records}

-- a submission at the first n, an answer at the other
abbrev moved : ℕ → ℕ → Record → Record
moved a b (records.Sub i k op n) = records.Sub i k op a
moved a b (records.Ans i k reply n) = records.Ans i k reply b

-- the records at place a and behind it swapped, with n's that suit them
abbrev new : ℕ → List Record → List Record
new zero [] = []
new zero (r ∷ []) = r ∷ []
new zero (r ∷ s ∷ rs) = moved (moment r) (moment s) s ∷ moved (moment r) (moment s) r ∷ rs
new (suc a) [] = []
new (suc a) (r ∷ rs) = r ∷ new a rs

-- where they stood
abbrev flip : ℕ → ℕ → ℕ
flip zero zero = suc zero
flip zero (suc zero) = zero
flip zero (suc (suc p)) = suc (suc p)
flip (suc a) zero = zero
flip (suc a) (suc p) = suc (flip a p)

-- two answers are to two requests
abbrev Apart : Record → Record → Type 0
Apart (records.Ans i k reply n) (records.Ans j l other m) = ((j == i) && (l == k)) ≡ false
Apart (records.Ans i k reply n) (records.Sub j l op m) = Unit {0}
Apart (records.Sub i k op n) s = Unit {0}

abbrev Fits : ℕ → List Record → Type 0
Fits zero [] = ⊥
Fits zero (r ∷ []) = ⊥
Fits zero (r ∷ s ∷ rs) = MaySwap r s × (moment r ≤ moment s) × Apart r s
Fits (suc a) [] = ⊥
Fits (suc a) (r ∷ rs) = Fits a rs

-- ---- places

flip_flip : (a p : ℕ) → flip a (flip a p) ≡ p
flip_flip zero zero = refl
flip_flip zero (suc zero) = refl
flip_flip zero (suc (suc p)) = refl
flip_flip (suc a) zero = refl
flip_flip (suc a) (suc p) = ap suc (flip_flip a p)

flip_here : (a : ℕ) → flip a a ≡ suc a
flip_here zero = refl
flip_here (suc a) = ap suc (flip_here a)

flip_next : (a : ℕ) → flip a (suc a) ≡ a
flip_next zero = refl
flip_next (suc a) = ap suc (flip_next a)

order : (a b c : ℕ) → (b ≡ a → c ≡ suc a → ⊥) → b < c → flip a b < flip a c
order zero zero zero n l = absurd (omega arith)
order zero zero (suc zero) n l = absurd (n refl refl)
order zero zero (suc (suc c)) n l = omega arith
order zero (suc zero) zero n l = absurd (omega arith)
order zero (suc zero) (suc zero) n l = absurd (omega arith)
order zero (suc zero) (suc (suc c)) n l = omega arith
order zero (suc (suc b)) zero n l = absurd (omega arith)
order zero (suc (suc b)) (suc zero) n l = absurd (omega arith)
order zero (suc (suc b)) (suc (suc c)) n l = l
order (suc a) zero zero n l = absurd (omega arith)
order (suc a) zero (suc c) n l = omega arith
order (suc a) (suc b) zero n l = absurd (omega arith)
order (suc a) (suc b) (suc c) n l = let rest : flip a b < flip a c = order a b c (λ e f. n (ap suc e) (ap suc f)) (omega arith) in omega arith

-- ---- records

from_sub : (x y : ℕ) (q : Record) (i k n : ℕ) (op : Op) → Some (moved x y q) ≡ Some (records.Sub i k op n) → (Some q ≡ Some (records.Sub i k op (moment q))) × (n ≡ x)
from_sub x y (records.Sub j l w m) i k n op e =
    let one : j ≡ i = cc in
    let two : l ≡ k = cc in
    let three : w ≡ op = cc in
    let four : n ≡ x = cc in
    (rw (one, two, three) refl, four)
from_sub x y (records.Ans j l reply m) i k n op e = cc

from_ans : (x y : ℕ) (q : Record) (i k n : ℕ) (reply : Reply) → Some (moved x y q) ≡ Some (records.Ans i k reply n) → (Some q ≡ Some (records.Ans i k reply (moment q))) × (n ≡ y)
from_ans x y (records.Sub j l w m) i k n reply e = cc
from_ans x y (records.Ans j l other m) i k n reply e =
    let one : j ≡ i = cc in
    let two : l ≡ k = cc in
    let three : other ≡ reply = cc in
    let four : n ≡ y = cc in
    (rw (one, two, three) refl, four)

to_sub : (x y : ℕ) (q : Record) (i k m : ℕ) (op : Op) → Some q ≡ Some (records.Sub i k op m) → (Some (moved x y q) ≡ Some (records.Sub i k op x)) × (moment q ≡ m)
to_sub x y q i k m op e = let is = same_Some q (records.Sub i k op m) e in (ap (λ (r : Record). Some (moved x y r)) is, ap moment is)

old_sub : (a p : ℕ) (rs : List Record) → Fits a rs → (i k n : ℕ) (op : Op) → slice_get (new a rs) p ≡ Some (records.Sub i k op n)
    → (m : ℕ) × (slice_get rs (flip a p) ≡ Some (records.Sub i k op m)) × (n ≤ m)
old_sub zero p [] f i k n op e = absurd f
old_sub zero p (r ∷ []) f i k n op e = absurd f
old_sub zero zero (r ∷ s ∷ rs) f i k n op e = let (is, low) = from_sub (moment r) (moment s) s i k n op e in (moment s, is, omega (arith, low, f.1))
old_sub zero (suc zero) (r ∷ s ∷ rs) f i k n op e = let (is, low) = from_sub (moment r) (moment s) r i k n op e in (moment r, is, omega (arith, low))
old_sub zero (suc (suc p)) (r ∷ s ∷ rs) f i k n op e = (n, e, omega arith)
old_sub (suc a) p [] f i k n op e = absurd f
old_sub (suc a) zero (r ∷ rs) f i k n op e = (n, e, omega arith)
old_sub (suc a) (suc p) (r ∷ rs) f i k n op e = old_sub a p rs f i k n op e

old_ans : (a p : ℕ) (rs : List Record) → Fits a rs → (i k n : ℕ) (reply : Reply) → slice_get (new a rs) p ≡ Some (records.Ans i k reply n)
    → (m : ℕ) × (slice_get rs (flip a p) ≡ Some (records.Ans i k reply m)) × (m ≤ n)
old_ans zero p [] f i k n reply e = absurd f
old_ans zero p (r ∷ []) f i k n reply e = absurd f
old_ans zero zero (r ∷ s ∷ rs) f i k n reply e = let (is, high) = from_ans (moment r) (moment s) s i k n reply e in (moment s, is, omega (arith, high))
old_ans zero (suc zero) (r ∷ s ∷ rs) f i k n reply e = let (is, high) = from_ans (moment r) (moment s) r i k n reply e in (moment r, is, omega (arith, high, f.1))
old_ans zero (suc (suc p)) (r ∷ s ∷ rs) f i k n reply e = (n, e, omega arith)
old_ans (suc a) p [] f i k n reply e = absurd f
old_ans (suc a) zero (r ∷ rs) f i k n reply e = (n, e, omega arith)
old_ans (suc a) (suc p) (r ∷ rs) f i k n reply e = old_ans a p rs f i k n reply e

new_sub : (a p : ℕ) (rs : List Record) → Fits a rs → (i k m : ℕ) (op : Op) → slice_get rs p ≡ Some (records.Sub i k op m)
    → (n : ℕ) × (slice_get (new a rs) (flip a p) ≡ Some (records.Sub i k op n)) × (n ≤ m)
new_sub zero p [] f i k m op e = absurd f
new_sub zero p (r ∷ []) f i k m op e = absurd f
new_sub zero zero (r ∷ s ∷ rs) f i k m op e = let (is, at) = to_sub (moment r) (moment s) r i k m op e in (moment r, is, omega (arith, at))
new_sub zero (suc zero) (r ∷ s ∷ rs) f i k m op e = let (is, at) = to_sub (moment r) (moment s) s i k m op e in (moment r, is, omega (arith, at, f.1))
new_sub zero (suc (suc p)) (r ∷ s ∷ rs) f i k m op e = (m, e, omega arith)
new_sub (suc a) p [] f i k m op e = absurd f
new_sub (suc a) zero (r ∷ rs) f i k m op e = (m, e, omega arith)
new_sub (suc a) (suc p) (r ∷ rs) f i k m op e = new_sub a p rs f i k m op e

-- a submission that is swapped has no answer behind it
no_answer : (r s : Record) → MaySwap r s → (i k n : ℕ) (op : Op) → Some r ≡ Some (records.Sub i k op n) → (j l m : ℕ) (reply : Reply) → Some s ≡ Some (records.Ans j l reply m) → ⊥
no_answer (records.Ans a b c d) s may i k n op e j l m reply g = cc
no_answer (records.Sub a b c d) (records.Sub a' b' c' d') may i k n op e j l m reply g = cc
no_answer (records.Sub a b c d) (records.Ans a' b' c' d') may i k n op e j l m reply g = may

stuck_old : (a : ℕ) (rs : List Record) → Fits a rs → (i k n : ℕ) (op : Op) → slice_get rs a ≡ Some (records.Sub i k op n)
    → (j l m : ℕ) (reply : Reply) → slice_get rs (suc a) ≡ Some (records.Ans j l reply m) → ⊥
stuck_old zero [] f i k n op e j l m reply g = f
stuck_old zero (r ∷ []) f i k n op e j l m reply g = f
stuck_old zero (r ∷ s ∷ rs) f i k n op e j l m reply g = no_answer r s f.0 i k n op e j l m reply g
stuck_old (suc a) [] f i k n op e j l m reply g = f
stuck_old (suc a) (r ∷ rs) f i k n op e j l m reply g = stuck_old a rs f i k n op e j l m reply g

stuck_new : (a : ℕ) (rs : List Record) → Fits a rs → (j l m : ℕ) (reply : Reply) → slice_get (new a rs) a ≡ Some (records.Ans j l reply m)
    → (i k n : ℕ) (op : Op) → slice_get (new a rs) (suc a) ≡ Some (records.Sub i k op n) → ⊥
stuck_new a rs f j l m reply g i k n op e =
    let (v, sub, low) = old_sub a (suc a) rs f i k n op e in
    let (w, ans, high) = old_ans a a rs f j l m reply g in
    stuck_old a rs f i k v op (ap (slice_get rs) (sym (flip_next a)) ∙ sub) j l w reply (ap (slice_get rs) (sym (flip_here a)) ∙ ans)

-- ---- submissions

none_of : (i j k n : ℕ) (op : Op) → (i ≡ j → ⊥) → submission i (records.Sub j k op n) ≡ None
none_of i j k n op d = ap (λ (b : Bool). if b then Some op else None) (ne_eqb i j d)

subs_pair : (x y i : ℕ) (r s : Record) → MaySwap r s → (rest : List Op)
    → cons_option (submission i (moved x y s)) (cons_option (submission i (moved x y r)) rest) ≡ cons_option (submission i r) (cons_option (submission i s) rest)
subs_pair x y i (records.Ans a b c d) (records.Ans a' b' c' d') may rest = refl
subs_pair x y i (records.Ans a b c d) (records.Sub a' b' c' d') may rest = refl
subs_pair x y i (records.Sub a b c d) (records.Ans a' b' c' d') may rest = absurd may
subs_pair x y i (records.Sub a b c d) (records.Sub a' b' c' d') may rest = elim (cases_eq i a) [
  | inl same ↦
      let gone : submission i (records.Sub a' b' c' d') ≡ None = none_of i a' b' d' c' (λ e. may (sym same ∙ e)) in
      ap (λ (o : Option Op). cons_option o (cons_option (submission i (records.Sub a b c d)) rest)) gone
      ∙ sym (ap (λ (o : Option Op). cons_option (submission i (records.Sub a b c d)) (cons_option o rest)) gone)
  | inr other ↦
      let gone : submission i (records.Sub a b c d) ≡ None = none_of i a b d c other in
      ap (λ (o : Option Op). cons_option (submission i (records.Sub a' b' c' d')) (cons_option o rest)) gone
      ∙ sym (ap (λ (o : Option Op). cons_option o (cons_option (submission i (records.Sub a' b' c' d')) rest)) gone)
]

subs_all : (a : ℕ) (rs : List Record) (i : ℕ) → Fits a rs → submissions (new a rs) i ≡ submissions rs i
subs_all zero [] i f = absurd f
subs_all zero (r ∷ []) i f = absurd f
subs_all zero (r ∷ s ∷ rs) i f = subs_pair (moment r) (moment s) i r s f.0 (submissions rs i)
subs_all (suc a) [] i f = absurd f
subs_all (suc a) (r ∷ rs) i f = ap (λ (xs : List Op). cons_option (submission i r) xs) (subs_all a rs i f)

first_none : (r s : Record) → MaySwap r s → (i k n : ℕ) (op : Op) → Some s ≡ Some (records.Sub i k op n) → submission i r ≡ None
first_none (records.Ans a b c d) s may i k n op e = refl
first_none (records.Sub a b c d) (records.Ans a' b' c' d') may i k n op e = absurd may
first_none (records.Sub a b c d) (records.Sub a' b' c' d') may i k n op e =
    let is : a' ≡ i = cc in
    none_of i a b d c (λ g. may (sym g ∙ sym is))

second_none : (x y : ℕ) (r s : Record) → MaySwap r s → (i k n : ℕ) (op : Op) → Some r ≡ Some (records.Sub i k op n) → submission i (moved x y s) ≡ None
second_none x y (records.Ans a b c d) s may i k n op e = cc
second_none x y (records.Sub a b c d) (records.Ans a' b' c' d') may i k n op e = absurd may
second_none x y (records.Sub a b c d) (records.Sub a' b' c' d') may i k n op e =
    let is : a ≡ i = cc in
    none_of i a' b' x c' (λ g. may (is ∙ g))

subs_take : (a p : ℕ) (rs : List Record) (i k n : ℕ) (op : Op) → Fits a rs → slice_get (new a rs) p ≡ Some (records.Sub i k op n)
    → submissions (take p (new a rs)) i ≡ submissions (take (flip a p) rs) i
subs_take zero p [] i k n op f e = absurd f
subs_take zero p (r ∷ []) i k n op f e = absurd f
subs_take zero zero (r ∷ s ∷ rs) i k n op f e =
    sym (ap (λ (o : Option Op). cons_option o []) (first_none r s f.0 i k (moment s) op (from_sub (moment r) (moment s) s i k n op e).0))
subs_take zero (suc zero) (r ∷ s ∷ rs) i k n op f e =
    ap (λ (o : Option Op). cons_option o []) (second_none (moment r) (moment s) r s f.0 i k (moment r) op (from_sub (moment r) (moment s) r i k n op e).0)
subs_take zero (suc (suc p)) (r ∷ s ∷ rs) i k n op f e = subs_pair (moment r) (moment s) i r s f.0 (submissions (take p rs) i)
subs_take (suc a) p [] i k n op f e = absurd f
subs_take (suc a) zero (r ∷ rs) i k n op f e = refl
subs_take (suc a) (suc p) (r ∷ rs) i k n op f e = ap (λ (xs : List Op). cons_option (submission i r) xs) (subs_take a p rs i k n op f e)

-- ---- earlier answers

both_false : (a b : Bool) → (a || b) ≡ false → (a ≡ false) × (b ≡ false)
both_false true b e = cc
both_false false b e = (refl, e)

or_false : (a b : Bool) → a ≡ false → b ≡ false → (a || b) ≡ false
or_false true b e g = cc
or_false false b e g = g

and_false : (b : Bool) → (b && false) ≡ false
and_false true = refl
and_false false = refl

turned : (i j k l : ℕ) → ((j == i) && (l == k)) ≡ false → ((i == j) && (k == l)) ≡ false
turned i j k l h = elim (cases_eq i j) [
  | inr other ↦ ap (λ (b : Bool). b && (k == l)) (ne_eqb i j other)
  | inl same ↦ elim (cases_eq k l) [
    | inr other ↦ ap (λ (b : Bool). (i == j) && b) (ne_eqb k l other) ∙ and_false (i == j)
    | inl equal ↦
        let whole : ((j == i) && (l == k)) ≡ true =
        ap (λ (b : Bool). b && (l == k)) (eq-eqb j i (sym same)) ∙ eq-eqb l k (sym equal) in
        let clash : true ≡ false = sym whole ∙ h in
        cc
  ]
]

apart : (x y : ℕ) (r s : Record) → Apart r s → (i k n : ℕ) (reply : Reply) → Some r ≡ Some (records.Ans i k reply n) → answers_to i k (moved x y s) ≡ false
apart x y (records.Sub a b c d) s h i k n reply e = cc
apart x y (records.Ans a b c d) (records.Sub a' b' c' d') h i k n reply e = refl
apart x y (records.Ans a b c d) (records.Ans a' b' c' d') h i k n reply e =
    let one : a ≡ i = cc in
    let two : b ≡ k = cc in
    turned i a' k b' (ap (λ v. (a' == v) && (b' == k)) (sym one) ∙ ap (λ v. (a' == a) && (b' == v)) (sym two) ∙ h)

same_test : (x y i k : ℕ) (q : Record) → answers_to i k (moved x y q) ≡ answers_to i k q
same_test x y i k (records.Sub a b c d) = refl
same_test x y i k (records.Ans a b c d) = refl

none_take : (a p : ℕ) (rs : List Record) (i k n : ℕ) (reply : Reply) → Fits a rs → slice_get (new a rs) p ≡ Some (records.Ans i k reply n)
    → list_any (answers_to i k) (take (flip a p) rs) ≡ false → list_any (answers_to i k) (take p (new a rs)) ≡ false
none_take zero p [] i k n reply f e h = absurd f
none_take zero p (r ∷ []) i k n reply f e h = absurd f
none_take zero zero (r ∷ s ∷ rs) i k n reply f e h = refl
none_take zero (suc zero) (r ∷ s ∷ rs) i k n reply f e h =
    or_false _ false (apart (moment r) (moment s) r s f.2 i k (moment r) reply (from_ans (moment r) (moment s) r i k n reply e).0) refl
none_take zero (suc (suc p)) (r ∷ s ∷ rs) i k n reply f e h =
    let (one, more) = both_false (answers_to i k r) (answers_to i k s || list_any (answers_to i k) (take p rs)) h in
    let (two, rest) = both_false (answers_to i k s) (list_any (answers_to i k) (take p rs)) more in
    or_false _ _ (same_test (moment r) (moment s) i k s ∙ two) (or_false _ _ (same_test (moment r) (moment s) i k r ∙ one) rest)
none_take (suc a) p [] i k n reply f e h = absurd f
none_take (suc a) zero (r ∷ rs) i k n reply f e h = refl
none_take (suc a) (suc p) (r ∷ rs) i k n reply f e h =
    let (one, rest) = both_false (answers_to i k r) (list_any (answers_to i k) (take (flip a p) rs)) h in
    or_false _ _ one (none_take a p rs i k n reply f e rest)

-- ---- n's

moved_low : (l x y : ℕ) (q : Record) → l ≤ x → l ≤ y → l ≤ moment (moved x y q)
moved_low l x y (records.Sub a b c d) one two = one
moved_low l x y (records.Ans a b c d) one two = two

moved_high : (h x y : ℕ) (q : Record) → x ≤ h → y ≤ h → moment (moved x y q) ≤ h
moved_high h x y (records.Sub a b c d) one two = one
moved_high h x y (records.Ans a b c d) one two = two

low : (a : ℕ) (rs : List Record) (l : ℕ) → Fits a rs → ((c : ℕ) (q : Record) → slice_get rs c ≡ Some q → l ≤ moment q)
    → (c : ℕ) (q : Record) → slice_get (new a rs) c ≡ Some q → l ≤ moment q
low zero [] l f all c q e = absurd f
low zero (r ∷ []) l f all c q e = absurd f
low zero (r ∷ s ∷ rs) l f all zero q e = subst (λ (w : Record). l ≤ moment w) (same_Some (moved (moment r) (moment s) s) q e) (moved_low l (moment r) (moment s) s (all 0 r refl) (all 1 s refl))
low zero (r ∷ s ∷ rs) l f all (suc zero) q e = subst (λ (w : Record). l ≤ moment w) (same_Some (moved (moment r) (moment s) r) q e) (moved_low l (moment r) (moment s) r (all 0 r refl) (all 1 s refl))
low zero (r ∷ s ∷ rs) l f all (suc (suc c)) q e = all (suc (suc c)) q e
low (suc a) [] l f all c q e = absurd f
low (suc a) (r ∷ rs) l f all zero q e = all 0 q e
low (suc a) (r ∷ rs) l f all (suc c) q e = low a rs l f (λ d w g. all (suc d) w g) c q e

high : (a : ℕ) (rs : List Record) (h : ℕ) → Fits a rs → ((c : ℕ) (q : Record) → slice_get rs c ≡ Some q → moment q ≤ h)
    → (c : ℕ) (q : Record) → slice_get (new a rs) c ≡ Some q → moment q ≤ h
high zero [] h f all c q e = absurd f
high zero (r ∷ []) h f all c q e = absurd f
high zero (r ∷ s ∷ rs) h f all zero q e = subst (λ (w : Record). moment w ≤ h) (same_Some (moved (moment r) (moment s) s) q e) (moved_high h (moment r) (moment s) s (all 0 r refl) (all 1 s refl))
high zero (r ∷ s ∷ rs) h f all (suc zero) q e = subst (λ (w : Record). moment w ≤ h) (same_Some (moved (moment r) (moment s) r) q e) (moved_high h (moment r) (moment s) r (all 0 r refl) (all 1 s refl))
high zero (r ∷ s ∷ rs) h f all (suc (suc c)) q e = all (suc (suc c)) q e
high (suc a) [] h f all c q e = absurd f
high (suc a) (r ∷ rs) h f all zero q e = all 0 q e
high (suc a) (r ∷ rs) h f all (suc c) q e = high a rs h f (λ d w g. all (suc d) w g) c q e

pair_rises : (r s : Record) → MaySwap r s → moment r ≤ moment s → moment (moved (moment r) (moment s) s) ≤ moment (moved (moment r) (moment s) r)
pair_rises (records.Ans a b c d) (records.Ans a' b' c' d') may l = omega arith
pair_rises (records.Ans a b c d) (records.Sub a' b' c' d') may l = l
pair_rises (records.Sub a b c d) (records.Ans a' b' c' d') may l = absurd may
pair_rises (records.Sub a b c d) (records.Sub a' b' c' d') may l = omega arith

abbrev Rises : List Record → Type 0
Rises rs = (b c : ℕ) (r s : Record) → b < c → slice_get rs b ≡ Some r → slice_get rs c ≡ Some s → moment r ≤ moment s

rises_new : (a : ℕ) (rs : List Record) → Fits a rs → Rises rs → Rises (new a rs)
rises_new zero [] f all b c q w l eb ec = absurd f
rises_new zero (r ∷ []) f all b c q w l eb ec = absurd f
rises_new zero (r ∷ s ∷ rs) f all zero zero q w l eb ec = absurd (omega arith)
rises_new zero (r ∷ s ∷ rs) f all zero (suc zero) q w l eb ec =
    let one = ap moment (same_Some (moved (moment r) (moment s) s) q eb) in
    let two = ap moment (same_Some (moved (moment r) (moment s) r) w ec) in
    omega (arith, one, two, pair_rises r s f.0 f.1)
rises_new zero (r ∷ s ∷ rs) f all zero (suc (suc c)) q w l eb ec =
    let one = ap moment (same_Some (moved (moment r) (moment s) s) q eb) in
    let most = moved_high (moment w) (moment r) (moment s) s (all 0 (suc (suc c)) r w (omega arith) refl ec) (all 1 (suc (suc c)) s w (omega arith) refl ec) in
    omega (arith, one, most)
rises_new zero (r ∷ s ∷ rs) f all (suc zero) zero q w l eb ec = absurd (omega arith)
rises_new zero (r ∷ s ∷ rs) f all (suc zero) (suc zero) q w l eb ec = absurd (omega arith)
rises_new zero (r ∷ s ∷ rs) f all (suc zero) (suc (suc c)) q w l eb ec =
    let one = ap moment (same_Some (moved (moment r) (moment s) r) q eb) in
    let most = moved_high (moment w) (moment r) (moment s) r (all 0 (suc (suc c)) r w (omega arith) refl ec) (all 1 (suc (suc c)) s w (omega arith) refl ec) in
    omega (arith, one, most)
rises_new zero (r ∷ s ∷ rs) f all (suc (suc b)) zero q w l eb ec = absurd (omega arith)
rises_new zero (r ∷ s ∷ rs) f all (suc (suc b)) (suc zero) q w l eb ec = absurd (omega arith)
rises_new zero (r ∷ s ∷ rs) f all (suc (suc b)) (suc (suc c)) q w l eb ec = all (suc (suc b)) (suc (suc c)) q w l eb ec
rises_new (suc a) [] f all b c q w l eb ec = absurd f
rises_new (suc a) (r ∷ rs) f all zero zero q w l eb ec = absurd (omega arith)
rises_new (suc a) (r ∷ rs) f all zero (suc c) q w l eb ec =
    low a rs (moment q) f (λ d v g. all 0 (suc d) q v (omega arith) eb g) c w ec
rises_new (suc a) (r ∷ rs) f all (suc b) zero q w l eb ec = absurd (omega arith)
rises_new (suc a) (r ∷ rs) f all (suc b) (suc c) q w l eb ec =
    rises_new a rs f (λ d e v y g m n. all (suc d) (suc e) v y (omega arith) m n) b c q w (omega arith) eb ec

-- ---- prefixes

from_take : {X : Type 0} → (xs : List X) (n p : ℕ) (x : X) → slice_get (take n xs) p ≡ Some x → (slice_get xs p ≡ Some x) × (p < n)
from_take [] zero p x e = cc
from_take [] (suc n) p x e = cc
from_take (y ∷ ys) zero p x e = cc
from_take (y ∷ ys) (suc n) zero x e = (e, omega arith)
from_take (y ∷ ys) (suc n) (suc p) x e = let (at, l) = from_take ys n p x e in (at, omega arith)

to_take : {X : Type 0} → (xs : List X) (n p : ℕ) (x : X) → p < n → slice_get xs p ≡ Some x → slice_get (take n xs) p ≡ Some x
to_take [] n p x l e = cc
to_take (y ∷ ys) zero p x l e = absurd (omega arith)
to_take (y ∷ ys) (suc n) zero x l e = e
to_take (y ∷ ys) (suc n) (suc p) x l e = to_take ys n p x (omega arith) e

module _ (u : TraceView) (h : List Entry) (x : Explains (claim_of u h)) (c : IsClocked (claim_of u h)) (a : ℕ) (fits : Fits a u.records) where
  numbered : IsNumbered (new a u.records)
  numbered b i k n op at =
      let (m, there, l) = old_sub a b u.records fits i k n op at in
      x.numbered (flip a b) i k m op there ∙ ap length (sym (subs_take a b u.records i k n op fits at))

  legal : IsLegal (submissions (new a u.records)) h
  legal p e at =
      let f = x.legal p e at in
      let same = subs_all a u.records e.requester fits in
      record {
        submitted = ap (λ (xs : List Op). slice_get xs e.number) same ∙ f.submitted;
        once = f.once;
        ordered = λ j op l there posted. f.ordered j op l (ap (λ (xs : List Op). slice_get xs j) (sym same) ∙ there) posted;
      }

  explained : (b i k n : ℕ) (reply : Reply) → slice_get (new a u.records) b ≡ Some (records.Ans i k reply n)
      → IsExplained (record { base = u.base; size = u.size; block = u.block; entries = h }) (take b (new a u.records)) i k reply n
  explained b i k n reply at =
      let (m, there, late) = old_ans a b u.records fits i k n reply at in
      let f = x.linear (flip a b) i k m reply there in
      let (sub, early) = from_take u.records (flip a b) f.place (records.Sub i k f.op f.since) f.asked in
      let (since, here, soon) = new_sub a f.place u.records fits i k f.since f.op sub in
      let kept : f.place ≡ a → flip a b ≡ suc a → ⊥ = λ e g.
      stuck_old a u.records fits i k f.since f.op (ap (slice_get u.records) (sym e) ∙ sub) i k m reply (ap (slice_get u.records) (sym g) ∙ there) in
      let less : flip a f.place < b = subst (λ p. flip a f.place < p) (flip_flip a b) (order a f.place (flip a b) kept early) in
      record {
        place = flip a f.place;
        op = f.op;
        since = since;
        point = f.point;
        asked = to_take (new a u.records) b (flip a f.place) (records.Sub i k f.op since) less here;
        not_posted = f.not_posted;
        unanswered = none_take a b u.records i k n reply fits at f.unanswered;
        acted = f.acted;
        after_submission = omega (arith, soon, f.after_submission);
        before_answer = omega (arith, late, f.before_answer);
        replied = f.replied;
        above = λ d j v r l ans.
            let (inside, short) = from_take (new a u.records) b d (records.Ans i j r v) ans in
            let (w, old, more) = old_ans a d u.records fits i j v r inside in
            let held : d ≡ a → flip a f.place ≡ suc a → ⊥ = λ e g.
            stuck_new a u.records fits i j v r (ap (slice_get (new a u.records)) (sym e) ∙ inside) i k since f.op (ap (slice_get (new a u.records)) (sym g) ∙ here) in
            let lower : flip a d < f.place = subst (λ p. flip a d < p) (flip_flip a f.place) (order a d (flip a f.place) held l) in
            f.above (flip a d) j w r lower (to_take u.records (flip a b) (flip a d) (records.Ans i j r w) (omega (arith, lower, early)) old);
      }

  explains : Explains (claim_of (with_records u (new a u.records)) h)
  explains = record { numbered = numbered; legal = legal; linear = explained }

  clocked : IsClocked (claim_of (with_records u (new a u.records)) h)
  clocked = record {
    rises = rises_new a u.records fits c.rises;
    bounded = high a u.records (length h) fits c.bounded;
    after_submission = λ p b n e op at sub.
        let (m, there, soon) = old_sub a b u.records fits e.requester e.number n op sub in
        omega (arith, soon, c.after_submission p (flip a b) m e op at there);
  }

-- ---- records that are alike

seen_moved : (x y : ℕ) (r q : Record) → IsSeenAs r q → IsSeenAs r (moved x y q)
seen_moved x y (records.Sub a b c d) (records.Sub i k op n) e = e
seen_moved x y (records.Sub a b c d) (records.Ans i k p n) e = absurd e
seen_moved x y (records.Ans a b c d) (records.Sub i k op n) e = absurd e
seen_moved x y (records.Ans a b c d) (records.Ans i k p n) e = e

alike_new : (before after : List Record) (r s : Record) (us : List Record) → AreSeenAs (before ++ r ∷ s ∷ after) us
    → AreSeenAs (before ++ s ∷ r ∷ after) (new (length before) us)
alike_new [] after r s [] e = absurd e
alike_new [] after r s (u ∷ []) e = absurd e.1
alike_new [] after r s (u ∷ w ∷ us) e = (seen_moved (moment u) (moment w) s w e.1.0, (seen_moved (moment u) (moment w) r u e.0, e.1.1))
alike_new (b ∷ before) after r s [] e = absurd e
alike_new (b ∷ before) after r s (u ∷ us) e = (e.0, alike_new before after r s us e.1)

may_alike : (r s u w : Record) → IsSeenAs r u → IsSeenAs s w → MaySwap r s → MaySwap u w
may_alike (records.Ans a b c d) s (records.Ans a' b' c' d') w e f m = tt
may_alike (records.Ans a b c d) s (records.Sub a' b' c' d') w e f m = absurd e
may_alike (records.Sub a b c d) s (records.Ans a' b' c' d') w e f m = absurd e
may_alike (records.Sub a b c d) (records.Ans i k p n) (records.Sub a' b' c' d') w e f m = absurd m
may_alike (records.Sub a b c d) (records.Sub i k p n) (records.Sub a' b' c' d') (records.Ans i' k' p' n') e f m = absurd f
may_alike (records.Sub a b c d) (records.Sub i k p n) (records.Sub a' b' c' d') (records.Sub i' k' p' n') e f m = λ same. m (e.0 ∙ same ∙ sym f.0)

fits_of : (before after : List Record) (r s : Record) (us : List Record) → AreSeenAs (before ++ r ∷ s ∷ after) us → MaySwap r s
    → ((q w : Record) → slice_get us (length before) ≡ Some q → slice_get us (suc (length before)) ≡ Some w → (moment q ≤ moment w) × Apart q w)
    → Fits (length before) us
fits_of [] after r s [] e may known = absurd e
fits_of [] after r s (u ∷ []) e may known = absurd e.1
fits_of [] after r s (u ∷ w ∷ us) e may known =
    let both = known u w refl refl in
    (may_alike r s u w e.0 e.1.0 may, both.0, both.1)
fits_of (b ∷ before) after r s [] e may known = absurd e
fits_of (b ∷ before) after r s (u ∷ us) e may known = fits_of before after r s us e.1 may known

none_at : {X : Type 0} → (t : X → Bool) (xs : List X) (d : ℕ) (q : X) → slice_get xs d ≡ Some q → list_any t (take (suc d) xs) ≡ false → t q ≡ false
none_at t [] d q e h = cc
none_at t (y ∷ ys) zero q e h = ap t (sym (same_Some y q e)) ∙ (both_false (t y) false h).0
none_at t (y ∷ ys) (suc d) q e h = none_at t ys d q e (both_false (t y) (list_any t (take (suc d) ys)) h).1

apart_of : (u : TraceView) (h : List Entry) (x : Explains (claim_of u h)) (d : ℕ) (q w : Record) → slice_get u.records d ≡ Some q → slice_get u.records (suc d) ≡ Some w → Apart q w
apart_of u h x d (records.Sub a b c e) w one two = tt
apart_of u h x d (records.Ans a b c e) (records.Sub i k p n) one two = tt
apart_of u h x d (records.Ans a b c e) (records.Ans i k p n) one two =
    none_at (answers_to i k) u.records d (records.Ans a b c e) one (x.linear (suc d) i k n p two).unanswered

pub swapped_explainable : (t : TraceView) (before after : List Record) (r s : Record) → MaySwap r s
    → IsExplainable (with_records t (before ++ r ∷ s ∷ after)) → IsExplainable (with_records t (before ++ s ∷ r ∷ after))
swapped_explainable t before after r s may (u, h, alike, x, c) =
    let d = length before in
    let fits : Fits d u.records = fits_of before after r s u.records alike.records may (λ q w one two. (c.rises d (suc d) q w (omega arith) one two, apart_of u h x d q w one two)) in (
      with_records u (new d u.records),
      h,
      record { base = alike.base; size = alike.size; block = alike.block; records = alike_new before after r s u.records alike.records },
      explains u h x c d fits,
      clocked u h x c d fits,
    )
