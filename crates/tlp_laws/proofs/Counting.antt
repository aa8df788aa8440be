-- In a history that has each of a requester's first n requests once, and no other of it, n requests are its own.
use Rattle.std.proofs.Common.{ℕ, ◌≡◌, ◌⊎◌, ◌+◌, ◌<◌, ◌≤◌, zero, suc, Bool, true, false, List, [], ◌∷◌, Some, refl, sym, subst, ◌∙◌, inl, inr, arith}
use Rattle.std.specs.Prelude.{slice_get, ◌==◌, ◌&&◌, nat_lt, fold, cond}
use Rattle.std.proofs.lemmas.Bool.{cases_eq, cases_lt, ne_eqb, eq-eqb, lt-ltb, le-ltb}
use Rattle.std.proofs.lemmas.Bool.Decides.{nat_tests}
use Rattle.std.proofs.lemmas.Option.{none-some, same_Some}
use Rattle.seq_memory.specs.Entries.{Entry}
use Rattle.history_words.specs.Trace.{is_request}
use Rattle.fabric_steps.specs.Lists.{Each, one_if, count}
use Rattle.fabric_steps.specs.ListFacts.{each_at, count_nil}
use Rattle.fabric_steps.specs.Sound.{times}
use Rattle.packet_engine.specs.Tlp.{requests_of}

count_more : (p : Entry → Bool) (e : Entry) (h : List Entry) → count p (e ∷ h) ≡ one_if (p e) + count p h
unfolding count
count_more p e h = refl

-- a request of the requester with a number below n
abbrev is_below : ℕ → ℕ → Entry → Bool
is_below i n e = (i == e.requester) && nat_lt e.number n

none_below : (i : ℕ) (h : List Entry) → count (is_below i 0) h ≡ 0
none_below i [] = count_nil (is_below i 0)
none_below i (e ∷ h) =
    let first = count_more (is_below i 0) e h in
    let later = none_below i h in
    let no : one_if (is_below i 0 e) ≡ 0 = by (i == e.requester) in
    omega (arith, first, later, no)
  where
    by : (b : Bool) → one_if (b && nat_lt e.number 0) ≡ 0
    by true = let no : nat_lt e.number 0 ≡ false = le-ltb e.number 0 (omega arith) in rw no refl
    by false = refl

one_more : (a n : ℕ) → one_if (nat_lt a (suc n)) ≡ one_if (nat_lt a n) + one_if (n == a)
one_more a n = by (nat_lt a (suc n)) (nat_lt a n) (n == a) refl refl refl
  where
    by : (b c d : Bool) → nat_lt a (suc n) ≡ b → nat_lt a n ≡ c → (n == a) ≡ d → one_if b ≡ one_if c + one_if d
    by true true false e f g = refl
    by true false true e f g = refl
    by false false false e f g = refl
    by true true true e f g = absurd (grind (arith, nat_tests))
    by true false false e f g = absurd (grind (arith, nat_tests))
    by false true d e f g = absurd (grind (arith, nat_tests))
    by false false true e f g = absurd (grind (arith, nat_tests))

below_more : (i n : ℕ) (h : List Entry) → count (is_below i (suc n)) h ≡ count (is_below i n) h + times i n h
below_more i n [] =
    let a = count_nil (is_below i (suc n)) in
    let b = count_nil (is_below i n) in
    let c = count_nil (is_request i n) in
    omega (arith, a, b, c)
below_more i n (e ∷ h) =
    let a = count_more (is_below i (suc n)) e h in
    let b = count_more (is_below i n) e h in
    let c = count_more (is_request i n) e h in
    let later = below_more i n h in
    let one : one_if (is_below i (suc n) e) ≡ one_if (is_below i n e) + one_if (is_request i n e) = by (i == e.requester) in
    omega (arith, a, b, c, later, one)
  where
    by : (b : Bool) → one_if (b && nat_lt e.number (suc n)) ≡ one_if (b && nat_lt e.number n) + one_if (b && (n == e.number))
    by true = one_more e.number n
    by false = refl

all_below : (i n : ℕ) (h : List Entry) → ((k : ℕ) → k < n → times i k h ≡ 1) → count (is_below i n) h ≡ n
all_below i zero h once = none_below i h
all_below i (suc n) h once =
    let more = below_more i n h in
    let rest = all_below i n h (λ k l. once k (omega arith)) in
    let last = once n (omega arith) in
    omega (arith, more, rest, last)

own_is : (i n : ℕ) (e : Entry) → (e.requester ≡ i → e.number < n) → cond (e.requester == i) 1 0 ≡ one_if (is_below i n e)
own_is i n e h = by (cases_eq e.requester i)
  where
    by : (e.requester ≡ i) ⊎ (e.requester ≡ i → ⊥) → cond (e.requester == i) 1 0 ≡ one_if (is_below i n e)
    by (inl own) = rw (eq-eqb e.requester i own, eq-eqb i e.requester (sym own), lt-ltb e.number n (h own)) refl
    by (inr other) = rw (ne_eqb e.requester i other, ne_eqb i e.requester (λ same. other (sym same))) refl

summed : (i n : ℕ) (h : List Entry) (start : ℕ) → Each (λ (e : Entry). e.requester ≡ i → e.number < n) h → fold (λ (a : ℕ) (e : Entry). a + cond (e.requester == i) 1 0) start h ≡ start + count (is_below i n) h
summed i n [] start each = let none = count_nil (is_below i n) in omega (arith, none)
summed i n (e ∷ h) start each =
    let later = summed i n h (start + cond (e.requester == i) 1 0) each.1 in
    let one = own_is i n e each.0 in
    let more = count_more (is_below i n) e h in
    omega (arith, later, one, more)

each_from : (P : Entry → Type 0) (h : List Entry) → ((p : ℕ) (e : Entry) → slice_get h p ≡ Some e → P e) → Each P h
each_from P [] f = tt
each_from P (e ∷ h) f = (f 0 e refl, each_from P h (λ p x at. f (suc p) x at))

there : (h : List Entry) (p : ℕ) (e : Entry) → slice_get h p ≡ Some e → 1 ≤ times e.requester e.number h
there [] p e at = absurd (none-some e at)
there (x ∷ h) zero e at =
    let more = count_more (is_request e.requester e.number) x h in
    let own : one_if (is_request e.requester e.number x) ≡ 1 =
    subst (λ (y : Entry). one_if (is_request e.requester e.number y) ≡ 1) (sym (same_Some x e at)) (rw (eq-eqb e.requester e.requester refl, eq-eqb e.number e.number refl) refl) in
    omega (arith, more, own)
there (x ∷ h) (suc p) e at =
    let more = count_more (is_request e.requester e.number) x h in
    let later = there h p e at in
    omega (arith, more, later)

pub own_count : (i n : ℕ) (h : List Entry) → ((k : ℕ) → times i k h ≡ one_if (nat_lt k n)) → requests_of h i ≡ n
own_count i n h whole =
    let each = each_from (λ (e : Entry). e.requester ≡ i → e.number < n) h (λ p e at own. is_low p e at own) in
    let sum = summed i n h 0 each in
    let all = all_below i n h (λ k l. rw (lt-ltb k n l) at (whole k)) in
    omega (arith, sum, all)
  where
    is_low : (p : ℕ) (e : Entry) → slice_get h p ≡ Some e → e.requester ≡ i → e.number < n
    is_low p e at own = elim (cases_lt e.number n) [
      | inl l ↦ l
      | inr high ↦
          let some : 1 ≤ times i e.number h = subst (λ (j : ℕ). 1 ≤ times j e.number h) own (there h p e at) in
          let none : times i e.number h ≡ 0 = rw (le-ltb e.number n high) at (whole e.number) in
          absurd (omega (arith, some, none))
    ]
