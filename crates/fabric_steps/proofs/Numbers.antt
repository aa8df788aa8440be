-- Numbers and tests.
use Rattle.std.proofs.Common.{◌≡◌, ◌≢◌, ℕ, ◌+◌, ◌<◌, ◌≤◌, ◌==◌, ◌&&◌, true, ◌++◌, map, refl, subst, arith, eq-eqb}
use Rattle.std.specs.Prelude.{nat_lt}
use Rattle.std.proofs.lemmas.Bool.Decides.{nat_tests}
use Rattle.fabric_steps.specs.Lists.{Each, one_if}
use Rattle.fabric_steps.specs.Whole.{Entry, View, path, entry_of}
use Rattle.history_words.specs.Trace.{is_request}
use Rattle.fabric_steps.specs.Sound.{times, SoundAt}
use Rattle.fabric_steps.proofs.Lists.{each_counted, count_append}

pub below_next : (n k : ℕ) → one_if (nat_lt k (n + 1)) ≡ one_if (nat_lt k n) + one_if (k == n)
below_next n k = grind (arith, nat_tests)

pub same : (i : ℕ) → (i == i) ≡ true
same i = eq-eqb i i refl

pub both_same : (i k : ℕ) → ((i == i) && (k == k)) ≡ true
both_same i k = rw (same i) (same k)

pub hit : (i k a b : ℕ) → a ≡ i → b ≡ k → one_if ((i == a) && (k == b)) ≡ 1
hit i k a b e f = rw (e, f, same i, same k)

pub miss_left : (i k a b : ℕ) → a ≢ i → one_if ((i == a) && (k == b)) ≡ 0
miss_left i k a b n = grind (arith, nat_tests)

pub miss_right : (i k a b : ℕ) → b ≢ k → one_if ((i == a) && (k == b)) ≡ 0
miss_right i k a b n = grind (arith, nat_tests)

pub counted_below : (n k : ℕ) → 1 ≤ one_if (nat_lt k n) → k < n
counted_below n k h = grind (arith, nat_tests)

pub below_counted : (n k : ℕ) → k < n → one_if (nat_lt k n) ≡ 1
below_counted n k h = grind (arith, nat_tests)

pub not_counted : (n k : ℕ) → n ≤ k → one_if (nat_lt k n) ≡ 0
not_counted n k h = grind (arith, nat_tests)

pub path_times : (i k : ℕ) (v : View) → times i k (path v) ≡ times i k v.history + (times i k (map entry_of v.inward) + times i k (map entry_of v.up))
path_times i k v = rw (count_append (is_request i k) v.history (map entry_of v.inward ++ map entry_of v.up), count_append (is_request i k) (map entry_of v.inward) (map entry_of v.up))

-- each number on the path is below the next
pub numbers_below : (i : ℕ) (v : View) → SoundAt i v → Each (λ (e : Entry). e.requester ≡ i → e.number < v.requester.next) (path v)
numbers_below i v s = each_counted (λ (e : Entry). e.requester ≡ i → e.number < v.requester.next) (λ (e : Entry). is_request e.requester e.number) (path v) (λ e. both_same e.requester e.number)
    (λ e h own. counted_below v.requester.next e.number (subst (λ (n : ℕ). 1 ≤ n) (s.whole e.number) (subst (λ (j : ℕ). 1 ≤ times j e.number (path v)) own h)))
