-- What was counted.
use Rattle.std.proofs.Common.{◌≡◌, ◌∙◌, ℕ, zero, suc, ◌+◌, ◌≤◌, ◌<◌, List, [], ◌∷◌, ◌++◌, Some, length, refl, sym, subst, arith, length-append}
use Rattle.std.specs.Prelude.{slice_get}
use Rattle.std.proofs.lemmas.Option.{same_Some}
use Rattle.log_runs.specs.LogView.{LogView}
use Rattle.search_words.specs.declared.counting.Tally.{Tally}
use Rattle.search_words.specs.declared.roles.Role.{Role}
use Rattle.search_words.specs.declared.roles.Role.TheVariants as roles
use Rattle.search_words.specs.Counts.{AreRoles, IsFirst, IsOverdrawn, IsRole, puts_of, sum_of, takes_of}

-- the roles of the first requests, and their sums
pub record Counted (log : LogView) (q : ℕ) (count : ℕ) (t : Tally) : Type 0 where
  pub roles : List Role
  pub are : AreRoles log q count roles
  pub first : ℕ
  pub start : IsFirst log q first
  pub takes : t.takes ≡ sum_of takes_of roles
  pub puts : t.puts ≡ first + sum_of puts_of roles
  pub few : t.takes ≤ count

sum_last : (f : Role → ℕ) (rs : List Role) (r : Role) → sum_of f (rs ++ r ∷ []) ≡ sum_of f rs + f r
sum_last f [] r = omega arith
sum_last f (q ∷ rs) r = let rest = sum_last f rs r in omega (arith, rest)

one_takes : (r : Role) → takes_of r ≤ 1
one_takes roles.Takes = omega arith
one_takes roles.Keeps = omega arith
one_takes roles.MayPut = omega arith

each_last : (log : LogView) (q count : ℕ) (rs : List Role) (r : Role) → AreRoles log q count rs → IsRole log q count r → AreRoles log q (count + 1) (rs ++ r ∷ [])
each_last log q count rs r are role = record {
  long = length-append rs (r ∷ []) ∙ (let e = are.long in omega (arith, e));
  each = λ b s at. here rs b s (λ c t g. are.each c t g) (subst (λ (n : ℕ). IsRole log q n r) (sym are.long) role) at;
}
  where
    from : ℕ → List Role → Type 0
    from k xs = (c : ℕ) (t : Role) → slice_get xs c ≡ Some t → IsRole log q (k + c) t

    step : (k : ℕ) (xs : List Role) (b : ℕ) (s : Role) → from k xs → IsRole log q (k + length xs) r → slice_get (xs ++ r ∷ []) b ≡ Some s → IsRole log q (k + b) s
    step k [] zero s all last at = subst (λ (t : Role). IsRole log q (k + 0) t) (same_Some r s at) last
    step k [] (suc b) s all last at = cc
    step k (x ∷ xs) zero s all last at = all zero s at
    step k (x ∷ xs) (suc b) s all last at =
        let e : suc k + b ≡ k + suc b = omega arith in
        subst (λ (n : ℕ). IsRole log q n s) e
        (step (suc k) xs b s
        (λ c t g. let f : k + suc c ≡ suc k + c = omega arith in subst (λ (n : ℕ). IsRole log q n t) f (all (suc c) t g))
        (let f : k + length (x ∷ xs) ≡ suc k + length xs = omega arith in subst (λ (n : ℕ). IsRole log q n r) f last) at)

    here : (xs : List Role) (b : ℕ) (s : Role) → ((c : ℕ) (t : Role) → slice_get xs c ≡ Some t → IsRole log q c t) → IsRole log q (length xs) r → slice_get (xs ++ r ∷ []) b ≡ Some s → IsRole log q b s
    here xs b s all last at =
        let e : 0 + b ≡ b = omega arith in
        subst (λ (n : ℕ). IsRole log q n s) e
        (step 0 xs b s (λ c t g. let f : c ≡ 0 + c = omega arith in subst (λ (n : ℕ). IsRole log q n t) f (all c t g))
        (let f : length xs ≡ 0 + length xs = omega arith in subst (λ (n : ℕ). IsRole log q n r) f last) at)

pub counted_none : (log : LogView) (q first : ℕ) (t : Tally) → IsFirst log q first → t.takes ≡ 0 → t.puts ≡ first → Counted log q 0 t
counted_none log q first t start takes puts = record {
  roles = [];
  are = record { long = refl; each = λ b r at. cc };
  first = first;
  start = start;
  takes = takes;
  puts = omega (arith, puts);
  few = omega (arith, takes);
}

pub counted_more : (log : LogView) (q count : ℕ) (t u : Tally) (r : Role) → Counted log q count t → IsRole log q count r
    → u.takes ≡ t.takes + takes_of r → u.puts ≡ t.puts + puts_of r → Counted log q (count + 1) u
counted_more log q count t u r h role takes puts = record {
  roles = h.roles ++ r ∷ [];
  are = each_last log q count h.roles r h.are role;
  first = h.first;
  start = h.start;
  takes = let e = sum_last takes_of h.roles r in omega (arith, takes, e, h.takes);
  puts = let e = sum_last puts_of h.roles r in omega (arith, puts, e, h.puts);
  few = let one = one_takes r in omega (arith, takes, h.few, one);
}

pub overdrawn : (log : LogView) (q count : ℕ) (t : Tally) → Counted log q count t → count ≡ length log.events → t.puts < t.takes → IsOverdrawn log q
overdrawn log q count t h all more = record {
  roles = h.roles;
  are = subst (λ (n : ℕ). AreRoles log q n h.roles) all h.are;
  first = h.first;
  start = h.start;
  more = omega (arith, h.takes, h.puts, more);
}
