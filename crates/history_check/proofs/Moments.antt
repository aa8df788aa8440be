-- The n's, record by record.
use Rattle.std.proofs.Common.{◌≡◌, ℕ, ◌+◌, ◌≤◌, Bool, true, false, List, length, take, Option, Some, None, refl, sym, ap, ◌∙◌, inl, inr, arith}
use Rattle.std.specs.Prelude.{slice_get, ◌||◌, nat_lt, if◌then◌else◌, option_and_then}
use Rattle.std.specs.List.{list_any}
use Rattle.std.proofs.lemmas.Bool.{cases_lt, lt-ltb, le-ltb, ltb-false}
use Rattle.seq_memory.specs.Entries.{Entry}
use Rattle.history_words.specs.Records.{Record}
use Rattle.history_words.specs.declared.record.RecordOf.TheVariants as records
use Rattle.history_words.specs.declared.flaws.FlawKind.{FlawKind}
use Rattle.history_words.specs.declared.flaws.FlawKind.TheVariants as flaws
use Rattle.history_words.specs.Trace.{IsNumbered}
use Rattle.history_words.specs.Flaws.{some_and, moment, acts_early, clock_flaw, clock_at}
use Rattle.history_words.specs.Headers.{header_of, moment_of, early_at, unclocked_in}
use Rattle.history_words.specs.Lookup.{ArePoints}
use Rattle.history_check.proofs.Floors.{any-push, next_record}
use Rattle.history_check.proofs.LinearLaw.{first_sub}

-- n of the header is the record's
pub moment_is : (r : Record) → moment_of (header_of r) ≡ moment r
moment_is (records.Sub i k op n) = refl
moment_is (records.Ans i k reply n) = refl

early_is : (points : List (Option ℕ)) (rs : List Record) (h : List Entry) (a : ℕ) (r : Record) → IsNumbered rs → ArePoints points rs h → slice_get rs a ≡ Some r → early_at (header_of r) (option_and_then (λ p. p) (slice_get points a)) ≡ acts_early h r
early_is points rs h a (records.Sub i k op n) numbered are at =
    ap (λ (o : Option (Option ℕ)). some_and (option_and_then (λ p. p) o) (λ p. nat_lt p n)) (are.at i k a (first_sub rs a i k n op numbered at))
early_is points rs h a (records.Ans i k reply n) numbered are at = refl

abbrev pub kind_of : Bool → Option FlawKind
kind_of b = if b then Some flaws.Clock else None

-- what the loop tests at a record is its flaw
pub clock_is : (points : List (Option ℕ)) (rs : List Record) (h : List Entry) (a last : ℕ) (r : Record) (o : Option ℕ) (v b : Bool) → IsNumbered rs → ArePoints points rs h → slice_get rs a ≡ Some r →
    ((n : ℕ) → list_any (λ q. nat_lt n (moment q)) (take a rs) ≡ nat_lt n last) → o ≡ option_and_then (λ p. p) (slice_get points a) → v ≡ unclocked_in (header_of r) last (length h) o → v ≡ b → clock_at rs h a ≡ kind_of b
unfolding clock_at
clock_is points rs h a last r o v b numbered are at seen looked tested is =
    ap (λ (o : Option Record). option_and_then (clock_flaw h (take a rs)) o) at
    ∙ ap (λ v. kind_of (v || (nat_lt (length h) (moment r) || acts_early h r))) (seen (moment r))
    ∙ ap (λ v. kind_of (nat_lt (moment r) last || (nat_lt (length h) (moment r) || v))) (sym (early_is points rs h a r numbered are at))
    ∙ ap (λ m. kind_of (nat_lt m last || (nat_lt (length h) m || early_at (header_of r) (option_and_then (λ p. p) (slice_get points a))))) (sym (moment_is r))
    ∙ ap (λ (o : Option ℕ). kind_of (unclocked_in (header_of r) last (length h) o)) (sym looked)
    ∙ ap kind_of (sym tested ∙ is)

or_second : (n last m : ℕ) → nat_lt m last ≡ false → (nat_lt n last || nat_lt n m) ≡ nat_lt n m
or_second n last m up =
    let above : last ≤ m = ltb-false m last up in
    elim (cases_lt n last) [
      | inl l ↦ rw (lt-ltb n last l) (sym (lt-ltb n m (omega (arith, above, l))))
      | inr g ↦ rw (le-ltb n last g) refl
    ]

-- none before has a greater n than this record, which is the greatest so far
pub last_next : (rs : List Record) (a last : ℕ) (r : Record) → slice_get rs a ≡ Some r → nat_lt (moment r) last ≡ false →
    ((n : ℕ) → list_any (λ q. nat_lt n (moment q)) (take a rs) ≡ nat_lt n last) → (n : ℕ) → list_any (λ q. nat_lt n (moment q)) (take (a + 1) rs) ≡ nat_lt n (moment r)
last_next rs a last r at up seen n =
    ap (λ (xs : List Record). list_any (λ q. nat_lt n (moment q)) xs) (next_record rs a r at)
    ∙ any-push (λ q. nat_lt n (moment q)) (take a rs) r
    ∙ ap (λ v. v || nat_lt n (moment r)) (seen n)
    ∙ or_second n last (moment r) up

first_of_two : (a b : Bool) → (a || b) ≡ false → a ≡ false
first_of_two true b e = cc
first_of_two false b e = refl

pub not_fallen : (r : Record) (last most : ℕ) (point : Option ℕ) → unclocked_in (header_of r) last most point ≡ false → nat_lt (moment r) last ≡ false
not_fallen r last most point e =
    let header = header_of r in
    ap (λ m. nat_lt m last) (sym (moment_is r)) ∙ first_of_two (nat_lt (moment_of header) last) (nat_lt most (moment_of header) || early_at header point) e
