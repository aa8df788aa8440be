-- The n's, and the order in which requests act.
use Rattle.std.proofs.Common.{◌≡◌, ℕ, ◌<◌, ◌≤◌, Bool, true, false, List, length, take, Option, Some, None, refl, sym, ap, ◌∙◌, arith}
use Rattle.std.specs.Prelude.{slice_get, ◌==◌, ◌||◌, nat_lt, if◌then◌else◌, option_and_then}
use Rattle.std.specs.List.{list_any}
use Rattle.std.proofs.lemmas.Bool.{eqb-true, eq-eqb, and_parts, ltb-false, le-ltb}
use Rattle.std.proofs.lemmas.Option.{slice_get_within, same_Some}
use Rattle.tlp_core.specs.Ops.{Op}
use Rattle.seq_memory.specs.Entries.{Entry}
use Rattle.history_words.specs.Records.{Record}
use Rattle.history_words.specs.declared.record.RecordOf.TheVariants as records
use Rattle.history_words.specs.declared.flaws.FlawKind.{FlawKind}
use Rattle.history_words.specs.declared.flaws.FlawKind.TheVariants as flaws
use Rattle.history_words.specs.Claim.{Claim}
use Rattle.history_words.specs.Clocks.{IsClocked}
use Rattle.history_words.specs.Trace.{submissions, is_request, IsLegal, Explains}
use Rattle.history_words.specs.Flaws.{some_and, place_of, moment, acts_early, clock_flaw, clock_at, first_clock_flaw}
use Rattle.history_check.proofs.Firsts.{first_at-below}
use Rattle.history_check.proofs.LegalLaw.{first_at-all, on_list}
use Rattle.history_check.proofs.Lists.{clash, take_at, at_take, none_passes, passing, no_one, first_is, first_there}

-- in a legal history a request stands first where it stands
placed : (s : ℕ → List Op) (h : List Entry) (p : ℕ) (e : Entry) → IsLegal s h → slice_get h p ≡ Some e → place_of h e.requester e.number ≡ Some p
placed s h p e legal at =
    first_is (is_request e.requester e.number) h p e at (rw (eq-eqb e.requester e.requester refl, eq-eqb e.number e.number refl) refl) (legal p e at).once

-- ---- no flaw at a record: the n's are those of a history that grew

three : (a b c : Bool) (kind : FlawKind) → (if a || (b || c) then Some kind else None) ≡ None → (a ≡ false) × (b ≡ false) × (c ≡ false)
three true b c kind e = cc
three false true c kind e = cc
three false false true kind e = cc
three false false false kind e = (refl, refl, refl)

clean : (x : Claim) (a : ℕ) (r : Record) → first_clock_flaw x ≡ None → slice_get x.records a ≡ Some r →
    (list_any (λ q. nat_lt (moment r) (moment q)) (take a x.records) ≡ false) × (nat_lt (length x.memory.entries) (moment r) ≡ false) × (acts_early x.memory.entries r ≡ false)
unfolding clock_at
clean x a r e at =
    three (list_any (λ q. nat_lt (moment r) (moment q)) (take a x.records)) (nat_lt (length x.memory.entries) (moment r)) (acts_early x.memory.entries r) flaws.Clock
    (sym (ap (λ (o : Option Record). option_and_then (clock_flaw x.memory.entries (take a x.records)) o) at)
    ∙ first_at-below (clock_at x.records x.memory.entries) (length x.records) e a (slice_get_within x.records a r at))

pub clocked_from : (x : Claim) → Explains x → first_clock_flaw x ≡ None → IsClocked x
clocked_from x good e = record {
  rises = λ a b r s l at there.
      ltb-false (moment s) (moment r) (none_passes (λ q. nat_lt (moment s) (moment q)) (take b x.records) a r (at_take x.records b a r l at) (clean x b s e there).0);
  bounded = λ a r at. ltb-false (length x.memory.entries) (moment r) (clean x a r e at).1;
  after_submission = λ p b n f op at there.
      let no : acts_early x.memory.entries (records.Sub f.requester f.number op n) ≡ false = (clean x b (records.Sub f.requester f.number op n) e there).2 in
      ltb-false p n (sym (ap (λ (o : Option ℕ). some_and o (λ p. nat_lt p n)) (placed (submissions x.records) x.memory.entries p f good.legal at)) ∙ no);
}

-- ---- where they are, no record has a flaw

not_early : (x : Claim) (a i k n : ℕ) (op : Op) (o : Option ℕ) → IsClocked x → slice_get x.records a ≡ Some (records.Sub i k op n) → place_of x.memory.entries i k ≡ o → some_and o (λ p. nat_lt p n) ≡ false
not_early x a i k n op None c at place = refl
not_early x a i k n op (Some p) c at place =
    let f = first_there (is_request i k) x.memory.entries p place in
    let (e1, e2) = and_parts (i == f.value.requester) (k == f.value.number) f.passes in
    le-ltb p n (c.after_submission p a n f.value op f.at (rw (sym (eqb-true i f.value.requester e1), sym (eqb-true k f.value.number e2)) at))

early_none : (x : Claim) (a : ℕ) (r : Record) → IsClocked x → slice_get x.records a ≡ Some r → acts_early x.memory.entries r ≡ false
early_none x a (records.Sub i k op n) c at = not_early x a i k n op (place_of x.memory.entries i k) c at refl
early_none x a (records.Ans i k reply n) c at = refl

unfallen : (x : Claim) (a : ℕ) (r : Record) → IsClocked x → slice_get x.records a ≡ Some r → list_any (λ q. nat_lt (moment r) (moment q)) (take a x.records) ≡ false
unfallen x a r c at =
    no_one (λ q. nat_lt (moment r) (moment q)) (take a x.records) (λ some.
    let f = passing (λ q. nat_lt (moment r) (moment q)) (take a x.records) some in
    let (there, l) = take_at x.records a f.place f.value f.at in
    clash f.passes (le-ltb (moment r) (moment f.value) (c.rises f.place a f.value r l there at)))

pub clocked_to : (x : Claim) → Explains x → IsClocked x → first_clock_flaw x ≡ None
unfolding clock_at
clocked_to x good c =
    first_at-all (clock_at x.records x.memory.entries) (length x.records)
    (λ a l. on_list x.records a (clock_flaw x.memory.entries (take a x.records))
    (λ r at. rw (unfallen x a r c at, le-ltb (length x.memory.entries) (moment r) (c.bounded a r at), early_none x a r c at) refl))
