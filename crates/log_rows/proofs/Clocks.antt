-- A test of n's that computes.
use Rattle.std.proofs.Common.{◌≡◌, ◌∙◌, ℕ, zero, suc, ◌+◌, ◌<◌, ◌≤◌, Bool, true, List, [], ◌∷◌, length, Some, refl, sym, ap, subst, arith}
use Rattle.std.specs.Prelude.{slice_get, nat_le, ◌&&◌, ◌||◌, ◌==◌, not}
use Rattle.std.proofs.lemmas.Bool.{and_parts, leb-true, eq-eqb}
use Rattle.std.proofs.lemmas.Option.{same_Some}
use Rattle.tlp_core.specs.Ops.{Op}
use Rattle.seq_memory.specs.Entries.{Entry}
use Rattle.history_words.specs.Records.{Record}
use Rattle.history_words.specs.declared.record.RecordOf.TheVariants as records
use Rattle.history_words.specs.Claim.{Claim}
use Rattle.history_words.specs.Flaws.{moment}
use Rattle.history_words.specs.Clocks.{IsClocked}

-- n never falls, from low up to high
abbrev pub climbs : ℕ → ℕ → List Record → Bool
climbs low high [] = nat_le low high
climbs low high (r ∷ rs) = nat_le low (moment r) && climbs (moment r) high rs

-- no record submits the request at an n above p
abbrev pub is_late : ℕ → Entry → Record → Bool
is_late p e (records.Sub i k op n) = not ((i == e.requester) && (k == e.number)) || nat_le n p
is_late p e (records.Ans i k reply n) = true

abbrev pub are_late : ℕ → Entry → List Record → Bool
are_late p e [] = true
are_late p e (r ∷ rs) = is_late p e r && are_late p e rs

abbrev pub all_late : List Record → ℕ → List Entry → Bool
all_late rs p [] = true
all_late rs p (e ∷ es) = are_late p e rs && all_late rs (suc p) es

above : (low high : ℕ) (rs : List Record) (a : ℕ) (r : Record) → climbs low high rs ≡ true → slice_get rs a ≡ Some r → (low ≤ moment r) × (moment r ≤ high)
above low high [] a r c at = cc
above low high (x ∷ []) zero r c at =
    let (one, two) = and_parts (nat_le low (moment x)) (nat_le (moment x) high) c in
    subst (λ y. (low ≤ moment y) × (moment y ≤ high)) (same_Some x r at) (leb-true low (moment x) one, leb-true (moment x) high two)
above low high (x ∷ y ∷ ys) zero r c at =
    let (one, rest) = and_parts (nat_le low (moment x)) (climbs (moment x) high (y ∷ ys)) c in
    let low_enough = leb-true low (moment x) one in
    let (more, most) = above (moment x) high (y ∷ ys) zero y rest refl in
    subst (λ z. (low ≤ moment z) × (moment z ≤ high)) (same_Some x r at) (low_enough, omega (arith, more, most))
above low high (x ∷ []) (suc a) r c at = cc
above low high (x ∷ y ∷ ys) (suc a) r c at =
    let (one, rest) = and_parts (nat_le low (moment x)) (climbs (moment x) high (y ∷ ys)) c in
    let low_enough = leb-true low (moment x) one in
    let (more, most) = above (moment x) high (y ∷ ys) a r rest at in
    (omega (arith, low_enough, more), most)

rises : (low high : ℕ) (rs : List Record) (a b : ℕ) (r s : Record) → climbs low high rs ≡ true → a < b → slice_get rs a ≡ Some r → slice_get rs b ≡ Some s → moment r ≤ moment s
rises low high [] a b r s c l at there = cc
rises low high (x ∷ xs) zero zero r s c l at there = absurd (omega arith)
rises low high (x ∷ xs) (suc a) zero r s c l at there = absurd (omega arith)
rises low high (x ∷ xs) zero (suc b) r s c l at there =
    let (one, rest) = and_parts (nat_le low (moment x)) (climbs (moment x) high xs) c in
    subst (λ y. moment y ≤ moment s) (same_Some x r at) (above (moment x) high xs b s rest there).0
rises low high (x ∷ xs) (suc a) (suc b) r s c l at there =
    let (one, rest) = and_parts (nat_le low (moment x)) (climbs (moment x) high xs) c in
    rises (moment x) high xs a b r s rest (omega arith) at there

late_one : (p i k n : ℕ) (e : Entry) (op : Op) → i ≡ e.requester → k ≡ e.number → is_late p e (records.Sub i k op n) ≡ true → n ≤ p
late_one p i k n e op one two t =
    let same : (not ((i == e.requester) && (k == e.number)) || nat_le n p) ≡ nat_le n p = rw (eq-eqb i e.requester one, eq-eqb k e.number two) refl in
    leb-true n p (sym same ∙ t)

late : (p : ℕ) (e : Entry) (rs : List Record) (b n : ℕ) (op : Op) → are_late p e rs ≡ true → slice_get rs b ≡ Some (records.Sub e.requester e.number op n) → n ≤ p
late p e [] b n op t at = cc
late p e (r ∷ rs) zero n op t at =
    let (one, rest) = and_parts (is_late p e r) (are_late p e rs) t in
    late_one p e.requester e.number n e op refl refl (ap (is_late p e) (sym (same_Some r (records.Sub e.requester e.number op n) at)) ∙ one)
late p e (r ∷ rs) (suc b) n op t at = late p e rs b n op (and_parts (is_late p e r) (are_late p e rs) t).1 at

every_late : (rs : List Record) (p : ℕ) (es : List Entry) (q b n : ℕ) (e : Entry) (op : Op) → all_late rs p es ≡ true → slice_get es q ≡ Some e → slice_get rs b ≡ Some (records.Sub e.requester e.number op n) → n ≤ p + q
every_late rs p [] q b n e op t at there = cc
every_late rs p (f ∷ fs) zero b n e op t at there =
    let (one, rest) = and_parts (are_late p f rs) (all_late rs (suc p) fs) t in
    let h : n ≤ p = late p e rs b n op (ap (λ g. are_late p g rs) (sym (same_Some f e at)) ∙ one) there in
    omega (arith, h)
every_late rs p (f ∷ fs) (suc q) b n e op t at there =
    let (one, rest) = and_parts (are_late p f rs) (all_late rs (suc p) fs) t in
    let h : n ≤ suc p + q = every_late rs (suc p) fs q b n e op rest at there in
    omega (arith, h)

pub clocked : (x : Claim) → climbs 0 (length x.memory.entries) x.records ≡ true → all_late x.records 0 x.memory.entries ≡ true → IsClocked x
clocked x c t = record {
  rises = λ a b r s l at there. rises 0 (length x.memory.entries) x.records a b r s c l at there;
  bounded = λ a r at. (above 0 (length x.memory.entries) x.records a r c at).1;
  after_submission = λ p b n e op at there. let h : n ≤ 0 + p = every_late x.records 0 x.memory.entries p b n e op t at there in omega (arith, h);
}
