-- The tables as the records and the history go on.
use Rattle.std.proofs.Common.{◌≡◌, ℕ, ◌+◌, ◌<◌, Bool, cond, List, [], ◌∷◌, ◌++◌, length, take, set, get_or, Option, Some, None, refl, sym, ap, subst, ◌∙◌, inl, inr, arith, length-append}
use Rattle.std.specs.Prelude.{slice_get, ◌==◌, ◌&&◌, filter_map, replicate, option_and_then}
use Rattle.std.specs.Option.{option_or}
use Rattle.std.proofs.lemmas.Bool.{cases_eq, eq-eqb, ne_eqb}
use Rattle.std.proofs.lemmas.List.{length-set, get_or-set_same, get_or-set_other, get_or-replicate, length-replicate, replicate_more, take_more, length-take-le}
use Rattle.std.proofs.lemmas.Option.{slice_get_within, get_or_from_slice_get}
use Rattle.history_words.specs.declared.flaws.FlawKind.{FlawKind}
use Rattle.history_words.specs.declared.flaws.FlawKind.TheVariants as flaws
use Rattle.std.proofs.lemmas.List.Elements.{filter_map-append}
use Rattle.tlp_core.specs.Ops.{Op}
use Rattle.seq_memory.specs.Entries.{Reply}
use Rattle.history_words.specs.Records.{Record}
use Rattle.history_words.specs.declared.record.RecordOf.TheVariants as records
use Rattle.history_words.specs.Trace.{submission, submissions}
use Rattle.history_words.specs.Flaws.{is_sub, sub_place, numbering_at, numbering_flaw}
use Rattle.history_words.specs.Lookup.{IsIndex, place_in}
use Rattle.history_check.proofs.Firsts.{first_place-push, slice_get-push, or_none}

count_same : (rs : List Record) (i k : ℕ) (op : Op) (n : ℕ) → length (submissions (rs ++ records.Sub i k op n ∷ []) i) ≡ length (submissions rs i) + 1
count_same rs i k op n =
    let one : filter_map (submission i) (records.Sub i k op n ∷ []) ≡ op ∷ [] = rw (eq-eqb i i refl) refl in
    ap length (filter_map-append (submission i) rs (records.Sub i k op n ∷ []) ∙ ap (λ (ys : List Op). submissions rs i ++ ys) one) ∙ length-append (submissions rs i) (op ∷ [])

nothing : (xs ys : List Op) → ys ≡ [] → length (xs ++ ys) ≡ length xs
nothing xs ys e = rw e (omega (arith, length-append xs []))

count_other : (rs : List Record) (j i k : ℕ) (op : Op) (n : ℕ) → (j ≡ i → ⊥) → length (submissions (rs ++ records.Sub i k op n ∷ []) j) ≡ length (submissions rs j)
count_other rs j i k op n d =
    let none : filter_map (submission j) (records.Sub i k op n ∷ []) ≡ [] = rw (ne_eqb j i d) refl in
    ap length (filter_map-append (submission j) rs (records.Sub i k op n ∷ [])) ∙ nothing (submissions rs j) _ none

count_ans : (rs : List Record) (j i k : ℕ) (reply : Reply) (n : ℕ) → length (submissions (rs ++ records.Ans i k reply n ∷ []) j) ≡ length (submissions rs j)
count_ans rs j i k reply n =
    ap length (filter_map-append (submission j) rs (records.Ans i k reply n ∷ [])) ∙ nothing (submissions rs j) [] refl

sub_place-ans : (rs : List Record) (j m i k : ℕ) (reply : Reply) (n : ℕ) → sub_place (rs ++ records.Ans i k reply n ∷ []) j m ≡ sub_place rs j m
sub_place-ans rs j m i k reply n = first_place-push (is_sub j m) rs (records.Ans i k reply n) ∙ or_none (sub_place rs j m)

pub indexed_ans : (rows : List (List ℕ)) (rs : List Record) (i k : ℕ) (reply : Reply) (n : ℕ) → IsIndex rows rs → IsIndex rows (rs ++ records.Ans i k reply n ∷ [])
indexed_ans rows rs i k reply n x = record {
  len = x.len;
  count = λ j l. x.count j l ∙ sym (count_ans rs j i k reply n);
  at = λ j m l. x.at j m l ∙ sym (sub_place-ans rs j m i k reply n);
}

-- the row with one more place
abbrev pub added : List (List ℕ) → ℕ → ℕ → List (List ℕ)
added rows i a = set rows i (get_or rows i [] ++ a ∷ [])

at_same : (row : List ℕ) (rs : List Record) (i k m : ℕ) (op : Op) (n : ℕ) → k ≡ length row → slice_get row m ≡ sub_place rs i m → slice_get (row ++ length rs ∷ []) m ≡ sub_place (rs ++ records.Sub i k op n ∷ []) i m
at_same row rs i k m op n e at =
    slice_get-push row (length rs) m ∙ ap (λ o. option_or o (cond (m == length row) (Some (length rs)) None)) at
    ∙ ap (λ (t : Bool). option_or (sub_place rs i m) (cond t (Some (length rs)) None)) (ap (λ v. m == v) (sym e) ∙ ap (λ (t : Bool). t && (m == k)) (sym (eq-eqb i i refl)))
    ∙ sym (first_place-push (is_sub i m) rs (records.Sub i k op n))

at_other : (rs : List Record) (j m i k : ℕ) (op : Op) (n : ℕ) → (j ≡ i → ⊥) → sub_place (rs ++ records.Sub i k op n ∷ []) j m ≡ sub_place rs j m
at_other rs j m i k op n d =
    first_place-push (is_sub j m) rs (records.Sub i k op n)
    ∙ ap (λ (t : Bool). option_or (sub_place rs j m) (cond (t && (m == k)) (Some (length rs)) None)) (ne_eqb j i d)
    ∙ or_none (sub_place rs j m)

pub indexed_sub : (rows : List (List ℕ)) (rs : List Record) (i k : ℕ) (op : Op) (n : ℕ) → IsIndex rows rs → i < 256 → k ≡ length (get_or rows i []) → IsIndex (added rows i (length rs)) (rs ++ records.Sub i k op n ∷ [])
indexed_sub rows rs i k op n x small e =
    let within : i < length rows = omega (arith, x.len) in
    let same : get_or (added rows i (length rs)) i [] ≡ get_or rows i [] ++ length rs ∷ [] = get_or-set_same rows i (get_or rows i [] ++ length rs ∷ []) [] within in
    record {
      len = length-set rows i (get_or rows i [] ++ length rs ∷ []) ∙ x.len;
      count = λ j l. elim (cases_eq j i) [
        | inl s ↦ subst (λ (v : ℕ). length (get_or (added rows i (length rs)) v []) ≡ length (submissions (rs ++ records.Sub i k op n ∷ []) v)) (sym s)
            (ap (length {A = ℕ}) same ∙ length-append (get_or rows i []) (length rs ∷ []) ∙ ap (λ v. v + 1) (x.count i small) ∙ sym (count_same rs i k op n))
        | inr d ↦ ap (length {A = ℕ}) (get_or-set_other rows i j (get_or rows i [] ++ length rs ∷ []) [] d) ∙ x.count j l ∙ sym (count_other rs j i k op n d)
      ];
      at = λ j m l. elim (cases_eq j i) [
        | inl s ↦ subst (λ (v : ℕ). place_in (added rows i (length rs)) v m ≡ sub_place (rs ++ records.Sub i k op n ∷ []) v m) (sym s)
            (ap (λ (row : List ℕ). slice_get row m) same ∙ at_same (get_or rows i []) rs i k m op n e (x.at i m small))
        | inr d ↦ ap (λ (row : List ℕ). slice_get row m) (get_or-set_other rows i j (get_or rows i [] ++ length rs ∷ []) [] d) ∙ x.at j m l ∙ sym (at_other rs j m i k op n d)
      ];
    }

pub indexed_none : IsIndex (replicate 256 []) []
indexed_none =
    let empty : List ℕ = [] in
    record {
      len = length-replicate 256 empty;
      count = λ i l. ap (length {A = ℕ}) (get_or-replicate 256 i empty empty l);
      at = λ i k l. ap (λ (row : List ℕ). slice_get row k) (get_or-replicate 256 i empty empty l);
    }

pub push_row : (rows : List (List ℕ)) (n m : ℕ) (row : List ℕ) → rows ≡ replicate n [] → row ≡ [] → m ≡ n + 1 → rows ++ row ∷ [] ≡ replicate m []
push_row rows n m row e1 e2 e3 = rw (e1, e2, e3) (replicate_more n [])

-- ---- one record more

next : (rs : List Record) (a : ℕ) (r : Record) → slice_get rs a ≡ Some r → take (a + 1) rs ≡ take a rs ++ r ∷ []
next rs a r at = take_more rs a r (slice_get_within rs a r at) ∙ ap (λ (r : Record). take a rs ++ r ∷ []) (get_or_from_slice_get rs a r r at)

pub indexed_next_sub : (rows new : List (List ℕ)) (rs : List Record) (a i k : ℕ) (op : Op) (n : ℕ) → slice_get rs a ≡ Some (records.Sub i k op n) → IsIndex rows (take a rs) → i < 256 → k ≡ length (get_or rows i []) → new ≡ added rows i a → IsIndex new (take (a + 1) rs)
indexed_next_sub rows new rs a i k op n at x small e made =
    let within : a < length rs = slice_get_within rs a (records.Sub i k op n) at in
    let len : length (take a rs) ≡ a = length-take-le a rs (omega arith) in
    rw (made, next rs a (records.Sub i k op n) at) (subst (λ m. IsIndex (added rows i m) (take a rs ++ records.Sub i k op n ∷ [])) len (indexed_sub rows (take a rs) i k op n x small e))

pub indexed_next_ans : (rows : List (List ℕ)) (rs : List Record) (a i k : ℕ) (reply : Reply) (n : ℕ) → slice_get rs a ≡ Some (records.Ans i k reply n) → IsIndex rows (take a rs) → IsIndex rows (take (a + 1) rs)
indexed_next_ans rows rs a i k reply n at x =
    rw (next rs a (records.Ans i k reply n) at) (indexed_ans rows (take a rs) i k reply n x)

bound : (rs : List Record) (a : ℕ) (r : Record) (o : Option FlawKind) → slice_get rs a ≡ Some r → numbering_flaw (take a rs) r ≡ o → numbering_at rs a ≡ o
unfolding numbering_at
bound rs a r o at e = ap (λ (x : Option Record). option_and_then (numbering_flaw (take a rs)) x) at ∙ e

pub numbering-good : (rows : List (List ℕ)) (rs : List Record) (a i k : ℕ) (op : Op) (n : ℕ) → slice_get rs a ≡ Some (records.Sub i k op n) → IsIndex rows (take a rs) → i < 256 → k ≡ length (get_or rows i []) → numbering_at rs a ≡ None
numbering-good rows rs a i k op n at x small e =
    bound rs a (records.Sub i k op n) None at (rw (eq-eqb k (length (submissions (take a rs) i)) (e ∙ x.count i small)) refl)

pub numbering-bad : (rows : List (List ℕ)) (rs : List Record) (a i k : ℕ) (op : Op) (n : ℕ) → slice_get rs a ≡ Some (records.Sub i k op n) → IsIndex rows (take a rs) → i < 256 → (k ≡ length (get_or rows i []) → ⊥) → numbering_at rs a ≡ Some flaws.Numbering
numbering-bad rows rs a i k op n at x small d =
    bound rs a (records.Sub i k op n) (Some flaws.Numbering) at (rw (ne_eqb k (length (submissions (take a rs) i)) (λ e. d (e ∙ sym (x.count i small)))) refl)

pub numbering-ans : (rs : List Record) (a i k : ℕ) (reply : Reply) (n : ℕ) → slice_get rs a ≡ Some (records.Ans i k reply n) → numbering_at rs a ≡ None
numbering-ans rs a i k reply n at = bound rs a (records.Ans i k reply n) None at refl
