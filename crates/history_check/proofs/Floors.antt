-- What each requester had seen, and where each request was answered first, record by record.
use Rattle.std.proofs.Common.{◌≡◌, ℕ, ◌+◌, ◌<◌, Bool, true, false, cond, List, [], ◌∷◌, ◌++◌, length, take, set, get_or, Option, Some, None, refl, sym, ap, subst, ◌∙◌, inl, inr, arith}
use Rattle.std.specs.Prelude.{slice_get, ◌==◌, ◌&&◌, ◌||◌, nat_le, replicate}
use Rattle.std.specs.List.{list_any}
use Rattle.std.specs.Option.{option_or}
use Rattle.std.proofs.lemmas.Bool.{cases_eq, cases_lt, cases_Bool, eqb-true, eq-eqb, ne_eqb, and_parts}
use Rattle.std.proofs.lemmas.List.{length-set, get_or-set_same, get_or-set_other, get_or-replicate, length-replicate, take_more, length_push, get_or_append_left, take-append-le, length-take-le, get_or_push, take_at, get_or_read}
use Rattle.std.proofs.lemmas.List.Folds.{list_any-append}
use Rattle.std.proofs.lemmas.Option.{slice_get_within, get_or_from_slice_get, slice_get-get_or, same_Some, none-some}
use Rattle.seq_memory.specs.Entries.{Reply}
use Rattle.tlp_core.specs.Ops.{Op}
use Rattle.history_words.specs.Records.{Record}
use Rattle.history_words.specs.declared.record.RecordOf.TheVariants as records
use Rattle.history_words.specs.Trace.{answers_to}
use Rattle.history_words.specs.Flaws.{sub_place, is_sub, first_place, some_and, had_later}
use Rattle.history_words.specs.Lookup.{IsIndex, AreFloors, AreFirsts, place_in, requester_of}
use Rattle.history_check.proofs.Firsts.{first_place-push, or_none}
use Rattle.history_check.proofs.Entries.{one_request, set_same, set_other, within}

abbrev Places : Type 0
Places = ℕ → ℕ → Option ℕ

floor_old : (floors : List (Option ℕ)) (place : Places) (rs : List Record) (r : Record) (s : Option ℕ) (b p : ℕ) (x : Record) → AreFloors floors place rs → slice_get (rs ++ r ∷ []) b ≡ Some x → b < length rs → some_and (get_or (floors ++ s ∷ []) b None) (nat_le p) ≡ list_any (had_later place (requester_of x) p) (take b (rs ++ r ∷ []))
floor_old floors place rs r s b p x a at l =
    let nothing : Option ℕ = None in
    let old : slice_get rs b ≡ Some x = slice_get-get_or rs b x l ∙ ap Some (sym (get_or_append_left rs (r ∷ []) x b l) ∙ get_or_from_slice_get (rs ++ r ∷ []) b x x at) in
    ap (λ (o : Option ℕ). some_and o (nat_le p)) (get_or_append_left floors (s ∷ []) nothing b (omega (arith, a.len)))
    ∙ a.at b p x old
    ∙ ap (λ (ys : List Record). list_any (had_later place (requester_of x) p) ys) (sym (take-append-le b rs (r ∷ []) (omega arith)))

floor_new : (floors : List (Option ℕ)) (place : Places) (rs : List Record) (r : Record) (s : Option ℕ) (b p : ℕ) (x : Record) → AreFloors floors place rs → ((p : ℕ) → some_and s (nat_le p) ≡ list_any (had_later place (requester_of r) p) rs) → slice_get (rs ++ r ∷ []) b ≡ Some x → b ≡ length rs → some_and (get_or (floors ++ s ∷ []) b None) (nat_le p) ≡ list_any (had_later place (requester_of x) p) (take b (rs ++ r ∷ []))
floor_new floors place rs r s b p x a new at e =
    let nothing : Option ℕ = None in
    let same : r ≡ x = sym (get_or_push rs r x b (sym e)) ∙ get_or_from_slice_get (rs ++ r ∷ []) b x x at in
    ap (λ (o : Option ℕ). some_and o (nat_le p)) (get_or_push floors s nothing b (omega (arith, a.len)))
    ∙ new p
    ∙ ap (λ (r : Record). list_any (had_later place (requester_of r) p) rs) same
    ∙ ap (λ (ys : List Record). list_any (had_later place (requester_of x) p) ys) (sym (take_at rs (r ∷ []) b (sym e)))

pub floors_push : (floors : List (Option ℕ)) (place : Places) (rs : List Record) (r : Record) (s : Option ℕ) → AreFloors floors place rs → ((p : ℕ) → some_and s (nat_le p) ≡ list_any (had_later place (requester_of r) p) rs) → AreFloors (floors ++ s ∷ []) place (rs ++ r ∷ [])
floors_push floors place rs r s a new = record {
  len = length_push floors s ∙ ap (λ n. n + 1) a.len ∙ sym (length_push rs r);
  at = λ b p x at. elim (cases_lt b (length rs)) [
    | inl l ↦ floor_old floors place rs r s b p x a at l
    | inr m ↦ floor_new floors place rs r s b p x a new at (omega (arith, length_push rs r, slice_get_within (rs ++ r ∷ []) b x at))
  ];
}

or_false : (a b : Bool) → b ≡ false → (a || b) ≡ a
or_false true b e = refl
or_false false b e = e

single : (t : Record → Bool) (r : Record) → list_any t (r ∷ []) ≡ t r
single t r = or_false (t r) false refl

pub any-push : (t : Record → Bool) (rs : List Record) (r : Record) → list_any t (rs ++ r ∷ []) ≡ (list_any t rs || t r)
any-push t rs r = list_any-append t rs (r ∷ []) ∙ ap (λ v. list_any t rs || v) (single t r)

pub seen_sub : (place : Places) (rs : List Record) (r : Record) (i p j k : ℕ) (op : Op) (n : ℕ) → r ≡ records.Sub j k op n → list_any (had_later place i p) (rs ++ r ∷ []) ≡ list_any (had_later place i p) rs
seen_sub place rs r i p j k op n e = any-push (had_later place i p) rs r ∙ or_false _ (had_later place i p r) (rw e refl)

pub seen_ans : (place : Places) (rs : List Record) (seen : List (Option ℕ)) (new : Option ℕ) (j m : ℕ) (reply : Reply) (n : ℕ) → length seen ≡ 256 → j < 256 → ((i p : ℕ) → i < 256 → some_and (get_or seen i None) (nat_le p) ≡ list_any (had_later place i p) rs) → ((p : ℕ) → some_and new (nat_le p) ≡ (some_and (get_or seen j None) (nat_le p) || some_and (place j m) (nat_le p))) → (i p : ℕ) → i < 256 → some_and (get_or (set seen j new) i None) (nat_le p) ≡ list_any (had_later place i p) (rs ++ records.Ans j m reply n ∷ [])
seen_ans place rs seen new j m reply n len small old made i p l =
    let nothing : Option ℕ = None in
    elim (cases_eq i j) [
      | inl e ↦
          ap (λ (i : ℕ). some_and (get_or (set seen j new) i None) (nat_le p)) e
          ∙ ap (λ (o : Option ℕ). some_and o (nat_le p)) (get_or-set_same seen j new nothing (omega arith))
          ∙ made p
          ∙ ap (λ v. v || some_and (place j m) (nat_le p)) (old j p small)
          ∙ ap (λ (t : Bool). list_any (had_later place j p) rs || (t && some_and (place j m) (nat_le p))) (sym (eq-eqb j j refl))
          ∙ sym (any-push (had_later place j p) rs (records.Ans j m reply n))
          ∙ ap (λ (i : ℕ). list_any (had_later place i p) (rs ++ records.Ans j m reply n ∷ [])) (sym e)
      | inr d ↦
          ap (λ (o : Option ℕ). some_and o (nat_le p)) (get_or-set_other seen j i new nothing d)
          ∙ old i p l
          ∙ sym (or_false _ (had_later place i p (records.Ans j m reply n)) (ap (λ (t : Bool). t && some_and (place j m) (nat_le p)) (ne_eqb i j d)))
          ∙ sym (any-push (had_later place i p) rs (records.Ans j m reply n))
    ]

pub floors_none : (place : Places) → AreFloors [] place []
floors_none place = record { len = refl; at = λ b p r at. absurd (let l : b < 0 = slice_get_within {A = Record} [] b r at in omega arith) }

pub next_record : (rs : List Record) (a : ℕ) (r : Record) → slice_get rs a ≡ Some r → take (a + 1) rs ≡ take a rs ++ r ∷ []
next_record rs a r at = take_more rs a r (slice_get_within rs a r at) ∙ ap (λ (r : Record). take a rs ++ r ∷ []) (get_or_from_slice_get rs a r r at)

-- ---- first answers

same_ans : (i j k m : ℕ) (reply : Reply) (n : ℕ) → answers_to i k (records.Ans j m reply n) ≡ true → (i ≡ j) × (k ≡ m)
same_ans i j k m reply n e = let (e1, e2) = and_parts (i == j) (k == m) e in (eqb-true i j e1, eqb-true k m e2)

-- a record that answers no submission changes nothing
firsts_other : (firsts : List (Option ℕ)) (rs before : List Record) (r : Record) → AreFirsts firsts rs before → ((i k b : ℕ) → sub_place rs i k ≡ Some b → answers_to i k r ≡ false) → AreFirsts firsts rs (before ++ r ∷ [])
firsts_other firsts rs before r a none = record {
  len = a.len;
  at = λ i k b s. a.at i k b s ∙ ap Some (sym (first_place-push (answers_to i k) before r ∙ ap (λ t. option_or (first_place (answers_to i k) before) (cond t (Some (length before)) None)) (none i k b s) ∙ or_none (first_place (answers_to i k) before)));
}

firsts_ans : (firsts : List (Option ℕ)) (rs before : List Record) (j m b : ℕ) (reply : Reply) (n : ℕ) (old : Option ℕ) → AreFirsts firsts rs before → sub_place rs j m ≡ Some b → old ≡ first_place (answers_to j m) before → AreFirsts (set firsts b (option_or old (Some (length before)))) rs (before ++ records.Ans j m reply n ∷ [])
firsts_ans firsts rs before j m b reply n old a here is =
    let new : Option ℕ = option_or old (Some (length before)) in
    record {
      len = length-set firsts b new ∙ a.len;
      at = λ i k c s. elim (cases_eq c b) [
        | inl e ↦
            let (e1, e2) = one_request rs i j k m b (s ∙ ap Some e) here in
            let itself : answers_to i k (records.Ans j m reply n) ≡ true = rw (eq-eqb i j e1, eq-eqb k m e2) refl in
            ap (λ c. slice_get (set firsts b new) c) e
            ∙ set_same firsts b new (omega (arith, a.len, within (is_sub j m) rs b here))
            ∙ ap (λ o. Some (option_or o (Some (length before)))) (is ∙ ap (λ j. first_place (answers_to j m) before) (sym e1) ∙ ap (λ m. first_place (answers_to i m) before) (sym e2))
            ∙ ap Some (sym (first_place-push (answers_to i k) before (records.Ans j m reply n) ∙ ap (λ t. option_or (first_place (answers_to i k) before) (cond t (Some (length before)) None)) itself))
        | inr d ↦
            let miss : answers_to i k (records.Ans j m reply n) ≡ false = elim (cases_Bool (answers_to i k (records.Ans j m reply n))) [
              | inl t ↦ let (e1, e2) = same_ans i j k m reply n t in absurd (d (same_Some c b (sym s ∙ ap (λ i. sub_place rs i k) e1 ∙ ap (λ k. sub_place rs j k) e2 ∙ here)))
              | inr f ↦ f
            ] in
            set_other firsts b c new d ∙ a.at i k c s
            ∙ ap Some (sym (first_place-push (answers_to i k) before (records.Ans j m reply n)
            ∙ ap (λ t. option_or (first_place (answers_to i k) before) (cond t (Some (length before)) None)) miss
            ∙ or_none (first_place (answers_to i k) before)))
      ];
    }

pub firsts_none : (rs : List Record) (n : ℕ) → n ≡ length rs → AreFirsts (replicate n None) rs []
firsts_none rs n e =
    let nothing : Option ℕ = None in
    record {
      len = length-replicate n nothing ∙ e;
      at = λ i k b s. slice_get-get_or (replicate n nothing) b nothing (omega (arith, length-replicate n nothing, within (is_sub i k) rs b s)) ∙ ap Some (get_or-replicate n b nothing nothing (omega (arith, within (is_sub i k) rs b s)));
    }

-- where a submission is looked up, the table has its row
pub in_firsts : (rows : List (List ℕ)) (firsts : List (Option ℕ)) (rs before : List Record) (i k b : ℕ) (o : Option ℕ) → IsIndex rows rs → AreFirsts firsts rs before → i < 256 → o ≡ place_in rows i k → o ≡ Some b → b < length firsts
in_firsts rows firsts rs before i k b o x f small looked is = omega (arith, f.len, within (is_sub i k) rs b (sym (x.at i k small) ∙ sym looked ∙ is))

pub firsts_next_sub : (firsts : List (Option ℕ)) (rs : List Record) (a j m : ℕ) (op : Op) (n : ℕ) → slice_get rs a ≡ Some (records.Sub j m op n) → AreFirsts firsts rs (take a rs) → AreFirsts firsts rs (take (a + 1) rs)
firsts_next_sub firsts rs a j m op n at f = rw (next_record rs a (records.Sub j m op n) at) (firsts_other firsts rs (take a rs) (records.Sub j m op n) f (λ i k b s. refl))

-- an answer to what was not submitted
pub firsts_next_none : (firsts : List (Option ℕ)) (rs : List Record) (a j m : ℕ) (reply : Reply) (n : ℕ) → slice_get rs a ≡ Some (records.Ans j m reply n) → sub_place rs j m ≡ None → AreFirsts firsts rs (take a rs) → AreFirsts firsts rs (take (a + 1) rs)
firsts_next_none firsts rs a j m reply n at none f =
    rw (next_record rs a (records.Ans j m reply n) at) (firsts_other firsts rs (take a rs) (records.Ans j m reply n) f (λ i k b s. elim (cases_Bool (answers_to i k (records.Ans j m reply n))) [
      | inl t ↦ let (e1, e2) = same_ans i j k m reply n t in absurd (none-some b (sym none ∙ ap (λ j. sub_place rs j m) (sym e1) ∙ ap (λ m. sub_place rs i m) (sym e2) ∙ s))
      | inr f ↦ f
    ]))

pub firsts_next_ans : (firsts new : List (Option ℕ)) (rs : List Record) (a j m b : ℕ) (reply : Reply) (n : ℕ) (old made : Option ℕ) → slice_get rs a ≡ Some (records.Ans j m reply n) → sub_place rs j m ≡ Some b → old ≡ get_or firsts b old → made ≡ option_or old (Some a) → new ≡ set firsts b made → AreFirsts firsts rs (take a rs) → AreFirsts new rs (take (a + 1) rs)
firsts_next_ans firsts new rs a j m b reply n old made at here read is written f =
    let len : length (take a rs) ≡ a = length-take-le a rs (let l = slice_get_within rs a (records.Ans j m reply n) at in omega arith) in
    let old_is : old ≡ first_place (answers_to j m) (take a rs) = read ∙ get_or_from_slice_get firsts b (first_place (answers_to j m) (take a rs)) old (f.at j m b here) in
    rw (next_record rs a (records.Ans j m reply n) at, written, is) (subst (λ v. AreFirsts (set firsts b (option_or old (Some v))) rs (take a rs ++ records.Ans j m reply n ∷ [])) len (firsts_ans firsts rs (take a rs) j m b reply n old f here old_is))

-- ---- what the loops read

pub floors_next : (floors new : List (Option ℕ)) (place : Places) (rs : List Record) (a : ℕ) (r : Record) (s : Option ℕ) → AreFloors floors place (take a rs) → slice_get rs a ≡ Some r → new ≡ floors ++ s ∷ [] → ((p : ℕ) → some_and s (nat_le p) ≡ list_any (had_later place (requester_of r) p) (take a rs)) → AreFloors new place (take (a + 1) rs)
floors_next floors new place rs a r s f at made seen = rw (made, next_record rs a r at) (floors_push floors place (take a rs) r s f seen)

pub seen_of : (seen : List (Option ℕ)) (place : Places) (rs : List Record) (i j : ℕ) (s : Option ℕ) → length seen ≡ 256 → i < 256 → ((i p : ℕ) → i < 256 → some_and (get_or seen i None) (nat_le p) ≡ list_any (had_later place i p) rs) → j ≡ i → s ≡ get_or seen j s → (p : ℕ) → some_and s (nat_le p) ≡ list_any (had_later place i p) rs
seen_of seen place rs i j s len small old e read p =
    let nothing : Option ℕ = None in
    ap (λ (o : Option ℕ). some_and o (nat_le p)) (get_or_read seen i s (omega arith) (read ∙ ap (λ j. get_or seen j s) e) nothing) ∙ old i p small

pub seen_next_sub : (place : Places) (rs : List Record) (a i p j k : ℕ) (op : Op) (n : ℕ) → slice_get rs a ≡ Some (records.Sub j k op n) → list_any (had_later place i p) (take (a + 1) rs) ≡ list_any (had_later place i p) (take a rs)
seen_next_sub place rs a i p j k op n at =
    ap (list_any (had_later place i p)) (next_record rs a _ at) ∙ seen_sub place (take a rs) (records.Sub j k op n) i p j k op n refl

pub seen_next_ans : (place : Places) (rs : List Record) (a : ℕ) (seen after : List (Option ℕ)) (old new point : Option ℕ) (j j1 m : ℕ) (reply : Reply) (n : ℕ) → slice_get rs a ≡ Some (records.Ans j m reply n) → length seen ≡ 256 → j < 256 → ((i p : ℕ) → i < 256 → some_and (get_or seen i None) (nat_le p) ≡ list_any (had_later place i p) (take a rs)) → j1 ≡ j → old ≡ get_or seen j1 old → point ≡ place j m → ((p : ℕ) → some_and new (nat_le p) ≡ (some_and old (nat_le p) || some_and point (nat_le p))) → after ≡ set seen j1 new → (i p : ℕ) → i < 256 → some_and (get_or after i None) (nat_le p) ≡ list_any (had_later place i p) (take (a + 1) rs)
seen_next_ans place rs a seen after old new point j j1 m reply n at len small inv e read pt made written i p l =
    let nothing : Option ℕ = None in
    let old_is : old ≡ get_or seen j nothing = get_or_read seen j old (omega arith) (read ∙ ap (λ j. get_or seen j old) e) nothing in
    ap (λ (xs : List (Option ℕ)). some_and (get_or xs i None) (nat_le p)) (written ∙ ap (λ j. set seen j new) e)
    ∙ seen_ans place (take a rs) seen new j m reply n len small inv (λ p. made p ∙ ap (λ (o : Option ℕ). some_and o (nat_le p) || some_and point (nat_le p)) old_is ∙ ap (λ (o : Option ℕ). some_and (get_or seen j None) (nat_le p) || some_and o (nat_le p)) pt) i p l
    ∙ ap (list_any (had_later place i p)) (sym (next_record rs a _ at))
