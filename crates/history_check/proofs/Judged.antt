-- What the tables tell of an answer is its flaw.
use Rattle.std.proofs.Common.{◌≡◌, ℕ, ◌<◌, Bool, true, false, List, [], ◌∷◌, take, Option, Some, None, refl, sym, ap, ◌∙◌, inl, inr, arith}
use Rattle.std.specs.Prelude.{slice_get, option_map, ◌==◌, ◌&&◌, ◌||◌, not, nat_le, nat_lt, if◌then◌else◌, option_and_then}
use Rattle.std.specs.List.{list_any}
use Rattle.std.proofs.lemmas.Bool.{cases_Bool, cases_lt, and_parts, eqb-true, eq-eqb, lt-ltb, le-ltb}
use Rattle.std.proofs.lemmas.Option.{slice_get-get_or, none-some}
use Rattle.seq_memory.specs.Entries.{Entry}
use Rattle.seq_memory.specs.Step.{answer}
use Rattle.seq_memory.specs.Entries.{Reply}
use Rattle.seq_memory.specs.History.{extent_of, contents_at, reply_at}
use Rattle.tlp_core.specs.Ops.{Op}
use Rattle.history_words.specs.Records.{Record}
use Rattle.history_words.specs.declared.record.RecordOf.TheVariants as records
use Rattle.history_words.specs.declared.flaws.FlawKind.{FlawKind}
use Rattle.history_words.specs.declared.flaws.FlawKind.TheVariants as flaws
use Rattle.history_words.specs.Trace.{answers_to, is_request}
use Rattle.history_words.specs.Flaws.{sub_place, place_of, is_sub, first_place, some_and, at_place, had_later, asks, moment, same_reply, acted_flaw, point_flaw, asked_flaw, answer_flaw, answer_at}
use Rattle.history_words.specs.Claim.{Claim}
use Rattle.history_words.specs.Lookup.{IsIndex, ArePoints, AreFloors, AreFirsts, AreTables, place_in, point_in, requester_of, answers_with, is_told_at, is_told_in, acted_in, judged_point, judged}
use Rattle.history_check.proofs.Entries.{point_is, passes, present, within, is_it}
use Rattle.history_check.proofs.Lists.{clash, take_at, one_passes, passing, no_one, first_of_any, first_is, first_there, first_below, first_above}

-- ---- the floors, by the history

and_same : (t a b : Bool) → (t ≡ true → a ≡ b) → (t && a) ≡ (t && b)
and_same true a b h = h refl
and_same false a b h = refl

later_same : (f g : ℕ → ℕ → Option ℕ) (i p : ℕ) (r : Record) → ((m : ℕ) → f i m ≡ g i m) → had_later f i p r ≡ had_later g i p r
later_same f g i p (records.Sub j m op n) h = refl
later_same f g i p (records.Ans j m reply n) h =
    and_same (i == j) (some_and (f j m) (nat_le p)) (some_and (g j m) (nat_le p)) (λ e. ap (λ (o : Option ℕ). some_and o (nat_le p)) (ap (λ j. f j m) (sym (eqb-true i j e)) ∙ h m ∙ ap (λ j. g j m) (eqb-true i j e)))

any_same : (s t : Record → Bool) (rs : List Record) → ((r : Record) → s r ≡ t r) → list_any s rs ≡ list_any t rs
any_same s t [] h = refl
any_same s t (r ∷ rs) h = ap (λ v. v || list_any s rs) (h r) ∙ ap (λ v. t r || v) (any_same s t rs h)

owner : (i k : ℕ) (r : Record) → is_sub i k r ≡ true → requester_of r ≡ i
owner i k (records.Sub j m op n) e = let (e1, e2) = and_parts (i == j) (k == m) e in sym (eqb-true i j e1)
owner i k (records.Ans j m reply n) e = cc

pub floor_is : (rows : List (List ℕ)) (points floors : List (Option ℕ)) (rs : List Record) (h : List Entry) → IsIndex rows rs → ArePoints points rs h → AreFloors floors (point_in rows points) rs → (i k b p : ℕ) → i < 256 → sub_place rs i k ≡ Some b → at_place (λ o. some_and o (nat_le p)) floors b ≡ list_any (had_later (place_of h) i p) (take b rs)
floor_is rows points floors rs h x a f i k b p small s =
    let nothing : Option ℕ = None in
    let (r, at) = present (slice_get rs b) (is_sub i k) (passes (is_sub i k) rs b s) in
    let it : is_sub i k r ≡ true = ap (λ (o : Option Record). some_and o (is_sub i k)) (sym at) ∙ passes (is_sub i k) rs b s in
    ap (λ (o : Option (Option ℕ)). some_and o (λ o. some_and o (nat_le p))) (slice_get-get_or floors b nothing (omega (arith, f.len, within (is_sub i k) rs b s)))
    ∙ f.at b p r at
    ∙ ap (λ i. list_any (had_later (point_in rows points) i p) (take b rs)) (owner i k r it)
    ∙ any_same (had_later (point_in rows points) i p) (had_later (place_of h) i p) (take b rs) (λ r. later_same (point_in rows points) (place_of h) i p r (λ m. point_is rows rs h points i m x small a))

-- ---- the comparison, by the history

-- the first answer to the request that acted at p was compared with the memory's reply there
told : (rows : List (List ℕ)) (rs : List Record) (firsts : List (Option ℕ)) (i k b a n : ℕ) (e : Entry) (reply made : Reply) → IsIndex rows rs → AreFirsts firsts rs rs → i < 256 → sub_place rs i k ≡ Some b → first_place (answers_to i k) rs ≡ Some a → slice_get rs a ≡ Some (records.Ans i k reply n) → is_request i k e ≡ true → is_told_in rows firsts rs e made ≡ same_reply reply made
told rows rs firsts i k b a n e reply made index firsts_are small s first at same =
    let (e1, e2) = is_it i k e same in
    ap (λ i. is_told_at rs (point_in rows firsts i e.number) made) (sym e1)
    ∙ ap (λ k. is_told_at rs (point_in rows firsts i k) made) (sym e2)
    ∙ ap (λ (o : Option ℕ). is_told_at rs (option_and_then (λ b. option_and_then (λ p. p) (slice_get firsts b)) o) made) (index.at i k small ∙ s)
    ∙ ap (λ (o : Option (Option ℕ)). is_told_at rs (option_and_then (λ p. p) o) made) (firsts_are.at i k b s ∙ ap Some first)
    ∙ ap (λ (o : Option Record). some_and o (answers_with made)) at

right_is : (x : Claim) (rows : List (List ℕ)) (rs : List Record) (points floors firsts : List (Option ℕ)) (right : List Bool) (i k b p a n : ℕ) (reply : Reply) → AreTables x rows rs points floors firsts right → i < 256 → sub_place rs i k ≡ Some b → place_of x.memory.entries i k ≡ Some p → first_place (answers_to i k) rs ≡ Some a → slice_get rs a ≡ Some (records.Ans i k reply n) → at_place (λ t. t) right p ≡ some_and (reply_at (extent_of x.memory) x.memory.entries p) (same_reply reply)
right_is x rows rs points floors firsts right i k b p a n reply t small s acted first at =
    let m = x.memory in
    let f = first_there (is_request i k) m.entries p acted in
    let made : Reply = answer m.base m.block (contents_at (extent_of m) m.entries p) f.value.op in
    ap (λ (o : Option Bool). some_and o (λ t. t)) (t.compared p ∙ ap (option_map (λ (e : Entry). is_told_in rows firsts x.records e (answer m.base m.block (contents_at (extent_of m) m.entries p) e.op))) f.at)
    ∙ ap (λ (rs : List Record). is_told_in rows firsts rs f.value made) t.same
    ∙ told rows rs firsts i k b a n f.value reply made t.indexed t.answered small s first at f.passes
    ∙ ap (λ (o : Option Reply). some_and o (same_reply reply)) (sym (ap (option_map (λ (e : Entry). answer m.base m.block (contents_at (extent_of m) m.entries p) e.op)) f.at))

-- ---- the flaws

acted_is : (x : Claim) (rows : List (List ℕ)) (rs : List Record) (points floors firsts : List (Option ℕ)) (right : List Bool) (i k b p a n : ℕ) (reply : Reply) → AreTables x rows rs points floors firsts right → i < 256 → sub_place rs i k ≡ Some b → place_of x.memory.entries i k ≡ Some p → first_place (answers_to i k) rs ≡ Some a → slice_get rs a ≡ Some (records.Ans i k reply n) → acted_in rs floors right n b p ≡ acted_flaw x i reply n b p
acted_is x rows rs points floors firsts right i k b p a n reply t small s acted first at =
    let early : at_place (λ r. nat_lt p (moment r)) rs b ≡ at_place (λ r. nat_lt p (moment r)) x.records b = ap (λ (rs : List Record). at_place (λ r. nat_lt p (moment r)) rs b) (sym t.same) in
    let other = right_is x rows rs points floors firsts right i k b p a n reply t small s acted first at in
    let stale : at_place (λ o. some_and o (nat_le p)) floors b ≡ list_any (had_later (place_of x.memory.entries) i p) (take b x.records) = floor_is rows points floors rs x.memory.entries t.indexed t.acted t.floored i k b p small s ∙ ap (λ (rs : List Record). list_any (had_later (place_of x.memory.entries) i p) (take b rs)) (sym t.same) in
    rw (early, other, stale) refl

point_by : (x : Claim) (rows : List (List ℕ)) (rs : List Record) (points floors firsts : List (Option ℕ)) (right : List Bool) (i k b a n : ℕ) (o : Option ℕ) (reply : Reply) → AreTables x rows rs points floors firsts right → i < 256 → sub_place rs i k ≡ Some b → place_of x.memory.entries i k ≡ o → first_place (answers_to i k) rs ≡ Some a → slice_get rs a ≡ Some (records.Ans i k reply n) → judged_point rs floors right n b o ≡ point_flaw x i reply n b o
point_by x rows rs points floors firsts right i k b a n None reply t small s acted first at = refl
point_by x rows rs points floors firsts right i k b a n (Some p) reply t small s acted first at = acted_is x rows rs points floors firsts right i k b p a n reply t small s acted first at

tests : (u u' v v' : Bool) (w w' : Option FlawKind) → u ≡ u' → v ≡ v' → (v' ≡ false → w ≡ w') → (if not u then Some flaws.Unasked else (if v then Some flaws.Again else w)) ≡ (if not u' then Some flaws.Unasked else (if v' then Some flaws.Again else w'))
tests u u' v true w w' e1 e2 e3 = rw (e1, e2) refl
tests u u' v false w w' e1 e2 e3 = rw (e1, e2, e3 refl) refl

-- the first that passes lies below a just if one of the first a passes
below_is : {X : Type 0} → (t : X → Bool) (xs : List X) (a : ℕ) (o : Option ℕ) → first_place t xs ≡ o → some_and o (λ c. nat_lt c a) ≡ list_any t (take a xs)
below_is t xs a None e = sym (no_one t (take a xs) (λ hit.
    let x = passing t (take a xs) hit in
    let (at, l) = take_at xs a x.place x.value x.at in
    let (p, is) = first_of_any t xs (one_passes t xs x.place x.value at x.passes) in
    none-some p (sym e ∙ is)))
below_is t xs a (Some c) e = elim (cases_Bool (list_any t (take a xs))) [
  | inl hit ↦ lt-ltb c a (first_above t xs a c e hit) ∙ sym hit
  | inr miss ↦ elim (cases_lt c a) [
    | inl l ↦ absurd (clash (first_below t xs a c e l) miss)
    | inr m ↦ le-ltb c a m ∙ sym miss
  ]
]

judged_by : (x : Claim) (rows : List (List ℕ)) (rs : List Record) (points floors firsts : List (Option ℕ)) (right : List Bool) (a i k n : ℕ) (reply : Reply) (o : Option ℕ) → AreTables x rows rs points floors firsts right → i < 256 → sub_place rs i k ≡ o → slice_get rs a ≡ Some (records.Ans i k reply n) → judged rs points floors firsts right a n o ≡ asked_flaw x a i k reply n o (place_of x.memory.entries i k)
judged_by x rows rs points floors firsts right a i k n reply None t small s at = refl
judged_by x rows rs points floors firsts right a i k n reply (Some b) t small s at =
    let again : list_any (answers_to i k) (take a x.records) ≡ list_any (answers_to i k) (take a rs) = ap (λ (rs : List Record). list_any (answers_to i k) (take a rs)) t.same in
    let itself : answers_to i k (records.Ans i k reply n) ≡ true = rw (eq-eqb i i refl, eq-eqb k k refl) refl in
    tests (nat_lt b a && at_place asks rs b) (nat_lt b a && at_place asks x.records b)
    (at_place (λ o. some_and o (λ c. nat_lt c a)) firsts b) (list_any (answers_to i k) (take a x.records))
    (judged_point rs floors right n b (option_and_then (λ p. p) (slice_get points b))) (point_flaw x i reply n b (place_of x.memory.entries i k))
    (ap (λ (rs : List Record). nat_lt b a && at_place asks rs b) (sym t.same))
    (ap (λ (o : Option (Option ℕ)). some_and o (λ o. some_and o (λ c. nat_lt c a))) (t.answered.at i k b s) ∙ below_is (answers_to i k) rs a (first_place (answers_to i k) rs) refl ∙ sym again)
    (λ new. ap (λ (o : Option (Option ℕ)). judged_point rs floors right n b (option_and_then (λ p. p) o)) (t.acted.at i k b s)
    ∙ point_by x rows rs points floors firsts right i k b a n (place_of x.memory.entries i k) reply t small s refl (first_is (answers_to i k) rs a (records.Ans i k reply n) at itself (sym again ∙ new)) at)

at_input : (x : Claim) (rs : List Record) (a : ℕ) (r : Record) → x.records ≡ rs → slice_get rs a ≡ Some r → answer_at x a ≡ answer_flaw x a r
unfolding answer_at
at_input x rs a r same at = ap (λ (o : Option Record). option_and_then (answer_flaw x a) o) (ap (λ (rs : List Record). slice_get rs a) same ∙ at)

pub answer-sub : (x : Claim) (rs : List Record) (a i k n : ℕ) (op : Op) → x.records ≡ rs → slice_get rs a ≡ Some (records.Sub i k op n) → answer_at x a ≡ None
answer-sub x rs a i k n op same at = at_input x rs a (records.Sub i k op n) same at

pub answer-judged : (x : Claim) (rows : List (List ℕ)) (rs : List Record) (points floors firsts : List (Option ℕ)) (right : List Bool) (a i k n : ℕ) (reply : Reply) (o : Option ℕ) (v : Option FlawKind) → AreTables x rows rs points floors firsts right → i < 256 → o ≡ place_in rows i k → slice_get rs a ≡ Some (records.Ans i k reply n) → v ≡ judged rs points floors firsts right a n o → answer_at x a ≡ v
answer-judged x rows rs points floors firsts right a i k n reply o v t small looked at e =
    let s : sub_place rs i k ≡ o = sym (looked ∙ t.indexed.at i k small) in
    at_input x rs a (records.Ans i k reply n) t.same at
    ∙ ap (λ (o : Option ℕ). asked_flaw x a i k reply n o (place_of x.memory.entries i k)) (ap (λ (rs : List Record). sub_place rs i k) t.same ∙ s)
    ∙ sym (e ∙ judged_by x rows rs points floors firsts right a i k n reply o t small s at)
