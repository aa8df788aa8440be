-- The history's entries, one by one.
use Rattle.std.proofs.Common.{◌≡◌, ℕ, zero, suc, ◌+◌, ◌<◌, ◌≤◌, Bool, true, false, cond, List, [], ◌∷◌, ◌++◌, length, take, set, get_or, Option, Some, None, refl, sym, ap, subst, ◌∙◌, inl, inr, arith}
use Rattle.std.specs.Prelude.{slice_get, option_map, ◌==◌, ◌&&◌, not, is_some, is_none, replicate, option_and_then}
use Rattle.std.specs.Option.{option_or}
use Rattle.std.proofs.lemmas.Bool.{cases_eq, cases_lt, cases_Bool, eqb-true, eq-eqb, and_parts}
use Rattle.std.proofs.lemmas.List.{length-set, get_or-set_same, get_or-set_other, get_or-replicate, length-replicate, length-take-le, take_more, get_or_read}
use Rattle.std.proofs.lemmas.Option.{slice_get_within, get_or_from_slice_get, slice_get-get_or, same_Some, none-some}
use Rattle.seq_memory.specs.Entries.{Entry}
use Rattle.history_words.specs.Records.{Record}
use Rattle.history_words.specs.declared.record.RecordOf.TheVariants as records
use Rattle.history_words.specs.declared.flaws.FlawKind.TheVariants as flaws
use Rattle.history_words.specs.Trace.{is_request}
use Rattle.history_words.specs.Flaws.{first_place, is_sub, sub_place, place_of, some_and, at_place, submits, submits_write, misses, is_stranger, entry_flaw, entry_at, any_below}
use Rattle.history_words.specs.Lookup.{IsIndex, ArePoints, place_in, point_in, when, submitted_in, missing_in}
use Rattle.history_check.proofs.Firsts.{first_place-push, or_none, any_below-all}

-- ---- a submission is looked up

picked : (v : Bool) (b : ℕ) → when v b ≡ None → v ≡ false
picked true b e = cc
picked false b e = refl

not_found : (o : Option ℕ) (t : ℕ → Bool) → option_and_then (λ b. when (t b) b) o ≡ None → some_and o t ≡ false
not_found None t e = refl
not_found (Some b) t e = picked (t b) b e

taken : (v : Bool) (a b : ℕ) → when v a ≡ Some b → (v ≡ true) × (a ≡ b)
taken true a b e = (refl, cc)
taken false a b e = cc

was_found : (o : Option ℕ) (t : ℕ → Bool) (b : ℕ) → option_and_then (λ b. when (t b) b) o ≡ Some b → (some_and o t ≡ true) × (o ≡ Some b)
was_found None t b e = cc
was_found (Some a) t b e = let (e1, e2) = taken (t a) a b e in (e1, ap Some e2)

pub stranger : (rows : List (List ℕ)) (rs : List Record) (e : Entry) → IsIndex rows rs → e.requester < 256 → submitted_in rows rs e ≡ None → is_stranger rs e ≡ true
stranger rows rs e x small none =
    ap not (ap (λ o. some_and o (at_place (submits e.op) rs)) (sym (x.at e.requester e.number small)) ∙ not_found (place_in rows e.requester e.number) (at_place (submits e.op) rs) none)

pub no_stranger : (rows : List (List ℕ)) (rs : List Record) (e : Entry) (b : ℕ) → IsIndex rows rs → e.requester < 256 → submitted_in rows rs e ≡ Some b → (is_stranger rs e ≡ false) × (sub_place rs e.requester e.number ≡ Some b)
no_stranger rows rs e b x small some =
    let (e1, e2) = was_found (place_in rows e.requester e.number) (at_place (submits e.op) rs) b some in
    (ap not (ap (λ o. some_and o (at_place (submits e.op) rs)) (sym (x.at e.requester e.number small)) ∙ e1), sym (x.at e.requester e.number small) ∙ e2)

-- ---- a point is looked up

point_by : (rows : List (List ℕ)) (rs : List Record) (h : List Entry) (points : List (Option ℕ)) (i k : ℕ) (o : Option ℕ) → ArePoints points rs h → sub_place rs i k ≡ o → place_in rows i k ≡ o → point_in rows points i k ≡ place_of h i k
point_by rows rs h points i k None a e p = ap (λ o. option_and_then (λ b. option_and_then (λ p. p) (slice_get points b)) o) p ∙ sym (a.others i k e)
point_by rows rs h points i k (Some b) a e p = ap (λ o. option_and_then (λ b. option_and_then (λ p. p) (slice_get points b)) o) p ∙ ap (λ o. option_and_then (λ p. p) o) (a.at i k b e)

pub point_is : (rows : List (List ℕ)) (rs : List Record) (h : List Entry) (points : List (Option ℕ)) (i k : ℕ) → IsIndex rows rs → i < 256 → ArePoints points rs h → point_in rows points i k ≡ place_of h i k
point_is rows rs h points i k x small a = point_by rows rs h points i k (sub_place rs i k) a refl (x.at i k small)

pub missing_is : (rows : List (List ℕ)) (rs : List Record) (h : List Entry) (points : List (Option ℕ)) (i k : ℕ) → IsIndex rows rs → i < 256 → ArePoints points rs h → missing_in rows rs points i k ≡ misses rs h i k
unfolding misses
missing_is rows rs h points i k x small a =
    ap (λ o. some_and o (at_place submits_write rs) && is_none (point_in rows points i k)) (x.at i k small)
    ∙ ap (λ o. some_and (sub_place rs i k) (at_place submits_write rs) && is_none o) (point_is rows rs h points i k x small a)

-- ---- the flaws of an entry

bound : (rs : List Record) (h : List Entry) (p : ℕ) (e : Entry) → slice_get h p ≡ Some e → entry_at rs h p ≡ entry_flaw rs (take p h) e
unfolding entry_at
bound rs h p e at = ap (λ (o : Option Entry). option_and_then (entry_flaw rs (take p h)) o) at

pub entry-stranger : (rs : List Record) (h : List Entry) (p : ℕ) (e : Entry) → slice_get h p ≡ Some e → is_stranger rs e ≡ true → entry_at rs h p ≡ Some flaws.Stranger
entry-stranger rs h p e at s = bound rs h p e at ∙ rw s refl

pub entry-twice : (rs : List Record) (h : List Entry) (p : ℕ) (e : Entry) → slice_get h p ≡ Some e → is_stranger rs e ≡ false → is_some (place_of (take p h) e.requester e.number) ≡ true → entry_at rs h p ≡ Some flaws.Twice
entry-twice rs h p e at s t = bound rs h p e at ∙ rw (s, t) refl

pub entry-order : (rs : List Record) (h : List Entry) (p : ℕ) (e : Entry) → slice_get h p ≡ Some e → is_stranger rs e ≡ false → is_some (place_of (take p h) e.requester e.number) ≡ false → any_below (misses rs (take p h) e.requester) e.number ≡ true → entry_at rs h p ≡ Some flaws.Order
entry-order rs h p e at s t o = bound rs h p e at ∙ rw (s, t, o) refl

pub entry-good : (rs : List Record) (h : List Entry) (p : ℕ) (e : Entry) → slice_get h p ≡ Some e → is_stranger rs e ≡ false → is_some (place_of (take p h) e.requester e.number) ≡ false → any_below (misses rs (take p h) e.requester) e.number ≡ false → entry_at rs h p ≡ None
entry-good rs h p e at s t o = bound rs h p e at ∙ rw (s, t, o) refl

-- ---- one entry more

lowered : (o : Option ℕ) (b : ℕ) → option_map (λ n. n + 1) o ≡ Some b → (c : ℕ) × (o ≡ Some c) × (b ≡ suc c)
lowered None b e = cc
lowered (Some c) b e = (c, refl, let s : c + 1 ≡ b = same_Some (c + 1) b e in omega arith)

-- where the first stands, it passes
pub passes : {X : Type 0} (t : X → Bool) → (xs : List X) (b : ℕ) → first_place t xs ≡ Some b → at_place t xs b ≡ true
passes t [] b e = cc
passes t (x ∷ xs) b e =
    elim (cases_Bool (t x)) [
      | inl pass ↦
          let zero_b : 0 ≡ b = same_Some 0 b (sym (ap (λ (v : Bool). cond v (Some 0) (option_map (λ n. n + 1) (first_place t xs))) pass) ∙ e) in
          subst (λ b. at_place t (x ∷ xs) b ≡ true) zero_b pass
      | inr fail ↦
          let (c, at, up) = lowered (first_place t xs) b (sym (ap (λ (v : Bool). cond v (Some 0) (option_map (λ n. n + 1) (first_place t xs))) fail) ∙ e) in
          subst (λ b. at_place t (x ∷ xs) b ≡ true) (sym up) (passes t xs c at)
    ]

pub present : {X : Type 0} (o : Option X) (t : X → Bool) → some_and o t ≡ true → (x : X) × (o ≡ Some x)
present None t e = cc
present (Some x) t e = (x, refl)

pub within : {X : Type 0} (t : X → Bool) (xs : List X) (b : ℕ) → first_place t xs ≡ Some b → b < length xs
within t xs b e = let (x, at) = present (slice_get xs b) t (passes t xs b e) in slice_get_within xs b x at

same_sub : (i j k m : ℕ) (r : Record) → is_sub i k r ≡ true → is_sub j m r ≡ true → (i ≡ j) × (k ≡ m)
same_sub i j k m (records.Sub a c op n) e1 e2 =
    let (a1, a2) = and_parts (i == a) (k == c) e1 in
    let (b1, b2) = and_parts (j == a) (m == c) e2 in
    (eqb-true i a a1 ∙ sym (eqb-true j a b1), eqb-true k c a2 ∙ sym (eqb-true m c b2))
same_sub i j k m (records.Ans a c reply n) e1 e2 = cc

same_at : (i j k m : ℕ) (o : Option Record) → some_and o (is_sub i k) ≡ true → some_and o (is_sub j m) ≡ true → (i ≡ j) × (k ≡ m)
same_at i j k m None e1 e2 = cc
same_at i j k m (Some r) e1 e2 = same_sub i j k m r e1 e2

-- one place is that of one request
pub one_request : (rs : List Record) (i j k m b : ℕ) → sub_place rs i k ≡ Some b → sub_place rs j m ≡ Some b → (i ≡ j) × (k ≡ m)
one_request rs i j k m b e1 e2 = same_at i j k m (slice_get rs b) (passes (is_sub i k) rs b e1) (passes (is_sub j m) rs b e2)

pub set_same : {X : Type 0} → (xs : List X) (b : ℕ) (v : X) → b < length xs → slice_get (set xs b v) b ≡ Some v
set_same xs b v h = slice_get-get_or (set xs b v) b v (omega (arith, length-set xs b v)) ∙ ap Some (get_or-set_same xs b v v h)

pub set_other : {X : Type 0} → (xs : List X) (b c : ℕ) (v : X) → (c ≡ b → ⊥) → slice_get (set xs b v) c ≡ slice_get xs c
set_other [] b c v d = refl
set_other (x ∷ xs) zero zero v d = absurd (d refl)
set_other (x ∷ xs) zero (suc c) v d = refl
set_other (x ∷ xs) (suc b) zero v d = refl
set_other (x ∷ xs) (suc b) (suc c) v d = set_other xs b c v (λ e. d (ap (λ n. suc n) e))

pub next : (h : List Entry) (p : ℕ) (e : Entry) → slice_get h p ≡ Some e → take (p + 1) h ≡ take p h ++ e ∷ []
next h p e at = take_more h p e (slice_get_within h p e at) ∙ ap (λ (e : Entry). take p h ++ e ∷ []) (get_or_from_slice_get h p e e at)

place-push : (h : List Entry) (i k : ℕ) (e : Entry) → place_of (h ++ e ∷ []) i k ≡ option_or (place_of h i k) (cond (is_request i k e) (Some (length h)) None)
place-push h i k e = first_place-push (is_request i k) h e

place_other : (h : List Entry) (i k : ℕ) (e : Entry) → is_request i k e ≡ false → place_of (h ++ e ∷ []) i k ≡ place_of h i k
place_other h i k e n = place-push h i k e ∙ ap (λ (t : Bool). option_or (place_of h i k) (cond t (Some (length h)) None)) n ∙ or_none (place_of h i k)

place_same : (h : List Entry) (e : Entry) → place_of h e.requester e.number ≡ None → place_of (h ++ e ∷ []) e.requester e.number ≡ Some (length h)
place_same h e n = place-push h e.requester e.number e ∙ rw (n, eq-eqb e.requester e.requester refl, eq-eqb e.number e.number refl) refl

pub is_it : (i k : ℕ) (e : Entry) → is_request i k e ≡ true → (i ≡ e.requester) × (k ≡ e.number)
is_it i k e t = let (e1, e2) = and_parts (i == e.requester) (k == e.number) t in (eqb-true i e.requester e1, eqb-true k e.number e2)

pub points_push : (points : List (Option ℕ)) (rs : List Record) (h : List Entry) (e : Entry) (b : ℕ) → ArePoints points rs h → sub_place rs e.requester e.number ≡ Some b → place_of h e.requester e.number ≡ None → ArePoints (set points b (Some (length h))) rs (h ++ e ∷ [])
points_push points rs h e b a here new =
    let within : b < length points = slice_get_within points b _ (a.at e.requester e.number b here) in
    record {
      len = length-set points b (Some (length h)) ∙ a.len;
      at = λ i k c s. elim (cases_eq c b) [
        | inl same ↦
            let (e1, e2) = one_request rs i e.requester k e.number b (s ∙ ap Some same) here in
            ap (λ c. slice_get (set points b (Some (length h))) c) same ∙ set_same points b (Some (length h)) within
            ∙ ap Some (sym (place_same h e new)) ∙ ap (λ i. Some (place_of (h ++ e ∷ []) i e.number)) (sym e1) ∙ ap (λ k. Some (place_of (h ++ e ∷ []) i k)) (sym e2)
        | inr d ↦
            set_other points b c (Some (length h)) d ∙ a.at i k c s
            ∙ ap Some (sym (place_other h i k e (elim (cases_Bool (is_request i k e)) [
              | inl t ↦ let (e1, e2) = is_it i k e t in absurd (d (same_Some c b (sym s ∙ ap (λ i. sub_place rs i k) e1 ∙ ap (λ k. sub_place rs e.requester k) e2 ∙ here)))
              | inr n ↦ n
            ])))
      ];
      others = λ i k s. place_other h i k e (elim (cases_Bool (is_request i k e)) [
        | inl t ↦ let (e1, e2) = is_it i k e t in absurd (none-some b (sym s ∙ ap (λ i. sub_place rs i k) e1 ∙ ap (λ k. sub_place rs e.requester k) e2 ∙ here))
        | inr n ↦ n
      ]) ∙ a.others i k s;
    }

stays : (w : Bool) (o q : Option ℕ) → (w && is_none o) ≡ false → (w && is_none (option_or o q)) ≡ false
stays true (Some p) q e = refl
stays true None q e = cc
stays false o q e = refl

pub misses_push : (rs : List Record) (h : List Entry) (e : Entry) (i j : ℕ) → misses rs h i j ≡ false → misses rs (h ++ e ∷ []) i j ≡ false
unfolding misses
misses_push rs h e i j m =
    ap (λ o. some_and (sub_place rs i j) (at_place submits_write rs) && is_none o) (place-push h i j e)
    ∙ stays (some_and (sub_place rs i j) (at_place submits_write rs)) (place_of h i j) (cond (is_request i j e) (Some (length h)) None) m

pub points_none : (rs : List Record) (n : ℕ) → n ≡ length rs → ArePoints (replicate n None) rs []
points_none rs n e =
    let nothing : Option ℕ = None in
    record {
      len = length-replicate n nothing ∙ e;
      at = λ i k b s. slice_get-get_or (replicate n nothing) b nothing (omega (arith, length-replicate n nothing, within (is_sub i k) rs b s)) ∙ ap Some (get_or-replicate n b nothing nothing (omega (arith, within (is_sub i k) rs b s)));
      others = λ i k s. refl;
    }

-- ---- what the loop reads

pub read_point : (points : List (Option ℕ)) (rs : List Record) (h : List Entry) (i k b : ℕ) (r : Option ℕ) → ArePoints points rs h → sub_place rs i k ≡ Some b → r ≡ get_or points b r → r ≡ place_of h i k
read_point points rs h i k b r a s read = read ∙ get_or_from_slice_get points b (place_of h i k) r (a.at i k b s)

pub read_settled : (settled : List ℕ) (i j r : ℕ) → j ≡ i → i < length settled → r ≡ get_or settled j r → r ≡ get_or settled i 0
read_settled settled i j r e within read = get_or_read settled i r within (read ∙ ap (λ j. get_or settled j r) e) 0

pub missed : (rows : List (List ℕ)) (rs : List Record) (h : List Entry) (points shown : List (Option ℕ)) (i k : ℕ) (v : Bool) → IsIndex rows rs → i < 256 → ArePoints points rs h → shown ≡ points → missing_in rows rs shown i k ≡ v → misses rs h i k ≡ v
missed rows rs h points shown i k v x small a same m =
    sym (missing_is rows rs h points i k x small a) ∙ ap (λ (points : List (Option ℕ)). missing_in rows rs points i k) (sym same) ∙ m

below : (f : ℕ → Bool) (from to : ℕ) → ((j : ℕ) → j < from → f j ≡ false) → ((j : ℕ) → from ≤ j → j < to → f j ≡ false) → (j : ℕ) → j < to → f j ≡ false
below f from to low high j l = elim (cases_lt j from) [ inl a ↦ low j a | inr b ↦ high j b l ]

pub settled_all : (f : ℕ → Bool) (from to n : ℕ) → ((j : ℕ) → j < from → f j ≡ false) → ((j : ℕ) → from ≤ j → j < to → f j ≡ false) → n ≤ to → any_below f n ≡ false
settled_all f from to n low high l = any_below-all f n (λ j m. below f from to low high j (omega arith))

pub settled_next : (rs : List Record) (h : List Entry) (settled new : List ℕ) (p : ℕ) (e : Entry) (from to i : ℕ) → length settled ≡ 256 → ((i j : ℕ) → i < 256 → j < get_or settled i 0 → misses rs (take p h) i j ≡ false) → slice_get h p ≡ Some e → e.requester < 256 → from ≡ get_or settled e.requester 0 → ((j : ℕ) → from ≤ j → j < to → misses rs (take p h) e.requester j ≡ false) → i < 256 → (j : ℕ) → j < get_or (set settled e.requester to) i 0 → misses rs (take (p + 1) h) i j ≡ false
settled_next rs h settled new p e from to i len s at small read none small_i j l =
    ap (λ (h : List Entry). misses rs h i j) (next h p e at) ∙ misses_push rs (take p h) e i j (elim (cases_eq i e.requester) [
      | inl same ↦
          let top : get_or (set settled e.requester to) i 0 ≡ to = ap (λ i. get_or (set settled e.requester to) i 0) same ∙ get_or-set_same settled e.requester to 0 (omega arith) in
          ap (λ i. misses rs (take p h) i j) same ∙ below (misses rs (take p h) e.requester) from to (λ j m. s e.requester j small (omega arith)) none j (omega arith)
      | inr d ↦
          let other : get_or (set settled e.requester to) i 0 ≡ get_or settled i 0 = get_or-set_other settled e.requester i to 0 d in
          s i j small_i (omega arith)
    ])

pub points_next : (points : List (Option ℕ)) (rs : List Record) (h : List Entry) (p : ℕ) (e : Entry) (b : ℕ) → ArePoints points rs (take p h) → slice_get h p ≡ Some e → sub_place rs e.requester e.number ≡ Some b → place_of (take p h) e.requester e.number ≡ None → ArePoints (set points b (Some p)) rs (take (p + 1) h)
points_next points rs h p e b a at here new =
    let l : p < length h = slice_get_within h p e at in
    let len : length (take p h) ≡ p = length-take-le p h (omega arith) in
    rw (next h p e at) (subst (λ n. ArePoints (set points b (Some n)) rs (take p h ++ e ∷ [])) len (points_push points rs (take p h) e b a here new))

pub nothing_there : (o : Option ℕ) → is_some o ≡ false → o ≡ None
nothing_there None e = refl
nothing_there (Some x) e = cc
