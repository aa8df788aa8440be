-- Each call of the recorder keeps the rule of its queue.
use Rattle.std.proofs.Common.{◌≡◌, ◌≢◌, ℕ, zero, suc, ◌+◌, ◌<◌, ◌≤◌, ◌⊎◌, cond, eqb, List, [], ◌∷◌, ◌++◌, length, set, sym, refl, ap, ◌∙◌, subst, ⊎_elim, inl, inr, append_assoc, append-nil, eq-eqb, ne_eqb, arith}
use Rattle.std.proofs.lemmas.List.Elements.{filter-append}
use Rattle.std.specs.List.{AllByRecursion as Each}
use Rattle.std.specs.Prelude.{Option, Some, None, MatchOption, IfNone}
use mathlib.Core.Option.{some, some-injective, some-ne-none}
use native.Mathlib.Decide.{ℕ_discrete}
use lib.ListN.{get_elem?}
use Rattle.crossbeam_queue.specs.Fifo.{Pushes, Pops, Forks, Merges, Learns, Held}
use Rattle.crossbeam_queue.proofs.Lists.{at_set}
use Rattle.history_words.specs.Records.{Record}
use Rattle.history_words.specs.Lookup.{requester_of}
use Rattle.recorder.specs.declared.laws.Pushed.{Pushed}
use Rattle.recorder.specs.declared.laws.Taken.{Taken}
use Rattle.recorder.specs.declared.laws.Knows.{Knows}
use Rattle.recorder.specs.declared.laws.Knows.TheVariants as knows
use Rattle.recorder.specs.Rule.{records_by, IsRequesterNumber, AreOfRequesters, fresh, unbegun, newcomer, with_pushed, with_taken, pushed_of, taken_of, Owns, Fits, Kept, pushes as Says, takes as Tells, Rests, but_first, first_alone, both, IsWhole, IsBegun}

-- ---- lists

each_map : {A : Type 0} (P Q : A → Type 0) → ((x : A) → P x → Q x) → (xs : List A) → Each P xs → Each Q xs
each_map P Q f [] h = tt
each_map P Q f (x ∷ xs) h = (f x h.0, each_map P Q f xs h.1)

each_both : {A : Type 0} (P Q R : A → Type 0) → ((x : A) → P x → Q x → R x) → (xs : List A) → Each P xs → Each Q xs → Each R xs
each_both P Q R f [] h k = tt
each_both P Q R f (x ∷ xs) h k = (f x h.0 k.0, each_both P Q R f xs h.1 k.1)

each_snoc : {A : Type 0} (P : A → Type 0) (xs : List A) (x : A) → Each P xs → P x → Each P (xs ++ x ∷ [])
each_snoc P [] x h k = (k, tt)
each_snoc P (y ∷ ys) x h k = (h.0, each_snoc P ys x h.1 k)

at_end : {A : Type 0} (l : List A) (a b : A) (j : ℕ) → get_elem? (l ++ a ∷ []) j ≡ some b → (get_elem? l j ≡ some b) ⊎ ((j ≡ length l) × (a ≡ b))
at_end [] a b zero e = inr (refl, some-injective a b e)
at_end [] a b (suc j) e = absurd (some-ne-none b (sym e))
at_end (x ∷ xs) a b zero e = inl e
at_end (x ∷ xs) a b (suc j) e = ⊎_elim (λ h. inl h) (λ h. inr (ap suc h.0, h.1)) (at_end xs a b j e)

length_set : {A : Type 0} (l : List A) (i : ℕ) (a : A) → length (set l i a) ≡ length l
length_set [] i a = refl
length_set (x ∷ xs) zero a = refl
length_set (x ∷ xs) (suc i) a = ap suc (length_set xs i a)

abbrev All : (ℕ → Knows → Type 0) → List Knows → Type 0
All F views = (pass : ℕ) (v : Knows) → get_elem? views pass ≡ some v → F pass v

all_set : (F : ℕ → Knows → Type 0) (views : List Knows) (pass : ℕ) (w : Knows) → F pass w → ((j : ℕ) (u : Knows) → j ≢ pass → get_elem? views j ≡ some u → F j u) → All F (set views pass w)
all_set F views pass w mine others j u e = ⊎_elim (λ (x : (j ≡ pass) × (w ≡ u)). subst (λ (y : ℕ × Knows). F y.0 y.1) (λ i. (sym x.0 i, x.1 i)) mine)
    (λ (x : (j ≢ pass) × (get_elem? views j ≡ some u)). others j u x.0 x.1) (at_set views pass j w u e)

-- ---- records of one requester

by_own : (i : ℕ) (x : Record) → i ≡ requester_of x → records_by i (x ∷ []) ≡ x ∷ []
by_own i x e = ap (λ b. cond b (x ∷ []) []) (eq-eqb i (requester_of x) e)

by_other : (i : ℕ) (x : Record) → i ≢ requester_of x → records_by i (x ∷ []) ≡ []
by_other i x n = ap (λ b. cond b (x ∷ []) []) (ne_eqb i (requester_of x) n)

by_append : (i : ℕ) (rs ss : List Record) → records_by i (rs ++ ss) ≡ records_by i rs ++ records_by i ss
by_append i rs ss = filter-append (λ r. eqb i (requester_of r)) rs ss

by_more : (i : ℕ) (x : Record) (rs : List Record) → i ≡ requester_of x → records_by i (rs ++ x ∷ []) ≡ records_by i rs ++ x ∷ []
by_more i x rs e = by_append i rs (x ∷ []) ∙ ap (λ l. records_by i rs ++ l) (by_own i x e)

by_same : (i : ℕ) (x : Record) (rs : List Record) → i ≢ requester_of x → records_by i (rs ++ x ∷ []) ≡ records_by i rs
by_same i x rs n = by_append i rs (x ∷ []) ∙ ap (λ l. records_by i rs ++ l) (by_other i x n) ∙ append-nil (records_by i rs)

-- ---- pushes

grown : (owner : ℕ → ℕ) (reader : ℕ) (got items : List Record) (x : Record) (j : ℕ) (u : Knows) → owner (requester_of x) ≢ j
    → Fits owner reader got (got ++ items) j u → reader ≢ j ⊎ (got ≡ got) → Fits owner reader got (got ++ (items ++ x ∷ [])) j u
grown owner reader got items x j (knows.Pusher q) n h _ =
    (h.0, h.1 ∙ sym (by_same q.requester x (got ++ items) (λ e. n (ap owner (sym e) ∙ h.0))) ∙ ap (records_by q.requester) (append_assoc got items (x ∷ [])), h.2)
grown owner reader got items x j (knows.Taker t) n h _ = (
  h.0,
  h.1,
  each_map (Owns owner (got ++ items) j) (Owns owner (got ++ (items ++ x ∷ [])) j)
      (λ q o. (o.0, o.1 ∙ sym (by_same q.requester x (got ++ items) (λ e. n (ap owner (sym e) ∙ o.0))) ∙ ap (records_by q.requester) (append_assoc got items (x ∷ [])), o.2)) t.known h.2,
)
grown owner reader got items x j knows.Spent n h _ = tt

pushes_of : (n pass : ℕ) (p : Pushed) (x : Record) → requester_of x ≡ p.requester → Pushes Kept n pass (knows.Pusher p) x (Says (knows.Pusher p) x)
pushes_of n pass p x own items views room h at =
    let w : Knows = knows.Pusher (with_pushed p x) in
    let mine : Owns h.0 (h.2 ++ items) pass p = h.4 pass (knows.Pusher p) at in
    let here : Owns h.0 (h.2 ++ (items ++ x ∷ [])) pass (with_pushed p x) =
    (mine.0, ap (λ l. l ++ x ∷ []) mine.1 ∙ sym (by_more p.requester x (h.2 ++ items) (sym own)) ∙ ap (records_by p.requester) (append_assoc h.2 items (x ∷ [])), mine.2) in (
      w,
      (
        h.0,
        h.1,
        h.2,
        subst AreOfRequesters (append_assoc h.2 items (x ∷ [])) (each_snoc (λ r. IsRequesterNumber (requester_of r)) (h.2 ++ items) x h.3 (subst IsRequesterNumber (sym own) mine.2)),
        all_set (Fits h.0 h.1 h.2 (h.2 ++ (items ++ x ∷ []))) views pass w here
            (λ j u other e. grown h.0 h.1 h.2 items x j u (λ k. other (sym k ∙ ap h.0 own ∙ mine.0)) (h.4 j u e) (inr refl)),
      ),
      refl,
    )

pub keeps_push : (n pass : ℕ) (v : Knows) (x : Record) → v ≡ knows.Pusher (pushed_of v) → requester_of x ≡ (pushed_of v).requester → Pushes Kept n pass v x (Says v x)
keeps_push n pass v x is own = subst (λ u. Pushes Kept n pass u x (Says u x)) (sym is) (pushes_of n pass (pushed_of v) x own)

-- ---- takes

shifted : (owner : ℕ → ℕ) (reader : ℕ) (got got' all all' : List Record) (j : ℕ) (u : Knows) → reader ≢ j → all ≡ all' → Fits owner reader got all j u → Fits owner reader got' all' j u
shifted owner reader got got' all all' j (knows.Pusher q) n e h = (h.0, h.1 ∙ ap (records_by q.requester) e, h.2)
shifted owner reader got got' all all' j (knows.Taker t) n e h = absurd (n h.0)
shifted owner reader got got' all all' j knows.Spent n e h = tt

takes_of : (pass : ℕ) (t : Taken) → Pops Kept pass (knows.Taker t) (Tells (knows.Taker t))
takes_of pass t x items views h at =
    let w : Knows = knows.Taker (with_taken t x) in
    let got = h.2 ++ x ∷ [] in
    let mine : Fits h.0 h.1 h.2 (h.2 ++ x ∷ items) pass (knows.Taker t) = h.4 pass (knows.Taker t) at in
    let same : h.2 ++ x ∷ items ≡ got ++ items = sym (append_assoc h.2 (x ∷ []) items) in (
      w,
      (
        h.0,
        h.1,
        got,
        subst AreOfRequesters same h.3,
        all_set (Fits h.0 h.1 got (got ++ items)) views pass w
            (mine.0, ap (λ l. l ++ x ∷ []) mine.1, subst (λ a. Each (Owns h.0 a pass) t.known) same mine.2)
            (λ j u other e. shifted h.0 h.1 h.2 got (h.2 ++ x ∷ items) (got ++ items) j u (λ k. other (sym k ∙ mine.0)) same (h.4 j u e)),
      ),
      refl,
    )

pub keeps_pop : (pass : ℕ) (v : Knows) → v ≡ knows.Taker (taken_of v) → Pops Kept pass v (Tells v)
keeps_pop pass v is = subst (λ u. Pops Kept pass u (Tells u)) (sym is) (takes_of pass (taken_of v))

rests_of : (pass : ℕ) (t : Taken) → Learns Kept pass (knows.Taker t) (Rests (knows.Taker t))
rests_of pass t items views h at =
    let mine : Fits h.0 h.1 h.2 (h.2 ++ items) pass (knows.Taker t) = h.4 pass (knows.Taker t) at in (
      each_map (Owns h.0 (h.2 ++ items) pass) (λ p. p.records ≡ records_by p.requester (t.records ++ items))
          (λ p o. o.1 ∙ ap (λ l. records_by p.requester (l ++ items)) (sym mine.1)) t.known mine.2,
      subst (λ l. AreOfRequesters (l ++ items)) (sym mine.1) h.3,
    )

pub keeps_learn : (pass : ℕ) (v : Knows) → v ≡ knows.Taker (taken_of v) → Learns Kept pass v (Rests v)
keeps_learn pass v is = subst (λ u. Learns Kept pass u (Rests u)) (sym is) (rests_of pass (taken_of v))

-- ---- passes given and got back

abbrev moved : (ℕ → ℕ) → ℕ → ℕ → ℕ → ℕ
moved owner i to k = cond (eqb k i) to (owner k)

moved_there : (owner : ℕ → ℕ) (i to k : ℕ) → k ≡ i → moved owner i to k ≡ to
moved_there owner i to k e = ap (λ b. cond b to (owner k)) (eq-eqb k i e)

moved_else : (owner : ℕ → ℕ) (i to k : ℕ) → k ≢ i → moved owner i to k ≡ owner k
moved_else owner i to k n = ap (λ b. cond b to (owner k)) (ne_eqb k i n)

-- a pass that hasn't requester i keeps what it has
unmoved : (owner : ℕ → ℕ) (reader i to : ℕ) (got all : List Record) (j : ℕ) (u : Knows) → reader ≢ j → owner i ≢ j → Fits owner reader got all j u → Fits (moved owner i to) reader got all j u
unmoved owner reader i to got all j (knows.Pusher q) n m h = (moved_else owner i to q.requester (λ e. m (ap owner (sym e) ∙ h.0)) ∙ h.0, h.1, h.2)
unmoved owner reader i to got all j (knows.Taker t) n m h = absurd (n h.0)
unmoved owner reader i to got all j knows.Spent n m h = tt

forks_of : (pass : ℕ) (p : Pushed) (ps : List Pushed) (rs : List Record) → Each (λ q. q.requester ≢ p.requester) ps
    → let v : Knows = knows.Taker (record { known = p ∷ ps; records = rs }) in Forks Kept pass v (but_first v) (first_alone v)
forks_of pass p ps rs apart items views h at =
    let v : Knows = knows.Taker (record { known = p ∷ ps; records = rs }) in
    let left : Knows = but_first v in
    let right : Knows = first_alone v in
    let all = h.2 ++ items in
    let mine : Fits h.0 h.1 h.2 all pass v = h.4 pass v at in
    let vs : List Knows = set views pass left in
    let owner : ℕ → ℕ = moved h.0 p.requester (length vs) in
    let here : Fits owner h.1 h.2 all pass left =
    (mine.0, mine.1, each_both (λ q. q.requester ≢ p.requester) (Owns h.0 all pass) (Owns owner all pass) (λ q n o. (moved_else h.0 p.requester (length vs) q.requester n ∙ o.0, o.1, o.2)) ps apart mine.2.1) in
    let old : All (Fits owner h.1 h.2 all) vs = all_set (Fits owner h.1 h.2 all) views pass left here
    (λ j u other e. unmoved h.0 h.1 p.requester (length vs) h.2 all j u (λ k. other (sym k ∙ mine.0)) (λ k. other (sym k ∙ mine.2.0.0)) (h.4 j u e)) in
    let new : Fits owner h.1 h.2 all (length vs) right = (moved_there h.0 p.requester (length vs) p.requester refl, mine.2.0.1, mine.2.0.2) in
    (owner, h.1, h.2, h.3, λ j u e. ⊎_elim (λ x. old j u x) (λ (x : (j ≡ length vs) × (right ≡ u)). subst (λ (y : ℕ × Knows). Fits owner h.1 h.2 all y.0 y.1) (λ i. (sym x.0 i, x.1 i)) new) (at_end vs right u j e))

unbegun_above : (n i k : ℕ) → k < i → Each (λ q. q.requester ≢ k) (unbegun n i)
unbegun_above zero i k h = tt
unbegun_above (suc n) i k h = ((λ e. omega arith), unbegun_above n (i + 1) k (omega arith))

pub keeps_begin : (pass : ℕ) (v : Knows) (n i : ℕ) → v ≡ knows.Taker (taken_of v) → (taken_of v).known ≡ unbegun (suc n) i → Forks Kept pass v (but_first v) (first_alone v)
keeps_begin pass v n i is known =
    let rs = (taken_of v).records in
    let same : knows.Taker (record { known = unbegun (suc n) i; records = rs }) ≡ v = ap (λ l. knows.Taker (record { known = l; records = rs })) (sym known) ∙ sym is in
    subst (λ u. Forks Kept pass u (but_first u) (first_alone u)) same (forks_of pass (fresh i) (unbegun n (i + 1)) rs (unbegun_above n (i + 1) i (omega arith)))

merges_of : (pass : ℕ) (t : Taken) (other : ℕ) (q : Pushed) → Merges Kept pass (knows.Taker t) other (knows.Pusher q) (both (knows.Taker t) (knows.Pusher q)) knows.Spent
merges_of pass t other q items views h at two at' =
    let v : Knows = knows.Taker t in
    let now : Knows = both v (knows.Pusher q) in
    let all = h.2 ++ items in
    let mine : Fits h.0 h.1 h.2 all pass v = h.4 pass v at in
    let vs : List Knows = set views pass now in
    let was : get_elem? views other ≡ some (knows.Pusher q) = ⊎_elim (λ x. absurd (two x.0)) (λ x. x.1) (at_set views pass other now (knows.Pusher q) at') in
    let theirs : Owns h.0 all other q = h.4 other (knows.Pusher q) was in
    let owner : ℕ → ℕ = moved h.0 q.requester pass in
    let stays : (p : Pushed) → Owns h.0 all pass p → Owns owner all pass p =
    λ p o. (elim (ℕ_discrete p.requester q.requester) as (λ _. owner p.requester ≡ pass) [ yes e ↦ moved_there h.0 q.requester pass p.requester e | no n ↦ moved_else h.0 q.requester pass p.requester n ∙ o.0 ], o.1, o.2) in
    let here : Fits owner h.1 h.2 all pass now =
    (mine.0, mine.1, each_snoc (Owns owner all pass) t.known q (each_map (Owns h.0 all pass) (Owns owner all pass) stays t.known mine.2) (moved_there h.0 q.requester pass q.requester refl, theirs.1, theirs.2)) in
    let Now : ℕ → Knows → Type 0 = λ j u. j ≢ other → Fits owner h.1 h.2 all j u in
    let most : All Now vs = all_set Now views pass now (λ _. here)
    (λ j u apart e not. unmoved h.0 h.1 q.requester pass h.2 all j u (λ k. apart (sym k ∙ mine.0)) (λ k. not (sym k ∙ theirs.0)) (h.4 j u e)) in
    (owner, h.1, h.2, h.3, all_set (Fits owner h.1 h.2 all) vs other knows.Spent tt (λ j u apart e. most j u e apart))

pub keeps_end : (pass : ℕ) (v : Knows) (other : ℕ) (w : Knows) → v ≡ knows.Taker (taken_of v) → w ≡ knows.Pusher (pushed_of w) → Merges Kept pass v other w (both v w) knows.Spent
keeps_end pass v other w is that =
    subst (λ (y : Knows × Knows). Merges Kept pass y.0 other y.1 (both y.0 y.1) knows.Spent) (λ i. (sym is i, sym that i)) (merges_of pass (taken_of v) other (pushed_of w))

-- ---- the beginning and the end

unbegun_owned : (n i : ℕ) → 0 < i → n + i ≤ 8 → Each (Owns (λ _. 0) [] 0) (unbegun n i)
unbegun_owned zero i above few = tt
unbegun_owned (suc n) i above few = ((refl, refl, (above, omega arith)), unbegun_owned n (i + 1) (omega arith) (omega arith))

pub begins : Kept [] (newcomer ∷ [])
begins = (
  (λ _. 0),
  0,
  [],
  tt,
  λ j u e. ⊎_elim (λ x. absurd (some-ne-none u (sym x))) (λ (x : (j ≡ 0) × (newcomer ≡ u)).
      subst (λ (y : ℕ × Knows). Fits (λ _. 0) 0 [] [] y.0 y.1) (λ i. (sym x.0 i, x.1 i)) (refl, refl, unbegun_owned 7 1 (omega arith) (omega arith))) (at_end [] newcomer u j e),
)

nil_of : {A : Type 0} (xs : List A) → length xs ≡ 0 → xs ≡ []
nil_of [] e = refl
nil_of (x ∷ xs) e = absurd (omega arith)

each_front : {A : Type 0} (P : A → Type 0) (xs ys : List A) → Each P (xs ++ ys) → Each P xs
each_front P [] ys h = tt
each_front P (x ∷ xs) ys h = (h.0, each_front P xs ys h.1)

pub whole : (v : Knows) → Held 0 (Rests v) → IsWhole (taken_of v)
whole v held =
    let t = taken_of v in (
      each_map (λ p. p.records ≡ records_by p.requester (t.records ++ held.0)) (λ p. records_by p.requester t.records ≡ p.records)
          (λ p e. sym (e ∙ ap (records_by p.requester) (ap (λ l. t.records ++ l) (nil_of held.0 held.1) ∙ append-nil t.records))) t.known held.2.0,
      each_front (λ r. IsRequesterNumber (requester_of r)) t.records held.0 held.2.1,
    )

pub begun : (v : Knows) (items : List Record) → Rests v items → IsBegun (taken_of v)
begun v items h =
    let t = taken_of v in (
      each_map (λ p. p.records ≡ records_by p.requester (t.records ++ items)) (λ p. (rest : List Record) × (p.records ≡ records_by p.requester t.records ++ rest))
          (λ p e. (records_by p.requester items, e ∙ by_append p.requester t.records items)) t.known h.0,
      each_front (λ r. IsRequesterNumber (requester_of r)) t.records items h.1,
    )

-- ---- what the calls' clauses say

pub taken_after_begin : (v w : Knows) (t : Taken) (n i : ℕ) → w ≡ but_first v → taken_of v ≡ t → t.known ≡ unbegun (suc n) i → taken_of w ≡ record { known = unbegun n (i + 1); records = t.records }
taken_after_begin v w t n i e same known = ap taken_of e ∙ ap (λ (u : Taken). taken_of (but_first (knows.Taker u))) same ∙ ap (λ l. taken_of (but_first (knows.Taker (record { known = l; records = t.records })))) known

pub none_of : (r : Option Record) (v w : Knows) (t : Taken) → taken_of v ≡ t → MatchOption r ((w ≡ v) × Held 0 (Rests v)) (λ x. Tells v x w) → IfNone r ((taken_of w ≡ t) × IsWhole t)
none_of None v w t same h = (ap taken_of h.0 ∙ same, subst IsWhole same (whole v h.1))
none_of (Some x) v w t same h = tt
