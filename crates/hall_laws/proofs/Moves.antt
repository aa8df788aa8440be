-- A step of one seat keeps the rule.
use Rattle.std.proofs.Common.{◌≡◌, ◌≢◌, ℕ, eqb, subst, suc, ◌<◌, ◌≤◌, ◌⊎◌, List, [], ◌∷◌, ◌++◌, length, get_or, set, sym, refl, ap, ◌∙◌, inl, inr, ⊎_elim, arith, length-set, Option, Some}
use mathlib.Core.Option.{none, some, some-injective}
use mathlib.Core.Option as maybe
use lib.ListN.{get_elem?}
use Rattle.atomic_table.specs.Table.{step, Act, keeps, takes, gives, stepped, carried_after, Valid, Allows, Splits, Joins}
use Rattle.hall_laws.proofs.Lists.{at_set, at_set_word, set_here, set_else, set_again, at_snoc, at_longer, at_last, exchanged}
use mathlib.Core.Logic.{dite}
use native.Mathlib.Decide.{ℕ_discrete}
use prog.Atomic.{either}
use Rattle.fabric_steps.specs.Lists.{Each}
use Rattle.hall_laws.specs.declared.part.PartValue.{PartValue}
use Rattle.hall_laws.specs.declared.token.Token.{Token}
use Rattle.hall_laws.specs.declared.token.Knowledge.{Knowledge}
use Rattle.hall_laws.specs.Standing as hall
use Rattle.hall_laws.specs.Standing.{Standing, Values, Table, word_of, Sat, total, times, named, serving, one_if_same, Covers, holding, holding_first, token_of, others_of, Alike, AreAlike}
use Rattle.hall_laws.proofs.Totals.{each_map, each_two, at_number, total_set, total_one, total_two, total_none, total_append, total_join, each_append, holds_left, holds_right, not_among, named_self, covered, covers_outside, there, serves_none, at_length, same_alike, alike_named, alike_serving, alike_holds}

module _ {P : Type 0} (parts : P → List PartValue) (Sound : P → Type 0) (Fits : P → Knowledge → Type 0) where
  abbrev Rule : Table → Type 0
  Rule = Standing parts Sound Fits

  abbrev Seated : P → List ℕ → Token → Type 0
  Seated = hall.Seated parts Sound Fits

  clash : (a b : ℕ) → a ≢ b → some a ≡ some b → ⊥
  clash a b ne e = ne (some-injective a b e)

  -- the word k was free or named n, which u has not
  other_holds : (p p' : P) (words : List ℕ) (k x n : ℕ) (u : Token) → u.knows.number ≢ n → (get_elem? words (word_of k) ≡ some 0) ⊎ (get_elem? words (word_of k) ≡ some (suc n))
      → ((j : ℕ) (v : PartValue) → get_elem? words (word_of j) ≢ some (suc n) → get_elem? (parts p) j ≡ some v → get_elem? (parts p') j ≡ some v)
      → hall.Holds parts Sound Fits p words u → hall.Holds parts Sound Fits p' (set words (word_of k) x) u
  other_holds p p' words k x n u other word stay h = each_map (λ (kv : ℕ × PartValue) (e : (get_elem? words (word_of kv.0) ≡ some (suc u.knows.number)) × (get_elem? (parts p) kv.0 ≡ some kv.1)). (
    set_else words (word_of k) (word_of kv.0) x (λ same. ⊎_elim (λ w. clash 0 (suc u.knows.number) (λ z. omega arith) (sym w ∙ (ap (get_elem? words) (sym same) ∙ e.0)))
        (λ w. clash (suc n) (suc u.knows.number) (λ z. other (omega arith)) (sym w ∙ (ap (get_elem? words) (sym same) ∙ e.0))) word) ∙ e.0,
    stay kv.0 kv.1 (λ w. clash (suc u.knows.number) (suc n) (λ z. other (omega arith)) (sym e.0 ∙ w)) e.1,
  )) u.held h

  alike_held : (p : P) (words : List ℕ) (u u' : Token) → Alike u u' → hall.Holds parts Sound Fits p words u → hall.Holds parts Sound Fits p words u'
  alike_held p words u u' a h =
      let H : ℕ → hall.Values → Type 0 = λ n l. Each (λ (kv : ℕ × PartValue). (get_elem? words (word_of kv.0) ≡ some (suc n)) × (get_elem? (parts p) kv.0 ≡ some kv.1)) l in
      subst (λ (n : ℕ). H n u'.held) (sym a.0) (subst (H u.knows.number) (sym a.1) h)

  -- the other tokens of a view, whose knowledge may change
  mates_seated : (p p' : P) (words : List ℕ) (k x n : ℕ) (ts us : List Token) → AreAlike ts us → Each (λ (u : Token). u.knows.number ≢ n) ts → (get_elem? words (word_of k) ≡ some 0) ⊎ (get_elem? words (word_of k) ≡ some (suc n))
      → ((j : ℕ) (v : PartValue) → get_elem? words (word_of j) ≢ some (suc n) → get_elem? (parts p) j ≡ some v → get_elem? (parts p') j ≡ some v)
      → Each (Seated p words) ts → Each (λ (u : Token). Fits p' u.knows) us → Each (Seated p' (set words (word_of k) x)) us
  mates_seated p p' words k x n [] [] a apart word stay h f = tt
  mates_seated p p' words k x n (t ∷ ts) (u ∷ us) a apart word stay h f = (
    (alike_held p' (set words (word_of k) x) t u a.0 (other_holds p p' words k x n t apart.0 word stay h.0.0), f.0),
    mates_seated p p' words k x n ts us a.1 apart.1 word stay h.1 f.1,
  )
  mates_seated p p' words k x n [] (u ∷ us) a apart word stay h f = absurd a
  mates_seated p p' words k x n (t ∷ ts) [] a apart word stay h f = absurd a

  -- the tokens of one view have different numbers
  mates_apart : (s : Table) (r : Rule s) (id : ℕ) (t : Token) (ts : List Token) → get_elem? s.views id ≡ some (t ∷ ts) → Each (λ (u : Token). u.knows.number ≢ t.knows.number) ts
  mates_apart s r id t ts at = let one = total_one (named t.knows.number) s.views id (t ∷ ts) at in let most = r.apart t.knows.number in let self = named_self t ts in not_among t.knows.number ts (omega arith)

  none_holds : (n j : ℕ) (us : List Token) → Each (λ (u : Token). u.knows.number ≢ n) us → hall.SomeHolds n j us → ⊥
  none_holds n j [] e h = h
  none_holds n j (u ∷ us) e h = ⊎_elim (λ (x : (u.knows.number ≡ n) × Covers u.held j). e.0 x.0) (λ (y : hall.SomeHolds n j us). none_holds n j us e.1 y) h

  -- the word of a part that the first token of a view doesn't hold doesn't name it
  not_named : (s : Table) (r : Rule s) (id k : ℕ) (t : Token) (ts : List Token) → get_elem? s.views id ≡ some (t ∷ ts) → hall.Outside k t.held → get_elem? s.words (word_of k) ≡ some (suc t.knows.number) → ⊥
  not_named s r id k t ts at outside own = let f = r.holder k t.knows.number own in dite (ℕ_discrete f.0 id)
      (λ same. let is : f.1 ≡ t ∷ ts = some-injective f.1 (t ∷ ts) (sym f.2 ∙ (ap (get_elem? s.views) same ∙ at)) in
      ⊎_elim (λ (h : (t.knows.number ≡ t.knows.number) × Covers t.held k). covers_outside t.held k k outside h.1 refl)
      (λ (h : hall.SomeHolds t.knows.number k ts). none_holds t.knows.number k ts (mates_apart s r id t ts at) h) (subst (hall.SomeHolds t.knows.number k) is f.3))
      (λ other. none_holds t.knows.number k f.1
      (let two = total_two (named t.knows.number) s.views id f.0 (t ∷ ts) f.1 (λ q. other (sym q)) at f.2 in let most = r.apart t.knows.number in let self = named_self t ts in not_among t.knows.number f.1 (omega arith)) f.3)

  seated_fits : (p : P) (words : List ℕ) (ts : List Token) → Each (Seated p words) ts → Each (hall.FitsToken parts Sound Fits p) ts
  seated_fits p words ts h = each_map (λ (u : Token) (e : Seated p words u). (each_map (λ (kv : ℕ × PartValue) (e : (get_elem? words (word_of kv.0) ≡ some (suc u.knows.number)) × (get_elem? (parts p) kv.0 ≡ some kv.1)). e.1) u.held e.0, e.1)) ts h

  only_fits : (p : P) (words : List ℕ) (ts : List Token) → Each (Seated p words) ts → Each (λ (u : Token). Fits p u.knows) ts
  only_fits p words ts h = each_map (λ (u : Token) (e : Seated p words u). e.1) ts h

  module _ (s : Table) (r : Rule s) (id k x : ℕ) (t t' : Token) (ts us : List Token) (p' : P) (homes' : List (maybe.Option (Option PartValue))) (at : get_elem? s.views id ≡ some (t ∷ ts)) (alike : AreAlike ts us) where
    own_apart : Each (λ (u : Token). u.knows.number ≢ t.knows.number) ts
    own_apart = mates_apart s r id t ts at

    others_apart : (j : ℕ) (us : List Token) → j ≢ id → get_elem? s.views j ≡ some us → Each (λ (u : Token). u.knows.number ≢ t.knows.number) us
    others_apart j us ne e = let two = total_two (named t.knows.number) s.views id j (t ∷ ts) us (λ q. ne (sym q)) at e in let most = r.apart t.knows.number in let self = named_self t ts in not_among t.knows.number us (omega arith)

    here : get_elem? (set s.views id (t' ∷ us)) id ≡ some (t' ∷ us)
    here = set_here s.views id (t' ∷ us) (at_length s.views id (t ∷ ts) at)

    refound : (j n : ℕ) → j ≢ k → ((j : ℕ) → j ≢ k → Covers t.held j → Covers t'.held j) → t'.knows.number ≡ t.knows.number → hall.Found s.views n j → hall.Found (set s.views id (t' ∷ us)) n j
    refound j n ne keep num (i, vs, at', some_holds) = dite (ℕ_discrete i id)
        (λ same. let is : vs ≡ t ∷ ts = some-injective vs (t ∷ ts) (sym at' ∙ (ap (get_elem? s.views) same ∙ at)) in
        ⊎_elim (λ (h : (t.knows.number ≡ n) × Covers t.held j). (id, t' ∷ us, here, inl (num ∙ h.0, keep j ne h.1)))
        (λ (h : hall.SomeHolds n j ts). (id, t' ∷ us, here, inr (alike_holds n j ts us alike h))) (subst (hall.SomeHolds n j) is some_holds))
        (λ other. (i, vs, set_else s.views id i (t' ∷ us) other ∙ at', some_holds))

    pub moves : t'.knows.number ≡ t.knows.number → (get_elem? s.words (word_of k) ≡ some 0) ⊎ (get_elem? s.words (word_of k) ≡ some (suc t.knows.number))
        → Sound p' → length (parts p') ≡ length (parts r.whole) → length homes' ≡ length s.homes
        → ((j : ℕ) (v : PartValue) → get_elem? s.words (word_of j) ≢ some (suc t.knows.number) → get_elem? (parts r.whole) j ≡ some v → get_elem? (parts p') j ≡ some v)
        → ((u : Knowledge) → u.number ≢ t.knows.number → Fits r.whole u → Fits p' u)
        → Seated p' (set s.words (word_of k) x) t' → Each (λ (u : Token). Fits p' u.knows) us
        → ((j : ℕ) (v : PartValue) → get_elem? (set s.words (word_of k) x) (word_of j) ≡ some 0 → get_elem? (parts p') j ≡ some v → get_elem? homes' j ≡ some (some (Some v)))
        → ((n : ℕ) → total (serving n) (set s.views id (t' ∷ us)) ≤ 1)
        → ((j : ℕ) → j ≢ k → Covers t.held j → Covers t'.held j)
        → (x ≡ 0) ⊎ ((x ≡ suc t.knows.number) × Covers t'.held k)
        → Rule (record { words = set s.words (word_of k) x; homes = homes'; views = set s.views id (t' ∷ us) })
    moves num word sound wide deep stay fit mine mates home serve keep named_k = let go : (u : Token) → u.knows.number ≢ t.knows.number → Seated r.whole s.words u → Seated p' (set s.words (word_of k) x) u = λ u ne h. (other_holds r.whole p' s.words k x t.knows.number u ne word stay h.0, fit u.knows ne h.1) in record {
      whole = p';
      sound = sound;
      wide = omega (arith, length-set s.words (word_of k) x, wide, r.wide);
      deep = omega (arith, deep, wide, r.deep);
      at_home = home;
      holder = λ j n e. ⊎_elim (λ (q : (j ≡ k) × (x ≡ suc n)). ⊎_elim (λ (z : x ≡ 0). let b = q.1 in absurd (omega arith))
          (λ (z : (x ≡ suc t.knows.number) × Covers t'.held k). let a = z.0 in let b = q.1 in (id, t' ∷ us, here, inl ((omega arith), subst (Covers t'.held) (sym q.0) z.1))) named_k)
          (λ (q : (j ≢ k) × (get_elem? s.words (word_of j) ≡ some (suc n))). refound j n q.0 keep num (r.holder j n q.1)) (at_set_word s.words k j x (suc n) e);
      tokens = λ j vs e. ⊎_elim (λ (q : (j ≡ id) × ((t' ∷ us) ≡ vs)). subst (Each (Seated p' (set s.words (word_of k) x))) q.1 (mine, mates_seated r.whole p' s.words k x t.knows.number ts us alike own_apart word stay (r.tokens id (t ∷ ts) at).1 mates))
          (λ (q : (j ≢ id) × (get_elem? s.views j ≡ some vs)). each_two go vs (others_apart j vs q.0 q.1) (r.tokens j vs q.1)) (at_set s.views id j (t' ∷ us) vs e);
      apart = λ n. let m = total_set (named n) s.views id (t ∷ ts) (t' ∷ us) at in let most = r.apart n in let same = ap (one_if_same n) num in let rest = alike_named n ts us alike in omega arith;
      served = serve;
    }

  unchanged : (s : Table) (k w id : ℕ) (v : List Token) → get_elem? s.words k ≡ some w → get_elem? s.views id ≡ some v → stepped s k w id [] v keeps ≡ s
  unchanged s k w id v word at = λ i. record { words = set_again s.words k w word i; homes = s.homes; views = set_again s.views id v at i }

  pub take_allows : (slots id k new : ℕ) (me : Sat) → 0 < length me.0 → new ≡ suc (token_of me.0).knows.number → k < slots
      → Allows Rule slots id me (word_of k) (λ n. either (eqb n 0) new n) (hall.taken parts Sound Fits (step slots (word_of k) 0 new none) me)
  take_allows slots id k new ([], c) some_token is_new small s r deep at fits64 = absurd (omega arith)
  take_allows slots id k new (t ∷ ts, c) some_token is_new small s r deep at fits64 =
      let w : ℕ = get_or s.words (word_of k) 0 in
      let in_words : word_of k < length s.words = omega (arith, r.wide, r.deep, deep) in
      let in_homes : k < length s.homes = omega (arith, deep) in
      let word : get_elem? s.words (word_of k) ≡ some w = at_number s.words (word_of k) in_words in
      let part : (a : PartValue) × (get_elem? (parts r.whole) k ≡ some a) = there (parts r.whole) k (omega (arith, r.deep, deep)) in
      let mine : Seated r.whole s.words t = (r.tokens id (t ∷ ts) at).0 in
      let Next : ℕ → Type 0 = λ x. (v' : List Token) × (a : Act (Option PartValue)) × Valid s.homes c a × Rule (stepped s (word_of k) x id c v' a) × hall.taken parts Sound Fits (step slots (word_of k) 0 new none) (t ∷ ts, c) w (v', carried_after c a) in
      exchanged w 0 new Next
      (λ free. let free_word : get_elem? s.words (word_of k) ≡ some 0 = word ∙ ap some free in
      let after : Sat = (holding k part.0 t ∷ ts, (k, Some part.0) ∷ c) in
      let Taken : ℕ → Type 0 = λ n. (w ≡ 0 → (v : PartValue) × (after ≡ (holding_first n v (t ∷ ts), (n, Some v) ∷ c)) × hall.Known parts Sound Fits (holding_first n v (t ∷ ts))) × (w ≢ 0 → (after ≡ (t ∷ ts, c)) × (hall.Outside n t.held → w ≢ suc t.knows.number)) in (
        holding k part.0 t ∷ ts,
        takes k (Some part.0),
        r.at_home k part.0 free_word part.1,
        moves s r id k new t (holding k part.0 t) ts ts r.whole (set s.homes k none) at (same_alike ts) refl (inl free_word) r.sound refl (length-set s.homes k none) (λ j x n e. e) (λ u n h. h) (
          (
            (set_here s.words (word_of k) new in_words ∙ ap some is_new, part.1),
            each_map (λ (kv : ℕ × PartValue) (e : (get_elem? s.words (word_of kv.0) ≡ some (suc t.knows.number)) × (get_elem? (parts r.whole) kv.0 ≡ some kv.1)).
                (set_else s.words (word_of k) (word_of kv.0) new (λ same. clash 0 (suc t.knows.number) (λ z. omega arith) (sym free_word ∙ (ap (get_elem? s.words) (sym same) ∙ e.0))) ∙ e.0, e.1)) t.held mine.0,
          ),
          mine.1,
        )
            (only_fits r.whole s.words ts (r.tokens id (t ∷ ts) at).1)
            (λ j x e g. ⊎_elim (λ (q : (j ≡ k) × (new ≡ 0)). let z = q.1 in absurd (omega (arith, is_new)))
            (λ (q : (j ≢ k) × (get_elem? s.words (word_of j) ≡ some 0)). set_else s.homes k j none q.0 ∙ r.at_home j x q.1 g) (at_set_word s.words k j new 0 e))
            (λ n. let m = total_set (serving n) s.views id (t ∷ ts) (holding k part.0 t ∷ ts) at in let most = r.served n in omega arith)
            (λ j ne h. inr h) (inr (is_new, inl refl)),
        λ n at_word. subst Taken (let same : k ≡ n = omega arith in same) (
          λ _. (
            part.0,
            refl,
            (
              r.whole,
              r.sound,
              (
                ((part.1, each_map (λ (kv : ℕ × PartValue) (e : (get_elem? s.words (word_of kv.0) ≡ some (suc t.knows.number)) × (get_elem? (parts r.whole) kv.0 ≡ some kv.1)). e.1) t.held mine.0), mine.1),
                seated_fits r.whole s.words ts (r.tokens id (t ∷ ts) at).1,
              ),
            ),
          ),
          λ ne. absurd (ne free),
        ),
      ))
      (λ busy. (
        t ∷ ts,
        keeps,
        tt,
        subst Rule (sym (unchanged s (word_of k) w id (t ∷ ts) word at)) r,
        λ n at_word. (λ z. absurd (busy z), λ _. (refl, λ outside own. not_named s r id n t ts at outside (let same : n ≡ k = omega arith in ap (λ (j : ℕ). get_elem? s.words (word_of j)) same ∙ (word ∙ ap some own)))),
      ))

  -- kinds 2 to 4: the part that was taken last or turned to the front goes home
  pub release_allows : (slots id k : ℕ) (v : PartValue) (us : List Token) (me : Sat) (c : List (ℕ × Option PartValue)) → 0 < length me.0 → me.1 ≡ (k, Some v) ∷ c → k < slots
      → hall.Releases parts Sound Fits me.0 k v us
      → Allows Rule slots id me (word_of k) (λ _. 0) (λ _. hall.released parts Sound Fits us (step slots (word_of k) 0 0 none) me 0)
  release_allows slots id k v us ([], c') c some_token front small rel s r deep at fits64 = absurd (omega arith)
  release_allows slots id k v [] (t ∷ ts, c') c some_token front small rel s r deep at fits64 = absurd (let none = rel.some_token in omega arith)
  release_allows slots id k v (t' ∷ us) (t ∷ ts, c') c some_token front small rel s r deep at fits64 =
      let Held : ℕ × PartValue → Type 0 = λ kv. (get_elem? s.words (word_of kv.0) ≡ some (suc t.knows.number)) × (get_elem? (parts r.whole) kv.0 ≡ some kv.1) in
      let in_words : word_of k < length s.words = omega (arith, r.wide, r.deep, deep) in
      let in_homes : k < length s.homes = omega (arith, deep) in
      let mine : Seated r.whole s.words t = (r.tokens id (t ∷ ts) at).0 in
      let held_word : (j : ℕ) → Covers t.held j → get_elem? s.words (word_of j) ≡ some (suc t.knows.number) = λ j. covered Held (λ j. get_elem? s.words (word_of j) ≡ some (suc t.knows.number)) (λ kv e. e.0) t.held j mine.0 in
      let agrees : hall.Agrees parts Sound Fits r.whole t.held = each_map (λ (kv : ℕ × PartValue) (e : Held kv). e.1) t.held mine.0 in
      let next = rel.becomes r.whole r.sound agrees (only_fits r.whole s.words (t ∷ ts) (r.tokens id (t ∷ ts) at)) (mates_apart s r id t ts at) in
      let p' : P = next.0 in
      let b : hall.Becomes parts Sound Fits r.whole (t ∷ ts) k v (t' ∷ us) p' = next.1 in
      let stay : (j : ℕ) (v : PartValue) → get_elem? s.words (word_of j) ≢ some (suc t.knows.number) → get_elem? (parts r.whole) j ≡ some v → get_elem? (parts p') j ≡ some v =
      λ j x ne e. b.2 j x (each_map {Q = λ (kv : ℕ × PartValue). j ≢ kv.0} (λ (kv : ℕ × PartValue) (h : Held kv) (same : j ≡ kv.0). ne (ap (λ (n : ℕ). get_elem? s.words (word_of n)) same ∙ h.0)) t.held mine.0) e in
      let H : List (ℕ × Option PartValue) → Type 0 = λ l. (w : List Token) × (a : Act (Option PartValue)) × Valid s.homes l a × Rule (stepped s (word_of k) 0 id l w a) × hall.released parts Sound Fits (t' ∷ us) (step slots (word_of k) 0 0 none) (t ∷ ts, l) 0 (w, carried_after l a) in
      subst H (sym front) (
        t' ∷ us,
        gives,
        tt,
        moves s r id k 0 t t' ts us p' (set s.homes k (some (Some v))) at rel.alike rel.number (inr (held_word k rel.covers)) b.0 b.1 (length-set s.homes k (some (Some v)))
            stay
            b.6
            (each_two (λ (kv : ℕ × PartValue) (o : (kv.0 ≢ k) × Covers t.held kv.0) (g : get_elem? (parts p') kv.0 ≡ some kv.1). (set_else s.words (word_of k) (word_of kv.0) 0 (λ (same : word_of kv.0 ≡ word_of k). o.0 (omega arith)) ∙ (held_word kv.0 o.1 ∙ ap (λ (n : ℕ). some (suc n)) (sym rel.number)), g)) t'.held rel.others b.4, b.5.0)
            b.5.1
            (λ j x e g. ⊎_elim
            (λ (q : (j ≡ k) × (0 ≡ 0)). let same : v ≡ x = some-injective v x (sym b.3 ∙ (ap (get_elem? (parts p')) (sym q.0) ∙ g)) in ap (get_elem? (set s.homes k (some (Some v)))) q.0 ∙ (set_here s.homes k (some (Some v)) in_homes ∙ ap (λ (y : PartValue). some (some (Some y))) same))
            (λ (q : (j ≢ k) × (get_elem? s.words (word_of j) ≡ some 0)).
            let old : (a : PartValue) × (get_elem? (parts r.whole) j ≡ some a) = there (parts r.whole) j (omega (arith, b.1, at_length (parts p') j x g)) in
            let kept : get_elem? (parts p') j ≡ some old.0 = b.2 j old.0 (each_map {Q = λ (kv : ℕ × PartValue). j ≢ kv.0} (λ (kv : ℕ × PartValue) (h : Held kv) (same : j ≡ kv.0). clash 0 (suc t.knows.number) (λ z. omega arith) (sym q.1 ∙ (ap (λ (n : ℕ). get_elem? s.words (word_of n)) same ∙ h.0))) t.held mine.0) old.1 in
            set_else s.homes k j (some (Some v)) q.0 ∙ (r.at_home j old.0 q.1 old.1 ∙ ap (λ (y : PartValue). some (some (Some y))) (some-injective old.0 x (sym kept ∙ g))))
            (at_set_word s.words k j 0 0 e))
            (λ n. let m = total_set (serving n) s.views id (t ∷ ts) (t' ∷ us) at in let most = r.served n in let rest = alike_serving n ts us rel.alike in
            ⊎_elim (λ (le : times n t'.knows.served ≤ times n t.knows.served). omega arith)
            (λ (new : (times n t'.knows.served ≤ 1) × ((u : Knowledge) → Fits r.whole u → times n u.served ≡ 0)).
            let view : (vs : List Token) (j : ℕ) → get_elem? s.views j ≡ some vs → serving n vs ≡ 0 = λ vs j e. serves_none n vs (each_map (λ (u : Token) (h : Seated r.whole s.words u). new.1 u.knows h.1) vs (r.tokens j vs e)) in
            let all : total (serving n) s.views ≡ 0 = total_none (serving n) s.views (λ j vs e. view vs j e) in
            let own : serving n (t ∷ ts) ≡ 0 = view (t ∷ ts) id at in
            let few = new.0 in
            omega arith)
            (rel.served r.whole r.sound agrees mine.1 n))
            rel.keeps (inl refl),
        (refl, (p', b.0, ((b.4, b.5.0), seated_fits p' (set s.words (word_of k) 0) us (mates_seated r.whole p' s.words k 0 t.knows.number ts us rel.alike (mates_apart s r id t ts at) (inr (held_word k rel.covers)) stay (r.tokens id (t ∷ ts) at).1 b.5.1)))),
      )

  -- kind 5: the first token goes to a new seat
  pub split_keeps : (id : ℕ) (v : List Token) → 0 < length v → Splits Rule id v (others_of v) (token_of v ∷ [])
  split_keeps id [] some_token s r at = absurd (omega arith)
  split_keeps id (t ∷ ts) some_token s r at =
      let mine : Each (Seated r.whole s.words) (t ∷ ts) = r.tokens id (t ∷ ts) at in
      let long : length (set s.views id ts) ≡ length s.views = length-set s.views id ts in
      let there_t : get_elem? (set s.views id ts ++ (t ∷ []) ∷ []) (length s.views) ≡ some (t ∷ []) = at_last (set s.views id ts) (t ∷ []) (length s.views) long in record {
        whole = r.whole;
        sound = r.sound;
        wide = r.wide;
        deep = r.deep;
        at_home = r.at_home;
        holder = λ j n e. let f = r.holder j n e in dite (ℕ_discrete f.0 id)
            (λ same. let is : f.1 ≡ t ∷ ts = some-injective f.1 (t ∷ ts) (sym f.2 ∙ (ap (get_elem? s.views) same ∙ at)) in
            ⊎_elim (λ (h : (t.knows.number ≡ n) × Covers t.held j). (length s.views, t ∷ [], there_t, inl h))
            (λ (h : hall.SomeHolds n j ts). (id, ts, at_longer (set s.views id ts) ((t ∷ []) ∷ []) id ts (set_here s.views id ts (at_length s.views id (t ∷ ts) at)), h)) (subst (hall.SomeHolds n j) is f.3))
            (λ other. (f.0, f.1, at_longer (set s.views id ts) ((t ∷ []) ∷ []) f.0 f.1 (set_else s.views id f.0 ts other ∙ f.2), f.3));
        tokens = λ j us e. ⊎_elim (λ (old : get_elem? (set s.views id ts) j ≡ some us). ⊎_elim (λ (q : (j ≡ id) × (ts ≡ us)). subst (Each (Seated r.whole s.words)) q.1 mine.1) (λ (q : (j ≢ id) × (get_elem? s.views j ≡ some us)). r.tokens j us q.1) (at_set s.views id j ts us old))
            (λ (new : (t ∷ []) ≡ us). subst (Each (Seated r.whole s.words)) new (mine.0, tt)) (at_snoc (set s.views id ts) (t ∷ []) us j e);
        apart = λ n. let m = total_set (named n) s.views id (t ∷ ts) ts at in let a = total_append (named n) (set s.views id ts) (t ∷ []) in let most = r.apart n in omega arith;
        served = λ n. let m = total_set (serving n) s.views id (t ∷ ts) ts at in let a = total_append (serving n) (set s.views id ts) (t ∷ []) in let most = r.served n in omega arith;
      }

  -- kind 6: the tokens of another seat come to this one
  pub join_keeps : (id : ℕ) (v : List Token) (other : ℕ) (w : List Token) → Joins Rule id v other w (v ++ w) []
  join_keeps id v other w s r at apart at_w =
      let views : List (List Token) = set (set s.views id (v ++ w)) other [] in
      let was : get_elem? s.views other ≡ some w = sym (set_else s.views id other (v ++ w) apart) ∙ at_w in
      let now : get_elem? views id ≡ some (v ++ w) = set_else (set s.views id (v ++ w)) other id [] (λ e. apart (sym e)) ∙ set_here s.views id (v ++ w) (at_length s.views id v at) in
      let S : List Token → Type 0 = Each (Seated r.whole s.words) in
      let both : S (v ++ w) = each_append (Seated r.whole s.words) v w (r.tokens id v at) (r.tokens other w was) in record {
        whole = r.whole;
        sound = r.sound;
        wide = r.wide;
        deep = r.deep;
        at_home = r.at_home;
        holder = λ j n e. let f = r.holder j n e in dite (ℕ_discrete f.0 id)
            (λ same. (id, v ++ w, now, holds_left n j v w (subst (hall.SomeHolds n j) (some-injective f.1 v (sym f.2 ∙ (ap (get_elem? s.views) same ∙ at))) f.3)))
            (λ not_id. dite (ℕ_discrete f.0 other)
            (λ same. (id, v ++ w, now, holds_right n j v w (subst (hall.SomeHolds n j) (some-injective f.1 w (sym f.2 ∙ (ap (get_elem? s.views) same ∙ was))) f.3)))
            (λ not_other. (f.0, f.1, set_else (set s.views id (v ++ w)) other f.0 [] not_other ∙ (set_else s.views id f.0 (v ++ w) not_id ∙ f.2), f.3)));
        tokens = λ j us e. ⊎_elim (λ (q : (j ≡ other) × ([] ≡ us)). subst S q.1 tt)
            (λ (q : (j ≢ other) × (get_elem? (set s.views id (v ++ w)) j ≡ some us)). ⊎_elim (λ (x : (j ≡ id) × ((v ++ w) ≡ us)). subst S x.1 both) (λ (x : (j ≢ id) × (get_elem? s.views j ≡ some us)). r.tokens j us x.1) (at_set s.views id j (v ++ w) us q.1))
            (at_set (set s.views id (v ++ w)) other j [] us e);
        apart = λ n. let a = total_set (named n) s.views id v (v ++ w) at in let b = total_set (named n) (set s.views id (v ++ w)) other w [] at_w in let c = total_join (λ (t : Token). one_if_same n t.knows.number) v w in let most = r.apart n in omega arith;
        served = λ n. let a = total_set (serving n) s.views id v (v ++ w) at in let b = total_set (serving n) (set s.views id (v ++ w)) other w [] at_w in let c = total_join (λ (t : Token). times n t.knows.served) v w in let most = r.served n in omega arith;
      }
