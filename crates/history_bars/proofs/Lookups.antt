-- Where the first stands that passes, one element more.
use Rattle.std.proofs.Common.{◌≡◌, ◌≢◌, ◌∙◌, ◌+◌, ◌∷◌, ◌++◌, ◌<◌, ◌≤◌, List, ℕ, [], suc, Bool, true, false, cond, ap, sym, refl, take, length, get_or, arith, inl, inr, Less, Greater}
use Rattle.std.specs.Prelude.{Option, Some, None, option_map, is_some, ◌==◌, ◌&&◌}
use Rattle.std.specs.Ordering.{nat_cmp, is_eq}
use Rattle.std.specs.Cmp.{nat_cmp_is}
use Rattle.std.proofs.lemmas.Bool.{cases_eq, cases_lt, eq-eqb, ne_eqb}
use Rattle.std.specs.Option.{option_or}
use Rattle.std.proofs.lemmas.List.{take_more, length-take-le}
use Rattle.seq_memory.specs.Entries.{Entry}
use Rattle.history_words.specs.Records.{Record}
use Rattle.history_words.specs.Flaws.{first_place, place_of}
use Rattle.history_words.specs.Trace.{is_request, answers_to}
use Rattle.history_bars.specs.Layout.{acted_in, answer_in}

mapped : {X Y : Type 0} (f : X → Y) (o : Option X) (t : Bool) (x : X) → option_map f (option_or o (cond t (Some x) None)) ≡ option_or (option_map f o) (cond t (Some (f x)) None)
mapped f (Some y) t x = refl
mapped f None true x = refl
mapped f None false x = refl

headed : (b : Bool) (o : Option ℕ) (t : Bool) (n : ℕ) (o' : Option ℕ) → o' ≡ option_or o (cond t (Some n) None)
    → cond b (Some 0) (option_map (λ m. m + 1) o') ≡ option_or (cond b (Some 0) (option_map (λ m. m + 1) o)) (cond t (Some (suc n)) None)
headed true o t n o' e = refl
headed false o t n o' e =
    let one : n + 1 ≡ suc n = omega arith in
    ap (option_map (λ m. m + 1)) e ∙ mapped (λ m. m + 1) o t n ∙ ap (λ m. option_or (option_map (λ m. m + 1) o) (cond t (Some m) None)) one

next : {X : Type 0} (t : X → Bool) (xs : List X) (x : X) → first_place t (xs ++ x ∷ []) ≡ option_or (first_place t xs) (cond (t x) (Some (length xs)) None)
next t [] x = refl
next t (y ∷ ys) x = headed (t y) (first_place t ys) (t x) (length ys) (first_place t (ys ++ x ∷ [])) (next t ys x)

first_next : {X : Type 0} (t : X → Bool) (xs : List X) (p : ℕ) (x : X) → p < length xs → x ≡ get_or xs p x
    → first_place t (take (p + 1) xs) ≡ option_or (first_place t (take p xs)) (cond (t x) (Some p) None)
first_next t xs p x lt is =
    let cut : take (p + 1) xs ≡ take p xs ++ x ∷ [] = take_more xs p x lt ∙ ap (λ y. take p xs ++ y ∷ []) (sym is) in
    let small : p ≤ length xs = omega arith in
    let len : length (take p xs) ≡ p = length-take-le p xs small in
    ap (first_place t) cut ∙ next t (take p xs) x ∙ ap (λ n. option_or (first_place t (take p xs)) (cond (t x) (Some n) None)) len

-- ---- a value that is noted, if it is the first

none_of : (o : Option ℕ) → is_some o ≡ false → o ≡ None
none_of None e = refl
none_of (Some x) e = cc

kept : (o x : Option ℕ) → is_some o ≡ true → o ≡ option_or o x
kept None x e = cc
kept (Some y) x e = refl

or_none : (o : Option ℕ) → option_or o None ≡ o
or_none None = refl
or_none (Some x) = refl

apart : (a b : ℕ) → (a ≡ b → ⊥) → is_eq (nat_cmp a b) ≡ false
apart a b ne = elim (cases_lt a b) [
  | inl l ↦ ap is_eq (sym (nat_cmp_is a b Less l))
  | inr g ↦ let n : a ≢ b = ne in let l : b < a = omega arith in ap is_eq (sym (nat_cmp_is a b Greater l))
]

unequal : (o : Option ℕ) (k number value : ℕ) → (k ≡ number → ⊥) → o ≡ option_or o (cond (k == number) (Some value) None)
unequal o k number value ne = sym (ap (λ b. option_or o (cond b (Some value) None)) (ne_eqb k number ne) ∙ or_none o)

pub note_kept : (f : ℕ → Option ℕ) (number value k : ℕ) → is_some (f number) ≡ true → f k ≡ option_or (f k) (cond (k == number) (Some value) None)
note_kept f number value k some = elim (cases_eq k number) [
  | inl e ↦ kept (f k) (cond (k == number) (Some value) None) (ap (λ n. is_some (f n)) e ∙ some)
  | inr ne ↦ unequal (f k) k number value ne
]

pub note_put : (f g : ℕ → Option ℕ) (number value k : ℕ) → g number ≡ Some value → ((q : ℕ) → is_eq (nat_cmp number q) ≡ false → g q ≡ f q)
    → is_some (f number) ≡ false → g k ≡ option_or (f k) (cond (k == number) (Some value) None)
note_put f g number value k put others none = elim (cases_eq k number) [
  | inl e ↦
      ap g e ∙ put
      ∙ sym (ap (λ o. option_or o (cond (k == number) (Some value) None)) (ap f e ∙ none_of (f number) none) ∙ ap (λ b. cond b (Some value) None) (eq-eqb k number e))
  | inr ne ↦ others k (apart number k (λ e. ne (sym e))) ∙ unequal (f k) k number value ne
]

pub not_noted : (o : Option ℕ) (a b : Bool) (value : ℕ) → a ≡ false → o ≡ option_or o (cond (a && b) (Some value) None)
not_noted o a b value e = sym (ap (λ t. option_or o (cond (t && b) (Some value) None)) e ∙ or_none o)

pub noted : (o : Option ℕ) (a b : Bool) (value : ℕ) → a ≡ true → option_or o (cond b (Some value) None) ≡ option_or o (cond (a && b) (Some value) None)
noted o a b value e = sym (ap (λ t. option_or o (cond (t && b) (Some value) None)) e)

pub acted_next : (h : List Entry) (i k p : ℕ) (e : Entry) → p < length h → e ≡ get_or h p e
    → acted_in (take (p + 1) h) i k ≡ option_or (acted_in (take p h) i k) (cond (is_request i k e) (Some (p + 1)) None)
acted_next h i k p e lt is = ap (option_map (λ m. m + 1)) (first_next (is_request i k) h p e lt is) ∙ mapped (λ m. m + 1) (place_of (take p h) i k) (is_request i k e) p

pub answer_next : (rs : List Record) (i k p : ℕ) (r : Record) → p < length rs → r ≡ get_or rs p r
    → answer_in (take (p + 1) rs) i k ≡ option_or (answer_in (take p rs) i k) (cond (answers_to i k r) (Some p) None)
answer_next rs i k p r lt is = first_next (answers_to i k) rs p r lt is
