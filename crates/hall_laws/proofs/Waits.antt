-- What waits was submitted and has no answer.
use Rattle.std.proofs.Common.{◌≡◌, ◌≢◌, ℕ, zero, suc, ◌<◌, ◌==◌, Bool, true, false, List, [], ◌∷◌, ◌++◌, length, take, refl, sym, ap, ◌∙◌, subst, arith, inl, inr, ◌⊎◌, ⊎_elim, Some, eq-eqb}
use Rattle.std.specs.Prelude.{slice_get, if◌then◌else◌, ◌&&◌, ◌||◌, not}
use Rattle.std.specs.List.{list_any}
use Rattle.std.proofs.lemmas.Bool.Decides.{nat_tests}
use Rattle.tlp_core.specs.Ops.{Op}
use Rattle.tlp_core.specs.Operation.{is_posted}
use Rattle.history_words.specs.Records.{Record}
use Rattle.history_words.specs.declared.record.RecordOf.TheVariants.{Sub, Ans}
use Rattle.history_words.specs.Trace.{submissions, answers_to}
use Rattle.hall_laws.specs.Waiting.{without, after_record, waiting_after, waiting}
use Rattle.hall_laws.specs.Tells.{Has}

pub test : (b : Bool) → (b ≡ true) ⊎ (b ≡ false)
test true = inl refl
test false = inr refl

has_left : {X : Type 0} (x : X) (xs ys : List X) → Has x xs → Has x (xs ++ ys)
has_left x [] ys h = absurd h
has_left x (z ∷ xs) ys h = ⊎_elim (λ (e : z ≡ x). inl e) (λ (t : Has x xs). inr (has_left x xs ys t)) h

has_last : {X : Type 0} (x : X) (xs : List X) → Has x (xs ++ x ∷ [])
has_last x [] = inl refl
has_last x (z ∷ xs) = inr (has_last x xs)

stays_in : (k j n : ℕ) (ps : List (ℕ × ℕ)) → k ≢ j → Has (k, n) ps → Has (k, n) (without j ps)
stays_in k j n [] ne h = absurd h
stays_in k j n (p ∷ ps) ne h = ⊎_elim
    (λ (t : (p.0 == j) ≡ true). let drops : without j (p ∷ ps) ≡ without j ps = rw t refl in
    let same : p.0 ≡ j = grind (arith, nat_tests) in
    ⊎_elim (λ (e : p ≡ (k, n)). absurd (ne (sym (ap (λ (x : ℕ × ℕ). x.0) e) ∙ same))) (λ (r : Has (k, n) ps). subst (Has (k, n)) (sym drops) (stays_in k j n ps ne r)) h)
    (λ (t : (p.0 == j) ≡ false). let keeps : without j (p ∷ ps) ≡ p ∷ without j ps = rw t refl in
    subst (Has (k, n)) (sym keeps) (⊎_elim (λ (e : p ≡ (k, n)). inl e) (λ (r : Has (k, n) ps). inr (stays_in k j n ps ne r)) h))
    (test (p.0 == j))

either_way : (b : Bool) (x : ℕ × ℕ) (ps qs : List (ℕ × ℕ)) → Has x ps → Has x qs → Has x (if b then ps else qs)
either_way true x ps qs h g = h
either_way false x ps qs h g = g

or_false : (a b : Bool) → (a || b) ≡ false → (a ≡ false) × (b ≡ false)
or_false true b h = absurd (cc)
or_false false b h = (refl, h)

still_waits : (i k n : ℕ) (ps : List (ℕ × ℕ)) (rs : List Record) → list_any (answers_to i k) rs ≡ false → Has (k, n) ps → Has (k, n) (waiting_after i ps rs)
still_waits i k n ps [] none h = h
still_waits i k n ps (Sub j m op t ∷ rs) none h =
    still_waits i k n (after_record i ps (Sub j m op t)) rs none (either_way ((i == j) && not (is_posted op)) (k, n) (ps ++ (m, t) ∷ []) ps (has_left (k, n) ps ((m, t) ∷ []) h) h)
still_waits i k n ps (Ans j m x t ∷ rs) none h =
    let both : (answers_to i k (Ans j m x t) ≡ false) × (list_any (answers_to i k) rs ≡ false) = or_false (answers_to i k (Ans j m x t)) (list_any (answers_to i k) rs) none in
    still_waits i k n (after_record i ps (Ans j m x t)) rs both.1 (⊎_elim
    (λ (e : (i == j) ≡ true).
    let ours : after_record i ps (Ans j m x t) ≡ without m ps = rw e refl in
    let other : (k == m) ≡ false = (let a : ((i == j) && (k == m)) ≡ false = both.0 in let b : ((i == j) && (k == m)) ≡ (k == m) = rw e refl in sym b ∙ a) in
    subst (Has (k, n)) (sym ours) (stays_in k m n ps (λ same. let t : (k == m) ≡ true = eq-eqb k m same in cc) h))
    (λ (e : (i == j) ≡ false). let ours : after_record i ps (Ans j m x t) ≡ ps = rw e refl in subst (Has (k, n)) (sym ours) h)
    (test (i == j)))

-- a request that isn't posted waits from its submission on, while no record answers it
waits_after : (i k n a : ℕ) (op : Op) (ps : List (ℕ × ℕ)) (rs : List Record) → slice_get rs a ≡ Some (Sub i k op n) → is_posted op ≡ false → list_any (answers_to i k) rs ≡ false → Has (k, n) (waiting_after i ps rs)
waits_after i k n a op ps [] at np none = absurd (cc)
waits_after i k n zero op ps (r ∷ rs) at np none =
    let is : r ≡ Sub i k op n = cc in
    let both : (answers_to i k r ≡ false) × (list_any (answers_to i k) rs ≡ false) = or_false (answers_to i k r) (list_any (answers_to i k) rs) none in
    let added : after_record i ps r ≡ ps ++ (k, n) ∷ [] = ap (after_record i ps) is ∙ (rw (eq-eqb i i refl, np) refl) in
    still_waits i k n (after_record i ps r) rs both.1 (subst (Has (k, n)) (sym added) (has_last (k, n) ps))
waits_after i k n (suc a) op ps (r ∷ rs) at np none =
    let both : (answers_to i k r ≡ false) × (list_any (answers_to i k) rs ≡ false) = or_false (answers_to i k r) (list_any (answers_to i k) rs) none in
    waits_after i k n a op (after_record i ps r) rs at np both.1

pub waits : (i k n a : ℕ) (op : Op) (rs : List Record) → slice_get rs a ≡ Some (Sub i k op n) → is_posted op ≡ false → list_any (answers_to i k) rs ≡ false → Has (k, n) (waiting rs i)
waits i k n a op rs at np none = waits_after i k n a op [] rs at np none

-- an operation stands among the submissions by the record of its place
abbrev MadeBy : ℕ → ℕ → Op → List Record → Type 0
MadeBy i k op rs = (a : ℕ) × (m : ℕ) × (n : ℕ) × (slice_get rs a ≡ Some (Sub i m op n)) × (length (submissions (take a rs) i) ≡ k)

made_behind : (i m n k : ℕ) (o op : Op) (rs : List Record) → ((k : ℕ) → slice_get (submissions rs i) k ≡ Some op → MadeBy i k op rs) → slice_get (o ∷ submissions rs i) k ≡ Some op → MadeBy i k op (Sub i m o n ∷ rs)
made_behind i m n zero o op rs later at = (0, m, n, (let is : o ≡ op = cc in ap (λ (z : Op). Some (Sub i m z n)) is), refl)
made_behind i m n (suc k) o op rs later at =
    let r = later k at in
    let one : length (submissions (Sub i m o n ∷ take r.0 rs) i) ≡ suc (length (submissions (take r.0 rs) i)) = rw (eq-eqb i i refl) refl in
    (suc r.0, r.1, r.2, r.3, one ∙ ap suc r.4)

skipped : (i j m n : ℕ) (o : Op) (rs : List Record) → (i == j) ≡ false → submissions (Sub j m o n ∷ rs) i ≡ submissions rs i
skipped i j m n o rs t = rw t refl

pub made_by : (i k : ℕ) (op : Op) (rs : List Record) → slice_get (submissions rs i) k ≡ Some op → MadeBy i k op rs
made_by i k op [] e = absurd (cc)
made_by i k op (Ans j m x n ∷ rs) e = let r = made_by i k op rs e in (suc r.0, r.1, r.2, r.3, r.4)
made_by i k op (Sub j m o n ∷ rs) e = ⊎_elim
    (λ (t : (i == j) ≡ true).
    let same : i ≡ j = grind (arith, nat_tests) in
    let here : submissions (Sub j m o n ∷ rs) i ≡ o ∷ submissions rs i = rw t refl in
    subst (λ (z : ℕ). MadeBy i k op (Sub z m o n ∷ rs)) same (made_behind i m n k o op rs (λ k e. made_by i k op rs e) (subst (λ (l : List Op). slice_get l k ≡ Some op) here e)))
    (λ (t : (i == j) ≡ false).
    let here : submissions (Sub j m o n ∷ rs) i ≡ submissions rs i = skipped i j m n o rs t in
    let r = made_by i k op rs (subst (λ (l : List Op). slice_get l k ≡ Some op) here e) in
    (suc r.0, r.1, r.2, r.3, ap length (skipped i j m n o (take r.0 rs) t) ∙ r.4))
    (test (i == j))

pub any_found : {X : Type 0} (p : X → Bool) (xs : List X) → list_any p xs ≡ true → (a : ℕ) × (x : X) × (slice_get xs a ≡ Some x) × (p x ≡ true)
any_found p [] e = absurd (cc)
any_found p (x ∷ xs) e = ⊎_elim
    (λ (t : p x ≡ true). (0, x, refl, t))
    (λ (t : p x ≡ false). let rest : list_any p (x ∷ xs) ≡ list_any p xs = rw t refl in let r = any_found p xs (sym rest ∙ e) in (suc r.0, r.1, r.2, r.3))
    (test (p x))

pub any_at : {X : Type 0} (p : X → Bool) (xs : List X) (a : ℕ) (x : X) → slice_get xs a ≡ Some x → p x ≡ true → list_any p xs ≡ true
any_at p [] a x e t = absurd (cc)
any_at p (y ∷ xs) zero x e t = let is : y ≡ x = cc in rw (ap p is ∙ t) refl
any_at p (y ∷ xs) (suc a) x e t = ⊎_elim (λ (b : p y ≡ true). rw b refl) (λ (b : p y ≡ false). rw b (any_at p xs a x e t)) (test (p y))

-- ---- what waits was submitted, and has no answer behind

has_split : {X : Type 0} (x y : X) (xs : List X) → Has x (xs ++ y ∷ []) → Has x xs ⊎ (y ≡ x)
has_split x y [] h = ⊎_elim (λ (e : y ≡ x). inr e) (λ (z : ⊥). absurd z) h
has_split x y (w ∷ xs) h = ⊎_elim (λ (e : w ≡ x). inl (inl e)) (λ (t : Has x (xs ++ y ∷ [])). ⊎_elim (λ (a : Has x xs). inl (inr a)) (λ (b : y ≡ x). inr b) (has_split x y xs t)) h

stayed : (k n m : ℕ) (ps : List (ℕ × ℕ)) → Has (k, n) (without m ps) → Has (k, n) ps × (k ≢ m)
stayed k n m [] h = absurd h
stayed k n m (p ∷ ps) h = ⊎_elim
    (λ (t : (p.0 == m) ≡ true). let drops : without m (p ∷ ps) ≡ without m ps = rw t refl in let r = stayed k n m ps (subst (Has (k, n)) drops h) in (inr r.0, r.1))
    (λ (t : (p.0 == m) ≡ false). let keeps : without m (p ∷ ps) ≡ p ∷ without m ps = rw t refl in
    ⊎_elim (λ (e : p ≡ (k, n)). (inl e, λ same. let b : (p.0 == m) ≡ true = eq-eqb p.0 m (ap (λ (x : ℕ × ℕ). x.0) e ∙ same) in cc))
    (λ (r : Has (k, n) (without m ps)). let s = stayed k n m ps r in (inr s.0, s.1)) (subst (Has (k, n)) keeps h))
    (test (p.0 == m))

abbrev pub NoAnswer : ℕ → ℕ → List Record → Type 0
NoAnswer i k rs = (b : ℕ) (x : Rattle.seq_memory.specs.Entries.Reply) (m : ℕ) → slice_get rs b ≡ Some (Ans i k x m) → ⊥

abbrev pub NoAnswerBehind : ℕ → ℕ → ℕ → List Record → Type 0
NoAnswerBehind i k a rs = (b : ℕ) (x : Rattle.seq_memory.specs.Entries.Reply) (m : ℕ) → a < b → slice_get rs b ≡ Some (Ans i k x m) → ⊥

abbrev pub Asked : ℕ → ℕ → ℕ → List Record → Type 0
Asked i k n rs = (a : ℕ) × (op : Op) × (slice_get rs a ≡ Some (Sub i k op n)) × (is_posted op ≡ false) × NoAnswerBehind i k a rs

none_first : (i k : ℕ) (r : Record) (rs : List Record) → ((x : Rattle.seq_memory.specs.Entries.Reply) (m : ℕ) → r ≢ Ans i k x m) → NoAnswer i k rs → NoAnswer i k (r ∷ rs)
none_first i k r rs first none zero x m e = first x m (cc)
none_first i k r rs first none (suc b) x m e = none b x m e

one_later : (i k n : ℕ) (r : Record) (rs : List Record) → Asked i k n rs → Asked i k n (r ∷ rs)
one_later i k n r rs (a, op, at, np, none) = (suc a, op, at, np, behind)
  where
    behind : NoAnswerBehind i k (suc a) (r ∷ rs)
    behind zero x m less e = absurd (omega arith)
    behind (suc b) x m less e = none b x m (omega arith) e

behind_first : (i k : ℕ) (r : Record) (rs : List Record) → NoAnswer i k rs → NoAnswerBehind i k 0 (r ∷ rs)
behind_first i k r rs none zero x m less e = absurd (omega arith)
behind_first i k r rs none (suc b) x m less e = none b x m e

and_true : (a b : Bool) → (a && b) ≡ true → (a ≡ true) × (b ≡ true)
and_true true b h = (refl, h)
and_true false b h = absurd (cc)

not_true : (b : Bool) → not b ≡ true → b ≡ false
not_true true h = absurd (cc)
not_true false h = refl

pub asked_behind : (i k n : ℕ) (ps : List (ℕ × ℕ)) (rs : List Record) → Has (k, n) (waiting_after i ps rs) → (Has (k, n) ps × NoAnswer i k rs) ⊎ Asked i k n rs
asked_behind i k n ps [] h = inl (h, λ b x m e. absurd (cc))
asked_behind i k n ps (Sub j m op t ∷ rs) h = ⊎_elim
    (λ (y : Has (k, n) (after_record i ps (Sub j m op t)) × NoAnswer i k rs). ⊎_elim
    (λ (yes : ((i == j) && not (is_posted op)) ≡ true).
    let both = and_true (i == j) (not (is_posted op)) yes in
    let same : i ≡ j = (let e : (i == j) ≡ true = both.0 in grind (arith, nat_tests)) in
    let added : after_record i ps (Sub j m op t) ≡ ps ++ (m, t) ∷ [] = rw yes refl in
    ⊎_elim (λ (old : Has (k, n) ps). inl (old, none_first i k (Sub j m op t) rs (λ x u e. absurd (cc)) y.1))
    (λ (new : (m, t) ≡ (k, n)).
    let is : Sub j m op t ≡ Sub i k op n = ap (λ (z : ℕ × ℕ). Sub j z.0 op z.1) new ∙ ap (λ (z : ℕ). Sub z k op n) (sym same) in
    inr (0, op, ap Some is, not_true (is_posted op) both.1, behind_first i k (Sub j m op t) rs y.1)) (has_split (k, n) (m, t) ps (subst (Has (k, n)) added y.0)))
    (λ (no : ((i == j) && not (is_posted op)) ≡ false).
    let kept : after_record i ps (Sub j m op t) ≡ ps = rw no refl in
    inl (subst (Has (k, n)) kept y.0, none_first i k (Sub j m op t) rs (λ x u e. absurd (cc)) y.1)) (test ((i == j) && not (is_posted op))))
    (λ (y : Asked i k n rs). inr (one_later i k n (Sub j m op t) rs y))
    (asked_behind i k n (after_record i ps (Sub j m op t)) rs h)
asked_behind i k n ps (Ans j m z t ∷ rs) h = ⊎_elim
    (λ (y : Has (k, n) (after_record i ps (Ans j m z t)) × NoAnswer i k rs). ⊎_elim
    (λ (yes : (i == j) ≡ true).
    let cut : after_record i ps (Ans j m z t) ≡ without m ps = rw yes refl in
    let s = stayed k n m ps (subst (Has (k, n)) cut y.0) in
    inl (s.0, none_first i k (Ans j m z t) rs (λ x u e. s.1 (let f : m ≡ k = cc in sym f)) y.1))
    (λ (no : (i == j) ≡ false).
    let kept : after_record i ps (Ans j m z t) ≡ ps = rw no refl in
    inl (subst (Has (k, n)) kept y.0, none_first i k (Ans j m z t) rs (λ x u e. let f : j ≡ i = cc in let b : (i == j) ≡ true = eq-eqb i j (sym f) in cc) y.1)) (test (i == j)))
    (λ (y : Asked i k n rs). inr (one_later i k n (Ans j m z t) rs y))
    (asked_behind i k n (after_record i ps (Ans j m z t)) rs h)

-- a submission counts from its place on
pub more_made : (i k n p a : ℕ) (op : Op) (rs : List Record) → slice_get rs p ≡ Some (Sub i k op n) → p < a → length (submissions (take p rs) i) < length (submissions (take a rs) i)
more_made i k n p a op [] at less = absurd (cc)
more_made i k n p zero op (r ∷ rs) at less = absurd (omega arith)
more_made i k n zero (suc a) op (r ∷ rs) at less =
    let is : r ≡ Sub i k op n = cc in
    let one : submissions (Sub i k op n ∷ take a rs) i ≡ op ∷ submissions (take a rs) i = rw (eq-eqb i i refl) refl in
    let here : length (submissions (r ∷ take a rs) i) ≡ suc (length (submissions (take a rs) i)) = ap (λ (z : Record). length (submissions (z ∷ take a rs) i)) is ∙ ap length one in
    omega arith
more_made i k n (suc p) (suc a) op (Sub j m o t ∷ rs) at less =
    let r = more_made i k n p a op rs at (omega arith) in
    ⊎_elim (λ (e : (i == j) ≡ true). let x : length (submissions (Sub j m o t ∷ take p rs) i) ≡ suc (length (submissions (take p rs) i)) = rw e refl in let y : length (submissions (Sub j m o t ∷ take a rs) i) ≡ suc (length (submissions (take a rs) i)) = rw e refl in omega arith)
    (λ (e : (i == j) ≡ false). let x : length (submissions (Sub j m o t ∷ take p rs) i) ≡ length (submissions (take p rs) i) = rw e refl in let y : length (submissions (Sub j m o t ∷ take a rs) i) ≡ length (submissions (take a rs) i) = rw e refl in omega arith) (test (i == j))
more_made i k n (suc p) (suc a) op (Ans j m x t ∷ rs) at less = more_made i k n p a op rs at (omega arith)
