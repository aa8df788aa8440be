-- The text of lines, one after the other.
use Rattle.std.proofs.Common.{◌≡◌, ◌∙◌, ◌++◌, ◌+◌, ◌∷◌, ◌<◌, ◌≤◌, List, ℕ, [], zero, suc, Some, None, ap, sym, refl, drop, map, length, append_assoc, drop-cons, arith}
use Rattle.std.proofs.lemmas.List.{append-nil}
use Rattle.std.proofs.lemmas.Option.{slice_get_within, get_or_from_slice_get}
use Rattle.std.specs.Prelude.{codes, slice_get}
use Rattle.history_words.specs.Claim.{Claim}
use Rattle.trace_text.specs.Texts.{lines_text, memory_line, record_line, entry_line, records_text, trace_text}

-- one line more
pub text-next : {X : Type 0} (f : X → List ℕ) (xs : List X) (i : ℕ) (x : X) (text line text' : List ℕ) → slice_get xs i ≡ Some x
    → line ≡ f x ++ 10 ∷ [] → text' ≡ text ++ line
    → text' ++ lines_text (map f (drop (i + 1) xs)) ≡ text ++ lines_text (map f (drop i xs))
unfolding lines_text
text-next f xs i x text line text' at e g =
    let rest = lines_text (map f (drop (i + 1) xs)) in
    let next : i + 1 ≡ suc i = omega arith in
    let cut : drop i xs ≡ x ∷ drop (suc i) xs = drop-cons xs i x (slice_get_within xs i x at) ∙ ap (λ y. y ∷ drop (suc i) xs) (get_or_from_slice_get xs i x x at) in
    let whole : lines_text (map f (drop i xs)) ≡ f x ++ 10 ∷ lines_text (map f (drop (suc i) xs)) = ap (λ ys. lines_text (map f ys)) cut in
    rw (g, e, next, whole) (append_assoc text (f x ++ 10 ∷ []) (lines_text (map f (drop (suc i) xs)))
    ∙ ap (λ (t : List ℕ). text ++ t) (append_assoc (f x) (10 ∷ []) (lines_text (map f (drop (suc i) xs)))))

-- within the list there is a line
pub text-there : {X : Type 0} (xs : List X) (i n : ℕ) → n ≡ length xs → i < n → slice_get xs i ≡ None → ⊥
text-there [] i n e lt none = omega arith
text-there (x ∷ xs) zero n e lt none = cc
text-there (x ∷ xs) (suc i) n e lt none = text-there xs i (length xs) refl (omega arith) none

-- no line is left
pub text-past : {X : Type 0} (f : X → List ℕ) (xs : List X) (i : ℕ) (text : List ℕ) → length xs ≤ i → text ≡ text ++ lines_text (map f (drop i xs))
unfolding lines_text
text-past f [] zero text le = sym (append-nil text)
text-past f [] (suc i) text le = sym (append-nil text)
text-past f (x ∷ xs) zero text le = absurd (omega arith)
text-past f (x ∷ xs) (suc i) text le = text-past f xs i text (omega arith)

pub lines_text-append : (xs ys : List (List ℕ)) → lines_text (xs ++ ys) ≡ lines_text xs ++ lines_text ys
unfolding lines_text
lines_text-append [] ys = refl
lines_text-append (x ∷ xs) ys = rw (lines_text-append xs ys) (sym (append_assoc x (10 ∷ lines_text xs) (lines_text ys)))

pub lines_text-next : (x : List ℕ) (xs : List (List ℕ)) → lines_text (x ∷ xs) ≡ x ++ 10 ∷ lines_text xs
unfolding lines_text
lines_text-next x xs = refl

pub lines_text-none : lines_text [] ≡ []
unfolding lines_text
lines_text-none = refl

-- the parts of the text
pub trace_text-is : (c : Claim) → trace_text c ≡ codes "pciex-trace 2" ++ 10 ∷ (memory_line c.memory ++ 10 ∷ (lines_text (map record_line c.records)
    ++ (codes "history" ++ 10 ∷ (lines_text (map entry_line c.memory.entries) ++ (codes "end" ++ 10 ∷ [])))))
trace_text-is c =
    let rs = map record_line c.records in
    let es = map entry_line c.memory.entries in
    let last : lines_text (codes "end" ∷ []) ≡ codes "end" ++ 10 ∷ [] = lines_text-next (codes "end") [] ∙ ap (λ (t : List ℕ). codes "end" ++ 10 ∷ t) lines_text-none in
    let history : lines_text (codes "history" ∷ (es ++ codes "end" ∷ [])) ≡ codes "history" ++ 10 ∷ (lines_text es ++ (codes "end" ++ 10 ∷ [])) =
    lines_text-next (codes "history") (es ++ codes "end" ∷ []) ∙ ap (λ (t : List ℕ). codes "history" ++ 10 ∷ t) (lines_text-append es (codes "end" ∷ []) ∙ ap (λ (t : List ℕ). lines_text es ++ t) last) in
    lines_text-next (codes "pciex-trace 2") _ ∙ ap (λ (t : List ℕ). codes "pciex-trace 2" ++ 10 ∷ t) (lines_text-next (memory_line c.memory) _
    ∙ ap (λ (t : List ℕ). memory_line c.memory ++ 10 ∷ t) (lines_text-append rs (codes "history" ∷ (es ++ codes "end" ∷ [])) ∙ ap (λ (t : List ℕ). lines_text rs ++ t) history))

regroup : (p m r h e z : List ℕ) → ((((p ++ (m ++ 10 ∷ [])) ++ r) ++ h) ++ e) ++ z ≡ p ++ (m ++ 10 ∷ (r ++ (h ++ (e ++ z))))
regroup p m r h e z = simp append_assoc

-- one part after the other
pub records_text-by : (c : Claim) (none head line memory records history : List ℕ)
    → none ≡ [] → head ≡ none ++ codes "pciex-trace 2\n" → line ≡ memory_line c.memory ++ 10 ∷ [] → memory ≡ head ++ line
    → records ≡ memory ++ lines_text (map record_line c.records) → history ≡ records ++ codes "history\n" → history ≡ records_text c
records_text-by c none head line memory records history a b d e f g = rw (g, f, e, d, b, a) refl

pub trace_text-by : (c : Claim) (history entries whole : List ℕ) → history ≡ records_text c
    → entries ≡ history ++ lines_text (map entry_line c.memory.entries) → whole ≡ entries ++ codes "end\n" → whole ≡ trace_text c
trace_text-by c history entries whole a b d =
    rw (d, b, a) (regroup (codes "pciex-trace 2\n") (memory_line c.memory) (lines_text (map record_line c.records)) (codes "history\n")
    (lines_text (map entry_line c.memory.entries)) (codes "end\n") ∙ sym (trace_text-is c))
