-- The last ` from ` of a line.
use Rattle.std.proofs.Common.{◌≡◌, ℕ, suc, ◌+◌, ◌<◌, Bool, true, false, List, [], ◌∷◌, ◌++◌, length, take, drop, get_or, refl, sym, ap, ◌∙◌, drop-cons, add-one, Option, Some, None}
use Rattle.std.specs.Prelude.{◌==◌, codes, bytes_eq}
use Rattle.std.proofs.lemmas.Bool.{ne_eqb}
use Rattle.std.proofs.lemmas.List.{append-nil, take-append-drop}
use Rattle.packet_text.specs.Forms.{cut_from, cut_by, begins}
use Rattle.packet_text.proofs.WordLemmas.{Lacks, lacks, lacks-is, lacks-append}

begins-none : (c : ℕ) (cs : List ℕ) → Lacks 102 cs → begins (c ∷ cs) ≡ None
begins-none c cs h = by (c == 32) cs refl h
  where
    by : (b : Bool) (cs : List ℕ) → (c == 32) ≡ b → Lacks 102 cs → begins (c ∷ cs) ≡ None
    by true [] e h = rw e refl
    by true (d ∷ cs) e h = rw (e, ne_eqb d 102 h.0) refl
    by false cs e h = rw e refl

-- where no `f` is, no ` from ` is
pub cut-none : (cs : List ℕ) → Lacks 102 cs → cut_from cs ≡ None
cut-none [] h = refl
cut-none (c ∷ cs) h = rw (cut-none cs h.1) (begins-none c cs h.1)

-- what stands before a text with a ` from `
pub cut-front : (xs ys a b : List ℕ) → cut_from ys ≡ Some (a, b) → cut_from (xs ++ ys) ≡ Some (xs ++ a, b)
cut-front [] ys a b e = e
cut-front (x ∷ xs) ys a b e = rw (cut-front xs ys a b e) refl

-- the text before ` from `, where no other is behind it
pub cut-at : (xs tail : List ℕ) → Lacks 102 tail → cut_from (xs ++ (codes " from " ++ tail)) ≡ Some (xs, tail)
unfolding lacks
cut-at xs tail h =
    let none : cut_from (114 ∷ 111 ∷ 109 ∷ 32 ∷ tail) ≡ None = cut-none (114 ∷ 111 ∷ 109 ∷ 32 ∷ tail) (lacks-append 102 (codes "rom ") tail (lacks-is 102 (codes "rom ") refl) h) in
    let here : cut_from (codes " from " ++ tail) ≡ Some ([], tail) = by (cut_from (114 ∷ 111 ∷ 109 ∷ 32 ∷ tail)) none in
    cut-front xs (codes " from " ++ tail) [] tail here ∙ ap (λ (l : List ℕ). Some (l, tail)) (append-nil xs)
  where
    by : (o : Option (List ℕ × List ℕ)) → o ≡ None → cut_by (cut_by o 102 (114 ∷ 111 ∷ 109 ∷ 32 ∷ tail)) 32 (102 ∷ 114 ∷ 111 ∷ 109 ∷ 32 ∷ tail) ≡ Some ([], tail)
    by o e = rw e refl

-- ---- a search from the end

-- one place nearer the front
pub cut-step : (line : List ℕ) (at : ℕ) → at < length line → cut_from (drop (at + 1) line) ≡ None
    → bytes_eq (take 6 (drop at line)) (codes " from ") ≡ false → cut_from (drop at line) ≡ None
cut-step line at lt none not =
    let cons = drop-cons line at 0 lt in
    let next : drop (suc at) line ≡ drop (at + 1) line = ap (λ (n : ℕ). drop n line) (sym (add-one at)) in
    let e : drop at line ≡ get_or line at 0 ∷ drop (at + 1) line = cons ∙ ap (λ (t : List ℕ). get_or line at 0 ∷ t) next in
    step (get_or line at 0) (drop (at + 1) line) (drop at line) e none not
  where
    step : (c : ℕ) (cs whole : List ℕ) → whole ≡ c ∷ cs → cut_from cs ≡ None → bytes_eq (take 6 whole) (codes " from ") ≡ false → cut_from whole ≡ None
    step c cs whole e none not =
        let test = rw e at not in
        rw (e, none, test) refl

-- and the place where it is
pub cut-found : (line : List ℕ) (at : ℕ) → at < length line → cut_from (drop (at + 1) line) ≡ None
    → bytes_eq (take 6 (drop at line)) (codes " from ") ≡ true → cut_from line ≡ Some (take at line, drop 6 (drop at line))
cut-found line at lt none is =
    let cons = drop-cons line at 0 lt in
    let next : drop (suc at) line ≡ drop (at + 1) line = ap (λ (n : ℕ). drop n line) (sym (add-one at)) in
    let e : drop at line ≡ get_or line at 0 ∷ drop (at + 1) line = cons ∙ ap (λ (t : List ℕ). get_or line at 0 ∷ t) next in
    let here = found (get_or line at 0) (drop (at + 1) line) (drop at line) e none is in
    ap cut_from (sym (take-append-drop at line))
    ∙ cut-front (take at line) (drop at line) [] (drop 6 (drop at line)) here
    ∙ ap (λ (l : List ℕ). Some (l, drop 6 (drop at line))) (append-nil (take at line))
  where
    found : (c : ℕ) (cs whole : List ℕ) → whole ≡ c ∷ cs → cut_from cs ≡ None → bytes_eq (take 6 whole) (codes " from ") ≡ true → cut_from whole ≡ Some ([], drop 6 whole)
    found c cs whole e none is =
        let test = rw e at is in
        rw (e, none, test) refl
