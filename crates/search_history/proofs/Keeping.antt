-- Records without some answers.
use Rattle.std.proofs.Common.{◌≡◌, ◌∙◌, ℕ, suc, ◌+◌, ◌<◌, Bool, true, false, List, [], ◌∷◌, ◌++◌, take, length, Some, refl, ap, arith}
use Rattle.std.specs.Prelude.{slice_get, ◌==◌, if◌then◌else◌}
use Rattle.std.specs.List.{list_any}
use Rattle.std.proofs.lemmas.List.{length-take-le}
use Rattle.std.proofs.lemmas.Option.{slice_get_within}
use Rattle.history_words.specs.Records.{Record}
use Rattle.history_words.specs.declared.record.RecordOf.TheVariants as records
use Rattle.search_history.specs.Contradictions.{keeping_from}
use Rattle.search_history.proofs.Runs.{take_more}

put_if : (b : Bool) (r : Record) (xs ys : List Record) → (if b then r ∷ (xs ++ ys) else xs ++ ys) ≡ (if b then r ∷ xs else xs) ++ ys
put_if true r xs ys = refl
put_if false r xs ys = refl

moved : (a : ℕ) (kept : List ℕ) (n m : ℕ) (ys : List Record) → n ≡ m → keeping_from n kept ys ≡ keeping_from m kept ys
moved a kept n m ys e = ap (λ k. keeping_from k kept ys) e

keeping_append : (a : ℕ) (kept : List ℕ) (xs ys : List Record) → keeping_from a kept (xs ++ ys) ≡ keeping_from a kept xs ++ keeping_from (a + length xs) kept ys
keeping_append a kept [] ys = moved a kept a (a + 0) ys (omega arith)
keeping_append a kept (records.Sub i k op n ∷ xs) ys =
    ap (λ zs. records.Sub i k op n ∷ zs) (keeping_append (suc a) kept xs ys ∙ ap (λ zs. keeping_from (suc a) kept xs ++ zs) (moved a kept (suc a + length xs) (a + suc (length xs)) ys (omega arith)))
keeping_append a kept (records.Ans i k reply n ∷ xs) ys =
    let rest : keeping_from (suc a) kept (xs ++ ys) ≡ keeping_from (suc a) kept xs ++ keeping_from (a + suc (length xs)) kept ys =
    keeping_append (suc a) kept xs ys ∙ ap (λ zs. keeping_from (suc a) kept xs ++ zs) (moved a kept (suc a + length xs) (a + suc (length xs)) ys (omega arith)) in
    ap (λ zs. if list_any (λ b. b == a) kept then records.Ans i k reply n ∷ zs else zs) rest
    ∙ put_if (list_any (λ b. b == a) kept) (records.Ans i k reply n) (keeping_from (suc a) kept xs) (keeping_from (a + suc (length xs)) kept ys)

-- the records up to the next one, and with it
pub keeping_more : (kept : List ℕ) (rs : List Record) (i : ℕ) (r : Record) → slice_get rs i ≡ Some r → keeping_from 0 kept (take (i + 1) rs) ≡ keeping_from 0 kept (take i rs) ++ keeping_from i kept (r ∷ [])
keeping_more kept rs i r at =
    let l : i < length rs = slice_get_within rs i r at in
    let long : 0 + length (take i rs) ≡ i = omega (arith, length-take-le i rs (omega (arith, l))) in
    ap (keeping_from 0 kept) (take_more rs i r at) ∙ keeping_append 0 kept (take i rs) (r ∷ []) ∙ ap (λ zs. keeping_from 0 kept (take i rs) ++ zs) (moved 0 kept (0 + length (take i rs)) i (r ∷ []) long)
