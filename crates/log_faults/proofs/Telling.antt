-- The log of a device with a fault, record by record.
use Rattle.std.proofs.Common.{◌≡◌, ◌∙◌, ℕ, suc, ◌+◌, ◌<◌, List, [], ◌∷◌, ◌++◌, Option, take, length, Some, None, zero, refl, sym, ap, append_assoc, arith}
use Rattle.std.specs.Prelude.{slice_get}
use Rattle.std.proofs.lemmas.List.{length-take-le}
use Rattle.std.proofs.lemmas.Option.{slice_get_within}
use Rattle.log_runs.proofs.Lists.{take_more_at}
use Rattle.tlp_core.specs.Ops.{Op}
use Rattle.seq_memory.specs.Limits.{Extent}
use Rattle.history_words.specs.Records.{Record}
use Rattle.history_words.specs.TraceView.{TraceView}
use Rattle.log_faults.specs.WithFault.{told, told_from}
use Rattle.log_faults.specs.declared.faults.FaultKind.{FaultKind}

abbrev pub over : Extent → List Record → TraceView
over x rs = record { base = x.base; size = x.size; block = x.block; records = rs }

moved : (kind : FaultKind) (p : ℕ) (asked : Option Record) (parts : List Op) (n m : ℕ) (ys : List Record) → n ≡ m → told_from kind p asked parts n ys ≡ told_from kind p asked parts m ys
moved kind p asked parts n m ys e = ap (λ k. told_from kind p asked parts k ys) e

told_append : (kind : FaultKind) (p : ℕ) (asked : Option Record) (parts : List Op) (a : ℕ) (xs ys : List Record)
    → told_from kind p asked parts a (xs ++ ys) ≡ told_from kind p asked parts a xs ++ told_from kind p asked parts (a + length xs) ys
told_append kind p asked parts a [] ys = moved kind p asked parts a (a + 0) ys (omega arith)
told_append kind p asked parts a (r ∷ xs) ys =
    ap (λ zs. told kind p asked parts a r ++ zs)
    (told_append kind p asked parts (suc a) xs ys ∙ ap (λ zs. told_from kind p asked parts (suc a) xs ++ zs) (moved kind p asked parts (suc a + length xs) (a + suc (length xs)) ys (omega arith)))
    ∙ sym (append_assoc (told kind p asked parts a r) (told_from kind p asked parts (suc a) xs) (told_from kind p asked parts (a + suc (length xs)) ys))

nothing_behind : (xs : List Record) → xs ++ [] ≡ xs
nothing_behind [] = refl
nothing_behind (x ∷ xs) = ap (λ zs. x ∷ zs) (nothing_behind xs)

-- the records up to the next one, and with it
pub told_more : (kind : FaultKind) (p : ℕ) (asked : Option Record) (parts : List Op) (rs : List Record) (i : ℕ) (r : Record) → slice_get rs i ≡ Some r
    → told_from kind p asked parts 0 (take (i + 1) rs) ≡ told_from kind p asked parts 0 (take i rs) ++ told kind p asked parts i r
told_more kind p asked parts rs i r at =
    let l : i < length rs = slice_get_within rs i r at in
    let long : 0 + length (take i rs) ≡ i = omega (arith, length-take-le i rs (omega (arith, l))) in
    ap (told_from kind p asked parts 0) (take_more_at rs i r at)
    ∙ told_append kind p asked parts 0 (take i rs) (r ∷ [])
    ∙ ap (λ zs. told_from kind p asked parts 0 (take i rs) ++ zs) (moved kind p asked parts (0 + length (take i rs)) i (r ∷ []) long ∙ nothing_behind (told kind p asked parts i r))

inside_none : {X : Type 0} (xs : List X) (i : ℕ) → i < length xs → slice_get xs i ≡ None → ⊥
inside_none [] i l e = omega arith
inside_none (x ∷ xs) zero l e = cc
inside_none (x ∷ xs) (suc i) l e = inside_none xs i (omega arith) e

pub none_inside : {X : Type 0} (xs : List X) (i n : ℕ) → i < n → n ≡ length xs → slice_get xs i ≡ None → ⊥
none_inside xs i n l e none = inside_none xs i (omega (arith, l, e)) none
