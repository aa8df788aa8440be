-- What reads in turn do to known bytes.
use Rattle.std.proofs.Common.{ℕ, List, [], ◌++◌, ◌∙◌, sym, Option, Some, None, ap, append_assoc, Result, Ok, Err}
use Rattle.std.specs.Prelude.{OnErr}
use Rattle.std.proofs.lemmas.List.{append-nil}
use Rattle.std.specs.Io.KnownBytes.{Appends, Consumes}

pub consumes-then : (u v w : Option (List ℕ)) (a b : List ℕ) → Consumes u v a → Consumes v w b → Consumes u w (a ++ b)
consumes-then None v w a b x y = tt
consumes-then (Some xs) None w a b x y = absurd x
consumes-then (Some xs) (Some ys) None a b x y = y
consumes-then (Some xs) (Some ys) (Some zs) a b x y = x ∙ ap (λ (t : List ℕ). a ++ t) y ∙ sym (append_assoc a b zs)

pub appends-nothing : (w : Option (List ℕ)) → Appends w w []
appends-nothing None = tt
appends-nothing (Some xs) = sym (append-nil xs)

pub on_err : {T E P : Type 0} (r : Result T E) → P → OnErr r P
on_err (Ok x) p = tt
on_err (Err e) p = p
