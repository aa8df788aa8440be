-- What holds of each refusal.
use Rattle.std.proofs.Common.{Result, Ok, Err, IfErr}

pub each_error : {A E : Type 0} (r : Result A E) (P Q : E → Type 0) → ((e : E) → P e → Q e) → IfErr r P → IfErr r Q
each_error (Ok a) P Q law h = tt
each_error (Err e) P Q law h = law e h
