-- Prefixes without a history.
use Rattle.std.proofs.Common.{◌≡◌, ℕ, suc, zero, ◌+◌, ◌<◌, ◌≤◌, List, [], ◌∷◌, take, length, Some, refl, sym, ap, subst, arith}
use Rattle.std.specs.Prelude.{slice_get}
use Rattle.std.proofs.lemmas.Option.{slice_get_within}
use Rattle.seq_memory.specs.Limits.{Extent}
use Rattle.history_words.specs.Records.{Record}
use Rattle.history_words.specs.TraceView.{TraceView, observed}
use Rattle.log_runs.specs.EventView.{EventView}
use Rattle.log_runs.specs.LogView.{LogView}
use Rattle.log_runs.specs.Tasks.{AreEvents, IsMisformed}
use Rattle.log_runs.specs.Runs.{Live, Dead, start}
use Rattle.log_runs.specs.Explainable.{IsExplainable, prefix}
use Rattle.log_events.specs.Formed.{MisformedAt}
use Rattle.search_history.specs.Prefixes.{IsUnexplained}

abbrev pub of : Extent → List EventView → LogView
of x es = record { extent = x; events = es }

-- some run leads through the events of an explainable log
abbrev pub HaveRuns : Type 0
HaveRuns = (t : TraceView) (es : List EventView) → AreEvents t.records es → IsExplainable t → Live (record { extent = observed t; events = es }) (start (record { extent = observed t; events = es }))

pub none_from_dead : (t : TraceView) (count : ℕ) (log : LogView) → HaveRuns → AreEvents (take count t.records) log.events
    → log.extent ≡ observed t → Dead log (start log) → IsExplainable (prefix count t) → ⊥
none_from_dead t count log law are extent dead e =
    dead (subst (λ (x : Extent). Live (of x log.events) (start (of x log.events))) (sym extent) (law (prefix count t) log.events are e))

take_take : {X : Type 0} → (xs : List X) (n m : ℕ) → n ≤ m → take n (take m xs) ≡ take n xs
take_take [] zero zero l = refl
take_take [] zero (suc m) l = refl
take_take [] (suc n) zero l = refl
take_take [] (suc n) (suc m) l = refl
take_take (x ∷ xs) zero zero l = refl
take_take (x ∷ xs) zero (suc m) l = refl
take_take (x ∷ xs) (suc n) zero l = absurd (omega arith)
take_take (x ∷ xs) (suc n) (suc m) l = ap (λ ys. x ∷ ys) (take_take xs n m (omega arith))

at_take : {X : Type 0} → (xs : List X) (n p : ℕ) (x : X) → p < n → slice_get xs p ≡ Some x → slice_get (take n xs) p ≡ Some x
at_take [] n p x l e = cc
at_take (y ∷ ys) zero p x l e = absurd (omega arith)
at_take (y ∷ ys) (suc n) zero x l e = e
at_take (y ∷ ys) (suc n) (suc p) x l e = at_take ys n p x (omega arith) e

pub misformed_inside : (t : TraceView) (a : ℕ) → MisformedAt t.records a → a < length t.records
misformed_inside t a h = slice_get_within t.records a h.0 h.1

-- the records up to a misformed one have no history
pub misformed_unexplained : (t : TraceView) (a : ℕ)
    → ((u : TraceView) (b : ℕ) (r : Record) → IsExplainable u → slice_get u.records b ≡ Some r → IsMisformed (take b u.records) r → ⊥)
    → MisformedAt t.records a → IsUnexplained t (a + 1)
misformed_unexplained t a law h =
    let (r, at, wrong) = h in
    let inside : a < length t.records = slice_get_within t.records a r at in
    let same : take a (take (a + 1) t.records) ≡ take a t.records = take_take t.records a (a + 1) (omega arith) in
    record {
      within = omega (arith, inside);
      unexplained = λ e. law (prefix (a + 1) t) a r e (at_take t.records (a + 1) a r (omega arith) at) (subst (λ rs. IsMisformed rs r) (sym same) wrong);
    }
