-- Answers that contradict each other.
use Rattle.std.specs.Prelude.{ℕ, suc, ◌≡◌, ◌⊎◌, ◌==◌, if◌then◌else◌, List, [], ◌∷◌, take}
use Rattle.std.specs.List.{list_any}
use Rattle.history_words.specs.Records.{Record}
use Rattle.history_words.specs.declared.record.RecordOf.TheVariants as records
use Rattle.history_words.specs.TraceView.{TraceView}
use Rattle.log_runs.specs.Explainable.{IsExplainable}

-- of records, the first of which has place a, all submissions and the answers at these places
abbrev pub keeping_from : ℕ → List ℕ → List Record → List Record
keeping_from a kept [] = []
keeping_from a kept (records.Sub i k op n ∷ rs) = records.Sub i k op n ∷ keeping_from (suc a) kept rs
keeping_from a kept (records.Ans i k reply n ∷ rs) =
    if list_any (λ b. b == a) kept then records.Ans i k reply n ∷ keeping_from (suc a) kept rs else keeping_from (suc a) kept rs

-- the first n records, but of the answers those at these places alone
abbrev pub keeping : ℕ → List ℕ → TraceView → TraceView
keeping n kept t = record { base = t.base; size = t.size; block = t.block; records = keeping_from 0 kept (take n t.records) }

-- no history explains the answers at these places together, if there are any
abbrev pub Contradict : TraceView → ℕ → List ℕ → Type 0
Contradict t n kept = (kept ≡ []) ⊎ (IsExplainable (keeping n kept t) → ⊥)
