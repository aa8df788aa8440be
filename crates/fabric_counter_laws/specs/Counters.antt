-- A counter among the requests of a fabric.
use Rattle.std.specs.Prelude.{ℕ, ◌+◌, Bool, true, false, List, [], ◌∷◌}
use Rattle.tlp_core.specs.declared.operation.Width.{Width}
use Rattle.seq_memory.specs.Limits.{Extent}
use Rattle.seq_memory.specs.History.{is_addition, AddsOrLeaves}
use Rattle.history_words.specs.Records.{Record}
use Rattle.history_words.specs.declared.record.RecordOf.TheVariants.{Sub, Ans}
use Rattle.fabric_steps.specs.Lists.{Each, one_if}

-- how many of the records submit a FetchAdd of 1, of that width and at that address
abbrev pub submitted_additions : ℕ → Width → List Record → ℕ
submitted_additions a w [] = 0
submitted_additions a w (Sub i k op n ∷ rs) = one_if (is_addition a w op) + submitted_additions a w rs
submitted_additions a w (Ans i k reply n ∷ rs) = submitted_additions a w rs

-- each request that is submitted is one, or leaves the bytes at its place as they are
abbrev pub SubmitsFitting : Extent → ℕ → Width → Record → Type 0
SubmitsFitting x a w (Sub i k op n) = AddsOrLeaves x a w op
SubmitsFitting x a w (Ans i k reply n) = Unit {0}

abbrev pub AllFit : Extent → ℕ → Width → List Record → Type 0
AllFit x a w rs = Each (SubmitsFitting x a w) rs
