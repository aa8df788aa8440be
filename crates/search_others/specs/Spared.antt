-- What another request does to a request.
use Rattle.std.specs.Prelude.{ℕ, List, ◌≡◌, slice_get, Some, false}
use Rattle.log_runs.specs.LogView.{LogView}
use Rattle.log_runs.specs.Runs.{State}
use Rattle.search_rules.specs.Rules.{NeverBrings, NeverPuts, Yields, LetsFirst}
use Rattle.search_others.specs.declared.others.Asked.{Asked}
use Rattle.search_others.specs.declared.others.Asked.TheVariants as asked
use Rattle.search_others.specs.declared.others.Question.{Question}

-- what is asked of request b, for the sake of q, where the bytes are as in m
abbrev pub Spares : LogView → List ℕ → ℕ → Asked → ℕ → Type 0
Spares log m q asked.Lost b = NeverBrings log b q
Spares log m q asked.Last b = NeverBrings log b q × Yields log b q
Spares log m q asked.First b = LetsFirst log m b q
Spares log m q (asked.Byte need) b = NeverPuts log b need.place need.value

-- if it is asked of request b, which hasn't acted in s, it does so
abbrev pub Holds : LogView → State → Question → ℕ → Type 0
Holds log s k b = (k.of ≡ b → ⊥) → slice_get s.acted b ≡ Some false → Spares log s.bytes k.of k.asked b
