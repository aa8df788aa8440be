use Rattle.std.proofs.Common.{◌≡◌, ℕ, ◌<◌, true}
use Rattle.search_effects.specs.Effects.{is_put}
use Rattle.search_effects.proofs.covering.puts_all.Given as goal

abbrev pub invariant-loop-at : goal.invariant-loop-at
invariant-loop-at l = (k : ℕ) → k < l.at → is_put l.op k ≡ true
