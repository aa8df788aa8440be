use Rattle.std.proofs.Common.{◌≡◌, ℕ, take}
use Rattle.std.specs.Ordering.{nat_cmp}
use Rattle.std.specs.BTreeMap.{get}
use Rattle.history_bars.specs.Layout.{acted_in}
use Rattle.history_bars.proofs.lookup.acted_by.Given as goal

abbrev pub invariant-loop-place : goal.invariant-loop-place
invariant-loop-place l = (k : ℕ) → get nat_cmp l.acted k ≡ acted_in (take l.place l.history) l.requester k
