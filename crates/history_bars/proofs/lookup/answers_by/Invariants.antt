use Rattle.std.proofs.Common.{◌≡◌, ℕ, take}
use Rattle.std.specs.Ordering.{nat_cmp}
use Rattle.std.specs.BTreeMap.{get}
use Rattle.history_bars.specs.Layout.{answer_in}
use Rattle.history_bars.proofs.lookup.answers_by.Given as goal

abbrev pub invariant-loop-place : goal.invariant-loop-place
invariant-loop-place l = (k : ℕ) → get nat_cmp l.answers k ≡ answer_in (take l.place l.records) l.requester k
