use Rattle.std.proofs.Common.{◌≡◌, ◌⊎◌, ℕ, ◌+◌, ◌<◌, ◌≤◌, true}
use Rattle.tlp_core.specs.Operation.{address_of, count_of}
use Rattle.search_effects.specs.Effects.{is_needed}
use Rattle.search_effects.proofs.seeing.needs_none.Given as goal

abbrev pub invariant-loop-at : goal.invariant-loop-at
invariant-loop-at l = (k : ℕ) → k < l.at → is_needed l.one k ≡ true → (address_of l.one + k < address_of l.other) ⊎ (address_of l.other + count_of l.other ≤ address_of l.one + k)
