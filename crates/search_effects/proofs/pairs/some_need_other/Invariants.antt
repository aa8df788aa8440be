use Rattle.search_effects.proofs.pairs.some_need_other.Given as goal

abbrev pub invariant-loop-at : goal.invariant-loop-at
invariant-loop-at l = Unit {0}
