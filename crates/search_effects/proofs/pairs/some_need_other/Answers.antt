use Rattle.search_effects.proofs.pairs.some_need_other.Goals as goal

pub returns-then-needs_other : goal.returns-then-needs_other
returns-then-needs_other c = λ yes.
    let h = c.needs_other.ensures c.if-needs_other.true in
    (c.loop-at.at, h.0, h.1, h.2, h.3, h.4, h.5, h.6)
