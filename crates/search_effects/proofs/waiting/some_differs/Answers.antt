use Rattle.search_effects.proofs.waiting.some_differs.Goals as goal

pub returns-then-differs : goal.returns-then-differs
returns-then-differs c = λ yes.
    let h = c.differs.ensures c.if-differs.true in
    (c.loop-at.at, h.0, h.1, h.2, h.3, h.4, h.5)
