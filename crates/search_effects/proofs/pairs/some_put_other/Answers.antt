use Rattle.search_effects.proofs.pairs.some_put_other.Goals as goal

pub returns-then-puts_other : goal.returns-then-puts_other
returns-then-puts_other c = λ yes.
    let h = c.puts_other.ensures c.if-puts_other.true in
    (c.loop-at.at, h.0, h.1, h.2, h.3, h.4, h.5, h.6, h.7)
