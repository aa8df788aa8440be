use Rattle.search_others.proofs.junk.overlooks.Goals as goal

pub returns-then-is_in : goal.returns-then-is_in
returns-then-is_in c = λ so distinct out. let found = c.is_in.ensures c.if-is_in.true in absurd (out found.0 found.1)

pub returns : goal.returns
returns c = λ so distinct out. c.is_junk_at.ensures so
