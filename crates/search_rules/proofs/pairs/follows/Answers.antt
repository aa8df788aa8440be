use Rattle.std.proofs.Common.{inl, inr, arith}
use Rattle.search_rules.proofs.pairs.follows.Goals as goal

pub returns-then-q-r : goal.returns-then-q-r
returns-then-q-r c = λ so. inl c.if-q-r.true

pub returns : goal.returns
returns c = λ so.
    let (w, asked, posted, at) = c.in-Some.ensures in
    let (op, told, there) = c.is_of.ensures so in
    inr (c.in-Some.requester, w, op, asked, told, omega (arith, c.if-q-r.false, c.if-r-q.false), posted, at, there)
