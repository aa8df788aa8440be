use Rattle.std.proofs.Common.{arith}
use Rattle.log_cells.proofs.cells.mark.Goals as goal

pub returns-in-Some-clause-joined : goal.returns-in-Some-clause-joined
returns-in-Some-clause-joined c = λ k cut.
    let (low, high) = c.in-Some.ensures.some k cut in
    let base = cut.1 in
    let inner = cut.3 in
    c.join.ensures.joined k low high (omega (arith, base, inner, c.requires))

pub returns-in_default-clause-joined : goal.returns-in_default-clause-joined
returns-in_default-clause-joined c = λ k cut. absurd (c.in_default.ensures.none k cut)
