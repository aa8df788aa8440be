use Rattle.std.proofs.lemmas.Result.{err_from_is_err_and}
use Rattle.history_check.proofs.LinearLaw.{explains_from, refutes}
use Rattle.history_check.proofs.checking.check_claim.Goals as goal

pub returns-clause-explained : goal.returns-clause-explained
returns-clause-explained g c = explains_from (g.C.AsClaim.claim c.args.claim.now) c.in_ok-first_flaw_of.ensures.ok

pub returns-in_err-first_flaw_of-clause-unexplained : goal.returns-in_err-first_flaw_of-clause-unexplained
returns-in_err-first_flaw_of-clause-unexplained g c =
    let p = err_from_is_err_and c.from_residual.result c.from_residual.ensures.1 in
    rw (p.1, p.2) (refutes (g.C.AsClaim.claim c.args.claim.now) c.in_err-first_flaw_of.field-0.0 c.in_err-first_flaw_of.ensures.err)
