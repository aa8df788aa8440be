use Rattle.history_check.proofs.checking.check_claim_clocked.Goals as goal

pub returns-in-None-clause-ordered : goal.returns-in-None-clause-ordered
returns-in-None-clause-ordered g c =
    c.answered_first_acts_first.ensures (g.C.AsClaim.claim c.args.claim.now) c.in_ok-check_claim_with_clock.ensures.explained (c.in_ok-check_claim_with_clock.ensures.clocked c.in-None.is)
