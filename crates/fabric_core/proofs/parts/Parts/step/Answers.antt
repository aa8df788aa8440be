use Rattle.fabric_core.proofs.parts.Parts.step.Goals as goal

pub returns-in_ok-submit-in-Submit-clause-ok : goal.returns-in_ok-submit-in-Submit-clause-ok
returns-in_ok-submit-in-Submit-clause-ok g c = rw c.in-Submit.is (c.in_ok-submit-in-Submit.ensures.answers, c.in_ok-submit-in-Submit.ensures.fits)
