use Rattle.generate_engine.proofs.candidates.candidate.Goals as goal

pub returns-in_default-clause-fate : goal.returns-in_default-clause-fate
returns-in_default-clause-fate c = c.plain.ensures.fate c.args.arrivals.now
