use Rattle.history_words.specs.Claim.{claim_of}
use Rattle.worker_report.proofs.Explained.{explained, explained_claim, stands}
use Rattle.worker_report.proofs.laws.the_records_of_one_run_are_explained.Goals as goal

pub returns-clause-explained : goal.returns-clause-explained
returns-clause-explained c = explained c.the_trace_belongs.ensures.explained

pub returns-clause-flawless : goal.returns-clause-flawless
returns-clause-flawless c = λ config opened f trace run has of.
    c.explained_is_without_flaw.ensures.no_flaw (claim_of trace f.memory.entries) (explained_claim c.the_trace_belongs.ensures.explained config opened f trace run has of)

pub returns-clause-stands : goal.returns-clause-stands
returns-clause-stands c = stands
