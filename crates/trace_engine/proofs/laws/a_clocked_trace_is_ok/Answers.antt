use Rattle.trace_engine.proofs.Judging.{Laws, clocked_says_ok, clocked_has_status_0, only_ordered}
use Rattle.trace_engine.proofs.laws.a_clocked_trace_is_ok.Goals as goal

pub returns : goal.returns
returns c =
    let law = c.explained_is_without_flaw.ensures in
    let l : Laws = record { clean = law.no_flaw; explained = law.explained; no_clock_flaw = law.no_clock_flaw; clocked = law.clocked; ordered = c.answered_first_acts_first.ensures } in
    record { ok = clocked_says_ok l; status = clocked_has_status_0 l; only = only_ordered l }
