use Rattle.trace_engine.proofs.Judging.{says_ok, has_status_0, only_explained}
use Rattle.trace_engine.proofs.laws.an_explained_trace_is_ok.Goals as goal

pub returns : goal.returns
returns c =
    let law = c.explained_is_without_flaw.ensures in
    record {
      ok = says_ok law.no_flaw;
      status = has_status_0 law.no_flaw;
      only = only_explained law.explained;
    }
