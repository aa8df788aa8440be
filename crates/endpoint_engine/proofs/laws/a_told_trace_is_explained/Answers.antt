use Rattle.endpoint_engine.specs.Traces.{asked}
use Rattle.endpoint_engine.proofs.Traced.{is_traced, told_after, recorded_as}
use Rattle.endpoint_engine.proofs.laws.a_told_trace_is_explained.Goals as goal

pub returns : goal.returns
returns c =
    let law = c.a_recorded_trace_is_ok.ensures in
    record {
      traced = is_traced;
      told = told_after;
      explained = λ s input l h e. law.explained s (asked s input).endpoint l h (recorded_as s input l e);
      clocked = λ s input l h e. law.clocked s (asked s input).endpoint l h (recorded_as s input l e);
    }
