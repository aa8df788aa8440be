use Rattle.std.proofs.Common.{◌∙◌, ap, ℕ, List}
use Rattle.trace_engine.specs.Check.{out_check_clocked}
use Rattle.endpoint_engine.specs.Traces.{asked}
use Rattle.endpoint_engine.proofs.Traced.{told_after, recorded_as}
use Rattle.endpoint_engine.proofs.laws.a_told_trace_is_ok.Goals as goal

pub returns : goal.returns
returns c =
    let law = c.a_recorded_trace_is_ok.ensures in
    record {
      tellable = λ s input l h e n. law.tellable s (asked s input).endpoint l h (recorded_as s input l e) n;
      ok = λ s input l h e n. ap (λ (t : List ℕ). (out_check_clocked t).text) (told_after s input l e) ∙ law.ok s (asked s input).endpoint l h (recorded_as s input l e) n;
      status = λ s input l h e n. ap (λ (t : List ℕ). (out_check_clocked t).status) (told_after s input l e) ∙ law.status s (asked s input).endpoint l h (recorded_as s input l e) n;
    }
