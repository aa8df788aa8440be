use Rattle.std.proofs.Common.{◌≡◌, ◌∙◌, ap, Bool, ℕ, List, Ok}
use Rattle.trace_text.specs.TraceReaderView.{read_of}
use Rattle.trace_text.specs.Tellable.{IsTellable}
use Rattle.step_engine.specs.Options.{traced}
use Rattle.step_engine.specs.Script.{Progress, RunsThrough}
use Rattle.step_engine.specs.Step.{claim_with, out_step_with}
use Rattle.step_engine.proofs.laws.what_a_script_does_is_ok.Goals as goal

is_read : (c : goal.After-an_explained_trace_is_ok) → (keeps echoes : Bool) (input : List ℕ) (p : Progress) → RunsThrough keeps input p → IsTellable (claim_with p.fabric p.records)
    → read_of (out_step_with (traced keeps echoes) input).text ≡ Ok (claim_with p.fabric p.records)
is_read c keeps echoes input p h t =
    ap read_of (c.what_a_script_does_is_explained.ensures.text keeps echoes input p h) ∙ c.told_trace_is_read_back.ensures (claim_with p.fabric p.records) t

pub returns : goal.returns
returns c =
    let run = c.what_a_script_does_is_explained.ensures in
    let check = c.an_explained_trace_is_ok.ensures in
    record {
      ok = λ keeps echoes input p h t. check.ok (out_step_with (traced keeps echoes) input).text (claim_with p.fabric p.records) (is_read c keeps echoes input p h t) (run.explained keeps input p h);
      status = λ keeps echoes input p h t. check.status (out_step_with (traced keeps echoes) input).text (claim_with p.fabric p.records) (is_read c keeps echoes input p h t) (run.explained keeps input p h);
      clocked = λ keeps echoes input p h t. c.a_clocked_trace_is_ok.ensures.ok (out_step_with (traced keeps echoes) input).text (claim_with p.fabric p.records) (is_read c keeps echoes input p h t) (run.explained keeps input p h) (run.clocked keeps input p h);
    }
