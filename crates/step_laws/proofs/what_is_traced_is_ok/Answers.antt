use Rattle.std.proofs.Common.{◌∙◌, ap}
use Rattle.trace_text.specs.TraceReaderView.{read_of}
use Rattle.step_engine.specs.Options.{traced}
use Rattle.step_engine.specs.Step.{claim_with, out_step_with}
use Rattle.step_laws.proofs.what_is_traced_is_ok.Goals as goal

pub returns : goal.returns
returns c =
    let runs = c.a_run_with_status_0_runs_through.ensures in
    let does = c.what_a_script_does_is_explained.ensures in
    let check = c.what_a_script_does_is_ok.ensures in
    record {
      ok = λ keeps echoes input some e. let (p, run, told) = runs keeps echoes input some e in check.ok keeps echoes input p run told;
      status = λ keeps echoes input some e. let (p, run, told) = runs keeps echoes input some e in check.status keeps echoes input p run told;
      clocked = λ keeps echoes input some e. let (p, run, told) = runs keeps echoes input some e in check.clocked keeps echoes input p run told;
      clocked_status = λ keeps echoes input some e.
          let (p, run, told) = runs keeps echoes input some e in
          c.a_clocked_trace_is_ok.ensures.status (out_step_with (traced keeps echoes) input).text (claim_with p.fabric p.records)
          (ap read_of (does.text keeps echoes input p run) ∙ c.told_trace_is_read_back.ensures (claim_with p.fabric p.records) told)
          (does.explained keeps input p run) (does.clocked keeps input p run);
    }
