use Rattle.std.proofs.Common.{◌≡◌, ◌∙◌, List, ℕ, Option, Result, Ok, Err, IfOk, OnOk, OnErr, sym, subst, inl, inr, refl}
use Rattle.line_loop.specs.declared.fault.EngineFault.{EngineFault}
use Rattle.parameters.specs.declared.storm.Storm.{Storm}
use Rattle.generate_engine.specs.Script.{IsWhole as IsWholeScript, IsPart as IsPartOfScript}
use Rattle.line_loop.specs.Run.{Run, IsRun, IsWhole, IsPart as IsPartOf}
use Rattle.log_pieces.specs.declared.Granularity.{Granularity}
use Rattle.cli_words.specs.declared.outputs.SearchOutput.{SearchOutput}
use Rattle.cli_commands.specs.Command.{IsGenerated, IsWholeAs, IsPartAs, IsSearchedAs}
use Rattle.cli_commands.proofs.one_thread.begin.Goals as goal

-- an engine's run, whole or stopped
run_done : {S : Type 0} (run : List ℕ → Run S) (r : Result ℕ EngineFault) (input rest out out' : Option (List ℕ)) (exit : ℕ)
    → IfOk r (λ status. exit ≡ status) → OnErr r (exit ≡ 1)
    → IfOk r (IsWhole run input rest out out') → OnErr r (IsPartOf run input rest out out') → IsRun run input rest out out' exit
run_done run (Ok status) input rest out out' exit ok err whole part = inl (subst (λ (n : ℕ). IsWhole run input rest out out' n) (sym ok) whole)
run_done run (Err fault) input rest out out' exit ok err whole part = inr (err, part)

-- a script, whole or stopped
generated : (s : Storm) (r : Result ℕ EngineFault) (out out' : Option (List ℕ)) (exit : ℕ) → IfOk r (λ status. exit ≡ status) → OnErr r (exit ≡ 1)
    → IfOk r (λ status. status ≡ 0) → OnOk r (IsWholeScript s out out') → OnErr r (IsPartOfScript s out out') → IsGenerated s out out' exit
generated s (Ok status) out out' exit ok err is whole part = inl (ok ∙ is, whole)
generated s (Err fault) out out' exit ok err is whole part = inr (err, part)

-- a search, whole or stopped
searched : (output : SearchOutput) (size : Granularity) (limit work : ℕ) (r : Result ℕ EngineFault) (input rest out out' : Option (List ℕ)) (exit : ℕ)
    → IfOk r (λ status. exit ≡ status) → OnErr r (exit ≡ 1)
    → IfOk r (IsWholeAs output size (record { choices = limit; work = work }) input rest out out') → OnErr r (IsPartAs output size (record { choices = limit; work = work }) input rest out out')
    → IsSearchedAs output size (record { choices = limit; work = work }) input rest out out' exit
searched output size limit work (Ok status) input rest out out' exit ok err whole part = inl (subst (λ (n : ℕ). IsWholeAs output size (record { choices = limit; work = work }) input rest out out' n) (sym ok) whole)
searched output size limit work (Err fault) input rest out out' exit ok err whole part = inr (err, part)

pub returns-in-Tlp : goal.returns-in-Tlp
returns-in-Tlp g c = record {
  begun = rw c.in-Tlp.is (run_done _ c.run_tlp-run.result _ _ _ _ _ c.ended.ensures.ok c.ended.ensures.err c.run_tlp-run.ensures.ok c.run_tlp-run.ensures.err);
  right = tt;
}

pub returns-in-Endpoint : goal.returns-in-Endpoint
returns-in-Endpoint g c = record {
  begun = rw c.in-Endpoint.is (run_done _ c.run_endpoint-run.result _ _ _ _ _ c.ended-in-Endpoint.ensures.ok c.ended-in-Endpoint.ensures.err c.run_endpoint-run.ensures.ok c.run_endpoint-run.ensures.err);
  right = tt;
}

pub returns-in-Linked : goal.returns-in-Linked
returns-in-Linked g c = record {
  begun = rw c.in-Linked.is (run_done _ c.run_linked-run.result _ _ _ _ _ c.ended-in-Linked.ensures.ok c.ended-in-Linked.ensures.err c.run_linked-run.ensures.ok c.run_linked-run.ensures.err);
  right = tt;
}

pub returns-in-Check : goal.returns-in-Check
returns-in-Check g c = record {
  begun = rw c.in-Check.is (run_done _ c.run_check-run.result _ _ _ _ _ c.ended-in-Check.ensures.ok c.ended-in-Check.ensures.err c.run_check-run.ensures.ok c.run_check-run.ensures.err);
  right = tt;
}

pub returns-in-Search : goal.returns-in-Search
returns-in-Search g c = record {
  begun = rw c.in-Search.is (searched c.in-Search.output c.in-Search.granularity c.in-Search.limit c.in-Search.work c.run_search_as-run.result _ _ _ _ _ c.ended-in-Search.ensures.ok c.ended-in-Search.ensures.err c.run_search_as-run.ensures.ok c.run_search_as-run.ensures.err);
  right = tt;
}

pub returns-in-Draw : goal.returns-in-Draw
returns-in-Draw g c = record {
  begun = rw c.in-Draw.is (run_done _ c.run_draw-run.result _ _ _ _ _ c.ended-in-Draw.ensures.ok c.ended-in-Draw.ensures.err c.run_draw-run.ensures.ok c.run_draw-run.ensures.err);
  right = tt;
}

pub returns-in-Step : goal.returns-in-Step
returns-in-Step g c = record {
  begun = rw c.in-Step.is (run_done _ c.run_step-run.result _ _ _ _ _ c.ended-in-Step.ensures.ok c.ended-in-Step.ensures.err c.run_step-run.ensures.ok c.run_step-run.ensures.err);
  right = tt;
}

pub returns-in-Chart : goal.returns-in-Chart
returns-in-Chart g c = record {
  begun = rw c.in-Chart.is (run_done _ c.run_chart-run.result _ _ _ _ _ c.ended-in-Chart.ensures.ok c.ended-in-Chart.ensures.err c.run_chart-run.ensures.ok c.run_chart-run.ensures.err);
  right = tt;
}

pub returns-in-Generate : goal.returns-in-Generate
returns-in-Generate g c = record {
  begun = rw c.in-Generate.is ((refl, generated c.in-Generate.storm c.run_generate-run.result _ _ _ c.ended-in-Generate.ensures.ok c.ended-in-Generate.ensures.err c.run_generate-run.ensures.status c.run_generate-run.ensures.ok c.run_generate-run.ensures.part));
  right = tt;
}
