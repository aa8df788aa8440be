use Rattle.std.proofs.Common.{◌≡◌, ◌∙◌, ap, ℕ, List, true, Ok}
use Rattle.history_words.specs.Records.{Record}
use Rattle.fabric_steps.specs.Fabric.{Fabric}
use Rattle.fabric_core.specs.declared.config.Config.{Config}
use Rattle.fabric_steps.specs.Event.{Event}
use Rattle.fabric_core.specs.Config.{IsNewWith}
use Rattle.fabric_core.specs.Runs.{Runs}
use Rattle.trace_text.specs.TraceReaderView.{read_of}
use Rattle.trace_text.specs.Tellable.{IsTellable}
use Rattle.step_engine.specs.Script.{IsScript}
use Rattle.step_engine.specs.Step.{claim_with, out_step}
use Rattle.step_engine.proofs.laws.a_traced_script_is_ok.Goals as goal

is_read : (c : goal.After-an_explained_trace_is_ok) → (input : List ℕ) (config : Config) (f f' : Fabric) (events : List Event) (rs : List Record)
    → IsScript input config events → IsNewWith config f → Runs f events rs f' → IsTellable (claim_with f' rs)
    → read_of (out_step true input).text ≡ Ok (claim_with f' rs)
is_read c input config f f' events rs s n r t =
    ap read_of (c.a_traced_script_is_explained.ensures.text input config f f' events rs s n r)
    ∙ c.told_trace_is_read_back.ensures (claim_with f' rs) t

pub returns : goal.returns
returns c =
    let traced = c.a_traced_script_is_explained.ensures in
    let check = c.an_explained_trace_is_ok.ensures in
    record {
      ok = λ input config f f' events rs s n r t. check.ok (out_step true input).text (claim_with f' rs) (is_read c input config f f' events rs s n r t) (traced.explained config f f' events rs n r);
      status = λ input config f f' events rs s n r t. check.status (out_step true input).text (claim_with f' rs) (is_read c input config f f' events rs s n r t) (traced.explained config f f' events rs n r);
    }
