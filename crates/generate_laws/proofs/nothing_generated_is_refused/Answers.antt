use Rattle.std.proofs.Common.{◌≢◌, ℕ, Bool, true, false, List, []}
use Rattle.fabric_steps.specs.Fabric.{Fabric}
use Rattle.fabric_core.specs.declared.config.Config.{Config}
use Rattle.fabric_steps.specs.Event.{Event}
use Rattle.hex_text.specs.Lines.{lines_of}
use Rattle.step_engine.specs.Script.{IsScript, script_of}
use Rattle.generate_engine.specs.Script.{IsScriptOf}
use Rattle.generate_laws.proofs.nothing_generated_is_refused.Goals as goal

has_a_line : (text : List ℕ) (c : Config) (events : List Event) → IsScript text c events → script_of (lines_of text) ≢ []
has_a_line text c events s none = cc

pub returns : goal.returns
returns c =
    let read = c.a_generated_script_is_read.ensures in
    let traced = c.a_traced_script_is_explained.ensures in
    let check = c.what_is_traced_is_ok.ensures in
    let status = λ (traces : Bool) (config : Config) (count : ℕ) (text : List ℕ) (f : Fabric) (s : IsScriptOf config count text f).
    traced.status traces text config s.happened.new f s.events s.happened.records (read config count text f s) s.happened.is_new s.happened.run in
    record {
      plain = status false;
      text = λ config count text f s. traced.text text config s.happened.new f s.events s.happened.records (read config count text f s) s.happened.is_new s.happened.run;
      status = status true;
      ok = λ config count text f s. check.ok false false text (has_a_line text config s.events (read config count text f s))
          (status true config count text f s);
      clocked = λ config count text f s. check.clocked false false text (has_a_line text config s.events (read config count text f s))
          (status true config count text f s);
      ok_status = λ config count text f s. check.status false false text (has_a_line text config s.events (read config count text f s))
          (status true config count text f s);
      clocked_status = λ config count text f s. check.clocked_status false false text (has_a_line text config s.events (read config count text f s))
          (status true config count text f s);
    }
