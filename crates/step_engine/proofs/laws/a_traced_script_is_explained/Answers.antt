use Rattle.std.proofs.Common.{false}
use Rattle.step_engine.specs.Options.{plain}
use Rattle.step_engine.specs.Script.{progress}
use Rattle.step_engine.proofs.Traced.{runs_through, runs_explained}
use Rattle.step_engine.proofs.laws.a_traced_script_is_explained.Goals as goal

pub returns : goal.returns
returns c =
    let run = c.what_a_script_does_is_explained.ensures in
    record {
      text = λ input config f f' events rs s n r. run.text false false input (progress f' rs 0) (runs_through input config f f' events rs s n r);
      status = λ traced input config f f' events rs s n r. run.status (plain traced) input (progress f' rs 0) (runs_through input config f f' events rs s n r);
      explained = runs_explained (record {
        sound = c.a_new_fabric_is_sound.ensures.sound;
        empty = c.a_new_fabric_is_sound.ensures.belongs;
        step = c.each_event_keeps_it_sound.ensures.step;
        keeps = c.each_event_keeps_it_sound.ensures.sound;
        run = c.the_trace_belongs.ensures.run;
        explained = c.the_trace_belongs.ensures.explained;
        clocked = c.the_trace_belongs.ensures.clocked;
      });
    }
