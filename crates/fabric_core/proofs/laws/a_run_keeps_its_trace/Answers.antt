use Rattle.std.proofs.Common.{◌++◌}
use Rattle.history_words.specs.Records.{Record}
use Rattle.std.proofs.Common.{List}
use Rattle.fabric_steps.specs.Fabric.{Fabric, whole_of}
use Rattle.fabric_steps.specs.Trace.{Belongs}
use Rattle.fabric_steps.specs.Event.{Event}
use Rattle.fabric_core.specs.Kept.{IsSoundFabric}
use Rattle.fabric_core.specs.Runs.{Runs}
use Rattle.fabric_core.proofs.Counted.{runs_sound}
use Rattle.fabric_core.proofs.Runs.{Each as EachEvent, run_of}
use Rattle.fabric_core.proofs.laws.a_run_keeps_its_trace.Goals as goal

pub returns : goal.returns
returns c =
    let each : EachEvent = record { step = c.each_event_keeps_it_sound.ensures.step; sound = c.each_event_keeps_it_sound.ensures.sound } in
    let keeps : (f f' : Fabric) (events : List Event) (rs ss : List Record) → IsSoundFabric f → Runs f events rs f' → Belongs (whole_of f) ss → Belongs (whole_of f') (ss ++ rs) =
    λ f f' events rs ss s ran b. c.the_trace_belongs.ensures.run (whole_of f) (whole_of f') ss rs s.sound b (run_of each f f' events rs s ran) in
    record {
      sound = λ f f' events rs s ran. runs_sound each f f' events rs s ran;
      belongs = keeps;
      explained = λ f f' events rs ss s ran b. c.the_trace_belongs.ensures.explained (whole_of f') (ss ++ rs) (runs_sound each f f' events rs s ran).sound (keeps f f' events rs ss s ran b);
      ordered = λ f f' events rs ss s ran b.
          let now = keeps f f' events rs ss s ran b in
          c.answered_first_acts_first.ensures (record { memory = f'.memory; records = ss ++ rs }) (c.the_trace_belongs.ensures.explained (whole_of f') (ss ++ rs) (runs_sound each f f' events rs s ran).sound now) (c.the_trace_belongs.ensures.clocked (whole_of f') (ss ++ rs) now);
    }
