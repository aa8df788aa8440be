use Rattle.std.proofs.Common.{◌∷◌, ◌++◌, length, refl}
use Rattle.fabric_steps.specs.declared.event.EventOf.TheVariants.{Submit}
use Rattle.fabric_core.specs.Kept.{records_of}
use Rattle.tlp_laws.proofs.Settling.{settlement_runs}
use Rattle.tlp_laws.proofs.a_settlement_leaves_a_request_alone.Goals as goal

pub returns : goal.returns
returns c = λ f f' records port op what s b q happens short tags.
    let sound = c.each_event_keeps_it_sound.ensures.sound f f' (Submit port op) what s happens in
    let run = settlement_runs (record { happens = c.what_settles_happens.ensures.happens; nothing = c.what_settles_happens.ensures.nothing }) f' sound in (
      records_of (Submit port op) what (length f.memory.entries) ++ run.told,
      record {
        sound = s;
        belongs = b;
        quiet = q;
        events = run.events;
        nothing = run.nothing;
        runs = (what, f', run.told, happens, run.runs, refl);
        rests = c.every_fabric_comes_to_rest.ensures.quiet f' sound short tags;
      },
    )
