use Rattle.std.proofs.Common.{Bool, ℕ, List, [], arith}
use Rattle.seq_memory.specs.History.{extent_of}
use Rattle.seq_memory.specs.Limits.{IsWithinLimits}
use Rattle.history_words.specs.Records.{Record}
use Rattle.fabric_steps.specs.Fabric.{Fabric}
use Rattle.trace_text.specs.Tellable.{IsTellable}
use Rattle.step_engine.specs.Step.{claim_with}
use Rattle.step_laws.proofs.Kept.{Laws, IsGood, requester-sound}
use Rattle.step_laws.proofs.Load.{few-entries}
use Rattle.step_laws.proofs.Through.{RunsWell, through}
use Rattle.step_laws.proofs.a_run_with_status_0_runs_through.Goals as goal

laws_of : goal.After-what_settles_happens → Laws
laws_of c = record {
  range = c.own_digits_spell_number.ensures.range;
  spellable = c.canonical_bytes_spell_their_packet.ensures.spelled;
  are_sound = c.each_number_is_answered_once.ensures.sound;
  new_sound = c.a_new_fabric_is_sound.ensures.sound;
  new_quiet = c.a_new_fabric_is_sound.ensures.quiet;
  new_empty = c.a_new_fabric_is_sound.ensures.empty;
  new_counted = λ config f n. c.the_trace_belongs.ensures.counted _ [] (c.a_new_fabric_is_sound.ensures.belongs config f n);
  step = c.each_event_keeps_it_sound.ensures.step;
  keeps = c.each_event_keeps_it_sound.ensures.sound;
  parts = c.each_event_happens_by_its_parts.ensures;
  happens = c.what_is_answered_happens.ensures;
  settles = c.what_settles_happens.ensures.happens;
  submits_none = c.what_settles_happens.ensures.nothing;
}

limits : (f : Fabric) (rs : List Record) → IsGood f rs → IsWithinLimits (extent_of f.memory)
limits f rs g = record { in_size = g.sound.config.size; in_base = g.sound.config.base; in_block = g.sound.config.block }

told : (c : goal.After-what_settles_happens) → (keeps : Bool) (input : List ℕ) (w : RunsWell keeps input) → IsTellable (claim_with w.last.fabric w.last.records)
told c keeps input w =
    let f = w.last.fabric in
    let rs = w.last.records in
    let few = few-entries f w.good.balanced w.good.sound.lanes.few (λ i q at. (requester-sound (laws_of c) f rs w.good i q at).numbers) in
    let explained = c.what_a_script_does_is_explained.ensures in
    c.what_is_explained_can_be_told.ensures (claim_with f rs) (explained.explained keeps input w.last w.runs) (explained.clocked keeps input w.last w.runs) (omega (arith, few)) (limits f rs w.good) w.good.told

pub returns : goal.returns
returns c = λ keeps echoes input some e.
    let w = through (laws_of c) keeps echoes input some e in
    (w.last, w.runs, told c keeps input w)
