use Rattle.std.proofs.Common.{◌≡◌, true, refl, Err}
use Rattle.fabric_steps.specs.declared.fault.Refusal.{Refusal}
use Rattle.fabric_core.specs.Answers.{answer}
use Rattle.fabric_steps.specs.Faults.{IsTold}
use Rattle.fabric_settle.specs.Keeping.{IsRecorded}
use Rattle.c_fabric.specs.SessionView.{KeptView}
use Rattle.c_fabric.proofs.EventLemmas.{is_step, stays_session, unchanged, fabric_stays, wanted, first_of}
use Rattle.c_fabric.proofs.happening.step_traced.Goals as goal

pub returns-clause-ok : goal.returns-clause-ok
returns-clause-ok c =
    let w = c.args.witness.now in
    let v = c.happen.new.witness in
    let k : KeptView = record { records = w.records.items; text = w.last.text.bytes } in
    let k' : KeptView = record { records = v.records.items; text = v.last.text.bytes } in
    is_step c.happen.result c.args.fabric.now c.happen.new.fabric k k' c.args.event.now c.happen.ensures.ok

pub returns-clause-session : goal.returns-clause-session
returns-clause-session c =
    let w = c.args.witness.now in
    let v = c.happen.new.witness in
    let k : KeptView = record { records = w.records.items; text = w.last.text.bytes } in
    let k' : KeptView = record { records = v.records.items; text = v.last.text.bytes } in
    stays_session (record { run = c.the_trace_belongs.ensures.run; step = c.each_event_keeps_it_sound.ensures.step }) c.happen.result c.args.fabric.now c.happen.new.fabric k k' c.args.event.now
    c.sound.ensures c.happen.ensures.ok c.happen.ensures.lossless

pub returns-clause-refused : goal.returns-clause-refused
returns-clause-refused c =
    first_of c.happen.result IsTold (λ (r : Refusal). answer c.args.fabric.now c.args.event.now ≡ Err r) _ _ c.happen.ensures.told

pub returns-clause-no_memory : goal.returns-clause-no_memory
returns-clause-no_memory c =
    let w = c.args.witness.now in
    let v = c.happen.new.witness in
    let k : KeptView = record { records = w.records.items; text = w.last.text.bytes } in
    let k' : KeptView = record { records = v.records.items; text = v.last.text.bytes } in
    wanted c.each_event_has_one_answer.ensures.memory c.happen.result c.args.fabric.now c.happen.new.fabric true c.args.event.now IsRecorded (λ recorded. (refl, recorded))
    (fabric_stays c.happen.result c.args.fabric.now c.happen.new.fabric k k' c.happen.ensures.lossless) c.happen.ensures.memory

pub returns-clause-err : goal.returns-clause-err
returns-clause-err c =
    let w = c.args.witness.now in
    let v = c.happen.new.witness in
    let k : KeptView = record { records = w.records.items; text = w.last.text.bytes } in
    let k' : KeptView = record { records = v.records.items; text = v.last.text.bytes } in
    unchanged c.happen.result c.args.fabric.now c.happen.new.fabric k k' c.happen.ensures.lossless
