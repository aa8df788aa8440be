use Rattle.std.proofs.Common.{◌≡◌, false, Err}
use Rattle.fabric_steps.specs.declared.fault.Refusal.{Refusal}
use Rattle.fabric_core.specs.Answers.{answer}
use Rattle.fabric_steps.specs.Faults.{IsTold}
use Rattle.fabric_settle.specs.Keeping.{Never}
use Rattle.c_fabric.proofs.EventLemmas.{is_untraced, fabric_stays, wanted, first_of}
use Rattle.c_fabric.proofs.happening.step_untraced.Goals as goal

pub returns-clause-ok : goal.returns-clause-ok
returns-clause-ok c =
    is_untraced c.happen.result c.args.fabric.now c.happen.new.fabric c.args.last.now.text.bytes c.happen.new.witness.text.bytes c.args.event.now c.happen.ensures.ok

pub returns-clause-refused : goal.returns-clause-refused
returns-clause-refused c =
    first_of c.happen.result IsTold (λ (r : Refusal). answer c.args.fabric.now c.args.event.now ≡ Err r) _ _ c.happen.ensures.told

pub returns-clause-no_memory : goal.returns-clause-no_memory
returns-clause-no_memory c =
    wanted c.each_event_has_one_answer.ensures.memory c.happen.result c.args.fabric.now c.happen.new.fabric false c.args.event.now Never (λ lost. absurd lost)
    (fabric_stays c.happen.result c.args.fabric.now c.happen.new.fabric c.args.last.now.text.bytes c.happen.new.witness.text.bytes c.happen.ensures.lossless) c.happen.ensures.memory

pub returns-clause-err : goal.returns-clause-err
returns-clause-err c =
    fabric_stays c.happen.result c.args.fabric.now c.happen.new.fabric c.args.last.now.text.bytes c.happen.new.witness.text.bytes c.happen.ensures.lossless
