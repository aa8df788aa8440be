use Rattle.std.proofs.Common.{◌≡◌, ◌++◌, drop}
use Rattle.step_engine.specs.Step.{told_lines}
use Rattle.step_engine.proofs.answering.put_answers.Given as goal

abbrev pub invariant-loop-answer : goal.invariant-loop-answer
invariant-loop-answer l = l.out.items ++ told_lines l.echoes l.line (drop l.answer-index l.answers) ≡ l.fn.out.items ++ told_lines l.echoes l.line l.answers
