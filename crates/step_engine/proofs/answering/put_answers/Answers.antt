use Rattle.std.proofs.Common.{rules, ◌≡◌, ◌∙◌, ◌++◌, List, ℕ, ap}
use Rattle.script_text.specs.Texts.{told_text}
use Rattle.step_engine.specs.Step.{shown}
use Rattle.step_engine.proofs.ToldLines.{told-next, told-past}
use Rattle.step_engine.proofs.answering.put_answers.Goals as goal

pub loop-answer-preserved : goal.loop-answer-preserved
loop-answer-preserved c =
    let echoes = c.args.echoes in
    let line = c.args.line.now in
    let before = c.loop-answer.out.items in
    let told : c.write_told.new.out.bytes ≡ told_text c.answer-item.result = search rules in
    told-next echoes line c.args.answers.now c.loop-answer.answer-index c.answer-item.result before c.put_shown.new.out.items c.loop-answer-test.true c.answer-item.is
    (c.in_ok-put_shown.ensures.ok ∙ ap (λ (t : List ℕ). before ++ shown echoes line t) told)
    ∙ c.loop-answer.invariant

pub returns : goal.returns
returns c =
    told-past c.args.echoes c.args.line.now c.args.answers.now c.loop-answer.answer-index c.loop-answer.out.items c.loop-answer-test.false ∙ c.loop-answer.invariant
