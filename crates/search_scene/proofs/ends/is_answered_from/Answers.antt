use Rattle.std.proofs.Common.{◌∙◌, sym, arith}
use Rattle.history_words.specs.Trace.{answers_to}
use Rattle.search_scene.proofs.AnswerLemmas.{any-here, any-next}
use Rattle.search_scene.proofs.ends.is_answered_from.Goals as goal

pub loop-place-preserved : goal.loop-place-preserved
loop-place-preserved c =
    c.loop-place.invariant
    ∙ any-next (answers_to c.args.name.requester c.args.name.number) c.args.records.now c.loop-place.place
    (omega (arith, c.len-place-end.ensures, c.loop-place-test.true)) (sym c.is_answer.ensures ∙ c.if-is_answer.false)

pub returns-then-is_answer : goal.returns-then-is_answer
returns-then-is_answer c =
    sym (c.loop-place.invariant
    ∙ any-here (answers_to c.args.name.requester c.args.name.number) c.args.records.now c.loop-place.place
    (omega (arith, c.len-place-end.ensures, c.loop-place-test.true)) (sym c.is_answer.ensures ∙ c.if-is_answer.true))
