use Rattle.std.proofs.Common.{◌∙◌, sym}
use Rattle.history_words.specs.Trace.{answers_to}
use Rattle.search_engine.proofs.FlawLemmas.{some_there, none_more}
use Rattle.search_engine.proofs.flaws.is_answered.Goals as goal

pub returns-then-answers_at : goal.returns-then-answers_at
returns-then-answers_at c =
    sym (some_there (answers_to c.args.requester c.args.number) c.args.records.now c.loop-place.place (sym c.answers_at.ensures ∙ c.if-answers_at.true))

pub loop-place-preserved : goal.loop-place-preserved
loop-place-preserved c =
    none_more (answers_to c.args.requester c.args.number) c.args.records.now c.loop-place.place c.loop-place.invariant (sym c.answers_at.ensures ∙ c.if-answers_at.false)
