use Rattle.std.proofs.Common.{◌∙◌, ap, sym, cond}
use Rattle.std.specs.Prelude.{ℕ, Option, Some, None}
use Rattle.std.specs.Option.{option_or}
use Rattle.history_words.specs.Trace.{answers_to}
use Rattle.history_bars.proofs.Lookups.{answer_next}
use Rattle.history_bars.proofs.lookup.answers_by.Goals as goal

pub loop-place-preserved : goal.loop-place-preserved
loop-place-preserved c = λ k.
    let r = c.index-records-place.result in
    c.in_ok-note_answer.ensures k
    ∙ ap (λ (o : Option ℕ). option_or o (cond (answers_to c.args.requester k r) (Some c.loop-place.place) None)) (c.loop-place.invariant k)
    ∙ sym (answer_next c.args.records.now c.args.requester k c.loop-place.place r c.loop-place-test.true c.index-records-place.is)
