use Rattle.std.proofs.Common.{◌∙◌, ◌+◌, ap, sym, cond}
use Rattle.std.specs.Prelude.{ℕ, Option, Some, None}
use Rattle.std.specs.Option.{option_or}
use Rattle.history_words.specs.Trace.{is_request}
use Rattle.history_bars.proofs.Lookups.{acted_next}
use Rattle.history_bars.proofs.lookup.acted_by.Goals as goal

pub loop-place-preserved : goal.loop-place-preserved
loop-place-preserved c = λ k.
    let e = c.index-history-place.result in
    c.in_ok-note_entry.ensures k
    ∙ ap (λ (o : Option ℕ). option_or o (cond (is_request c.args.requester k e) (Some (c.loop-place.place + 1)) None)) (c.loop-place.invariant k)
    ∙ sym (acted_next c.args.history.now c.args.requester k c.loop-place.place e c.loop-place-test.true c.index-history-place.is)
