use Rattle.std.proofs.Common.{◌∙◌, ◌++◌, ◌∷◌, [], sym, ap}
use Rattle.history_words.specs.TraceView.{TraceView}
use Rattle.search_history.specs.Contradictions.{keeping_from}
use Rattle.search_history.proofs.Keeping.{keeping_more}
use Rattle.search_history.proofs.Runs.{over, none_inside}
use Rattle.search_history.proofs.thinning.keeping_records.Goals as goal
use Rattle.search_history.proofs.thinning.keeping_records.Goals.{in-Some+in_ok-keep, in_default}

pub loop-place-preserved : goal.loop-place-preserved
loop-place-preserved c =
    let rs = c.args.records.now in
    let kept = c.args.kept.now in
    let i = c.loop-place.place in
    elim c.match-get.branch [
      | in-Some+in_ok-keep w ↦
          w.log-is ∙ w.in_ok-keep.ensures ∙ ap (λ (v : TraceView). record v { records = v.records ++ keeping_from i kept (w.in-Some.item ∷ []) }) c.loop-place.invariant
          ∙ ap (over c.args.extent) (sym (keeping_more kept rs i w.in-Some.item (sym c.get.ensures ∙ w.in-Some.is)))
      | in_default w ↦ absurd (none_inside rs i c.len-place-end.result c.loop-place-test.true c.len-place-end.ensures (sym c.get.ensures ∙ w.in_default.is))
    ]
