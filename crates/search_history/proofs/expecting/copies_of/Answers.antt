use Rattle.std.proofs.Common.{◌∙◌, ◌++◌, ◌∷◌, [], sym, ap}
use Rattle.history_words.specs.TraceView.{TraceView}
use Rattle.search_history.proofs.Runs.{over, take_more, none_inside}
use Rattle.search_history.proofs.expecting.copies_of.Goals as goal
use Rattle.search_history.proofs.expecting.copies_of.Goals.{in-Some+in_ok-push, in_default}

pub loop-place-preserved : goal.loop-place-preserved
loop-place-preserved c =
    let rs = c.args.records.now in
    let i = c.loop-place.place in
    elim c.match-get.branch [
      | in-Some+in_ok-push w ↦
          w.copies-is ∙ w.in_ok-push.ensures.ok ∙ ap (λ (v : TraceView). record v { records = v.records ++ w.in-Some.item ∷ [] }) c.loop-place.invariant
          ∙ ap (over c.args.extent) (sym (take_more rs i w.in-Some.item (sym c.get.ensures ∙ w.in-Some.is)))
      | in_default w ↦ absurd (none_inside rs i c.len-place-end.result c.loop-place-test.true c.len-place-end.ensures (sym c.get.ensures ∙ w.in_default.is))
    ]
