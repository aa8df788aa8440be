use Rattle.std.proofs.Common.{◌∙◌, ◌++◌, ◌∷◌, [], List, sym, ap}
use Rattle.history_words.specs.Records.{Record}
use Rattle.history_words.specs.TraceView.{TraceView}
use Rattle.search_scene.proofs.FirstLemmas.{one_more, one_inside}
use Rattle.search_scene.proofs.known.first_of.Goals as goal
use Rattle.search_scene.proofs.known.first_of.Goals.{in-Some+in_ok-push, in_default}

pub loop-place-preserved : goal.loop-place-preserved
loop-place-preserved c =
    let t = c.args.seen.now in
    let i = c.loop-place.place in
    elim c.match-get.branch [
      | in-Some+in_ok-push w ↦
          w.part-is ∙ w.in_ok-push.ensures.ok ∙ ap (λ (v : TraceView). record v { records = v.records ++ w.in-Some.item ∷ [] }) c.loop-place.invariant
          ∙ ap (λ (rs : List Record). record { base = t.base; size = t.size; block = t.block; records = rs }) (sym (one_more t.records i w.in-Some.item (sym c.get.ensures ∙ w.in-Some.is)))
      | in_default w ↦ absurd (one_inside t.records i c.args.count c.loop-place-test.true c.requires (sym c.get.ensures ∙ w.in_default.is))
    ]
