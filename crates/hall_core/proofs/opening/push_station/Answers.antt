use Rattle.std.proofs.Common.{List, Option, Some, [], ◌∷◌, ◌++◌, map, ap, ◌∙◌, append_assoc}
use Rattle.hall_laws.specs.declared.part.PartValue.{PartValue}
use Rattle.hall_laws.specs.Parts.{ends}
use Rattle.hall_core.proofs.opening.push_station.Goals as goal

pub returns-clause-items : goal.returns-clause-items
returns-clause-items c =
    let old : List (Option PartValue) = c.args.slots.now.items in
    let node : List (Option PartValue) = Some c.args.node ∷ [] in
    let a : List (Option PartValue) = map Some (ends c.args.first) in
    let b : List (Option PartValue) = map Some (ends c.args.second) in
    c.in_ok-push_lane-2.ensures.items ∙ (ap (λ (l : List (Option PartValue)). l ++ b) (c.in_ok-push_lane.ensures.items ∙ ap (λ (l : List (Option PartValue)). l ++ a) c.push_reserved.ensures.items) ∙ (append_assoc (old ++ node) a b ∙ append_assoc old node (a ++ b)))
