use Rattle.std.proofs.Common.{set, map, ap, ◌∙◌, ℕ, List}
use Rattle.std.specs.Prelude.{Option}
use Rattle.std.proofs.lemmas.List.{map-set}
use Rattle.history_check.specs.Points.{point_of}
use Rattle.history_check.proofs.points.Points.set.Goals as goal

pub returns : goal.returns
returns c =
    let items = c.self.inside.items.items in
    map-set point_of items c.args.place c.item_of.result
    ∙ ap (λ (o : Option ℕ). set (map point_of items) c.args.place o) c.item_of.ensures
    ∙ ap (λ (points : List (Option ℕ)). set points c.args.place c.args.point) c.self.view_is
