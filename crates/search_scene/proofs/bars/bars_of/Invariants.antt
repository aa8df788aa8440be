use Rattle.std.proofs.Common.{◌≡◌, ◌≤◌, length, All}
use Rattle.search_scene.specs.Scenes.{IsBar}
use Rattle.search_scene.proofs.bars.bars_of.Given as goal

abbrev pub invariant-loop-item : goal.invariant-loop-item
invariant-loop-item l = record {
  bars : All (IsBar l.page) l.bars.all.items;
  few : length l.bars.all.items ≤ l.item-index;
  each : length l.bars.submissions.items ≡ length l.bars.all.items;
}
