use Rattle.std.proofs.Common.{◌≡◌, drop}
use Rattle.chart_links.proofs.course.drop_front.Given as goal

abbrev pub invariant-loop-k : goal.invariant-loop-k
invariant-loop-k l = l.items.items ≡ drop l.k l.fn.items.items
