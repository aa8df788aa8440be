use Rattle.std.proofs.Common.{refl}
use Rattle.chart_levels.specs.Levels.{new_line}
use Rattle.chart_levels.proofs.Values.{has_levels}
use Rattle.chart_levels.proofs.laws.step_lines_have_the_levels_of_their_rows.Goals as goal

pub returns : goal.returns
returns c = λ lane level fabrics row lt. has_levels fabrics (new_line lane level) row refl lt
