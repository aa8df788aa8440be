-- Step lines that are added one after the other.
use Rattle.std.proofs.Common.{◌≡◌, ◌∙◌, ◌+◌, ◌++◌, List, ℕ, suc, ap, append_assoc, arith}
use Rattle.fabric_steps.specs.declared.event.LaneName.TheVariants as lanes
use Rattle.chart_levels.specs.StepLineView.{StepLineView}
use Rattle.chart_levels.specs.Levels.{lane_lines}
use Rattle.chart_links.specs.Levels.{port_lines}

pub ports-next : (k : ℕ) (o p q r : List StepLineView) → p ≡ o ++ port_lines k → q ≡ p ++ lane_lines (lanes.Up (k + 1)) → r ≡ q ++ lane_lines (lanes.Down (k + 1)) → r ≡ o ++ port_lines (k + 1)
ports-next k o p q r e f g =
    let next : k + 1 ≡ suc k = omega arith in
    let up = lane_lines (lanes.Up (k + 1)) in
    let down = lane_lines (lanes.Down (k + 1)) in
    rw next (g ∙ ap (λ (t : List StepLineView). t ++ down) (f ∙ ap (λ (t : List StepLineView). t ++ up) e) ∙ append_assoc (o ++ port_lines k) up down ∙ append_assoc o (port_lines k) (up ++ down))
