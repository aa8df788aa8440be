-- The step lines of the lanes that are shown, and a chart with them behind its results. With none of them it is the chart alone
-- (`charts_without_levels_are_charts`).
use Rattle.std.specs.Prelude.{ℕ, zero, suc, ◌+◌, Bool, true, false, if◌then◌else◌, List, [], ◌++◌, Option, Some, None}
use Rattle.fabric_steps.specs.declared.event.LaneName.{LaneName}
use Rattle.fabric_steps.specs.declared.event.LaneName.TheVariants as lanes
use Rattle.chart_levels.specs.StepLineView.{StepLineView}
use Rattle.chart_rows.specs.PageView.{PageView}
use Rattle.chart_page.specs.Shapes.{shapes}
use Rattle.chart_levels.specs.Levels.{lane_lines}
use Rattle.chart_levels.specs.Pages.{levelled_page}
use Rattle.chart_links.specs.declared.window.ChartWindow.{ChartWindow}
use Rattle.chart_links.specs.Window.{has_lane}

-- of the lanes from and to so many requesters
abbrev pub port_lines : ℕ → List StepLineView
port_lines zero = []
port_lines (suc k) = port_lines k ++ (lane_lines (lanes.Up (k + 1)) ++ lane_lines (lanes.Down (k + 1)))

abbrev pub all_lines : ℕ → List StepLineView
all_lines requesters = port_lines requesters ++ (lane_lines lanes.Inward ++ lane_lines lanes.Outward)

-- a lane that the fabric lacks has none
abbrev pub chosen_lines : ℕ → LaneName → List StepLineView
chosen_lines requesters lane = if has_lane requesters lane then lane_lines lane else []

abbrev pub lines_of : ℕ → Option LaneName → List StepLineView
lines_of requesters None = all_lines requesters
lines_of requesters (Some lane) = chosen_lines requesters lane

-- those that the window shows of a fabric with so many requesters, before the first row
abbrev pub new_lines : ChartWindow → ℕ → List StepLineView
new_lines window requesters = if window.has_levels then lines_of requesters window.lane else []

-- the text of a chart below a line
abbrev pub levelled_text : PageView → List StepLineView → Bool → List ℕ → List ℕ
levelled_text p lines is_red title = levelled_page p lines (shapes p is_red title)
