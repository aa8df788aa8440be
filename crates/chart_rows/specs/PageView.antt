-- What a chart shows.
use Rattle.std.specs.Prelude.{ℕ, List}
use Rattle.chart_rows.specs.declared.layout.Frame.{Frame}
use Rattle.chart_rows.specs.declared.row.Row.{Row}
use Rattle.chart_rows.specs.declared.row.Open.{Open}

pub record PageView : Type 0 where
  -- the parts that have a line, and where the first line stands
  pub frame : Frame
  -- how many letters the longest result has that stands at the left
  pub letters : ℕ
  -- a row for each event that is shown, and one before the events of a `settle`
  pub rows : List Row
  -- what was sent in these rows and isn't seen to arrive
  pub opens : List Open
  -- how many rows aren't shown: before these, after them, and among them, as they tell nothing new
  pub before : ℕ
  pub after : ℕ
  pub omitted : ℕ
