use Rattle.std.proofs.Common.{◌+◌, ap, List}
use Rattle.std.proofs.lemmas.List.{append-nil}
use Rattle.svg_text.specs.Shapes.{Shape, page_text}
use Rattle.chart_rows.specs.Layout.{width_of}
use Rattle.chart_page.specs.Shapes.{shapes, bottom_of}
use Rattle.chart_links.proofs.laws.charts_without_levels_are_charts.Goals as goal

pub returns : goal.returns
returns c = λ page is_red title. ap (λ (ss : List Shape). page_text (width_of page.frame) (bottom_of page.rows + 30) ss) (append-nil (shapes page is_red title))
