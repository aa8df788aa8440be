use Rattle.std.proofs.Common.{◌∙◌}
use Rattle.chart_engine.proofs.Charted.{document-written, events-written}
use Rattle.chart_engine.proofs.explained.run_chart.Goals as goal

pub returns-clause-document : goal.returns-clause-document
returns-clause-document g c =
    document-written c.args.window c.new-reasoned.result c.in_ok-status.ensures.ok.read _ _ (c.new-reasoned.ensures ∙ c.new-charter.ensures) c.charts_are_well_formed.ensures c.in_ok-status.ensures.ok.written

pub returns-clause-events : goal.returns-clause-events
returns-clause-events g c =
    events-written c.args.window c.new-reasoned.result c.in_ok-status.ensures.ok.read _ _ (c.new-reasoned.ensures ∙ c.new-charter.ensures) c.charts_show_what_happened.ensures c.in_ok-status.ensures.ok.written
