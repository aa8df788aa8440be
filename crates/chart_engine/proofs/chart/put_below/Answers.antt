use Rattle.std.proofs.Common.{◌∙◌, ◌++◌, Option, sym, ap}
use Rattle.std.proofs.lemmas.Result.{on_ok_weaker}
use Rattle.chart_engine.specs.declared.chart.Session.{Session}
use Rattle.chart_engine.specs.Chart.{text_below}
use Rattle.chart_engine.proofs.chart.put_below.Goals as goal

pub returns-in-Some-clause-ok : goal.returns-in-Some-clause-ok
returns-in-Some-clause-ok c =
    let before = c.args.out.now.items in
    on_ok_weaker c.put.result (λ e. e ∙ sym (ap (λ (o : Option Session). before ++ text_below o c.args.is_red c.args.title.now) c.in-Some.is)) c.put.ensures.ok
