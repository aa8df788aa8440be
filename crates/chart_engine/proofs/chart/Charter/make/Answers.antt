use Rattle.std.proofs.Common.{rules, ◌∙◌, List, ℕ, sym, ap}
use Rattle.chart_engine.specs.Chart.{CharterView, new_witness}
use Rattle.chart_engine.proofs.States.{none_of, is_made, not_made}
use Rattle.chart_engine.proofs.chart.Charter.make.Goals as goal

pub returns-in_ok-chart-in-Ok : goal.returns-in_ok-chart-in-Ok
returns-in_ok-chart-in-Ok c = λ (o : List ℕ).
    is_made c.args.self.now c.count.new.self c.args.config c.in-Ok.fabric c.in_ok-chart-in-Ok.chart o
    (sym (ap (λ (s : CharterView). s.session) c.self.view_is) ∙ none_of c.self.inside.session (sym c.is_some.ensures ∙ c.if-is_some.false))
    c.in-Ok.ensures.faultless c.in-Ok.ensures.new
    (c.in_ok-chart-in-Ok.ensures ∙ ap (λ (s : CharterView). new_witness s.window c.args.config.requesters) c.self.view_is)
    (search rules)

pub returns-in_ok-is_no_memory-in-Err : goal.returns-in_ok-is_no_memory-in-Err
returns-in_ok-is_no_memory-in-Err c = λ (o : List ℕ).
    not_made c.args.self.now c.not_made.new.self c.args.config c.in-Err.fault o c.not_made.result
    (sym (ap (λ (s : CharterView). s.session) c.self.view_is) ∙ none_of c.self.inside.session (sym c.is_some.ensures ∙ c.if-is_some.false))
    (c.in-Err.ensures.told c.in_ok-is_no_memory-in-Err.ensures.ok) (c.not_made.ensures o)
