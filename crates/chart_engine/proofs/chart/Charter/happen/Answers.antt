use Rattle.std.proofs.Common.{◌∙◌, List, ℕ, sym, ap, Some}
use Rattle.std.specs.Prelude.{option_map}
use Rattle.chart_engine.specs.ChartWitnessView.{ChartWitnessView}
use Rattle.chart_engine.specs.Chart.{CharterView, session, next_line, refused_with}
use Rattle.chart_engine.proofs.States.{happens, is_refused}
use Rattle.chart_engine.proofs.chart.Charter.happen.Goals as goal

pub returns-in-Ok : goal.returns-in-Ok
returns-in-Ok c = λ (o : List ℕ).
    let w = c.in-Ok.ensures.ok in
    let now = session c.happen.new.fabric c.happen.new.witness in
    happens c.args.self.now c.count.new.self c.in-Some.session c.next_line-line.result c.args.event.now w.what c.happen.new.fabric c.happen.new.witness o
    (sym (ap (λ (v : CharterView). v.session) c.self.view_is) ∙ c.in-Some.is) c.next_line-line.ensures w.happens.0 w.now
    (c.count.ensures ∙ ap (λ (v : CharterView). record v { lines = next_line v; session = Some now }) c.self.view_is)

pub returns-in_ok-tell_refused-in-Err : goal.returns-in_ok-tell_refused-in-Err
returns-in_ok-tell_refused-in-Err c = λ (o : List ℕ).
    let inside = c.self.inside in
    let refused = c.in_ok-tell_refused-in-Err.ensures in
    let told = c.in-Err.ensures.told refused.told in
    let now = session c.happen.new.fabric c.tell_refused.new.witness in
    is_refused c.args.self.now (record { window = inside.window; session = Some now; lines = inside.lines; ending = option_map (λ line. line.bytes) inside.ending }) c.end_refused.new.self
    c.in-Some.session c.next_line-line.result c.args.event.now c.in-Err.refusal c.happen.new.fabric c.tell_refused.new.witness o c.end_refused.result
    (sym (ap (λ (v : CharterView). v.session) c.self.view_is) ∙ c.in-Some.is) c.next_line-line.ensures told.0 told.1
    (refused.chart ∙ ap (λ (v : ChartWitnessView). refused_with v c.next_line-line.result c.args.event.now c.in-Err.refusal c.happen.new.fabric) told.2)
    (ap (λ (v : CharterView). record v { session = Some now }) c.self.view_is)
    (c.end_refused.ensures o)
