use Rattle.std.proofs.Common.{◌∙◌, ap, map, arith}
use Rattle.std.proofs.lemmas.List.{take_all}
use Rattle.log_runs.specs.EventView.{event_in, part_event}
use Rattle.log_runs.proofs.Placed.{one_more}
use Rattle.log_runs.proofs.log.all_placed.Goals as goal

pub loop-part-preserved : goal.loop-part-preserved
loop-part-preserved c = λ rs.
    one_more rs c.args.events.now c.args.parts.now c.loop-part.part-index _ c.loop-part.all.items c.push.new.self.items c.in_ok-event.event (omega (arith, c.loop-part-test.true)) (c.loop-part.invariant rs) c.in_ok-push.ensures.items (c.in_ok-event.ensures rs)

pub returns : goal.returns
returns c = λ rs.
    c.loop-part.invariant rs ∙ ap (map (part_event (map (event_in rs) c.args.events.now))) (take_all c.loop-part.part-index c.args.parts.now (omega (arith, c.loop-part-test.false)))
