use Rattle.std.proofs.Common.{◌≡◌, ◌∙◌, ◌∷◌, [], ap, map, length, arith}
use Rattle.std.proofs.lemmas.List.{map-append}
use Rattle.log_runs.specs.EventView.{event_in}
use Rattle.log_events.proofs.EventLemmas.{events_more, events_end, are_events, are_all_events}
use Rattle.log_events.proofs.events.events_of.Goals as goal

pub loop-at-preserved : goal.loop-at-preserved
loop-at-preserved c =
    let es = c.loop-at.events.items in
    let e = c.in_ok-event.event in
    let grown = ap (map (event_in c.args.records.now)) c.in_ok-push.ensures.items ∙ map-append (event_in c.args.records.now) es (e ∷ []) in
    events_more c.args.partners.now c.args.records.now (map (event_in c.args.records.now) es) (map (event_in c.args.records.now) c.push.new.self.items) (event_in c.args.records.now e) c.loop-at.at grown c.loop-at.invariant c.in_ok-event.ensures.says c.in_ok-event.ensures.all

pub returns-clause-says : goal.returns-clause-says
returns-clause-says c =
    let over : c.loop-at.at ≡ length c.args.records.now = omega (arith, c.loop-at-test.false, c.loop-at.auto.at-end, c.len.ensures) in
    let es = map (event_in c.args.records.now) c.loop-at.events.items in
    are_events c.args.partners.now c.args.records.now es (events_end c.args.partners.now c.args.records.now es c.loop-at.at over c.loop-at.invariant)

pub returns-clause-all : goal.returns-clause-all
returns-clause-all c =
    let over : c.loop-at.at ≡ length c.args.records.now = omega (arith, c.loop-at-test.false, c.loop-at.auto.at-end, c.len.ensures) in
    let es = map (event_in c.args.records.now) c.loop-at.events.items in
    are_all_events c.args.partners.now c.args.records.now es (events_end c.args.partners.now c.args.records.now es c.loop-at.at over c.loop-at.invariant)
