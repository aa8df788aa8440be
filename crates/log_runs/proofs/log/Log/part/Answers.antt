use Rattle.std.proofs.Common.{◌≡◌, ◌∙◌, ap, List, take, map}
use Rattle.std.proofs.Math.Seq.{take-length}
use Rattle.history_words.specs.Records.{Record}
use Rattle.log_runs.specs.EventView.{EventView, event_in, part_event}
use Rattle.log_runs.specs.LogView.{LogView}
use Rattle.log_runs.proofs.log.Log.part.Goals as goal

pub returns : goal.returns
returns c =
    let i = c.self.inside in
    let whole : c.first.result ≡ i.records = c.first.ensures ∙ ap (λ n. take n i.records) c.len.ensures ∙ take-length i.records in
    let events : map (event_in c.first.result) c.in_ok-events.events.items ≡ map (part_event c.args.self.now.events) c.args.events.now =
    ap (λ (rs : List Record). map (event_in rs) c.in_ok-events.events.items) whole
    ∙ c.in_ok-events.ensures i.records
    ∙ ap (λ (rs : List _). map (part_event (map (event_in i.records) rs)) c.args.events.now) c.deref.ensures.value
    ∙ ap (λ (l : LogView). map (part_event l.events) c.args.events.now) c.self.view_is in
    ap (λ (es : List EventView). record { extent = c.args.extent; events = es }) events
