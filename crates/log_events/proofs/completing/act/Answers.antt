use Rattle.std.proofs.Common.{◌∙◌, List, sym, ap}
use Rattle.std.specs.Prelude.{option_and_then, slice_get}
use Rattle.std.proofs.lemmas.Result.{on_ok_weaker}
use Rattle.history_words.specs.Claim.{Claim}
use Rattle.history_words.specs.Records.{Record}
use Rattle.history_words.specs.TraceView.{TraceView}
use Rattle.trace_store.specs.Changes.{submitted}
use Rattle.log_events.proofs.Filling.{acted_told, acted_untold, told_memory, waits_there, waits_not_there}
use Rattle.log_events.proofs.completing.act.Goals as goal

pub returns-in-Some-waiting_at-clause-memory : goal.returns-in-Some-waiting_at-clause-memory
returns-in-Some-waiting_at-clause-memory c =
    let rs = c.args.store.now.records in
    let ps = c.args.memory.now.partners.now in
    let b = c.args.b in
    let e = c.in-Some.entry in
    let lent = c.records-records.ensures ∙ ap (λ (v : TraceView). v.records) c.seen.ensures in
    let place = c.in-Some-waiting_at.place in
    let told = waits_there c.records-records.result rs ps b c.of.result e place lent c.of.ensures c.in-Some-waiting_at.ensures.some in
    let (r, is, at, waited) = told in
    told_memory c.set_reply.result c.args.store.now c.set_reply.new.self place r c.perform-made.result at c.set_reply.ensures.some c.set_reply.ensures.err

pub returns-in-Some-waiting_at-clause-records : goal.returns-in-Some-waiting_at-clause-records
returns-in-Some-waiting_at-clause-records c =
    let rs = c.args.store.now.records in
    let ps = c.args.memory.now.partners.now in
    let b = c.args.b in
    let e = c.in-Some.entry in
    let lent = c.records-records.ensures ∙ ap (λ (v : TraceView). v.records) c.seen.ensures in
    let entry = sym c.in-Some.is ∙ c.submitted.ensures.value ∙ ap (λ (ys : List Record). option_and_then submitted (slice_get ys b)) lent in
    let place = c.in-Some-waiting_at.place in
    let told = waits_there c.records-records.result rs ps b c.of.result e place lent c.of.ensures c.in-Some-waiting_at.ensures.some in
    on_ok_weaker c.set_reply.result (λ some.
    (acted_told c.args.memory.now.extent ps c.args.bytes.now c.perform-made.new.bytes b rs e c.perform-made.result c.requires entry c.perform-made.ensures.bytes c.perform-made.ensures.reply place c.set_reply.new.self.records told (λ r at. ap (λ (k : Claim). k.records) (some r at))).same) c.set_reply.ensures.some

pub returns-in-Some-waiting_at-clause-partners : goal.returns-in-Some-waiting_at-clause-partners
returns-in-Some-waiting_at-clause-partners c =
    let rs = c.args.store.now.records in
    let ps = c.args.memory.now.partners.now in
    let b = c.args.b in
    let e = c.in-Some.entry in
    let lent = c.records-records.ensures ∙ ap (λ (v : TraceView). v.records) c.seen.ensures in
    let entry = sym c.in-Some.is ∙ c.submitted.ensures.value ∙ ap (λ (ys : List Record). option_and_then submitted (slice_get ys b)) lent in
    let place = c.in-Some-waiting_at.place in
    let told = waits_there c.records-records.result rs ps b c.of.result e place lent c.of.ensures c.in-Some-waiting_at.ensures.some in
    on_ok_weaker c.set_reply.result (λ some.
    (acted_told c.args.memory.now.extent ps c.args.bytes.now c.perform-made.new.bytes b rs e c.perform-made.result c.requires entry c.perform-made.ensures.bytes c.perform-made.ensures.reply place c.set_reply.new.self.records told (λ r at. ap (λ (k : Claim). k.records) (some r at))).partners) c.set_reply.ensures.some

pub returns-in-None-clause-records : goal.returns-in-None-clause-records
returns-in-None-clause-records c =
    let rs = c.args.store.now.records in
    let ps = c.args.memory.now.partners.now in
    let b = c.args.b in
    let e = c.in-Some.entry in
    let lent = c.records-records.ensures ∙ ap (λ (v : TraceView). v.records) c.seen.ensures in
    let entry = sym c.in-Some.is ∙ c.submitted.ensures.value ∙ ap (λ (ys : List Record). option_and_then submitted (slice_get ys b)) lent in
    (acted_untold c.args.memory.now.extent ps c.args.bytes.now c.perform-made.new.bytes b rs e c.perform-made.result c.requires entry c.perform-made.ensures.bytes c.perform-made.ensures.reply
    (waits_not_there c.records-records.result rs ps b c.of.result e lent c.of.ensures c.in-None.ensures.none)).same
