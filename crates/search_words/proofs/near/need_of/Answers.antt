use Rattle.std.proofs.Common.{◌∙◌, ap}
use Rattle.std.specs.Prelude.{Some}
use Rattle.log_runs.specs.EventView as events
use Rattle.search_words.proofs.EventLemmas.{sub_at}
use Rattle.search_words.proofs.near.need_of.Goals as goal

pub returns-clause-needs : goal.returns-clause-needs
returns-clause-needs c =
    let x = c.in-Some-Sub in
    let at = sub_at c.args.log.now.events c.args.q x.field-0 x.field-0-0 x.op x.reply x.field-0-is x.ensures ∙ ap (λ t. Some (events.Sub x.field-0-0 x.op t)) c.in-Some.is in
    (x.field-0-0, x.op, c.in-Some.reply, at, c.in_ok-value.ensures.needs)
