use Rattle.std.proofs.Common.{◌∙◌, ap, length, replicate, false}
use Rattle.log_events.proofs.CountLemmas.{all_formed, counted_none, same_counted}
use Rattle.log_events.proofs.JoinLemmas.{joined_none}
use Rattle.log_events.proofs.form.form_of.Goals as goal

pub loop-at-init : goal.loop-at-init
loop-at-init c =
    let rs = c.args.records.now in
    let tables = c.in_ok-tables.tables in (
      same_counted tables.counts (replicate 256 0) tables.answered.items (replicate (length rs) false) rs 0 c.in_ok-tables.ensures.counts (c.in_ok-tables.ensures.answered ∙ ap (λ n. replicate n false) c.len.ensures) (counted_none rs),
      joined_none tables.partners rs (c.in_ok-tables.ensures.partners ∙ c.len.ensures),
    )

pub returns-then-not-branch-clause-first : goal.returns-then-not-branch-clause-first
returns-then-not-branch-clause-first c =
    all_formed c.loop-at.tables.counts c.loop-at.tables.answered.items c.args.records.now c.loop-at.at c.loop-at.invariant.0
