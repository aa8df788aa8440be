use Rattle.std.proofs.Common.{length, Option, inr, subst}
use Rattle.std.specs.Prelude.{IfSome}
use Rattle.log_cells.specs.declared.parts.LogPart.{LogPart}
use Rattle.log_cells.specs.Parts.{AreKept}
use Rattle.search_history.proofs.Watching.{on_part}
use Rattle.search_history.proofs.alone.each_within.Goals as goal

pub each_seen_within-requires-clause-of : goal.each_seen_within-requires-clause-of
each_seen_within-requires-clause-of g c =
    let log = c.args.task.field.log.now in
    let group = c.in-Some-2.group in
    let low = c.in-Some.low in
    let high = c.in-Some.high in
    let kept = subst (λ (o : Option LogPart). IfSome o (λ p. AreKept log.events p.names.items low high p.log.events (length p.names.items))) c.in-Some-2.is c.in_ok-group.ensures.names in
    inr (on_part log group.log low high group.names.items kept)
