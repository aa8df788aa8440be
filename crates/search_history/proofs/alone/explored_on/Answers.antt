use Rattle.std.proofs.Common.{length, Option, subst}
use Rattle.std.specs.Prelude.{IfSome}
use Rattle.log_cells.specs.declared.parts.LogPart.{LogPart}
use Rattle.log_cells.specs.Parts.{AreKept}
use Rattle.search_history.proofs.Watching.{on_part}
use Rattle.search_history.proofs.alone.explored_on.Goals as goal

pub explore_within-requires : goal.explore_within-requires
explore_within-requires g c =
    let log = c.args.field.log.now in
    let part = c.in-Some.part in
    let (low, high) = c.args.range in
    let kept = subst (λ (o : Option LogPart). IfSome o (λ p. AreKept log.events p.names.items low high p.log.events (length p.names.items))) c.in-Some.is c.in_ok-part.ensures.names in
    on_part log part.log low high part.names.items kept
