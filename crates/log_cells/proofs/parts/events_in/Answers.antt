use Rattle.std.proofs.Common.{◌∙◌, ◌+◌, ◌∷◌, [], ap, map, sym, subst}
use Rattle.std.proofs.lemmas.List.{map-append}
use Rattle.log_runs.specs.EventView.{part_event}
use Rattle.log_cells.specs.Parts.{AreKept}
use Rattle.log_cells.proofs.Tables.{kept_more}
use Rattle.log_cells.proofs.parts.events_in.Goals as goal

pub loop-at-preserved : goal.loop-at-preserved
loop-at-preserved c =
    let es = c.args.log.now.events in
    let names = c.args.names.now in
    let fs = c.loop-at.events.items in
    let f = c.in-Some.event in
    let at = c.loop-at.at in
    let is = c.in-Some.ensures in
    let grown = ap (map (part_event es)) c.in_ok-push.ensures.items ∙ map-append (part_event es) fs (f ∷ []) in
    subst (λ gs. AreKept es names c.args.low c.args.high gs (at + 1)) (sym grown)
    (kept_more es names c.args.low c.args.high (map (part_event es) fs) at is.0 is.1 (part_event es f) is.2 is.3 is.5 is.4 c.loop-at.invariant)
