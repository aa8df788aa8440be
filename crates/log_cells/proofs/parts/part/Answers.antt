use Rattle.std.proofs.Common.{◌≡◌, ◌∙◌, ap, List, length, map, refl, sym, subst}
use Rattle.std.specs.Prelude.{IfSome}
use Rattle.seq_memory.specs.Limits.{Extent}
use Rattle.log_runs.specs.EventView.{part_event}
use Rattle.log_runs.specs.LogView.{LogView}
use Rattle.log_runs.specs.declared.log.PartEvent.{PartEvent}
use Rattle.log_runs.specs.Runs.{Live, start}
use Rattle.log_cells.specs.declared.places.Place.{Place}
use Rattle.log_cells.specs.Parts.{AreKept, Holds}
use Rattle.log_cells.specs.Places.{AreNames}
use Rattle.log_cells.proofs.Tables.{is_part}
use Rattle.log_cells.proofs.parts.part.Goals as goal

pub returns : goal.returns
returns c =
    let log = c.args.log.now in
    let low = c.args.low in
    let high = c.args.high in
    let names = c.in_ok-names.names.items in
    let extent = c.in-Some.extent in
    let events = map (part_event log.events) c.in-Some-2.events.items in
    let made = subst (λ o. IfSome o (λ (x : Extent). (x.block ≡ log.extent.block) × Holds x low high)) c.in-Some.is c.extent_for.ensures in
    let are = subst (λ (ps : List Place). AreNames names ps low high (length ps)) c.places.ensures c.in_ok-names.ensures in
    let kept = subst (λ o. IfSome o (λ v. AreKept log.events c.deref.result.now low high (map (part_event log.events) v.items) (length c.deref.result.now))) c.in-Some-2.is c.in_ok-events.ensures in
    let kept_names = subst (λ ns. AreKept log.events ns low high events (length ns)) c.deref.ensures.value kept in
    let leads = c.a_part_has_a_run.ensures log (record { extent = extent; events = events }) low high names
    (is_part log (record { extent = extent; events = events }) low high names c.args.cells.now.places c.requires.places are kept_names made.0 (c.if-not-holds.ensures refl) made.1) in
    let inner : c.in_ok-inner.inner ≡ record { extent = extent; events = events } =
    c.in_ok-inner.ensures ∙ ap (λ (ps : List PartEvent). record { extent = extent; events = map (part_event log.events) ps }) c.deref-2.ensures.value in
    record {
      live = subst (λ (p : LogView). Live log (start log) → Live p (start p)) (sym inner) leads;
      names = subst (λ (p : LogView). AreKept log.events names low high p.events (length names)) (sym inner) kept_names;
    }
