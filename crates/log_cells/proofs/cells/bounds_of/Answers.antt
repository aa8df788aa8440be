use Rattle.std.proofs.Common.{◌≡◌, ◌+◌, ◌++◌, ◌∷◌, [], get_or, refl, subst, sym, arith}
use Rattle.std.proofs.lemmas.Option.{slice_get-get_or}
use Rattle.log_cells.specs.Cells.{IsDivided}
use Rattle.log_cells.proofs.MarkLemmas.{AreBounds, bounds_same, bounds_more, bounds_end}
use Rattle.log_cells.proofs.cells.bounds_of.Goals.{then-cells-each+in_ok-push-2, else-cells-each}
use Rattle.log_cells.proofs.cells.bounds_of.Goals as goal

pub loop-at-preserved : goal.loop-at-preserved
loop-at-preserved c =
    let x = c.args.extent in
    let bs = c.args.beginnings.now in
    let old = c.loop-at.bounds.items in
    let at = c.loop-at.at in
    let there = slice_get-get_or bs at 0 c.loop-at-test.true in
    elim c.if-cells-each.branch as (λ w. AreBounds x bs (at + 1) c.if-cells-each.bounds.items) [
      | then-cells-each+in_ok-push-2 w ↦
          let grown : c.if-cells-each.bounds.items ≡ old ++ (w.address_of.result ∷ []) = rw w.bounds-is w.in_ok-push-2.ensures.items in
          subst (AreBounds x bs (at + 1)) (sym grown) (bounds_more x bs at (get_or bs at 0) w.address_of.result old c.requires.rising c.requires.within there w.address_of.ensures c.loop-at.invariant)
      | else-cells-each w ↦
          let same : c.if-cells-each.bounds.items ≡ old = rw w.bounds-is refl in
          subst (AreBounds x bs (at + 1)) (sym same) (bounds_same x bs at (get_or bs at 0) old c.requires.rising there c.loop-at.invariant)
    ]

pub returns-clause-divided : goal.returns-clause-divided
returns-clause-divided c =
    let x = c.args.extent in
    let base = c.base-2.ensures.value in
    let size = c.size.ensures.value in
    let is = c.saturating_add.ensures in
    let range = c.base-2.ensures.range.1 in
    subst (IsDivided x) (sym c.in_ok-push-3.ensures.items)
    (bounds_end x c.args.beginnings.now c.loop-at.at c.saturating_add.result c.loop-at.bounds.items (omega (arith, base, range)) (rw (sym base, sym size) is) c.loop-at.invariant)
