use Rattle.std.proofs.Common.{length, subst, List}
use Rattle.std.specs.List.{All}
use Rattle.log_cells.specs.declared.places.Place.{Place}
use Rattle.log_cells.specs.Cells.{IsDivided}
use Rattle.log_cells.specs.Marks.{AreJoined, IsBeginning, IsBound}
use Rattle.log_cells.proofs.MarkLemmas.{are_cells}
use Rattle.log_cells.proofs.cells.Cells.of.Goals as goal

pub returns : goal.returns
returns c =
    let log = c.args.log.now in
    let extent = c.extent-extent in
    let places = c.in_ok-places.places.items in
    let words = c.in_ok-words.words.items in
    let beginnings = c.in_ok-beginnings.beginnings.items in
    let bounds = c.in_ok-bounds.bounds.items in
    let joined =
    subst (λ x. AreJoined x places words (length places)) extent.ensures
    (subst (λ (ps : List Place). AreJoined extent.result ps words (length ps)) c.deref.ensures.value c.in_ok-words.ensures.joined) in
    let begin = subst (λ ws. All (IsBeginning ws) beginnings) c.deref-2.ensures.value c.in_ok-beginnings.ensures.begin in
    let bound =
    subst (λ bs. All (IsBound log.extent bs) bounds) c.deref-3.ensures.value
    (subst (λ x. All (IsBound x c.deref-3.result.now) bounds) extent.ensures c.in_ok-bounds.ensures.bound) in
    let divided = subst (λ x. IsDivided x bounds) extent.ensures c.in_ok-bounds.ensures.divided in
    are_cells log places words beginnings bounds c.in_ok-places.ensures joined begin bound divided
