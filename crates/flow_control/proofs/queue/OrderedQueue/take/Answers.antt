use Rattle.std.proofs.Common.{◌≡◌, ◌∙◌, true, List, sym, ap, subst}
use Rattle.std.specs.Prelude.{slice_get, remove}
use Rattle.flow_control.specs.Queue.{Item, is_takeable}
use Rattle.flow_control.specs.Arrivals.{in_order, items_of}
use Rattle.flow_control.proofs.Merged.{is_sound}
use Rattle.flow_control.proofs.Anew.{items_are}
use Rattle.flow_control.proofs.Walks.{removed_items, is_there}
use Rattle.flow_control.proofs.queue.OrderedQueue.take.Goals as goal

pub unwrap-requires : goal.unwrap-requires
unwrap-requires c =
    let q = c.self.inside.classes in
    is_there (items_of q) c.args.place c.take.result (subst (λ (l : List Item). is_takeable l c.args.place ≡ true) (sym c.self.view_is) c.requires)
    (c.take.ensures.item (in_order q) c.self.invariant)

pub invariant_of-self : goal.invariant_of-self
invariant_of-self c =
    let q = c.self.inside.classes in
    is_sound (remove (in_order q) c.args.place) c.take.new.self (c.take.ensures.rest (in_order q) c.self.invariant)

pub returns-clause-item : goal.returns-clause-item
returns-clause-item c =
    let q = c.self.inside.classes in
    ap (λ (l : List Item). slice_get l c.args.place) (sym c.self.view_is) ∙ (sym (c.take.ensures.item (in_order q) c.self.invariant) ∙ c.unwrap.ensures)

pub returns-clause-rest : goal.returns-clause-rest
returns-clause-rest c =
    let q = c.self.inside.classes in
    items_are (remove (in_order q) c.args.place) c.take.new.self (c.take.ensures.rest (in_order q) c.self.invariant) ∙
    (removed_items (in_order q) c.args.place ∙ ap (λ (l : List Item). remove l c.args.place) c.self.view_is)
