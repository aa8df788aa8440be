use Rattle.std.proofs.Common.{◌≡◌, ◌∙◌, ℕ, List, ◌≤◌, true, sym, ap, subst, arith}
use Rattle.search_places.specs.Pending.{has}
use Rattle.search_places.proofs.Rising.{least_is_first}
use Rattle.search_places.proofs.pending.Requests.first.Goals as goal

pub returns-then-c-or-clause-least : goal.returns-then-c-or-clause-least
returns-then-c-or-clause-least c = λ d h.
    least_is_first c.self.inside.items.items c.as_slice.result.now c.in-Some.c.now d c.in-Some.ensures.value c.as_slice.ensures.value c.self.invariant
    (subst (λ (xs : List ℕ). has xs d ≡ true) (sym c.self.view_is) h)

pub returns-else-c-or-clause-least : goal.returns-else-c-or-clause-least
returns-else-c-or-clause-least c = λ d h.
    let low = least_is_first c.self.inside.items.items c.as_slice.result.now c.in-Some.c.now d c.in-Some.ensures.value c.as_slice.ensures.value c.self.invariant
    (subst (λ (xs : List ℕ). has xs d ≡ true) (sym c.self.view_is) h) in
    omega (arith, low, c.if-c-or.false)
