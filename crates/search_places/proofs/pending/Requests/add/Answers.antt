use Rattle.std.proofs.Common.{◌≡◌, ℕ, List, sym, subst}
use Rattle.std.specs.Prelude.{◌==◌, ◌||◌, Ok, Err}
use Rattle.std.specs.List.Sorted.{IsStrictlyIncreasing}
use Rattle.search_places.specs.Pending.{has}
use Rattle.search_places.proofs.Rising.{has_insert, Answers, found_adds, missed_rises}
use Rattle.search_places.proofs.pending.Requests.add.Goals as goal

pub invariant_of-self : goal.invariant_of-self
invariant_of-self c =
    let xs = c.self.inside.items.items in
    let a : Answers xs c.args.b (Err c.in-Err.at) = subst (λ (ys : List ℕ). Answers ys c.args.b (Err c.in-Err.at)) c.as_slice.ensures.value c.in-Err.ensures.position in
    subst IsStrictlyIncreasing (sym c.in_ok-insert.ensures.items) (missed_rises xs c.args.b c.in-Err.at c.self.invariant a)

pub returns-in_ok-insert : goal.returns-in_ok-insert
returns-in_ok-insert c = λ k.
    subst (λ (ys : List ℕ). has c.insert.new.self.items k ≡ ((c.args.b == k) || has ys k)) c.self.view_is
    (subst (λ (ys : List ℕ). has ys k ≡ ((c.args.b == k) || has c.self.inside.items.items k)) (sym c.in_ok-insert.ensures.items) (has_insert c.self.inside.items.items c.in-Err.at c.args.b k))

pub returns-in_default : goal.returns-in_default
returns-in_default c =
    let xs = c.self.inside.items.items in
    let a : Answers xs c.args.b (Ok c.in_default.field-0) = subst (λ (ys : List ℕ). Answers ys c.args.b (Ok c.in_default.field-0)) c.as_slice.ensures.value c.in_default.ensures.position in
    subst (λ (ys : List ℕ). (k : ℕ) → has ys k ≡ ((c.args.b == k) || has ys k)) c.self.view_is (found_adds xs c.args.b c.in_default.field-0 c.self.invariant a)
