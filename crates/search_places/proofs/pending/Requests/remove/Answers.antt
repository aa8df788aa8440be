use Rattle.std.proofs.Common.{◌≡◌, ℕ, List, sym, subst}
use Rattle.std.specs.Prelude.{◌==◌, ◌&&◌, not, Ok, Err}
use Rattle.search_places.specs.Pending.{has}
use Rattle.search_places.proofs.Rising.{Answers, found_less, missed_less}
use Rattle.search_places.proofs.pending.Requests.remove.Goals as goal

pub returns-in-Ok : goal.returns-in-Ok
returns-in-Ok c = λ k.
    let xs = c.self.inside.items.items in
    let a : Answers xs c.args.b (Ok c.in-Ok.at) = subst (λ (ys : List ℕ). Answers ys c.args.b (Ok c.in-Ok.at)) c.as_slice.ensures.value c.in-Ok.ensures.position in
    subst (λ (ys : List ℕ). has c.remove.new.self.items k ≡ (not (c.args.b == k) && has ys k)) c.self.view_is
    (subst (λ (ys : List ℕ). has ys k ≡ (not (c.args.b == k) && has xs k)) (sym c.remove.ensures.items)
    (found_less xs c.args.b c.in-Ok.at c.self.invariant a k))

pub returns-in_default : goal.returns-in_default
returns-in_default c =
    let xs = c.self.inside.items.items in
    let a : Answers xs c.args.b (Err c.in_default.field-0) = subst (λ (ys : List ℕ). Answers ys c.args.b (Err c.in_default.field-0)) c.as_slice.ensures.value c.in_default.ensures.position in
    subst (λ (ys : List ℕ). (k : ℕ) → has ys k ≡ (not (c.args.b == k) && has ys k)) c.self.view_is (missed_less xs c.args.b c.in_default.field-0 c.self.invariant a)
