use Rattle.std.proofs.Common.{◌≡◌, ◌+◌, inl, inr, subst, arith, sym}
use Rattle.log_cells.specs.CellsView.{CellsView}
use Rattle.log_cells.specs.Cells.{IsRising}
use Rattle.log_cells.specs.Marks.{IsSplit}
use Rattle.log_cells.proofs.MarkLemmas.{split_within}
use Rattle.log_cells.proofs.cells.Cells.around.Goals as goal

pub returns-in_err-checked_sub-clause-none : goal.returns-in_err-checked_sub-clause-none
returns-in_err-checked_sub-clause-none c = rw c.from_residual.ensures (λ x divided low high top.
    let same : c.args.self.now.bounds ≡ c.deref.result.now = subst (λ (m : CellsView). m.bounds ≡ c.deref.result.now) c.self.view_is (sym c.deref.ensures.value) in
    let split = subst (λ vs. IsSplit vs c.args.address c.up_to-behind.result) (sym same) (c.up_to-behind.ensures (subst IsRising same divided.rising)) in
    let within = split_within x c.args.self.now.bounds c.args.address c.up_to-behind.result divided split low high top in
    let begins = within.0 in
    c.in_err-checked_sub.ensures (omega (arith, begins)))

pub returns-in_err-low-clause-none : goal.returns-in_err-low-clause-none
returns-in_err-low-clause-none c = rw c.from_residual-in_err-low.ensures (λ x divided low high top.
    let same : c.args.self.now.bounds ≡ c.deref.result.now = subst (λ (m : CellsView). m.bounds ≡ c.deref.result.now) c.self.view_is (sym c.deref.ensures.value) in
    let split = subst (λ vs. IsSplit vs c.args.address c.up_to-behind.result) (sym same) (c.up_to-behind.ensures (subst IsRising same divided.rising)) in
    let within = split_within x c.args.self.now.bounds c.args.address c.up_to-behind.result divided split low high top in
    let ends = within.1 in
    let less = c.in_ok-checked_sub.ensures in
    let all = c.in_err-low.ensures.none in
    omega (arith, ends, less, all))

pub returns-else-low-address-clause-none : goal.returns-else-low-address-clause-none
returns-else-low-address-clause-none c = λ x divided low high top.
    let same : c.args.self.now.bounds ≡ c.deref.result.now = subst (λ (m : CellsView). m.bounds ≡ c.deref.result.now) c.self.view_is (sym c.deref.ensures.value) in
    let split = subst (λ vs. IsSplit vs c.args.address c.up_to-behind.result) (sym same) (c.up_to-behind.ensures (subst IsRising same divided.rising)) in
    let within = split_within x c.args.self.now.bounds c.args.address c.up_to-behind.result divided split low high top in
    let begins = within.0 in
    let less = c.in_ok-checked_sub.ensures in
    let below = split.below c.in_ok-checked_sub.field-0 c.in_ok-low.low (omega (arith, begins, less)) c.in_ok-low.ensures.low in
    let above = split.above (c.in_ok-checked_sub.field-0 + 1) c.in_ok-low.high (omega (arith, begins, less)) c.in_ok-low.ensures.high in
    elim c.else-low-address.either [
      | inl w ↦ let up = w.1 in omega (arith, up, above)
      | inr w ↦ omega (arith, w, below)
    ]
