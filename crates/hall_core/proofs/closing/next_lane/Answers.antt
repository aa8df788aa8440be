use Rattle.std.proofs.Common.{◌≡◌, ◌+◌, ℕ, List, Option, arith, sym, ◌∙◌, subst}
use Rattle.std.specs.Mem.Slots.{slots_filled, slots_len}
use Rattle.hall_laws.specs.declared.part.PartValue.{PartValue}
use Rattle.hall_laws.specs.declared.part.PartValue.TheVariants.{Forward, Back, Receiver}
use Rattle.hall_core.specs.Closes.{IsEmptiedTo, PartAt}
use Rattle.hall_core.proofs.closing.next_lane.Goals as goal

pub next-requires-2 : goal.next-requires-2
next-requires-2 c =
    let a = c.next.ensures.rest in let at : ℕ = c.args.at in
    let e = c.requires.2 in let there = c.requires.3 in
    (a.0, omega (arith, a.2, c.requires.1), Forward e.forward, subst (λ (xs : List (Option PartValue)). PartAt xs (at + 1) (Forward e.forward)) (sym a.1) there.forward)

pub next-requires-3 : goal.next-requires-3
next-requires-3 c =
    let a = c.next.ensures.rest in let b = c.next-2.ensures.rest in let at : ℕ = c.args.at in
    let e = c.requires.2 in let there = c.requires.3 in
    let two : at + 1 + 1 ≡ at + 2 = omega arith in (
      subst (λ (k : ℕ). IsEmptiedTo (slots_filled c.next-2.new.closed.slots) (slots_len c.next-2.new.closed.slots) k) two b.0,
      omega (arith, a.2, b.2, c.requires.1),
      Back e.back,
      subst (λ (xs : List (Option PartValue)). PartAt xs (at + 2) (Back e.back)) (sym (b.1 ∙ a.1)) there.back,
    )

pub next-requires-4 : goal.next-requires-4
next-requires-4 c =
    let a = c.next.ensures.rest in let b = c.next-2.ensures.rest in let d = c.next-3.ensures.rest in let at : ℕ = c.args.at in
    let e = c.requires.2 in let there = c.requires.3 in
    let three : at + 2 + 1 ≡ at + 3 = omega arith in (
      subst (λ (k : ℕ). IsEmptiedTo (slots_filled c.next-3.new.closed.slots) (slots_len c.next-3.new.closed.slots) k) three d.0,
      omega (arith, a.2, b.2, d.2, c.requires.1),
      Receiver e.receiver,
      subst (λ (xs : List (Option PartValue)). PartAt xs (at + 3) (Receiver e.receiver)) (sym (d.1 ∙ (b.1 ∙ a.1))) there.receiver,
    )
