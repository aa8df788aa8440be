use Rattle.search_effects.proofs.Written.{covered, swapped}
use Rattle.search_effects.proofs.covering.covers.Goals as goal

pub returns-then-is_swap : goal.returns-then-is_swap
returns-then-is_swap c = λ yes base block m n.
    swapped c.only_the_place_changes.ensures.others c.only_the_place_changes.ensures.size c.only_the_place_changes.ensures.place c.refused_and_read_change_nothing.ensures.refused base block m n c.args.one.now c.args.other.now
    (c.is_swap.ensures c.if-is_swap.true) (c.spans.ensures.low c.if-not-spans.false) (c.spans.ensures.high c.if-not-spans.false)

pub returns : goal.returns
returns c = λ yes base block m n.
    covered c.only_the_place_changes.ensures.others c.only_the_place_changes.ensures.size c.only_the_place_changes.ensures.place base block m n c.args.one.now c.args.other.now
    (c.is_write.ensures c.if-not-is_write.false) (c.spans.ensures.low c.if-not-spans.false) (c.spans.ensures.high c.if-not-spans.false) (c.puts_all.ensures yes)
