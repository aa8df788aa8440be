use Rattle.std.proofs.Common.{◌∙◌, ap, List, ℕ}
use Rattle.tlp_core.specs.Operation.{address_of}
use Rattle.seq_memory.specs.Step.{after}
use Rattle.search_effects.proofs.Leaving.{swap_by}
use Rattle.search_effects.proofs.puts.left_by_swap.Goals as goal

pub returns : goal.returns
returns c = λ base at m l served.
    swap_by c.only_the_place_changes.ensures.size c.only_the_place_changes.ensures.place c.args.op.now c.args.block c.args.width c.zeros-zeros.result.items c.changed.result.items c.requires.swap
    (c.changed.ensures ∙ ap (λ (xs : List ℕ). after (address_of c.args.op.now) c.args.block xs c.args.op.now) c.as_slice.ensures.value)
    c.zeros-zeros.ensures base at m l served
