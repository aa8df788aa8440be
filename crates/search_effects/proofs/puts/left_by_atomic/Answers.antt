use Rattle.std.proofs.Common.{◌∙◌, sym, ap, List, ℕ}
use Rattle.tlp_core.specs.Operation.{address_of}
use Rattle.seq_memory.specs.Step.{after}
use Rattle.search_effects.proofs.Leaving.{atomic_left}
use Rattle.search_effects.proofs.puts.left_by_atomic.Goals as goal

pub returns : goal.returns
returns c = λ base at m l served answered.
    atomic_left c.only_the_place_changes.ensures.size c.only_the_place_changes.ensures.place c.args.block c.args.op.now c.args.old.now c.changed.result.items
    (sym c.is_atomic.ensures ∙ c.if-not-is_atomic.false)
    (c.changed.ensures ∙ ap (λ (xs : List ℕ). after (address_of c.args.op.now) c.args.block xs c.args.op.now) c.as_slice.ensures.value)
    base at m l served answered
