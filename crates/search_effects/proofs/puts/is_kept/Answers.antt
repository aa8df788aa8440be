use Rattle.std.proofs.Common.{◌∙◌, sym, ap, List, ℕ}
use Rattle.std.proofs.lemmas.Slice.Eq.{bytes_eq-Decides}
use Rattle.tlp_core.specs.Operation.{address_of}
use Rattle.seq_memory.specs.Step.{after}
use Rattle.search_effects.proofs.Leaving.{atomic_quiet}
use Rattle.search_effects.proofs.puts.is_kept.Goals as goal

pub returns : goal.returns
returns c = λ yes base m answered.
    atomic_quiet c.only_the_place_changes.ensures.size c.only_the_place_changes.ensures.place c.args.block c.args.op.now c.args.old.now c.changed.result.items
    (sym c.is_atomic.ensures ∙ c.if-not-is_atomic.false)
    (c.changed.ensures ∙ ap (λ (xs : List ℕ). after (address_of c.args.op.now) c.args.block xs c.args.op.now) c.as_slice.ensures.value)
    (sym c.as_slice-2.ensures.value ∙ (bytes_eq-Decides c.as_slice-2.result.now c.as_slice-3.result.now).0 (sym c.eq.ensures ∙ yes) ∙ c.as_slice-3.ensures.value)
    base m answered
