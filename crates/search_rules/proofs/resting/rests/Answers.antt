use Rattle.std.proofs.Common.{◌∙◌, ◌-◌, ℕ, List, take, drop, sym, ap, arith}
use Rattle.tlp_core.specs.Operation.{count_of}
use Rattle.seq_memory.specs.Step.{bytes_at}
use Rattle.search_effects.specs.Effects.{told_of}
use Rattle.search_rules.proofs.RestLemmas.{resting}
use Rattle.search_rules.proofs.resting.rests.Goals as goal

pub returns : goal.returns
returns c = λ yes base m n served agrees same.
    resting c.refused_and_read_change_nothing.ensures.refused base c.args.block m n c.args.one.now c.args.other.now (told_of c.args.told) c.left-new.result.items (c.address.result - c.address-2.result) c.new.result
    (c.left-new.ensures base) (sym c.is_atomic.ensures ∙ c.if-not-is_atomic.false) (sym c.is_atomic-else-not-is_atomic.ensures ∙ c.if-not-is_atomic-2.false)
    (omega (arith, c.address.ensures, c.address-2.ensures, c.spans.ensures.low c.if-not-spans.false))
    (c.spans.ensures.high c.if-not-spans.false) (omega (arith, c.if-end-len.false, c.len.ensures.value, c.size.ensures.value))
    (c.new.ensures ∙ ap (λ (k : ℕ). take k (drop (c.address.result - c.address-2.result) c.as_slice.result.now)) (omega (arith, c.size.ensures.value))
    ∙ ap (λ (xs : List ℕ). bytes_at xs (c.address.result - c.address-2.result) (count_of c.args.other.now)) c.as_slice.ensures.value)
    served agrees same (c.is_quiet.ensures yes)
