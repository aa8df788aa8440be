use Rattle.std.proofs.Common.{◌≡◌, ◌∙◌, sym, subst}
use Rattle.std.proofs.lemmas.Slice.Eq.{bytes_eq-Decides}
use Rattle.seq_memory.specs.Entries.{Reply}
use Rattle.seq_memory.specs.Step.{answer}
use Rattle.search_words.proofs.RoleLemmas.{alike}
use Rattle.search_words.proofs.roles.finds_alike.Goals as goal

pub returns : goal.returns
returns c = λ yes base block m served answered.
    let same = sym c.as_slice.ensures.value ∙ (bytes_eq-Decides c.as_slice.result.now c.as_slice-2.result.now).0 (sym c.eq.ensures ∙ yes) ∙ c.as_slice-2.ensures.value in
    let told = subst (λ (r : Reply). answer base block m c.args.one.now ≡ r) c.in-Data.is answered in
    alike base block m c.args.one.now c.args.other.now c.in-Data.old c.in-Data-asked.need
    (sym c.is_atomic.ensures ∙ c.if-not-is_atomic.false) (sym c.is_atomic-2.ensures ∙ c.if-not-is_atomic-2.false) (sym c.address.ensures ∙ c.if-address.false ∙ c.address-2.ensures) (sym c.size.ensures.value ∙ c.if-size.false ∙ c.size-2.ensures.value)
    same served told ∙ sym c.in-Data-asked.is
